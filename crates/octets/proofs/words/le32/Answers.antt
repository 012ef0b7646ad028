-- `octets::words::le32` meets its contract: the library's little-endian bytes are those of the format.
use Rattle.std.proofs.Common.{◌∙◌}
use Rattle.octets.proofs.LittleEndian.{le_four}
use Rattle.octets.proofs.words.le32.Goals as goal

pub returns : goal.returns
returns c = c.to_le_bytes.ensures ∙ le_four c.args.n
