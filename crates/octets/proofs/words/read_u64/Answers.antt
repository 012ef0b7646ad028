-- `octets::words::read_u64` meets its contract: the library reads the number that the eight bytes give.
use Rattle.std.proofs.Common.{◌∙◌, length, ap, arith}
use Rattle.scheme.specs.Bytes.{num}
use Rattle.octets.proofs.LittleEndian.{from_eight}
use Rattle.octets.proofs.Parts.{part_length}
use Rattle.octets.proofs.words.read_u64.Goals as goal

pub returns : goal.returns
returns c =
    let a = c.args in
    let size = ap length c.array_at-word.ensures ∙ part_length a.bytes.now a.at 8 (omega arith) in
    c.from_le_bytes.ensures ∙ from_eight c.array_at-word.result size ∙ ap num c.array_at-word.ensures
