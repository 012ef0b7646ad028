-- `octets::words::read_u32` meets its contract: the library reads the number that the four bytes give.
use Rattle.std.proofs.Common.{◌∙◌, length, ap, arith}
use Rattle.scheme.specs.Bytes.{num}
use Rattle.octets.proofs.LittleEndian.{from_four}
use Rattle.octets.proofs.Parts.{part_length}
use Rattle.octets.proofs.words.read_u32.Goals as goal

pub returns : goal.returns
returns c =
    let a = c.args in
    let size = ap length c.array_at.ensures ∙ part_length a.bytes.now a.at 4 (omega arith) in
    c.from_le_bytes.ensures ∙ from_four c.array_at.result size ∙ ap num c.array_at.ensures
