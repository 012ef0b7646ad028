-- ROTR passes through ⊕ and rotations add up: rotr 2 (x ⊕ rotr 11 x) is rotr 2 x ⊕ rotr 13 x.
use Rattle.std.proofs.Common.{arith}
use Rattle.compression.proofs.Bits.{two_rotations}
use Rattle.compression.proofs.words.rotations.Goals as goal

pub returns : goal.returns
returns g c =
    two_rotations g.row.A g.row.B c.args.x (omega arith) (omega arith) (omega arith) (omega arith) c.rotate_right.ensures c.rotate_right-2.ensures
