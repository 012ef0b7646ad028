use Rattle.std.proofs.Common.{◌∙◌, arith}
use Rattle.compression.specs.Fips.{Σ₁}
use Rattle.compression.proofs.Bits.{rotate_rotr, and_third}
use Rattle.compression.proofs.words.upper_sigma1.Goals as goal

pub returns : goal.returns
unfolding Σ₁
returns c = and_third _ _ c.rotations.ensures (c.rotate_right.ensures ∙ rotate_rotr 25 c.args.x (omega arith) (omega arith))
