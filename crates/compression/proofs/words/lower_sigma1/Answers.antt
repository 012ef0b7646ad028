use Rattle.std.proofs.Common.{refl}
use Rattle.compression.specs.Fips.{σ₁}
use Rattle.compression.proofs.Bits.{and_third}
use Rattle.compression.proofs.words.lower_sigma1.Goals as goal

pub returns : goal.returns
unfolding σ₁
returns c = and_third _ _ c.rotations.ensures refl
