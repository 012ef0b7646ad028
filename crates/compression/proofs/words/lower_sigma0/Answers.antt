use Rattle.std.proofs.Common.{refl}
use Rattle.compression.specs.Fips.{σ₀}
use Rattle.compression.proofs.Bits.{and_third}
use Rattle.compression.proofs.words.lower_sigma0.Goals as goal

pub returns : goal.returns
unfolding σ₀
returns c = and_third _ _ c.rotations.ensures refl
