-- `compression::round` meets its contract: T₁ and T₂ are summed in the standard's order.
use Rattle.compression.specs.Fips.{round, T₁, T₂}
use Rattle.compression.proofs.round.Goals as goal

pub returns : goal.returns
unfolding round T₁ T₂
returns c = rw (c.upper_sigma1.ensures, c.ch.ensures, c.upper_sigma0.ensures, c.maj.ensures)
