-- `sha256::state::Sha256::new` meets its contract: nothing is hashed yet, nothing is held, and the words are those of 5.3.3.
use Rattle.std.proofs.Common.{rules}
use Rattle.compression.specs.Fips.{H₀, hashed}
use Rattle.sha256.proofs.state.Sha256.new.Goals as goal

pub returns : goal.returns
unfolding hashed H₀
returns c = search rules
