-- `compression::blocks` meets its contract. The loop's invariant: so many blocks are hashed.
use Rattle.std.proofs.Common.{◌≡◌}
use Rattle.compression.specs.Fips.{hashed}
use Rattle.compression.proofs.blocks.Given as goal

abbrev pub invariant-loop-b : goal.invariant-loop-b
invariant-loop-b l = l.v ≡ hashed l.initial.v l.part l.b-index
