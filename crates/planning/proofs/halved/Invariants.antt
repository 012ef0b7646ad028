-- `planning::halved` meets its contract. The loop's invariant is `Between`: a ratchet that does not last rules out all below it, since the sum
-- falls as the ratchet grows.
use Prim.Native.Nat.{◌-◌}
use Rattle.planning.specs.Ratchet.{Between}
use Rattle.planning.proofs.halved.Given as goal

abbrev pub invariant-loop-low : goal.invariant-loop-low
invariant-loop-low l = Between l.counts l.chunks l.low l.high

abbrev pub decreases-loop-low : goal.decreases-loop-low
decreases-loop-low l = l.high - l.low
