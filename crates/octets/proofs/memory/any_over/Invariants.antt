-- `octets::memory::any_over` meets its contract. The loop's invariant: some number is over the limit exactly if one from here on is.
use Rattle.std.proofs.Common.{◌≡◌}
use Rattle.scheme.specs.Store.{any_over}
use Rattle.scheme.proofs.Scans.{over_from}
use Rattle.octets.proofs.memory.any_over.Given as goal

abbrev pub invariant-loop-x : goal.invariant-loop-x
invariant-loop-x l = any_over l.limit l.xs ≡ over_from l.limit l.xs l.x-index
