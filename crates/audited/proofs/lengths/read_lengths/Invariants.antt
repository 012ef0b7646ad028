-- `audited::lengths::read_lengths` meets its contract. The loop's invariant: the first i lengths are the first i numbers of the bytes.
use mathlib.Core.Path.{◌≡◌}
use Prim.Native.Nat.{◌≤◌}
use lib.ListN.{length, take}
use Rattle.audited.specs.Lengths.{words}
use Rattle.audited.proofs.lengths.read_lengths.Given as goal

abbrev pub invariant-loop-i : goal.invariant-loop-i
invariant-loop-i l = (l.i ≤ l.count) × (take l.i l.lengths ≡ words l.i l.bytes) × (length l.lengths ≡ 8)
