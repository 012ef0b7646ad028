-- `octets::memory::write` meets its contract. The loop's invariant: the first i bytes are copied to their places (`paste`), and the rest of
-- the memory is as it was.
use Rattle.std.proofs.Common.{◌≡◌, length}
use lib.Seq.{paste}
use Rattle.octets.proofs.memory.write.Given as goal

abbrev pub invariant-loop-i : goal.invariant-loop-i
invariant-loop-i l = (l.memory ≡ paste l.initial.memory l.at l.bytes l.i) × (length l.memory ≡ length l.initial.memory)
