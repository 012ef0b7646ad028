-- `octets::by_bytes::same_by_bytes` meets its contract. Lists of different lengths are not the same; of the same length, the loop's invariant
-- is: they are the same exactly if they are from k on.
use Rattle.std.proofs.Common.{◌≡◌, drop}
use Rattle.scheme.specs.Bytes.{same_bytes}
use Rattle.octets.proofs.by_bytes.same_by_bytes.Given as goal

abbrev pub invariant-loop-k : goal.invariant-loop-k
invariant-loop-k l = same_bytes l.a l.b ≡ same_bytes (drop l.k l.a) (drop l.k l.b)
