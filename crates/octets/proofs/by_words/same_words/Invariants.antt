-- `octets::by_words::same_words` meets its contract. The loop's invariant: the words are the same exactly if those from k on are.
use Rattle.std.proofs.Common.{◌≡◌, ◌*◌, ◌-◌, ◌≤◌, take}
use Rattle.scheme.specs.Bytes.{same_bytes, part}
use Rattle.octets.proofs.by_words.same_words.Given as goal

abbrev pub invariant-loop-k : goal.invariant-loop-k
invariant-loop-k l = (l.k ≤ l.count)
    × (same_bytes (take (8 * l.count) l.a) (take (8 * l.count) l.b) ≡ same_bytes (part l.a (8 * l.k) (8 * (l.count - l.k))) (part l.b (8 * l.k) (8 * (l.count - l.k))))

abbrev pub decreases-loop-k : goal.decreases-loop-k
decreases-loop-k l = l.count - l.k
