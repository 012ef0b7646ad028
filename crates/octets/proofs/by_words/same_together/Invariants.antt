-- `octets::by_words::same_together` meets its contract. The loop's invariant: no bit is set exactly if the bytes before word j are the same.
use Rattle.std.proofs.Common.{◌≡◌, ◌*◌, eqb}
use Rattle.scheme.specs.Bytes.{same_bytes, part}
use Rattle.octets.proofs.by_words.same_together.Given as goal

abbrev pub invariant-loop-j : goal.invariant-loop-j
invariant-loop-j l = eqb l.differing 0 ≡ same_bytes (part l.a l.from (8 * l.j)) (part l.b l.from (8 * l.j))
