-- `octets::by_words::zero_words` meets its contract. The loop's invariant: no bit is set exactly if the bytes before word i are zero.
use Rattle.std.proofs.Common.{◌≡◌, ◌*◌, eqb, take}
use Rattle.scheme.specs.Bytes.{all_zero}
use Rattle.octets.proofs.by_words.zero_words.Given as goal

abbrev pub invariant-loop-i : goal.invariant-loop-i
invariant-loop-i l = eqb l.met 0 ≡ all_zero (take (8 * l.i) l.bytes)
