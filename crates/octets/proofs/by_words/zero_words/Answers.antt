use Rattle.std.proofs.Common.{◌≡◌, ◌+◌, ◌*◌, eqb, take, bit_or, refl, ap, ◌∙◌, arith}
use Rattle.scheme.specs.Bytes.{all_zero}
use Rattle.octets.proofs.ByNumber.{zero_word}
use Rattle.octets.proofs.by_words.zero_words.Goals as goal

pub loop-i-init : goal.loop-i-init
unfolding all_zero
loop-i-init c = refl

pub loop-i-preserved : goal.loop-i-preserved
loop-i-preserved c =
    let bytes = c.args.bytes.now in
    let l = c.loop-i in
    let read = ap (λ x. eqb (bit_or l.met x) 0) c.read_u64-met.ensures in
    let next : 8 * l.i + 8 ≡ 8 * (l.i + 1) = omega arith in
    read ∙ zero_word bytes (8 * l.i) 8 l.met l.invariant ∙ ap (λ n. all_zero (take n bytes)) next
