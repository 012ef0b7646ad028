use Rattle.std.proofs.Common.{◌≡◌, ◌+◌, ◌*◌, eqb, bit_or, bit_xor, refl, ap, ap₂, ◌∙◌, arith}
use Rattle.scheme.specs.Bytes.{same_bytes, part}
use Rattle.octets.proofs.ByNumber.{same_word}
use Rattle.octets.proofs.by_words.same_together.Goals as goal

pub loop-j-init : goal.loop-j-init
unfolding same_bytes
loop-j-init c = refl

pub loop-j-preserved : goal.loop-j-preserved
loop-j-preserved c =
    let a = c.args in
    let l = c.loop-j in
    let read = ap₂ (λ x y. eqb (bit_or l.differing (bit_xor x y)) 0) c.read_u64.ensures c.read_u64-in-loop-j.ensures in
    let word =
    same_word a.a.now a.b.now a.from (8 * l.j) 8 l.differing (λ i. omega (arith, c.type_inv.a i)) (λ i. omega (arith, c.type_inv.b i))
    (omega arith) (omega arith) l.invariant in
    let next : 8 * l.j + 8 ≡ 8 * (l.j + 1) = omega arith in
    read ∙ word ∙ ap (λ n. same_bytes (part a.a.now a.from n) (part a.b.now a.from n)) next
