use Rattle.std.proofs.Common.{◌≡◌, ◌+◌, ◌*◌, ◌-◌, ◌≤◌, ◌&&◌, ℕ, List, length, take, sym, ap, ◌∙◌, arith, rules}
use Rattle.std.proofs.Math.Nat.{sub-zero}
use Rattle.scheme.specs.Bytes.{same_bytes, part}
use Rattle.octets.proofs.Parts.{so_many, these_same, same_parts}
use Rattle.octets.proofs.by_words.same_words.Goals as goal

-- the words from k on: the first w, and the rest
together : (a b : List ℕ) (count k w : ℕ) → k + w ≤ count → 8 * count ≤ length a → 8 * count ≤ length b
    → same_bytes (part a (8 * k) (8 * (count - k))) (part b (8 * k) (8 * (count - k)))
    ≡ (same_bytes (part a (8 * k) (8 * w)) (part b (8 * k) (8 * w))
    && same_bytes (part a (8 * (k + w)) (8 * (count - (k + w)))) (part b (8 * (k + w)) (8 * (count - (k + w)))))
together a b count k w some ha hb =
    let rest = 8 * (count - (k + w)) in
    let size : 8 * (count - k) ≡ 8 * w + rest = omega arith in
    let next : 8 * k + 8 * w ≡ 8 * (k + w) = omega arith in
    ap (λ n. same_bytes (part a (8 * k) n) (part b (8 * k) n)) size ∙ same_parts a b (8 * k) (8 * k) (8 * w) rest (omega arith) (omega arith)
    ∙ ap (λ p. same_bytes (part a (8 * k) (8 * w)) (part b (8 * k) (8 * w)) && same_bytes (part a p rest) (part b p rest)) next

pub loop-k-init : goal.loop-k-init
loop-k-init c =
    let a = c.args in
    (omega arith, ap (λ n. same_bytes (take (8 * n) a.a.now) (take (8 * n) a.b.now)) (sym (sub-zero a.count)))

pub returns-then-not-same_together : goal.returns-then-not-same_together
returns-then-not-same_together c =
    let l = c.loop-k in
    let a = c.args in
    let here = sym c.same_together.ensures ∙ c.if-not-same_together.true in
    sym (l.invariant.1 ∙ together a.a.now a.b.now a.count l.k 48 (omega arith) (omega arith) (omega arith) ∙ rw here)

pub loop-k-preserved : goal.loop-k-preserved
loop-k-preserved c =
    let l = c.loop-k in
    let a = c.args in
    let here = sym c.same_together.ensures ∙ c.if-not-same_together.false in
    (search rules, l.invariant.1 ∙ together a.a.now a.b.now a.count l.k 48 (omega arith) (omega arith) (omega arith) ∙ rw here)

pub returns : goal.returns
returns c =
    let l = c.loop-k in
    let a = c.args in
    let rest = 8 * (a.count - l.k) in
    let tail : c.same_together-2.result ≡ same_bytes (part a.a.now (8 * l.k) rest) (part a.b.now (8 * l.k) rest) =
    these_same c.same_together-2.ensures (omega (arith, so_many)) (omega (arith, so_many)) in
    tail ∙ sym l.invariant.1
