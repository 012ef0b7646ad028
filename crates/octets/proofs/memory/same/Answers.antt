-- `octets::memory::same` meets its contract: lists of different lengths are not the same; of the same length, they are exactly if their words are,
-- and the bytes behind them.
use Rattle.std.proofs.Common.{◌≡◌, sym, ◌∙◌, ◌-◌, ◌*◌, ◌/◌, arith, length}
use Rattle.scheme.specs.Bytes.{same_bytes, part}
use Rattle.scheme.proofs.Bytes.{lengths_differ}
use Rattle.octets.proofs.Parts.{so_many, these_same, front_other, front_same}
use Rattle.octets.proofs.memory.same.Goals as goal

pub returns-then-n-b : goal.returns-then-n-b
returns-then-n-b c = sym (lengths_differ _ _ (λ e. omega (arith, e)))

pub returns-then-not-same_words : goal.returns-then-not-same_words
returns-then-not-same_words c =
    let a = c.args in
    let n = length a.a.now in
    sym (front_other a.a.now a.b.now (8 * (n / 8)) (omega arith) (omega arith) (sym c.same_words.ensures ∙ c.if-not-same_words.true))

pub returns : goal.returns
returns c =
    let words = c in
    let a = words.args in
    let n = length a.a.now in
    let k = 8 * (n / 8) in
    let tail : c.same_by_bytes.result ≡ same_bytes (part a.a.now k (n - k)) (part a.b.now k (n - k)) =
    these_same c.same_by_bytes.ensures (omega (arith, so_many)) (omega (arith, so_many)) in
    tail ∙ sym (front_same a.a.now a.b.now k (omega arith) (omega arith) (sym words.same_words.ensures ∙ c.if-not-same_words.false))
