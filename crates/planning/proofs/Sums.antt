-- The sum of quotients rounded up: less as the divisor grows (`antitone`), and what the code adds up (`added`, `fits`).
use Rattle.std.proofs.Common.{◌≡◌, refl, ap₂, ◌∙◌, arith, List, [], ◌∷◌, ℕ, suc, ◌+◌, ◌*◌, ◌^◌, ◌≤◌, ◌<◌, length, get_or}
use Rattle.std.specs.Int.{div_ceil}
use Rattle.std.specs.List.{sum_by}
use Rattle.std.proofs.lemmas.List.Sums.{sum_by-cons}
use Rattle.planning.specs.Chunks.{chunks_for}
use Rattle.planning.proofs.Quotients.{divided, falls, at_most}

pub antitone : (counts : List ℕ) (n m : ℕ) → 0 < n → n ≤ m → chunks_for counts m ≤ chunks_for counts n
unfolding chunks_for
antitone [] n m some more = omega arith
antitone (count ∷ counts) n m some more = omega (arith, falls count n m some more, antitone counts n m some more)

-- what the code adds up: what `div_ceil` gives of each count
pub added : (n : ℕ) → 0 < n → (counts : List ℕ) → sum_by (λ count. div_ceil count n) counts ≡ chunks_for counts n
unfolding chunks_for
added n some [] = refl
added n some (count ∷ counts) =
    sum_by-cons (λ c. div_ceil c n) count counts ∙ ap₂ (λ (s t : ℕ). s + t) (divided count n some) (added n some counts)

most : (n : ℕ) → 0 < n → (counts : List ℕ) → ((i : ℕ) → get_or counts i 0 ≤ 65536) → chunks_for counts n ≤ length counts * 65536
unfolding chunks_for
most n some [] small = omega arith
most n some (count ∷ counts) small = omega (arith, small 0, at_most count n some, most n some counts (λ i. small (suc i)))

-- which is less than a u32 holds, for 64 counts of at most 65,536
pub fits : (n : ℕ) → 0 < n → (counts : List ℕ) → length counts ≤ 64 → ((i : ℕ) → get_or counts i 0 ≤ 65536)
    → sum_by (λ count. div_ceil count n) counts < 2 ^ 32
fits n some counts few small = rw (added n some counts) (omega (arith, most n some counts small))
