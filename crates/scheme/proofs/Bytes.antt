-- The tests on byte lists: what they say of the whole (`zeros`, `same_list`), and how the byte at a place settles the test, or leaves it
-- to the bytes behind.
use mathlib.Core.Path.{◌≡◌, refl, ap, ap₂, ◌∙◌}
use mathlib.Core.Bool.{true, false, not, ◌&&◌, and-eq-true_iff, and-false, false≢true}
use mathlib.Core.Logic.{◌↔◌}
use mathlib.Core.List.{List, [], ◌∷◌}
use Prim.Native.Nat.{ℕ, zero, suc, ◌+◌, ◌≤◌, ◌<◌}
use native.Mathlib.Numerals.{add-one}
use borrow.Author.Tests.{eqb-true, eq-eqb, ne_eqb, not-false}
use lib.Dec.{eqb}
use lib.ListN.{length, get_or, drop, replicate, drop_of_length-le}
use lib.Seq.{drop-cons}
use Rattle.scheme.specs.Bytes.{all_zero, same_bytes}
use Rattle.scheme.proofs.Tests.{not-not}

-- ---- all bytes are zero

pub all_zero_lem : (bytes : List ℕ) → all_zero bytes ≡ true → bytes ≡ replicate (length bytes) 0
unfolding all_zero
all_zero_lem [] e = refl
all_zero_lem (b ∷ bytes) e =
    let both = (and-eq-true_iff (eqb b 0) (all_zero bytes)).0 e in
    ap₂ ◌∷◌ (eqb-true b 0 both.0) (all_zero_lem bytes both.1)

pub zeros : (n : ℕ) → all_zero (replicate n 0) ≡ true
unfolding all_zero
zeros zero = refl
zeros (suc n) = zeros n

-- what the byte at i says
module _ (bs : List ℕ) (i : ℕ) (within : i < length bs) where
  zero_step : all_zero (drop i bs) ≡ (eqb (get_or bs i 0) 0 && all_zero (drop (i + 1) bs))
  unfolding all_zero
  zero_step = rw add-one (ap all_zero (drop-cons bs i 0 within))

  pub not_all_zero : (get_or bs i 0 ≡ 0 → ⊥) → all_zero (drop i bs) ≡ false
  not_all_zero other = zero_step ∙ rw (ne_eqb (get_or bs i 0) 0 other)

  pub zero_so_far : get_or bs i 0 ≡ 0 → all_zero (drop i bs) ≡ all_zero (drop (i + 1) bs)
  zero_so_far here = zero_step ∙ rw (eq-eqb (get_or bs i 0) 0 here)

pub none_nonzero : (bs : List ℕ) (i : ℕ) → length bs ≤ i → all_zero (drop i bs) ≡ true
unfolding all_zero
none_nonzero bs i past = ap all_zero (drop_of_length-le bs {i = i} past)

-- ---- two lists are the same

same_bytes_lem : (x y : List ℕ) → same_bytes x y ≡ true → x ≡ y
unfolding same_bytes
same_bytes_lem [] [] e = refl
same_bytes_lem [] (b ∷ y) e = absurd (false≢true e)
same_bytes_lem (a ∷ x) [] e = absurd (false≢true e)
same_bytes_lem (a ∷ x) (b ∷ y) e =
    let both = (and-eq-true_iff (eqb a b) (same_bytes x y)).0 e in
    ap₂ ◌∷◌ (eqb-true a b both.0) (same_bytes_lem x y both.1)

same_itself : (x : List ℕ) → same_bytes x x ≡ true
unfolding same_bytes
same_itself [] = refl
same_itself (a ∷ x) = rw (eq-eqb a a refl) (same_itself x)

pub same_list : (x y : List ℕ) → (not (same_bytes x y) ≡ false) ↔ (x ≡ y)
same_list x y = ((λ e. same_bytes_lem x y (not-false (same_bytes x y) e)), (λ h. rw h (not-not (same_bytes y y) (same_itself y))))

-- lists of different lengths are not the same
pub lengths_differ : (xs ys : List ℕ) → (length xs ≡ length ys → ⊥) → same_bytes xs ys ≡ false
unfolding same_bytes
lengths_differ [] [] h = absurd (h refl)
lengths_differ [] (y ∷ ys) h = refl
lengths_differ (x ∷ xs) [] h = refl
lengths_differ (x ∷ xs) (y ∷ ys) h = rw (lengths_differ xs ys (λ e. h (ap suc e))) (and-false (eqb x y))

-- what their bytes at i say
module _ (xs ys : List ℕ) (i : ℕ) (within : i < length xs) (too : i < length ys) where
  same_step : same_bytes (drop i xs) (drop i ys) ≡ (eqb (get_or xs i 0) (get_or ys i 0) && same_bytes (drop (i + 1) xs) (drop (i + 1) ys))
  unfolding same_bytes
  same_step =
      rw add-one
      (ap (λ l. same_bytes l (drop i ys)) (drop-cons xs i 0 within) ∙
      ap (same_bytes (get_or xs i 0 ∷ drop (suc i) xs)) (drop-cons ys i 0 too))

  pub not_same : (get_or xs i 0 ≡ get_or ys i 0 → ⊥) → same_bytes (drop i xs) (drop i ys) ≡ false
  not_same other = same_step ∙ rw (ne_eqb (get_or xs i 0) (get_or ys i 0) other)

  pub same_so_far : get_or xs i 0 ≡ get_or ys i 0 → same_bytes (drop i xs) (drop i ys) ≡ same_bytes (drop (i + 1) xs) (drop (i + 1) ys)
  same_so_far here = same_step ∙ rw (eq-eqb (get_or xs i 0) (get_or ys i 0) here)

pub none_different : (xs ys : List ℕ) (i : ℕ) → length xs ≤ i → length ys ≤ i → same_bytes (drop i xs) (drop i ys) ≡ true
unfolding same_bytes
none_different xs ys i past too =
    ap₂ same_bytes (drop_of_length-le xs {i = i} past) (drop_of_length-le ys {i = i} too)
