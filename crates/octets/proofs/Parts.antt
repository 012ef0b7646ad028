-- The tests on bytes, a part after the other: lists joined of two are tested by both.
use Rattle.std.proofs.Common.{◌≡◌, refl, sym, ap, ap₂, ◌∙◌, Bool, true, false, ◌&&◌, List, [], ◌∷◌, ◌++◌, ℕ, ◌+◌, ◌-◌, ◌≤◌, le_of_eq, arith, eqb, length, take, drop, length-drop, take-append-drop, length-take-le, take_all, take-add, drop-drop}
use mathlib.Core.Bool.{and_assoc}
use Rattle.scheme.specs.Bytes.{part, all_zero, same_bytes}

zero_append : (xs ys : List ℕ) → all_zero (xs ++ ys) ≡ (all_zero xs && all_zero ys)
unfolding all_zero
zero_append [] ys = refl
zero_append (x ∷ xs) ys = ap (λ t. eqb x 0 && t) (zero_append xs ys) ∙ sym (and_assoc (eqb x 0) (all_zero xs) (all_zero ys))

same_append : (xs ys us vs : List ℕ) → length xs ≡ length ys → same_bytes (xs ++ us) (ys ++ vs) ≡ (same_bytes xs ys && same_bytes us vs)
unfolding same_bytes
same_append [] [] us vs e = refl
same_append [] (y ∷ ys) us vs e = absurd (omega arith)
same_append (x ∷ xs) [] us vs e = absurd (omega arith)
same_append (x ∷ xs) (y ∷ ys) us vs e =
    ap (λ t. eqb x y && t) (same_append xs ys us vs (omega arith)) ∙ sym (and_assoc (eqb x y) (same_bytes xs ys) (same_bytes us vs))

pub part_length : (xs : List ℕ) (a n : ℕ) → a + n ≤ length xs → length (part xs a n) ≡ n
part_length xs a n within = length-take-le n (drop a xs) (simp length-drop (omega arith))

-- a part, by whatever number that is its length
pub so_many : (xs : List ℕ) (n m : ℕ) → n ≡ m → take n xs ≡ take m xs
so_many xs n m e = rw e

pub this_zero : {r : Bool} {p xs : List ℕ} → r ≡ all_zero p → p ≡ xs → r ≡ all_zero xs
this_zero e p = e ∙ ap all_zero p

pub these_same : {r : Bool} {p q xs ys : List ℕ} → r ≡ same_bytes p q → p ≡ xs → q ≡ ys → r ≡ same_bytes xs ys
these_same e p q = e ∙ ap₂ same_bytes p q

-- a list up to a place: it settles the test, or leaves it to the part behind
behind : (xs : List ℕ) (n m : ℕ) → m ≡ length xs - n → drop n xs ≡ part xs n m
behind xs n m rest = sym (take_all m (drop n xs) (rw rest (le_of_eq (length-drop n xs))))

module _ (xs : List ℕ) (n : ℕ) where
  zero_cut : all_zero xs ≡ (all_zero (take n xs) && all_zero (drop n xs))
  zero_cut = ap all_zero (sym (take-append-drop n xs)) ∙ zero_append (take n xs) (drop n xs)

  pub front_nonzero : all_zero (take n xs) ≡ false → all_zero xs ≡ false
  front_nonzero e = zero_cut ∙ ap (λ t. t && all_zero (drop n xs)) e

  pub front_zero : all_zero (take n xs) ≡ true → all_zero xs ≡ all_zero (part xs n (length xs - n))
  front_zero e = zero_cut ∙ ap (λ t. t && all_zero (drop n xs)) e ∙ ap all_zero (behind xs n (length xs - n) refl)

module _ (xs ys : List ℕ) (n : ℕ) (within : n ≤ length xs) (equal : length xs ≡ length ys) where
  same_cut : same_bytes xs ys ≡ (same_bytes (take n xs) (take n ys) && same_bytes (drop n xs) (drop n ys))
  same_cut =
      ap₂ same_bytes (sym (take-append-drop n xs)) (sym (take-append-drop n ys))
      ∙ same_append (take n xs) (take n ys) (drop n xs) (drop n ys) (length-take-le n xs within ∙ sym (length-take-le n ys (omega arith)))

  pub front_other : same_bytes (take n xs) (take n ys) ≡ false → same_bytes xs ys ≡ false
  front_other e = same_cut ∙ ap (λ t. t && same_bytes (drop n xs) (drop n ys)) e

  pub front_same : same_bytes (take n xs) (take n ys) ≡ true
      → same_bytes xs ys ≡ same_bytes (part xs n (length xs - n)) (part ys n (length xs - n))
  front_same e =
      same_cut ∙ ap (λ t. t && same_bytes (drop n xs) (drop n ys)) e
      ∙ ap₂ same_bytes (behind xs n (length xs - n) refl) (behind ys n (length xs - n) (ap (λ m. m - n) equal))

-- a part, and the part behind it
pub zero_next : (xs : List ℕ) (n m : ℕ) → all_zero (take (n + m) xs) ≡ (all_zero (take n xs) && all_zero (part xs n m))
zero_next xs n m = ap all_zero (take-add n m xs) ∙ zero_append (take n xs) (part xs n m)

pub same_parts : (xs ys : List ℕ) (a b n m : ℕ) → a + n ≤ length xs → b + n ≤ length ys
    → same_bytes (part xs a (n + m)) (part ys b (n + m)) ≡ (same_bytes (part xs a n) (part ys b n) && same_bytes (part xs (a + n) m) (part ys (b + n) m))
same_parts xs ys a b n m hx hy =
    ap₂ same_bytes (two_parts xs a n m) (two_parts ys b n m)
    ∙ same_append (part xs a n) (part ys b n) (part xs (a + n) m) (part ys (b + n) m) (part_length xs a n hx ∙ sym (part_length ys b n hy))
  where
    two_parts : (xs : List ℕ) (a n m : ℕ) → part xs a (n + m) ≡ part xs a n ++ part xs (a + n) m
    two_parts xs a n m = take-add n m (drop a xs) ∙ ap (λ l. part xs a n ++ take m l) (drop-drop n a xs)
