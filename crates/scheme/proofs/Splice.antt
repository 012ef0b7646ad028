-- The laws of `splice`: writing a list at a place keeps the length, gives there what was written, and leaves the rest as it was.
use mathlib.Core.Path.{◌≡◌, refl, sym, ap, ◌∙◌}
use mathlib.Core.List.{List, [], ◌∷◌, ◌++◌, append-nil, append_assoc}
use Prim.Native.Nat.{ℕ, zero, suc, ◌+◌, ◌-◌, ◌≤◌}
use native.Mathlib.Nat.{add-zero}
use native.Mathlib.Omega.{arith}
use lib.ListN.{length, take, drop, length-append, length-drop, take-append-drop}
use lib.Seq.{length-take-le, take-take, drop-drop, take-append-le, drop-append-le, take-append_seam, take-append-add, drop-append-add, take_at, drop_at, take-length, paste}
use Rattle.scheme.specs.Bytes.{part, splice}

-- a part that ends by k is a part of the first k
pub part_of_front : (xs : List ℕ) (a n k : ℕ) → a + n ≤ k → part xs a n ≡ part (take k xs) a n
part_of_front xs zero n k h = sym (take-take n k xs (omega arith))
part_of_front [] (suc a) n zero h = refl
part_of_front [] (suc a) n (suc k) h = refl
part_of_front (x ∷ xs) (suc a) n zero h = let none : ⊥ = omega arith in absurd none
part_of_front (x ∷ xs) (suc a) n (suc k) h = part_of_front xs a n k (omega arith)

-- lists with the same front have the same parts there
pub part_same : (xs ys : List ℕ) (a n k : ℕ) → a + n ≤ k → take k xs ≡ take k ys → part xs a n ≡ part ys a n
part_same xs ys a n k h same = part_of_front xs a n k h ∙ ap (λ l. part l a n) same ∙ sym (part_of_front ys a n k h)

module _ (xs : List ℕ) (at : ℕ) (ys : List ℕ) where
  -- the first at entries are as they were
  take_splice : at ≤ length xs → take at (splice xs at ys) ≡ take at xs
  unfolding splice
  take_splice h = rw append_assoc (take_at (take at xs) (ys ++ drop (at + length ys) xs) at (length-take-le at xs h))

  pub splice_before : (a n : ℕ) → a + n ≤ at → at ≤ length xs → part (splice xs at ys) a n ≡ part xs a n
  splice_before a n h within = part_same (splice xs at ys) xs a n at h (take_splice within)

module _ (xs : List ℕ) (at : ℕ) (ys : List ℕ) (fits : at + length ys ≤ length xs) where
  front_length : length (take at xs) ≡ at
  front_length = length-take-le at xs (omega arith)

  written_length : length (take at xs ++ ys) ≡ at + length ys
  written_length = length-append (take at xs) ys ∙ ap (λ k. k + length ys) front_length

  pub splice_length : length (splice xs at ys) ≡ length xs
  unfolding splice
  splice_length =
      length-append (take at xs ++ ys) (drop (at + length ys) xs) ∙ rw (written_length, length-drop) (omega arith)

  pub splice_inside : part (splice xs at ys) at (length ys) ≡ ys
  unfolding splice
  splice_inside =
      rw append_assoc
      (ap (take (length ys)) (drop_at (take at xs) (ys ++ drop (at + length ys) xs) at front_length) ∙
      take-append_seam ys (drop (at + length ys) xs))

  -- up to the end of what is written, and from there on
  take_written : take (at + length ys) (splice xs at ys) ≡ take at xs ++ ys
  unfolding splice
  take_written = take_at (take at xs ++ ys) (drop (at + length ys) xs) (at + length ys) written_length

  drop_splice : (a : ℕ) → at + length ys ≤ a → drop a (splice xs at ys) ≡ drop a xs
  unfolding splice
  drop_splice a h =
      let more : ℕ = a - (at + length ys) in
      let there : a ≡ at + length ys + more = omega arith in
      let rest : drop (at + length ys) (splice xs at ys) ≡ drop (at + length ys) xs =
      drop_at (take at xs ++ ys) (drop (at + length ys) xs) (at + length ys) written_length in
      ap (λ k. drop k (splice xs at ys)) there ∙ sym (drop-drop more (at + length ys) (splice xs at ys)) ∙
      ap (drop more) rest ∙
      drop-drop more (at + length ys) xs ∙
      ap (λ k. drop k xs) (sym there)

  pub splice_behind : (a n : ℕ) → at + length ys ≤ a → part (splice xs at ys) a n ≡ part xs a n
  splice_behind a n h = ap (take n) (drop_splice a h)

-- a write of nothing
pub splice_none : (xs : List ℕ) (at : ℕ) → splice xs at [] ≡ xs
unfolding splice
splice_none xs at = rw (append-nil, add-zero) (take-append-drop at xs)

-- two writes, the second right behind the first, are one
pub splice_twice : (xs : List ℕ) (at : ℕ) (ys zs : List ℕ) → at + length ys + length zs ≤ length xs
    → splice (splice xs at ys) (at + length ys) zs ≡ splice xs at (ys ++ zs)
unfolding splice
splice_twice xs at ys zs fits =
    let end : at + length ys + length zs ≡ at + length (ys ++ zs) = rw length-append (omega arith) in
    ap (λ l. l ++ zs ++ drop (at + length ys + length zs) (splice xs at ys)) (take_written xs at ys (omega arith)) ∙
    ap (λ l. take at xs ++ ys ++ zs ++ l) (drop_splice xs at ys (omega arith) (at + length ys + length zs) (omega arith)) ∙
    ap (λ k. take at xs ++ ys ++ zs ++ drop k xs) end ∙
    ap (λ l. l ++ drop (at + length (ys ++ zs)) xs) (append_assoc (take at xs) ys zs)

-- a write into one of two lists that stand one behind the other
pub splice_left : (p q : List ℕ) (at : ℕ) (ys : List ℕ) → at + length ys ≤ length p
    → splice (p ++ q) at ys ≡ splice p at ys ++ q
unfolding splice
splice_left p q at ys fits =
    ap (λ l. l ++ ys ++ drop (at + length ys) (p ++ q)) (take-append-le at p q (omega arith)) ∙
    ap (λ l. take at p ++ ys ++ l) (drop-append-le (at + length ys) p q fits) ∙
    sym (append_assoc (take at p ++ ys) (drop (at + length ys) p) q)

pub splice_right : (p q : List ℕ) (at k : ℕ) (ys : List ℕ) → length p + k ≡ at
    → splice (p ++ q) at ys ≡ p ++ splice q k ys
unfolding splice
splice_right p q at k ys there =
    let end : at + length ys ≡ length p + (k + length ys) = omega arith in
    ap (λ a. take a (p ++ q) ++ ys ++ drop (at + length ys) (p ++ q)) (sym there) ∙
    ap (λ l. l ++ ys ++ drop (at + length ys) (p ++ q)) (take-append-add p q k) ∙
    ap (λ a. p ++ take k q ++ ys ++ drop a (p ++ q)) end ∙
    ap (λ l. p ++ take k q ++ ys ++ l) (drop-append-add p q (k + length ys)) ∙
    simp append_assoc

-- two writes apart from each other, in either order
pub splice_apart : (xs : List ℕ) (at : ℕ) (ys : List ℕ) (bt : ℕ) (zs : List ℕ) → at + length ys ≤ bt → bt + length zs ≤ length xs
    → splice (splice xs at ys) bt zs ≡ splice (splice xs bt zs) at ys
splice_apart xs at ys bt zs apart fits =
    let p = take bt xs in
    let q = drop bt xs in
    let size : length p ≡ bt = length-take-le bt xs (omega arith) in
    let within : at + length ys ≤ length p = omega arith in
    let kept : length (splice p at ys) ≡ length p = splice_length p at ys within in
    let whole : xs ≡ p ++ q = sym (take-append-drop bt xs) in
    ap (λ l. splice (splice l at ys) bt zs) whole ∙
    ap (λ l. splice l bt zs) (splice_left p q at ys within) ∙
    splice_right (splice p at ys) q bt 0 zs (omega arith) ∙
    sym
    (ap (λ l. splice (splice l bt zs) at ys) whole ∙
    ap (λ l. splice l at ys) (splice_right p q bt 0 zs (omega arith)) ∙
    splice_left p (splice q 0 zs) at ys within)

-- a copy of the whole list is a write of it
pub pasted : (xs : List ℕ) (at : ℕ) (ys : List ℕ) (n : ℕ) → n ≡ length ys → paste xs at ys n ≡ splice xs at ys
unfolding splice
pasted xs at ys n all = rw (all, take-length)
