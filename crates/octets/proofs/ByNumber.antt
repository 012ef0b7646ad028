-- Bytes by their number: as many bytes are the same exactly if their numbers are (`same_number`), and zero exactly if their number is
-- (`zero_number`). Numbers are the same, or zero, all of them, exactly if no bit of what was met is set (`none_differing`, `none_met`).
use Rattle.std.proofs.Common.{◌≡◌, refl, sym, ap, ap₂, ◌∙◌, ◌&&◌, List, [], ◌∷◌, ℕ, zero, suc, ◌+◌, ◌*◌, ◌≤◌, ◌<◌, arith, eq-eqb, ne_eqb, bit_or, bit_xor, eqb, length, get_or, take, drop, get_or-drop}
use mathlib.Core.Logic.{by_cases}
use native.Mathlib.Decide.{ℕ_discrete}
use lib.Bits.{and_le_l, and_le_r, xor_add_and, xor_self}
use Rattle.std.proofs.lemmas.Nat.{le_or_l}
use Rattle.scheme.specs.Bytes.{num, part, all_zero, same_bytes}
use Rattle.scheme.proofs.Tests.{same_eqb}
use Rattle.octets.proofs.Parts.{part_length, zero_next, same_parts}

-- ---- the number of bytes

abbrev pub Bytes : List ℕ → Type 0
Bytes xs = (i : ℕ) → get_or xs i 0 < 256

pub zero_number : (xs : List ℕ) → all_zero xs ≡ eqb (num xs) 0
unfolding num all_zero
zero_number [] = refl
zero_number (x ∷ xs) =
    by_cases (ℕ_discrete x 0)
    (λ here. rw (eq-eqb x 0 here) (zero_number xs ∙ same_eqb (num xs) 0 (x + 256 * num xs) 0 ((λ e. omega (arith, e, here)), (λ e. omega (arith, e, here)))))
    (λ other. rw (ne_eqb x 0 other) (sym (ne_eqb (x + 256 * num xs) 0 (λ e. other (omega (arith, e))))))

pub same_number : (xs ys : List ℕ) → length xs ≡ length ys → Bytes xs → Bytes ys → same_bytes xs ys ≡ eqb (num xs) (num ys)
unfolding num same_bytes
same_number [] [] e bx by = refl
same_number [] (y ∷ ys) e bx by = absurd (omega arith)
same_number (x ∷ xs) [] e bx by = absurd (omega arith)
same_number (x ∷ xs) (y ∷ ys) e bx by =
    let small_x : x < 256 = bx 0 in
    let small_y : y < 256 = by 0 in
    by_cases (ℕ_discrete x y)
    (λ here. rw (eq-eqb x y here)
    (same_number xs ys (omega arith) (λ i. bx (suc i)) (λ i. by (suc i))
    ∙ same_eqb (num xs) (num ys) (x + 256 * num xs) (y + 256 * num ys) ((λ s. omega (arith, s, here)), (λ s. omega (arith, s, here)))))
    (λ other. rw (ne_eqb x y other) (sym (ne_eqb (x + 256 * num xs) (y + 256 * num ys) (λ s. other (omega (arith, s, small_x, small_y))))))

-- ---- the bits of numbers

or_none : (a b : ℕ) → bit_or a b ≡ 0 → a ≡ 0
or_none a b e = omega (arith, e, le_or_l a b)

xor_none : (a b : ℕ) → bit_xor a b ≡ 0 → a ≡ b
xor_none a b e = omega (arith, e, xor_add_and a b, and_le_l a b, and_le_r a b)

none_met : (met x : ℕ) → eqb (bit_or met x) 0 ≡ (eqb met 0 && eqb x 0)
none_met met x =
    by_cases (ℕ_discrete met 0)
    (λ none. rw none)
    (λ some. rw (ne_eqb met 0 some) (ne_eqb (bit_or met x) 0 (λ e. some (or_none met x e))))

none_differing : (met x y : ℕ) → eqb (bit_or met (bit_xor x y)) 0 ≡ (eqb met 0 && eqb x y)
none_differing met x y = none_met met (bit_xor x y) ∙ ap (λ t. eqb met 0 && t) (same_eqb (bit_xor x y) 0 x y (xor_none x y, (λ e. rw e (xor_self y))))

-- ---- one more number of w bytes

bytes_take : (n : ℕ) (xs : List ℕ) → Bytes xs → Bytes (take n xs)
bytes_take zero xs small i = omega arith
bytes_take (suc n) [] small i = small i
bytes_take (suc n) (x ∷ xs) small zero = small 0
bytes_take (suc n) (x ∷ xs) small (suc i) = bytes_take n xs (λ k. small (suc k)) i

bytes_part : (xs : List ℕ) (a n : ℕ) → Bytes xs → Bytes (part xs a n)
bytes_part xs a n small = bytes_take n (drop a xs) (λ i. rw (get_or-drop a xs i 0) (small (a + i)))

pub zero_word : (xs : List ℕ) (n w met : ℕ) → eqb met 0 ≡ all_zero (take n xs) → eqb (bit_or met (num (part xs n w))) 0 ≡ all_zero (take (n + w) xs)
zero_word xs n w met so_far =
    none_met met (num (part xs n w)) ∙ ap₂ ◌&&◌ so_far (sym (zero_number (part xs n w))) ∙ sym (zero_next xs n w)

pub same_word : (xs ys : List ℕ) (a n w met : ℕ) → Bytes xs → Bytes ys → a + n + w ≤ length xs → a + n + w ≤ length ys
    → eqb met 0 ≡ same_bytes (part xs a n) (part ys a n)
    → eqb (bit_or met (bit_xor (num (part xs (a + n) w)) (num (part ys (a + n) w)))) 0 ≡ same_bytes (part xs a (n + w)) (part ys a (n + w))
same_word xs ys a n w met bx by hx hy so_far =
    let these = part xs (a + n) w in
    let those = part ys (a + n) w in
    let numbers = same_number these those (part_length xs (a + n) w hx ∙ sym (part_length ys (a + n) w hy)) (bytes_part xs (a + n) w bx) (bytes_part ys (a + n) w by) in
    none_differing met (num these) (num those) ∙ ap₂ ◌&&◌ so_far (sym numbers) ∙ sym (same_parts xs ys a a n w (omega arith) (omega arith))
