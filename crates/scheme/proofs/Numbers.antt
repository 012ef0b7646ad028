-- The laws of little-endian numbers: `le` and `num` undo each other, and a number is read byte by byte.
use mathlib.Core.Path.{◌≡◌, refl, ap, ◌∙◌}
use mathlib.Core.List.{List, [], ◌∷◌}
use Prim.Native.Nat.{ℕ, zero, suc, ◌+◌, ◌*◌, ◌/◌, ◌^◌, ◌≤◌, ◌<◌}
use native.Mathlib.Nat.{div-lt_iff_lt-mul, pow-suc}
use native.Mathlib.Omega.{arith}
use lib.ListN.{length, get_or, take}
use lib.Seq.{drop-cons}
use Rattle.scheme.specs.Bytes.{le, num, part}

pub le_length : (w n : ℕ) → length (le w n) ≡ w
unfolding le
le_length zero n = refl
le_length (suc w) n = ap suc (le_length w (n / 256))

pub num_le : (w n : ℕ) → n < 256 ^ w → num (le w n) ≡ n
unfolding le num
num_le zero n h = omega arith
num_le (suc w) n h =
    let small : n / 256 < 256 ^ w = (div-lt_iff_lt-mul {k = 256} {x = n} {y = 256 ^ w} (omega arith)).1 (rw pow-suc at h) in
    rw (num_le w (n / 256) small) (omega arith)

pub num_lt : (bs : List ℕ) → ((i : ℕ) → get_or bs i 0 < 256) → num bs < 256 ^ length bs
unfolding num
num_lt [] small = omega arith
num_lt (b ∷ bs) small =
    let first : b < 256 = small 0 in
    let rest : num bs < 256 ^ length bs = num_lt bs (λ i. small (suc i)) in
    rw pow-suc (omega arith)

-- the first of the bytes at a place, and the bytes from the next place on
pub num_part : (xs : List ℕ) (a b n : ℕ) → a < length xs → b ≡ suc a → num (part xs a (suc n)) ≡ get_or xs a 0 + 256 * num (part xs b n)
unfolding num
num_part xs a b n within next = ap (λ l. num (take (suc n) l)) (drop-cons xs a 0 within) ∙ rw next

-- the number that four bytes give
pub num_four : (xs : List ℕ) (a : ℕ) → a + 4 ≤ length xs
    → num (part xs a 4) ≡ get_or xs a 0 + get_or xs (a + 1) 0 * 256 + get_or xs (a + 2) 0 * 65536 + get_or xs (a + 3) 0 * 16777216
unfolding num
num_four xs a h =
    let e₀ = num_part xs a (a + 1) 3 (omega arith) (omega arith) in
    let e₁ = num_part xs (a + 1) (a + 2) 2 (omega arith) (omega arith) in
    let e₂ = num_part xs (a + 2) (a + 3) 1 (omega arith) (omega arith) in
    let e₃ = num_part xs (a + 3) (a + 4) 0 (omega arith) (omega arith) in
    omega (arith, e₀, e₁, e₂, e₃)
