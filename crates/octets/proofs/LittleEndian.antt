-- What the library says of little-endian numbers, in the words of the format: `to_le_bytes` gives `le`, and `from_le_bytes` gives `num`.
use Rattle.std.proofs.Common.{◌≡◌, ℕ, ◌+◌, ◌*◌, ◌≤◌, List, length, ◌/◌, ap, arith, w32, w64, take_all}
use Rattle.std.specs.Int.{to_le_bytes, from_le_bytes}
use Rattle.scheme.specs.Bytes.{le, num, part}
use Rattle.scheme.proofs.Numbers.{num_part, num_four}

pub le_four : (n : ℕ) → to_le_bytes w32 n ≡ le 4 n
unfolding le
le_four n =
    let third : n / 65536 ≡ n / 256 / 256 = omega arith in
    let fourth : n / 16777216 ≡ n / 256 / 256 / 256 = omega arith in
    rw (third, fourth)

pub from_four : (xs : List ℕ) → length xs ≡ 4 → from_le_bytes w32 xs ≡ num xs
from_four xs e = omega (arith, num_four xs 0 (omega arith), ap num (take_all 4 xs (omega arith)))

-- eight bytes are two numbers of four
two_fours : (xs : List ℕ) (a : ℕ) → a + 8 ≤ length xs → num (part xs a 8) ≡ num (part xs a 4) + num (part xs (a + 4) 4) * 4294967296
two_fours xs a h =
    let e₀ = num_part xs a (a + 1) 7 (omega arith) (omega arith) in
    let e₁ = num_part xs (a + 1) (a + 2) 6 (omega arith) (omega arith) in
    let e₂ = num_part xs (a + 2) (a + 3) 5 (omega arith) (omega arith) in
    let e₃ = num_part xs (a + 3) (a + 4) 4 (omega arith) (omega arith) in
    omega (arith, e₀, e₁, e₂, e₃, num_four xs a (omega arith))

pub from_eight : (xs : List ℕ) → length xs ≡ 8 → from_le_bytes w64 xs ≡ num xs
from_eight xs e =
    omega (arith, two_fours xs 0 (omega arith), num_four xs 0 (omega arith), num_four xs 4 (omega arith), ap num (take_all 8 xs (omega arith)))
