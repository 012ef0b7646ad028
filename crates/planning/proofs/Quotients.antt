-- A quotient rounded up is the least number whose product is enough (`enough`); the laws about it follow from that, but for `apart`.
use mathlib.Core.Path.{◌≡◌, sym}
use mathlib.Core.Logic.{◌↔◌, by_cases}
use Prim.Native.Nat.{ℕ, suc, ◌+◌, ◌-◌, ◌*◌, ◌/◌, ◌≤◌, ◌<◌}
use native.Mathlib.Nat.{div-lt_iff_lt-mul, mul-add-div_right, mul-le-mul_left, mul-le-mul_right, add-mul, suc-mul, zero-mul, le_refl}
use native.Mathlib.Decide.{dec_lt}
use native.Mathlib.Omega.{arith}
use Rattle.std.specs.Int.{div_ceil}
use Rattle.std.proofs.lemmas.Grind.{div_ceil_times}
use Rattle.planning.specs.Chunks.{rounded_up}

pub enough : (count n k : ℕ) → 0 < n → (rounded_up count n ≤ k) ↔ (count ≤ k * n)
unfolding rounded_up
enough count n k some =
    let one_more : ((count + n - 1) / n < suc k) ↔ (count + n - 1 < suc k * n) = div-lt_iff_lt-mul {k = n} {x = count + n - 1} {y = suc k} some in (
      (λ h. omega (arith, one_more.0 (omega (arith, h)), suc-mul k n)),
      (λ h. omega (arith, one_more.1 (omega (arith, h, suc-mul k n)))),
    )

-- it is enough itself
pub itself : (count n : ℕ) → 0 < n → count ≤ rounded_up count n * n
itself count n some = (enough count n (rounded_up count n) some).0 (le_refl (rounded_up count n))

-- a larger divisor gives no more
pub falls : (count n m : ℕ) → 0 < n → n ≤ m → rounded_up count m ≤ rounded_up count n
falls count n m some more =
    (enough count m (rounded_up count n) (omega arith)).1 (omega (arith, itself count n some, mul-le-mul_left (rounded_up count n) more))

-- and none gives more than the count
pub at_most : (count n : ℕ) → 0 < n → rounded_up count n ≤ count
at_most count n some = (enough count n count some).1 (omega (arith, mul-le-mul_left count some))

-- where there is something to divide, there is a quotient
pub above_none : (count n : ℕ) → 0 < n → 0 < count → 0 < rounded_up count n
above_none count n some more =
    by_cases (dec_lt 0 (rounded_up count n)) (λ above. above)
    (λ other. absurd (omega (arith, (enough count n 0 some).0 (omega arith), zero-mul n)))

-- more to divide gives no less, and two counts together no more than each by itself
pub rises : (s t n : ℕ) → 0 < n → s ≤ t → rounded_up s n ≤ rounded_up t n
rises s t n some less = (enough s n (rounded_up t n) some).1 (omega (arith, itself t n some))

pub shared : (s t n : ℕ) → 0 < n → rounded_up (s + t) n ≤ rounded_up s n + rounded_up t n
shared s t n some =
    (enough (s + t) n (rounded_up s n + rounded_up t n) some).1
    (rw (add-mul (rounded_up s n) (rounded_up t n) n) (omega (arith, itself s n some, itself t n some)))

-- whole multiples come out
pub apart : (k count n : ℕ) → 0 < n → rounded_up (k * n + count) n ≡ k + rounded_up count n
unfolding rounded_up
apart k count n some =
    let plain : k * n + count + n - 1 ≡ k * n + (count + n - 1) = omega arith in
    rw plain (mul-add-div_right some k (count + n - 1))

-- a number that is enough while the one before it is not
pub exactly : (count n k : ℕ) → 0 < n → count ≤ k * n → k * n < count + n → rounded_up count n ≡ k
exactly count n k some up down =
    let most = (enough count n k some).1 up in
    by_cases (dec_lt (rounded_up count n) k)
    (λ less. absurd (omega (arith, itself count n some, mul-le-mul_right n less, suc-mul (rounded_up count n) n)))
    (λ other. omega arith)

pub whole : (k n : ℕ) → 0 < n → rounded_up (k * n) n ≡ k
whole k n some = exactly (k * n) n k some (le_refl (k * n)) (omega arith)

-- so is what `div_ceil` gives
pub divided : (count n : ℕ) → 0 < n → div_ceil count n ≡ rounded_up count n
divided count n some =
    let bounds = div_ceil_times count n some in
    sym (exactly count n (div_ceil count n) some bounds.0 bounds.1)
