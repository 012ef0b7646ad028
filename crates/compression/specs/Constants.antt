-- What FIPS 180-4 says that the constants represent (4.2.2, 5.3.3).
use Rattle.std.specs.Prelude.{ℕ, zero, suc, ◌+◌, ◌*◌, ◌%◌, ◌^◌, ◌<◌, ◌≤◌, Bool, true, cond, not, ◌&&◌, List, [], ◌∷◌, ◌++◌, ◌==◌}
use Rattle.compression.specs.Fips.{H₀}

-- k is the first 32 bits of the fractional part of the e-th root of p: some whole number n stands before it
pub record RootBits (e p k : ℕ) : Type 0 where
  pub n : ℕ
  pub bits : k < 2 ^ 32
  pub low : (n * 2 ^ 32 + k) ^ e ≤ p * (2 ^ 32) ^ e
  pub high : p * (2 ^ 32) ^ e < (n * 2 ^ 32 + k + 1) ^ e

-- no number from 2 to d divides p
unfoldable pub no_divisor : ℕ → ℕ → Bool
no_divisor p zero = true
no_divisor p (suc zero) = true
no_divisor p (suc (suc d)) = let rest = no_divisor p (suc d) in not (p % suc (suc d) == 0) && rest

-- the primes from 2 to n + 1
unfoldable pub primes_to : ℕ → List ℕ
primes_to zero = []
primes_to (suc n) =
    let before = primes_to n in
    cond (no_divisor (suc (suc n)) (suc n)) (before ++ (suc (suc n) ∷ [])) before

-- the first 64 primes end with 311
unfoldable pub primes : List ℕ
primes = primes_to 310

-- the starting words as a list
unfoldable pub starting_words : List ℕ
starting_words = H₀.a ∷ H₀.b ∷ H₀.c ∷ H₀.d ∷ H₀.e ∷ H₀.f ∷ H₀.g ∷ H₀.h ∷ []
