-- The constants are what the standard says that they represent: one test over the whole table, and the law that turns it into the
-- rule at each entry.
use Rattle.std.proofs.Common.{ℕ, zero, suc, ◌+◌, ◌*◌, ◌^◌, ◌<◌, Bool, true, false, cond, ◌&&◌, T, ltb, leb, List, [], ◌∷◌, length, get_or, take, le_of_suc-le-suc, not-suc-le-zero, ltb→lt, leb→le}
use Rattle.compression.specs.Fips.{K, H₀}
use Rattle.compression.specs.Constants.{RootBits, no_divisor, primes_to, primes, starting_words}

-- both tests hold
left : (a b : Bool) → T (a && b) → T a
left true b t = tt
left false b t = t

right : (a b : Bool) → T (a && b) → T b
right true b t = t
right false b t = absurd t

-- the largest number up to n whose e-th power is at most p
abbrev whole : ℕ → ℕ → ℕ → ℕ
whole e p zero = 0
whole e p (suc n) = let less = whole e p n in cond (leb (suc n ^ e) p) (suc n) less

-- the test of one entry
abbrev root_test : ℕ → ℕ → ℕ → Bool
root_test e p k =
    let n = whole e p 20 in
    ltb k (2 ^ 32) && (leb ((n * 2 ^ 32 + k) ^ e) (p * (2 ^ 32) ^ e) && ltb (p * (2 ^ 32) ^ e) ((n * 2 ^ 32 + k + 1) ^ e))

root_bits : (e p k : ℕ) → T (root_test e p k) → RootBits e p k
root_bits e p k t =
    let n = whole e p 20 in
    let bounds = right (ltb k (2 ^ 32)) _ t in
    record {
      n = n;
      bits = ltb→lt k (2 ^ 32) (left (ltb k (2 ^ 32)) _ t);
      low = leb→le _ _ (left (leb ((n * 2 ^ 32 + k) ^ e) (p * (2 ^ 32) ^ e)) _ bounds);
      high = ltb→lt _ _ (right (leb ((n * 2 ^ 32 + k) ^ e) (p * (2 ^ 32) ^ e)) _ bounds);
    }

-- the test passes at each entry of two lists side by side
abbrev every : ℕ → List ℕ → List ℕ → Bool
every e [] ks = true
every e (p ∷ ps) [] = true
every e (p ∷ ps) (k ∷ ks) = root_test e p k && every e ps ks

at : (e : ℕ) (ps ks : List ℕ) → T (every e ps ks) → (t : ℕ) → t < length ps → t < length ks → RootBits e (get_or ps t 0) (get_or ks t 0)
at e [] ks pass t h l = absurd (not-suc-le-zero h)
at e (p ∷ ps) [] pass t h l = absurd (not-suc-le-zero l)
at e (p ∷ ps) (k ∷ ks) pass zero h l = root_bits e p k (left (root_test e p k) (every e ps ks) pass)
at e (p ∷ ps) (k ∷ ks) pass (suc t) h l =
    at e ps ks (right (root_test e p k) (every e ps ks) pass) t (le_of_suc-le-suc h) (le_of_suc-le-suc l)

-- 4.2.2: the cube roots of the first 64 primes
pub constants : (t : ℕ) → t < 64 → RootBits 3 (get_or primes t 0) (get_or K t 0)
unfolding K primes primes_to no_divisor
constants t h = at 3 primes K tt t h h

-- 5.3.3: the square roots of the first 8 primes
pub starting_words_lem : (t : ℕ) → t < 8 → RootBits 2 (get_or (take 8 primes) t 0) (get_or starting_words t 0)
unfolding H₀ primes primes_to no_divisor starting_words
starting_words_lem t h = at 2 (take 8 primes) starting_words tt t h h
