-- Laws of an output that is cut: at its full length, where it stays whole. An HMAC is a digest, so it has 32 bytes, whatever
-- is hashed.
use mathlib.Core.Path.{◌≡◌, refl, ap, ◌∙◌}
use mathlib.Core.List.{List, ◌++◌, append-nil}
use mathlib.Core.Logic.{by_cases}
use Prim.Native.Nat.{ℕ, ◌-◌, ◌<◌, ◌≤◌}
use native.Mathlib.Decide.{dec_lt}
use native.Mathlib.Omega.{arith}
use lib.ListN.{length, take, drop, replicate}
use lib.Seq.{take_all, take-take, take-append-le, drop_at, length-take-le}
use Rattle.compression.specs.Fips.{sha256}
use Rattle.hmac.specs.Rfc2104.{masked, ipad, opad, hmac, cut, tagged}

-- a cut at the full length or behind it is the whole output
pub cut_whole : (output : List ℕ) (t : ℕ) → length output ≡ 32 → 32 ≤ t → cut t output ≡ output
unfolding cut
cut_whole output t size all =
    let none : 32 - t ≡ 0 = omega arith in
    ap (λ l. l ++ replicate (32 - t) 0) (take_all t output (omega arith)) ∙ ap (λ k. output ++ replicate k 0) none ∙ append-nil output

digest_length : (m : List ℕ) → length (sha256 m) ≡ 32
unfolding sha256
digest_length m = refl

pub hmac_length : (key text : List ℕ) → length (hmac key text) ≡ 32
unfolding hmac
hmac_length key text = digest_length (masked opad key ++ sha256 (masked ipad key ++ text))

-- a cut of HMAC's output is the tag
pub tagged_by : (key text : List ℕ) (wanted : ℕ) {output r : List ℕ} → output ≡ hmac key text → r ≡ cut wanted output → r ≡ tagged key text wanted
unfolding tagged
tagged_by key text wanted is made = made ∙ ap (cut wanted) is

-- of one number wanted, and of another that is the same
pub as_wanted : (key text : List ℕ) (a b : ℕ) {r : List ℕ} → r ≡ tagged key text a → a ≡ b → r ≡ tagged key text b
as_wanted key text a b made same = made ∙ ap (tagged key text) same

module _ (key text : List ℕ) where
  -- a tag of 32 bytes is HMAC's output
  pub whole_tag : (t : ℕ) → 32 ≤ t → tagged key text t ≡ hmac key text
  unfolding tagged
  whole_tag t all = cut_whole (hmac key text) t (hmac_length key text) all

  module _ (t : ℕ) (within : t ≤ 32) where
    front_length : length (take t (hmac key text)) ≡ t
    front_length = length-take-le t (hmac key text) (omega (arith, hmac_length key text))

    -- the bytes of a tag are the front of HMAC's output, and those behind them zeros
    pub tagged_front : (n : ℕ) → n ≤ t → take n (tagged key text t) ≡ take n (hmac key text)
    unfolding tagged cut
    tagged_front n few =
        take-append-le n (take t (hmac key text)) (replicate (32 - t) 0) (omega (arith, front_length)) ∙ take-take n t (hmac key text) few

    pub tagged_behind : drop t (tagged key text t) ≡ replicate (32 - t) 0
    unfolding tagged cut
    tagged_behind = drop_at (take t (hmac key text)) (replicate (32 - t) 0) t front_length

  -- so of any number wanted, be it that many bytes or all
  pub front_of : (n t : ℕ) → (t < 32 → n ≤ t) → take n (tagged key text t) ≡ take n (hmac key text)
  front_of n t enough =
      by_cases (dec_lt t 32) (λ few. tagged_front t (omega arith) n (enough few)) (λ many. ap (take n) (whole_tag t (omega arith)))
