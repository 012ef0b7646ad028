-- The store that an account leaves is the unused one with zeros at its first chunks, and its burned chunks are those carried.
use mathlib.Core.Path.{◌≡◌, refl, sym, ap, ◌∙◌}
use mathlib.Core.Bool.{true, false}
use mathlib.Core.Logic.{by_cases}
use mathlib.Core.List.{List}
use Prim.Native.Nat.{ℕ, zero, suc, ◌+◌, ◌-◌, ◌≤◌, ◌<◌}
use native.Mathlib.Nat.{add-zero, add-suc}
use native.Mathlib.Decide.{ℕ_discrete, dec_lt}
use native.Mathlib.Omega.{arith}
use borrow.Author.Tests.{eq-eqb, ne_eqb, lt-ltb, le-ltb}
use Rattle.scheme.specs.Store.{chunk_count, burned}
use Rattle.scheme.specs.Acceptable.{KeyStore, Burned}
use Rattle.scheme.proofs.Burning.{zeroed, zeroed_fields, zeroed_store, zeroed_later, zeroed_burned}
use Rattle.scheme.proofs.Acceptance.Stores.{burned_is, unburned_is}
use Rattle.claims.specs.Account.{Fed, Account, carried}
use Rattle.claims.specs.Left.{burned_up_to, store_left}
use Rattle.claims.proofs.Good.{front, Laid}

pub front_whole : (a : Account) → a.r.0 ≡ 0 → front a ≡ a.c.0
front_whole a e = rw (eq-eqb a.r.0 0 e)

pub front_half : (a : Account) → 0 < a.r.0 → front a ≡ suc a.c.0
front_half a h = rw (ne_eqb a.r.0 0 (λ none. omega arith))

module _ (f : Fed) (a : Account) (laid : Laid f a) (ok : KeyStore f.store) where
  pub chunk_at_most : a.c.0 ≤ chunk_count f.store
  chunk_at_most =
      by_cases (ℕ_discrete a.r.0 0)
      (λ none. omega (arith, front_whole a none, laid.spent))
      (λ some. omega (arith, front_half a (omega arith), laid.spent))

  pub chunk_below : 0 < a.r.0 → a.c.0 < chunk_count f.store
  chunk_below h = omega (arith, front_half a h, laid.spent)

  -- what goes on with each chunk that is carried ends at the front
  module _ {A : Type 0} (g h : ℕ → A) (first : g 0 ≡ h 0) (on : (n : ℕ) → carried a n ≡ true → g n ≡ h n → g (suc n) ≡ h (suc n))
      (stays : (n : ℕ) → carried a n ≡ false → g (suc n) ≡ g n) where
    fold_low : (n : ℕ) → n ≤ front a → g n ≡ h n
    fold_low zero most = first
    fold_low (suc n) most = on n (laid.burned n ∙ lt-ltb n (front a) most) (fold_low n (omega arith))

    fold_high : (k : ℕ) → g (front a + k) ≡ h (front a)
    fold_high zero = rw add-zero (fold_low (front a) (omega arith))
    fold_high (suc k) = rw add-suc (stays (front a + k) (laid.burned (front a + k) ∙ le-ltb (front a + k) (front a) (omega arith)) ∙ fold_high k)

    pub fold_front : g (chunk_count f.store) ≡ h (front a)
    fold_front =
        let most = laid.spent in
        let there : chunk_count f.store ≡ front a + (chunk_count f.store - front a) = omega arith in
        ap g there ∙ fold_high (chunk_count f.store - front a)

  pub store_left_lem : store_left f a ≡ zeroed f.store (front a)
  unfolding burned_up_to zeroed
  store_left_lem = fold_front (burned_up_to f a) (zeroed f.store) refl (λ n taken same. rw (taken, same)) (λ n free. rw free)

  -- where the store was unused, the burned chunks are those carried
  pub burned_left : ((x : ℕ) → x < chunk_count f.store → Burned f.store x → ⊥)
      → (x : ℕ) → x < chunk_count f.store → burned (store_left f a) x ≡ carried a x
  burned_left unused x h =
      let st = f.store in
      let n = front a in
      let store = zeroed_store st ok n laid.spent in
      let below : x < chunk_count (zeroed st n) = omega (arith, (zeroed_fields st ok n laid.spent).chunk_count) in
      ap (λ (l : List ℕ). burned l x) store_left_lem
      ∙ by_cases (dec_lt x n)
      (λ before. (burned_is (zeroed st n) store x below).1 (zeroed_burned st ok n laid.spent x before) ∙ sym (lt-ltb x n before))
      (λ late.
      let same = zeroed_later st ok n laid.spent x (omega arith) in
      (unburned_is (zeroed st n) store x below).1 (λ is. unused x h (sym same ∙ is)) ∙ sym (le-ltb x n (omega arith)))
      ∙ sym (laid.burned x)
