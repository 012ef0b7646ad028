-- Stepping on changes the place that is due, and nothing else.
use mathlib.Core.Path.{◌≡◌, refl}
use mathlib.Core.Bool.{Bool, true, false, cond}
use Prim.Native.Nat.{suc}
use lib.Dec.{eqb}
use borrow.Author.Tests.{eqb-true, eqb-false, eq-eqb, ne_eqb}
use Rattle.scheme.specs.Store.{ratchet}
use Rattle.claims.specs.Account.{Fed, Account, step_on}

-- the two places that an account may step on to
abbrev pub turned : Account → Account
turned a = record { c = record { 0 = suc a.c.0 }; r = record { 0 = 0 }; items = a.items; logs = a.logs; lost = a.lost; waiting = a.waiting }

abbrev pub onward : Account → Account
onward a = record { c = a.c; r = record { 0 = suc a.r.0 }; items = a.items; logs = a.logs; lost = a.lost; waiting = a.waiting }

module _ (f : Fed) (a : Account) where
  pub step_turned : suc a.r.0 ≡ ratchet f.store → step_on f a ≡ turned a
  unfolding step_on
  step_turned e = rw (eq-eqb (suc a.r.0) (ratchet f.store) e)

  pub step_onward : (suc a.r.0 ≡ ratchet f.store → ⊥) → step_on f a ≡ onward a
  unfolding step_on
  step_onward e = rw (ne_eqb (suc a.r.0) (ratchet f.store) e)

  pub step_cases : (P : Account → Type 0) → (suc a.r.0 ≡ ratchet f.store → P (turned a))
      → ((suc a.r.0 ≡ ratchet f.store → ⊥) → P (onward a)) → P (step_on f a)
  unfolding step_on
  step_cases P turn on = go (eqb (suc a.r.0) (ratchet f.store)) refl
    where
      go : (t : Bool) → eqb (suc a.r.0) (ratchet f.store) ≡ t → P (cond t (turned a) (onward a))
      go true e = turn (eqb-true (suc a.r.0) (ratchet f.store) e)
      go false e = on (eqb-false (suc a.r.0) (ratchet f.store) e)

  pub step_items : (step_on f a).items ≡ a.items
  step_items = step_cases (λ b. b.items ≡ a.items) (λ e. refl) (λ e. refl)

  pub step_logs : (step_on f a).logs ≡ a.logs
  step_logs = step_cases (λ b. b.logs ≡ a.logs) (λ e. refl) (λ e. refl)

  pub step_lost : (step_on f a).lost ≡ a.lost
  step_lost = step_cases (λ b. b.lost ≡ a.lost) (λ e. refl) (λ e. refl)

  pub step_waiting : (step_on f a).waiting ≡ a.waiting
  step_waiting = step_cases (λ b. b.waiting ≡ a.waiting) (λ e. refl) (λ e. refl)
