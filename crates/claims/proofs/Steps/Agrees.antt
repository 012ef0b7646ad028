-- A call's effect agrees with the account's step: one answer, and the device that the account after the step describes.
use mathlib.Core.Path.{◌≡◌, refl, sym, ap, ◌∙◌}
use mathlib.Core.Bool.{Bool, true, false, cond}
use mathlib.Core.List.{List}
use Prim.Native.Nat.{ℕ}
use lib.Dec.{eqb}
use borrow.Author.Tests.{eqb-true}
use Rattle.scheme.specs.Sealer.{Effect, refused}
use Rattle.scheme.specs.declared.State.{State}
use Rattle.claims.specs.Account.{Call, Fed, Account, account_refusal, account_count, account_done, account_refused, account_step, account_answer}
use Rattle.claims.specs.Run.{Device, device_after, answer_of}
use Rattle.claims.specs.Left.{store_left, logs_left, seal_left, state_left}
use Rattle.claims.proofs.Steps.Device.{device_of}

pub record Agrees (f : Fed) (a : Account) (call : Call) (e : Effect) : Type 0 where
  pub answer : answer_of e ≡ account_answer f a call
  pub device : device_after e ≡ device_of f (account_step f a call)

pub same_device : {s t : State} {store store' logs logs' seal seal' : List ℕ} → s ≡ t → store ≡ store' → logs ≡ logs' → seal ≡ seal'
    → ◌≡◌ {A = Device} (record { state = s; store = store; logs = logs; seal = seal }) (record { state = t; store = store'; logs = logs'; seal = seal' })
same_device p q r e = λ i. record { state = p i; store = q i; logs = r i; seal = e i }

module _ (f : Fed) (a : Account) (call : Call) where
  -- by the refusal: what is done where there is none, and what is left where there is one
  pub answer_done : account_refusal f a call ≡ 0 → account_answer f a call ≡ record { refusal = 0; count = account_count f a call }
  unfolding account_answer
  answer_done e = rw e

  pub step_done : account_refusal f a call ≡ 0 → account_step f a call ≡ account_done f a call
  unfolding account_step
  step_done e = rw e

  pub answer_refused : eqb (account_refusal f a call) 0 ≡ false → account_answer f a call ≡ record { refusal = account_refusal f a call; count = 0 }
  unfolding account_answer
  answer_refused e = rw e

  pub step_refused : eqb (account_refusal f a call) 0 ≡ false → account_step f a call ≡ account_refused a call
  unfolding account_step
  step_refused e = rw e

  pub step_either : (P : Account → Type 0) → (account_refusal f a call ≡ 0 → P (account_done f a call)) → P (account_refused a call) → P (account_step f a call)
  unfolding account_step
  step_either P done left = go (eqb (account_refusal f a call) 0) refl
    where
      go : (t : Bool) → eqb (account_refusal f a call) 0 ≡ t → P (cond t (account_done f a call) (account_refused a call))
      go true e = done (eqb-true (account_refusal f a call) 0 e)
      go false e = left

  -- append and close: where refused, all is left as it came
  pub agree : (n : ℕ) (done : Effect) → n ≡ account_refusal f a call
      → (account_refusal f a call ≡ 0 → answer_of done ≡ record { refusal = 0; count = account_count f a call })
      → (account_refusal f a call ≡ 0 → device_after done ≡ device_of f (account_done f a call))
      → account_refused a call ≡ a
      → Agrees f a call (cond (eqb n 0) done (refused n (state_left f a) (store_left f a) (logs_left f a) (seal_left f a)))
  agree n done same answers leaves kept = rw same (go (eqb (account_refusal f a call) 0) refl)
    where
      go : (t : Bool) → eqb (account_refusal f a call) 0 ≡ t
          → Agrees f a call (cond t done (refused (account_refusal f a call) (state_left f a) (store_left f a) (logs_left f a) (seal_left f a)))
      go true e =
          let none = eqb-true (account_refusal f a call) 0 e in
          record {
            answer = answers none ∙ sym (answer_done none);
            device = leaves none ∙ ap (device_of f) (sym (step_done none));
          }
      go false e = record { answer = sym (answer_refused e); device = ap (device_of f) (sym (step_refused e ∙ kept)) }
