-- A cut leaves of the device what it leaves of the account: the state is lost, or was one of zeros.
use mathlib.Core.Path.{◌≡◌, refl, sym, ap, ◌∙◌}
use mathlib.Core.Bool.{Bool, true, false, cond, or-true}
use mathlib.Core.Logic.{by_cases}
use Prim.Native.Nat.{◌<◌}
use native.Mathlib.Decide.{dec_lt}
use native.Mathlib.Omega.{arith}
use lib.Dec.{ltb}
use lib.ListN.{length}
use borrow.Author.Tests.{ltb-true, lt-ltb}
use Rattle.scheme.specs.State.{zero_state}
use Rattle.scheme.proofs.Burning.{zeroed}
use Rattle.claims.specs.Account.{Cut, Fed, Account, losing, after_cut, account_refusal, account_count, account_done, account_step, account_answer}
use Rattle.claims.specs.Run.{device_after, after_loss}
use Rattle.claims.specs.Left.{store_left, state_left}
use Rattle.claims.proofs.Good.{Laid}
use Rattle.claims.proofs.Steps.Agrees.{Agrees, same_device}
use Rattle.claims.proofs.Steps.Begun.{Begun}
use Rattle.claims.proofs.Steps.Device.{device_of}
use Rattle.claims.proofs.Invariant.{cut_half, cut_laid, losing_laid}
use Rattle.claims.proofs.Steps.Opening.{no_offset, zero_held, store_same}
use Rattle.claims.proofs.Steps.StoreLeft.{front_half, store_left_lem}

module _ (f : Fed) (begun : Begun f) (a : Account) (laid : Laid f a) where
  -- a chunk that is half used has an item
  half_some : 0 < a.r.0 → 0 < length a.items
  half_some inner =
      by_cases (dec_lt 0 (length a.items)) (λ some. some) (λ none. absurd (omega (arith, inner, no_offset f begun a laid (omega arith))))

  half_state : 0 < a.r.0 → zero_state ≡ state_left f (cut_half a)
  half_state inner = rw (lt-ltb 0 (length a.items) (half_some inner), or-true a.lost)

  half_store : 0 < a.r.0 → store_left f a ≡ store_left f (cut_half a)
  half_store inner =
      store_left_lem f a laid begun.store
      ∙ ap (zeroed f.store) (front_half a inner)
      ∙ sym (store_left_lem f (cut_half a) (cut_laid f begun a laid inner) begun.store)

  pub cut_agrees : Agrees f a Cut (after_loss (device_of f a))
  unfolding account_answer account_step account_refusal account_count account_done after_cut
  cut_agrees = record { answer = refl; device = go (ltb 0 a.r.0) refl }
    where
      go : (t : Bool) → ltb 0 a.r.0 ≡ t → device_after (after_loss (device_of f a)) ≡ device_of f (cond t (cut_half a) (losing a))
      go true e = let inner = ltb-true 0 a.r.0 e in same_device (half_state inner) (half_store inner) refl refl
      go false e = same_device (zero_held f begun a laid) (store_same f begun a laid _ (losing_laid f begun a laid)) refl refl
