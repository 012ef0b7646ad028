-- Close does to the device what it does to the account.
use mathlib.Core.Path.{◌≡◌, refl, sym, ap, ◌∙◌}
use mathlib.Core.Bool.{Bool, true, false, not, cond}
use mathlib.Core.List.{List}
use Prim.Native.Nat.{ℕ, ◌-◌, ◌*◌}
use native.Mathlib.Omega.{arith}
use lib.ListN.{length}
use Rattle.scheme.specs.Rules.{refusal_by}
use Rattle.scheme.specs.Items.{filler_length}
use Rattle.scheme.specs.State.{zero_state, fits}
use Rattle.scheme.specs.Sealer.{fillers_due, close_rules, closed, closes}
use Rattle.scheme.specs.declared.State.{State}
use Rattle.scheme.proofs.Rules.{passed}
use Rattle.scheme.proofs.Headers.{same_filler_length}
use Rattle.scheme.proofs.Burning.{zeroed}
use Rattle.claims.specs.Account.{Close, Fed, Account, seal_reached, with_lost, after_close, account_close_rules, account_refusal, account_count, account_done, account_refused}
use Rattle.claims.specs.Run.{device_after, answer_of}
use Rattle.claims.specs.Left.{store_left, logs_left, seal_left, placed, held, state_left}
use Rattle.claims.proofs.Good.{Laid}
use Rattle.claims.proofs.Steps.Agrees.{Agrees, agree, same_device}
use Rattle.claims.proofs.Steps.Begun.{Begun}
use Rattle.claims.proofs.Steps.Device.{state_held, device_of, left_fields, left_bad, left_bad_logs, left_seal}
use Rattle.claims.proofs.Steps.Fillers.{left, fill, after_close_lem, close_sealed, fill_count, fill_laid}
use Rattle.claims.proofs.Steps.Fits.{unfit_lost}
use Rattle.claims.proofs.Invariant.{close_fits}
use Rattle.claims.proofs.Steps.States.{fill_state, fill_seal, fill_logs, fill_lost, fill_front}
use Rattle.claims.proofs.Steps.StoreLeft.{store_left_lem}

module _ (f : Fed) (begun : Begun f) (a : Account) (laid : Laid f a) where
  fillers_left : fillers_due (store_left f a) (held f a) ≡ left f a
  unfolding fillers_due
  fillers_left = rw (left_fields f begun a laid).ratchet

  close_refusal : refusal_by (close_rules (state_left f a) (store_left f a) (logs_left f a) (seal_left f a)) ≡ account_refusal f a Close
  unfolding refusal_by close_rules account_refusal account_close_rules
  close_refusal = go a.lost (unfit_lost f begun a laid)
    where
      go : (t : Bool) → not (fits (store_left f a) (cond t zero_state (held f a)) (length (seal_left f a))) ≡ t
          → refusal_by (close_rules (cond t zero_state (held f a)) (store_left f a) (logs_left f a) (seal_left f a))
          ≡ refusal_by (account_close_rules f (with_lost a t))
      go true unfit =
          rw (left_bad f begun a laid, left_bad_logs f begun a laid, unfit, begun.starts.store, begun.starts.logs)
      go false unfit =
          let adds : seal_reached (after_close f (with_lost a false)) - seal_reached a ≡ left f a * filler_length f.store =
          omega (arith, close_sealed f begun (with_lost a false) laid.offset)
          in
          rw (
            left_bad f begun a laid,
            left_bad_logs f begun a laid,
            unfit,
            left_seal f begun a laid,
            fillers_left,
            same_filler_length (store_left f a) f.store (left_fields f begun a laid),
            adds,
          )

  close_kept : account_refusal f a Close ≡ 0 → a.lost ≡ false
  unfolding account_refusal account_close_rules
  close_kept e = passed (account_close_rules f a) refl e 6

  close_device : account_refusal f a Close ≡ 0
      → device_after (closed (held f a) (store_left f a) (logs_left f a) (seal_left f a)) ≡ device_of f (account_done f a Close)
  unfolding closed account_done
  close_device e =
      let k = left f a in
      let b = fill f k a in
      let same = left_fields f begun a laid in
      let fits = close_fits f begun a laid e in
      rw (after_close_lem f a laid.offset, fillers_left)
      (same_device
      (fill_state f begun (store_left f a) same k a laid.offset refl
      ∙ sym (state_held f b (fill_lost f k a ∙ close_kept e)))
      (store_left_lem f a laid begun.store
      ∙ ap (zeroed f.store) (sym (fill_front f k a laid.offset refl))
      ∙ sym (store_left_lem f b (fill_laid f begun k a laid refl fits) begun.store))
      (ap (λ (logs : List (List ℕ)). placed f 1 logs f.logs) (sym (fill_logs f k a)))
      (fill_seal f begun (store_left f a) same k a laid.offset refl fits))

  close_answer : answer_of (closed (held f a) (store_left f a) (logs_left f a) (seal_left f a)) ≡ record { refusal = 0; count = account_count f a Close }
  unfolding closed account_count
  close_answer =
      let count : length (fill f (left f a) a).items - length a.items ≡ left f a = omega (arith, fill_count f (left f a) a) in
      rw (after_close_lem f a laid.offset, fillers_left, count)

  pub close_agrees : Agrees f a Close (closes (state_left f a) (store_left f a) (logs_left f a) (seal_left f a))
  unfolding closes account_refused
  close_agrees =
      agree f a Close (refusal_by (close_rules (state_left f a) (store_left f a) (logs_left f a) (seal_left f a)))
      (closed (state_left f a) (store_left f a) (logs_left f a) (seal_left f a))
      close_refusal
      (λ e. ap (λ (s : State). answer_of (closed s (store_left f a) (logs_left f a) (seal_left f a))) (state_held f a (close_kept e)) ∙ close_answer)
      (λ e. ap (λ (s : State). device_after (closed s (store_left f a) (logs_left f a) (seal_left f a))) (state_held f a (close_kept e)) ∙ close_device e)
      refl
