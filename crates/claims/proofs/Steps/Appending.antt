-- Append does to the device what it does to the account.
use mathlib.Core.Path.{◌≡◌, refl, sym, ap, ◌∙◌}
use mathlib.Core.Bool.{Bool, true, false, not, cond}
use mathlib.Core.List.{List}
use Prim.Native.Nat.{ℕ, ◌-◌}
use native.Mathlib.Omega.{arith}
use lib.ListN.{length}
use Rattle.scheme.specs.Rules.{refusal_by}
use Rattle.scheme.specs.State.{zero_state, fits}
use Rattle.scheme.specs.Sealer.{append_rules, appended, appends}
use Rattle.scheme.specs.declared.State.{State}
use Rattle.scheme.proofs.Rules.{passed}
use Rattle.scheme.proofs.Headers.{same_log_place, same_entry_length}
use Rattle.scheme.proofs.Burning.{zeroed}
use Rattle.claims.specs.Account.{Append, Fed, Account, entry_due, with_lost, with_item, with_data, step_on, account_append, account_append_rules, account_refusal, account_count, account_done, account_refused}
use Rattle.claims.specs.Run.{device_after, answer_of}
use Rattle.claims.specs.Left.{store_left, logs_left, seal_left, held, state_left}
use Rattle.claims.proofs.Good.{Laid}
use Rattle.claims.proofs.Steps.Agrees.{Agrees, agree, same_device}
use Rattle.claims.proofs.Steps.Begun.{Begun}
use Rattle.claims.proofs.Steps.Device.{state_held, device_of, eight_log, left_fields, left_bad, left_bad_logs, left_seal, seal_append}
use Rattle.claims.proofs.Steps.Entries.{entry_long}
use Rattle.claims.proofs.Steps.Fits.{unfit_lost}
use Rattle.claims.proofs.Invariant.{append_asks, done_laid}
use Rattle.claims.proofs.Steps.LogsLeft.{logs_room}
use Rattle.claims.proofs.Steps.Placed.{placed_grown}
use Rattle.claims.proofs.Steps.States.{appended_state, burned_due, entry_made, step_front}
use Rattle.claims.proofs.Steps.Stepping.{step_items, step_logs, step_lost}
use Rattle.claims.proofs.Steps.StoreLeft.{store_left_lem}

module _ (f : Fed) (begun : Begun f) (a : Account) (laid : Laid f a) (phase : ℕ) (bytes : List ℕ) where
  append_refusal : refusal_by (append_rules (state_left f a) (store_left f a) (logs_left f a) (seal_left f a) phase bytes)
      ≡ account_refusal f a (Append phase bytes)
  unfolding refusal_by append_rules account_refusal account_append_rules
  append_refusal = go a.lost (unfit_lost f begun a laid)
    where
      go : (t : Bool) → not (fits (store_left f a) (cond t zero_state (held f a)) (length (seal_left f a))) ≡ t
          → refusal_by (append_rules (cond t zero_state (held f a)) (store_left f a) (logs_left f a) (seal_left f a) phase bytes)
          ≡ refusal_by (account_append_rules f (with_lost a t) phase bytes)
      go true unfit =
          rw (left_bad f begun a laid, left_bad_logs f begun a laid, unfit, begun.starts.store, begun.starts.logs)
      go false unfit =
          rw (
            left_bad f begun a laid,
            left_bad_logs f begun a laid,
            unfit,
            (left_fields f begun a laid).phases,
            (left_fields f begun a laid).chunk_count,
            (left_fields f begun a laid).data_limit,
            (left_fields f begun a laid).log_capacity,
            same_entry_length (store_left f a) f.store (left_fields f begun a laid),
            left_seal f begun a laid,
            eight_log a.logs (8 - length a.logs) (phase - 1),
          )

  append_kept : account_refusal f a (Append phase bytes) ≡ 0 → a.lost ≡ false
  unfolding account_refusal account_append_rules
  append_kept e = passed (account_append_rules f a phase bytes) refl e 6

  append_device : account_refusal f a (Append phase bytes) ≡ 0
      → device_after (appended (held f a) (store_left f a) (logs_left f a) (seal_left f a) phase bytes) ≡ device_of f (account_done f a (Append phase bytes))
  unfolding appended account_done account_append
  append_device e =
      let asks = append_asks f begun a laid phase bytes e in
      let it = entry_due f a phase bytes in
      let long = entry_long f begun a phase bytes in
      let b = with_data (with_item a it) phase bytes in
      let room = logs_room f begun a.logs laid.logs in
      same_device
      (appended_state f begun a laid phase bytes it (omega arith) long
      ∙ sym (state_held f (step_on f b) (step_lost f b ∙ append_kept e)))
      (burned_due f begun a laid asks.room
      ∙ ap (zeroed f.store) (sym (step_front f b))
      ∙ sym (store_left_lem f (step_on f b) (done_laid f begun a (Append phase bytes) laid e) begun.store))
      (rw (eight_log a.logs (8 - length a.logs) (phase - 1), step_logs f b, same_log_place (store_left f a) f.store (left_fields f begun a laid))
      (sym (placed_grown f 0 a.logs f.logs room (phase - 1) phase bytes (omega arith) (omega arith) asks.fits)))
      (rw (entry_made f begun a laid phase bytes, step_items f b) (seal_append f a it (omega arith)))

  append_answer : answer_of (appended (held f a) (store_left f a) (logs_left f a) (seal_left f a) phase bytes)
      ≡ record { refusal = 0; count = account_count f a (Append phase bytes) }
  unfolding appended account_count
  append_answer = rw (left_fields f begun a laid).ratchet

  pub append_agrees : Agrees f a (Append phase bytes) (appends (state_left f a) (store_left f a) (logs_left f a) (seal_left f a) phase bytes)
  unfolding appends account_refused
  append_agrees =
      agree f a (Append phase bytes) (refusal_by (append_rules (state_left f a) (store_left f a) (logs_left f a) (seal_left f a) phase bytes))
      (appended (state_left f a) (store_left f a) (logs_left f a) (seal_left f a) phase bytes)
      append_refusal
      (λ e. ap (λ (s : State). answer_of (appended s (store_left f a) (logs_left f a) (seal_left f a) phase bytes)) (state_held f a (append_kept e)) ∙ append_answer)
      (λ e. ap (λ (s : State). device_after (appended s (store_left f a) (logs_left f a) (seal_left f a) phase bytes)) (state_held f a (append_kept e)) ∙ append_device e)
      refl
