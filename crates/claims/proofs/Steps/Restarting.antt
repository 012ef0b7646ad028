-- Restart does to the device what it does to the account.
use mathlib.Core.Path.{◌≡◌, refl, sym, ap, ap₂, ◌∙◌}
use mathlib.Core.Bool.{Bool, true, false, not, cond}
use mathlib.Core.List.{List, [], ◌∷◌, ◌++◌}
use Prim.Native.Nat.{ℕ, ◌+◌}
use native.Mathlib.Omega.{arith}
use lib.ListN.{length, length-append}
use Rattle.scheme.specs.Bytes.{joined}
use Rattle.scheme.specs.Rules.{refusal_by, some_from}
use Rattle.scheme.specs.Store.{chunk_count, chunk, burned, any_burned}
use Rattle.scheme.specs.Items.{restart_length}
use Rattle.scheme.specs.State.{zero_state, fits}
use Rattle.scheme.specs.Sealer.{sealed_more, stepped, restart_rules, restart_item, restarted, restarts}
use Rattle.scheme.specs.declared.State.{State}
use Rattle.scheme.proofs.Rules.{passed}
use Rattle.scheme.proofs.Scans.{same_scan}
use Rattle.scheme.proofs.Areas.{joined_last}
use Rattle.scheme.proofs.Headers.{same_restart_length}
use Rattle.scheme.proofs.Tags.{same_tag}
use Rattle.scheme.proofs.Burning.{zeroed}
use Rattle.claims.specs.Account.{Restart, Fed, Account, carried, seal_reached, restart_due, with_lost, with_item, step_on, account_restart, account_restart_rules, account_refusal, account_count, account_done, account_refused}
use Rattle.claims.specs.Run.{device_after, answer_of}
use Rattle.claims.specs.Left.{store_left, logs_left, seal_left, placed, eight, held, state_left}
use Rattle.claims.proofs.Good.{Laid}
use Rattle.claims.proofs.Steps.Agrees.{Agrees, agree, same_device}
use Rattle.claims.proofs.Steps.Begun.{Begun}
use Rattle.claims.proofs.Steps.Device.{state_held, device_of, left_fields, left_bad, left_bad_logs, left_seal, seal_append}
use Rattle.claims.proofs.Steps.Fits.{unfit_lost}
use Rattle.claims.proofs.Steps.Restarts.{restart_long}
use Rattle.claims.proofs.Invariant.{restart_asks, done_laid}
use Rattle.claims.proofs.Steps.States.{first_due, stepped_held, burned_due, step_front}
use Rattle.claims.proofs.Steps.Stepping.{step_items, step_logs, step_lost}
use Rattle.claims.proofs.Steps.StoreLeft.{store_left_lem, burned_left}

module _ (f : Fed) (begun : Begun f) (a : Account) (laid : Laid f a) (number : ℕ) where
  -- a chunk is burned just where an item carries one
  any_left : any_burned (store_left f a) ≡ some_from (carried a) 0 (chunk_count f.store)
  unfolding any_burned
  any_left =
      rw (left_fields f begun a laid).chunk_count
      (same_scan (burned (store_left f a)) (carried a) 0 (chunk_count f.store)
      (λ x low high. burned_left f a laid begun.store begun.unused x (omega arith)))

  restart_refusal : refusal_by (restart_rules (state_left f a) (store_left f a) (logs_left f a) (seal_left f a) number) ≡ account_refusal f a (Restart number)
  unfolding refusal_by restart_rules account_refusal account_restart_rules
  restart_refusal = go a.lost (unfit_lost f begun a laid)
    where
      go : (t : Bool) → not (fits (store_left f a) (cond t zero_state (held f a)) (length (seal_left f a))) ≡ t
          → refusal_by (restart_rules (cond t zero_state (held f a)) (store_left f a) (logs_left f a) (seal_left f a) number)
          ≡ refusal_by (account_restart_rules f (with_lost a t) number)
      go true unfit =
          rw (left_bad f begun a laid, left_bad_logs f begun a laid, unfit, begun.starts.store, begun.starts.logs)
      go false unfit =
          rw (
            left_bad f begun a laid,
            left_bad_logs f begun a laid,
            unfit,
            (left_fields f begun a laid).ratchet,
            (left_fields f begun a laid).chunk_count,
            same_restart_length (store_left f a) f.store (left_fields f begun a laid),
            left_seal f begun a laid,
            any_left,
          )

  restart_kept : account_refusal f a (Restart number) ≡ 0 → a.lost ≡ false
  unfolding account_refusal account_restart_rules
  restart_kept e = passed (account_restart_rules f a number) refl e 6

  -- its item is the account's
  item_made : a.r.0 ≡ 0 → restart_item (store_left f a) (held f a) number ≡ restart_due f a number
  unfolding restart_item restart_due
  item_made first = rw (first_due f begun a laid first, same_tag (store_left f a) f.store (left_fields f begun a laid), (left_fields f begun a laid).id)

  restart_state : a.r.0 ≡ 0
      → stepped (store_left f a) (chunk (store_left f a) a.c.0) (sealed_more (held f a) (restart_length (store_left f a)))
      ≡ held f (step_on f (with_item a (restart_due f a number)))
  restart_state first =
      ap₂ (stepped (store_left f a)) (first_due f begun a laid first)
      (ap (λ (sealed : ℕ). record { chunk = a.c; offset = a.r; key = (held f a).key; lengths = eight a.logs; seal_length = sealed }) sealed_more_lem)
      ∙ stepped_held f (store_left f a) (left_fields f begun a laid) (with_item a (restart_due f a number)) laid.offset (held f a).key
    where
      sealed_more_lem : seal_reached a + restart_length (store_left f a) ≡ length (joined (a.items ++ (restart_due f a number ∷ [])))
      sealed_more_lem = rw (joined_last, length-append, restart_long f begun, same_restart_length (store_left f a) f.store (left_fields f begun a laid))

  restart_device : account_refusal f a (Restart number) ≡ 0
      → device_after (restarted (held f a) (store_left f a) (logs_left f a) (seal_left f a) number) ≡ device_of f (account_done f a (Restart number))
  unfolding restarted account_done account_restart
  restart_device e =
      let asks = restart_asks f begun a laid number e in
      let it = restart_due f a number in
      let b = with_item a it in
      same_device
      (restart_state asks.first ∙ sym (state_held f (step_on f b) (step_lost f b ∙ restart_kept e)))
      (burned_due f begun a laid asks.room
      ∙ ap (zeroed f.store) (sym (step_front f b))
      ∙ sym (store_left_lem f (step_on f b) (done_laid f begun a (Restart number) laid e) begun.store))
      (ap (λ (logs : List (List ℕ)). placed f 1 logs f.logs) (sym (step_logs f b)))
      (rw (item_made asks.first, step_items f b) (seal_append f a it (omega (arith, asks.sealed, restart_long f begun a number))))

  restart_answer : answer_of (restarted (held f a) (store_left f a) (logs_left f a) (seal_left f a) number)
      ≡ record { refusal = 0; count = account_count f a (Restart number) }
  unfolding restarted account_count
  restart_answer = rw (left_fields f begun a laid).ratchet

  pub restart_agrees : Agrees f a (Restart number) (restarts (state_left f a) (store_left f a) (logs_left f a) (seal_left f a) number)
  unfolding restarts account_refused
  restart_agrees =
      agree f a (Restart number) (refusal_by (restart_rules (state_left f a) (store_left f a) (logs_left f a) (seal_left f a) number))
      (restarted (state_left f a) (store_left f a) (logs_left f a) (seal_left f a) number)
      restart_refusal
      (λ e. ap (λ (s : State). answer_of (restarted s (store_left f a) (logs_left f a) (seal_left f a) number)) (state_held f a (restart_kept e)) ∙ restart_answer)
      (λ e. ap (λ (s : State). device_after (restarted s (store_left f a) (logs_left f a) (seal_left f a) number)) (state_held f a (restart_kept e)) ∙ restart_device e)
      refl
