-- The least ratchet speaks of the device's calls: they answer to a plan what the account answers (`device_answers_lem`), so the chunks that are
-- left last just as `least_ratchet` says (`foretold`).
use mathlib.Core.Path.{◌≡◌, ap, ◌∙◌}
use mathlib.Core.List.{List, [], ◌∷◌, ◌++◌}
use Prim.Native.Nat.{ℕ, ◌≤◌, ◌<◌}
use native.Mathlib.Nat.{lt_of_not-le}
use native.Mathlib.Omega.{arith}
use Rattle.std.specs.Prelude.{Option, Some, None, Result, Ok, Err}
use Rattle.scheme.specs.Store.{chunk_count, ratchet}
use Rattle.scheme.specs.declared.Refusal.{Refusal}
use Rattle.planning.specs.Chunks.{rounded_up, chunks_for}
use Rattle.planning.specs.Ratchet.{Planned}
use Rattle.planning.proofs.Plans.{is_least, nothing_lasts}
use Rattle.planning.proofs.Quotients.{at_most}
use Rattle.planning.proofs.Sums.{antitone}
use Rattle.claims.specs.Account.{Call, Fed, Account, started, account_step, account_from, answers_from, NoneHalfUsed, AllowedBy, HistoryFrom}
use Rattle.claims.specs.Run.{Device, run_answers, History}
use Rattle.claims.specs.Claim.{Starts}
use Rattle.claims.specs.Plan.{Entry, interval, followed, counts_of, chunks_left, device_answers, Lasting, Spent, Foretold}
use Rattle.claims.proofs.Histories.{good, device_left, account_answers}
use Rattle.claims.proofs.Plan.{Ready, append_ready, interval_ready, burned_is, first_number, follows}
use Rattle.claims.proofs.Steps.Begun.{Begun, begun}

-- appends and closes go on with any history that left no chunk waiting
pub account_history_on : (f : Fed) (a : Account) (first later : List Call) → HistoryFrom f a first → HistoryFrom f (account_from f a first) later → HistoryFrom f a (first ++ later)
unfolding HistoryFrom account_from
account_history_on f a [] later before behind = behind
account_history_on f a (call ∷ first) later before behind = (before.0, account_history_on f (account_step f a call) first later before.1 behind)

interval_history : (f : Fed) (begun : Begun f) (entries : List Entry) (a : Account) → Ready f begun a → HistoryFrom f a (interval entries)
unfolding interval HistoryFrom AllowedBy
interval_history f begun [] a ready = (tt, tt)
interval_history f begun (e ∷ entries) a ready = ((λ none. ready.free), interval_history f begun entries _ (append_ready f begun a ready e.phase e.bytes))

plan_history : (f : Fed) (begun : Begun f) (plan : List (List Entry)) (a : Account) → Ready f begun a → HistoryFrom f a (followed plan)
unfolding followed HistoryFrom
plan_history f begun [] a ready = tt
plan_history f begun (entries ∷ plan) a ready =
    account_history_on f a (interval entries) (followed plan) (interval_history f begun entries a ready) (plan_history f begun plan _ (interval_ready f begun entries a ready))

pub device_answers_lem : (f : Fed) → Starts f → (calls : List Call) → History f calls → NoneHalfUsed (account_from f (started f) calls)
    → (plan : List (List Entry)) → device_answers f calls plan ≡ answers_from f (account_from f (started f) calls) (followed plan)
device_answers_lem f starts calls history none plan =
    let start = begun f starts in
    let a = account_from f (started f) calls in
    let g = good f starts calls history in
    ap (λ (d : Device). run_answers d (followed plan)) (device_left f starts calls history)
    ∙ account_answers f start a g.laid (followed plan) (plan_history f start plan a (record { good = g; free = none.1 }))

module _ (f : Fed) (starts : Starts f) (calls : List Call) (history : History f calls) where
  -- all chunks are left while nothing is sealed
  pub all_left : (account_from f (started f) calls).items ≡ [] → chunks_left f (account_from f (started f) calls) ≡ chunk_count f.store
  all_left none =
      let start = begun f starts in
      let a = account_from f (started f) calls in
      let g = good f starts calls history in
      let taken = burned_is f start a g ∙ ap (λ n. rounded_up n (ratchet f.store)) (first_number f start a g none) in
      omega (arith, taken, at_most 0 (ratchet f.store) start.store.ratchet_low)

  module _ (none : NoneHalfUsed (account_from f (started f) calls)) (plan : List (List Entry)) where
    lasting : chunks_for (counts_of plan) (ratchet f.store) ≤ chunks_left f (account_from f (started f) calls) → Lasting f calls plan
    lasting enough = rw (device_answers_lem f starts calls history none plan) ((follows f starts calls history none plan).lasts (omega (arith, enough)))

    spent : chunks_left f (account_from f (started f) calls) < chunks_for (counts_of plan) (ratchet f.store) → Spent f calls plan
    spent few only = rw (device_answers_lem f starts calls history none plan) ((follows f starts calls history none plan).short (omega (arith, few)) only)

    pub foretold : (x : Result (Option ℕ) Refusal) → Planned (counts_of plan) (chunks_left f (account_from f (started f) calls)) x → Foretold f calls plan x
    foretold (Ok (Some n)) planned =
        let least = is_least (counts_of plan) (chunks_left f (account_from f (started f) calls)) n planned in
        let keys = (begun f starts).store in (
          (λ more. lasting (omega (arith, least.lasts, antitone (counts_of plan) n (ratchet f.store) least.low (omega (arith, more))))),
          (λ less. spent (lt_of_not-le (least.least (ratchet f.store) keys.ratchet_low (omega (arith, less))))),
        )
    foretold (Ok None) planned =
        let keys = (begun f starts).store in
        spent (lt_of_not-le (nothing_lasts (counts_of plan) (chunks_left f (account_from f (started f) calls)) planned (ratchet f.store) keys.ratchet_low keys.ratchet_high))
    foretold (Err refusal) planned = tt
