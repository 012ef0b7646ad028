-- A history by the calls' own refusals is one by the account's, and the other way round: before each call both refuse alike, whatever it is given
-- (`by_account`). So the account of every history is good, and describes the device. Refused calls may stand anywhere (`may_follow`).
use mathlib.Core.Path.{◌≡◌, refl, sym, ap, subst}
use mathlib.Core.List.{List, [], ◌∷◌, ◌++◌}
use Prim.Native.Nat.{ℕ}
use Rattle.scheme.specs.Sealer.{opens}
use Rattle.claims.specs.Account.{Call, Open, Append, Close, Restart, Cut, Answer, Fed, Account, started, account_from, account_refusal, account_answer, account_step, answers_from, lengths_reached, seal_reached, AllowedBy, Allowed, HistoryFrom}
use Rattle.claims.specs.Run.{Device, device_started, effect_of, device_after, run_from, run_answers, RunHistoryFrom, History}
use Rattle.claims.specs.Histories.{ByAccount, MayFollow, PlainBy}
use Rattle.claims.specs.Claim.{Starts, Kept}
use Rattle.claims.proofs.Good.{Laid, Good}
use Rattle.claims.proofs.Invariant.{started_laid, started_good, step_laid, from_good}
use Rattle.claims.proofs.Kept.{device_started_lem, call_agrees, allowed_plain, history_plain, run_answers_lem, kept_plain, device_left as plain_left}
use Rattle.claims.proofs.Steps.Begun.{Begun, begun}
use Rattle.claims.proofs.Steps.Device.{device_of}
use Rattle.claims.proofs.Steps.Opening.{open_refusal}

module _ (f : Fed) (begun : Begun f) where
  -- an open by its rules; every other call is plain, and answers what the account does
  pub refusal_same : (a : Account) → Laid f a → (call : Call) → (effect_of (device_of f a) call).refusal ≡ account_refusal f a call
  unfolding effect_of opens account_answer PlainBy
  refusal_same a laid (Open lengths seal_length) = open_refusal f begun a laid lengths seal_length
  refusal_same a laid (Append phase bytes) = ap (λ (answer : Answer). answer.refusal) (call_agrees f begun a laid (Append phase bytes) tt).answer
  refusal_same a laid Close = ap (λ (answer : Answer). answer.refusal) (call_agrees f begun a laid Close tt).answer
  refusal_same a laid (Restart number) = ap (λ (answer : Answer). answer.refusal) (call_agrees f begun a laid (Restart number) tt).answer
  refusal_same a laid Cut = ap (λ (answer : Answer). answer.refusal) (call_agrees f begun a laid Cut tt).answer

  -- so a call is allowed by the one where it is by the other, and leaves what the account after it describes
  module _ (a : Account) (laid : Laid f a) (call : Call) where
    allowed_by_account : AllowedBy (effect_of (device_of f a) call).refusal a call → Allowed f a call
    allowed_by_account = subst (λ (n : ℕ). AllowedBy n a call) (refusal_same a laid call)

    allowed_by_call : Allowed f a call → AllowedBy (effect_of (device_of f a) call).refusal a call
    allowed_by_call = subst (λ (n : ℕ). AllowedBy n a call) (sym (refusal_same a laid call))

    leaves : AllowedBy (effect_of (device_of f a) call).refusal a call → device_after (effect_of (device_of f a) call) ≡ device_of f (account_step f a call)
    leaves allowed = (call_agrees f begun a laid call (allowed_plain _ a call allowed)).device

  own_from : (calls : List Call) (a : Account) → Laid f a → RunHistoryFrom f (device_of f a) a calls → HistoryFrom f a calls
  unfolding RunHistoryFrom HistoryFrom
  own_from [] a laid own = tt
  own_from (call ∷ calls) a laid own =
      let later = account_step f a call in (
        allowed_by_account a laid call own.0,
        own_from calls later (step_laid f begun a call laid) (subst (λ (d : Device). RunHistoryFrom f d later calls) (leaves a laid call own.0) own.1),
      )

  own_of : (calls : List Call) (a : Account) → Laid f a → HistoryFrom f a calls → RunHistoryFrom f (device_of f a) a calls
  unfolding RunHistoryFrom HistoryFrom
  own_of [] a laid history = tt
  own_of (call ∷ calls) a laid history =
      let later = account_step f a call in
      let own = allowed_by_call a laid call history.0 in (
        own,
        subst (λ (d : Device). RunHistoryFrom f d later calls) (sym (leaves a laid call own)) (own_of calls later (step_laid f begun a call laid) history.1),
      )

  -- what the device answers to calls that the account allows
  pub account_answers : (a : Account) → Laid f a → (calls : List Call) → HistoryFrom f a calls → run_answers (device_of f a) calls ≡ answers_from f a calls
  account_answers a laid calls history = run_answers_lem f begun calls a laid (history_plain f (device_of f a) a calls (own_of calls a laid history))

pub by_account : (f : Fed) → Starts f → (calls : List Call) → ByAccount f calls
by_account f starts calls =
    let start = begun f starts in
    let first = device_started_lem f start in
    let laid = started_laid f start in (
      (λ own. own_from f start calls (started f) laid (subst (λ (d : Device). RunHistoryFrom f d (started f) calls) first own)),
      (λ history. subst (λ (d : Device). RunHistoryFrom f d (started f) calls) (sym first) (own_of f start calls (started f) laid history)),
    )

-- ---- what holds after a history

module _ (f : Fed) (starts : Starts f) (calls : List Call) (history : History f calls) where
  pub good : Good f (account_from f (started f) calls)
  good = from_good f (begun f starts) (started f) calls (started_good f (begun f starts)) ((by_account f starts calls).0 history)

  pub kept : Kept f calls
  kept = kept_plain f starts calls (history_plain f _ _ calls history)

  pub device_left : run_from (device_started f) calls ≡ device_of f (account_from f (started f) calls)
  device_left = plain_left f starts calls (history_plain f _ _ calls history)

-- ---- what may follow one

pub history_on : (f : Fed) (d : Device) (a : Account) (first later : List Call) → RunHistoryFrom f d a first
    → RunHistoryFrom f (run_from d first) (account_from f a first) later → RunHistoryFrom f d a (first ++ later)
unfolding RunHistoryFrom run_from account_from
history_on f d a [] later before behind = behind
history_on f d a (call ∷ first) later before behind = (before.0, history_on f (device_after (effect_of d call)) (account_step f a call) first later before.1 behind)

refused_allowed : (refusal : ℕ) → (refusal ≡ 0 → ⊥) → (a : Account) (call : Call) → AllowedBy refusal a call
unfolding AllowedBy
refused_allowed refusal some a (Open lengths seal_length) = λ none. absurd (some none)
refused_allowed refusal some a (Append phase bytes) = λ none. absurd (some none)
refused_allowed refusal some a Close = tt
refused_allowed refusal some a (Restart number) = λ none. absurd (some none)
refused_allowed refusal some a Cut = tt

pub may_follow : (f : Fed) (calls : List Call) → History f calls → MayFollow f calls
unfolding RunHistoryFrom AllowedBy
may_follow f calls history =
    let a = account_from f (started f) calls in
    let on : (later : List Call) → RunHistoryFrom f (run_from (device_started f) calls) (account_from f (started f) calls) later → History f (calls ++ later)
    = λ later. history_on f (device_started f) (started f) calls later history in
    record {
      refused = λ call some. on (call ∷ []) (refused_allowed _ some a call, tt);
      cut = on (Cut ∷ []) (tt, tt);
      close = on (Close ∷ []) (tt, tt);
      append = λ free phase bytes. on (Append phase bytes ∷ []) ((λ none. free), tt);
      reopen = λ first. on (Open (lengths_reached a) (seal_reached a) ∷ []) ((λ none. (first, refl, refl)), tt);
      restart = λ some. on (Restart a.waiting ∷ []) ((λ none. (some, refl)), tt);
    }
