-- Demand 3, first part: by induction over the calls, plain ones such as those of a history, the device is at all times the one that the account
-- describes.
use mathlib.Core.Path.{◌≡◌, refl, sym, ap, ap₂, subst, ◌∙◌}
use mathlib.Core.List.{List, [], ◌∷◌}
use Prim.Native.Nat.{ℕ, zero, suc}
use lib.ListN.{replicate}
use Rattle.scheme.specs.Bytes.{splice, joined}
use Rattle.scheme.specs.Store.{phases, log_place}
use Rattle.scheme.specs.Sealer.{opens}
use Rattle.scheme.proofs.Splice.{splice_none}
use Rattle.scheme.proofs.Burning.{zeroed}
use Rattle.claims.specs.Account.{Call, Open, Append, Close, Restart, Cut, Answer, Fed, Account, started, account_step, account_answer, account_from, answers_from, AllowedBy}
use Rattle.claims.specs.Run.{Device, device_started, effect_of, run_from, run_answers, RunHistoryFrom, device_after}
use Rattle.claims.specs.Histories.{PlainBy, PlainFrom, Plain}
use Rattle.claims.specs.Left.{placed}
use Rattle.claims.specs.Claim.{Starts, Kept}
use Rattle.claims.proofs.Good.{Laid}
use Rattle.claims.proofs.Steps.Agrees.{Agrees, same_device}
use Rattle.claims.proofs.Steps.Appending.{append_agrees}
use Rattle.claims.proofs.Steps.Begun.{Begun, begun}
use Rattle.claims.proofs.Steps.Closing.{close_agrees}
use Rattle.claims.proofs.Steps.Cutting.{cut_agrees}
use Rattle.claims.proofs.Steps.Device.{device_of}
use Rattle.claims.proofs.Invariant.{started_laid, step_laid}
use Rattle.claims.proofs.Steps.Opening.{empty_held, open_refusal, open_agrees}
use Rattle.claims.proofs.Steps.Restarting.{restart_agrees}
use Rattle.claims.proofs.Steps.StoreLeft.{store_left_lem}

-- ---- the start

placed_none : (f : Fed) (p n : ℕ) (memory : List ℕ) → placed f p (replicate n []) memory ≡ memory
unfolding placed
placed_none f p zero memory = refl
placed_none f p (suc n) memory = placed_none f (suc p) n (splice memory (log_place f.store p) []) ∙ splice_none memory (log_place f.store p)

module _ (f : Fed) (begun : Begun f) where
  pub device_started_lem : device_started f ≡ device_of f (started f)
  unfolding started joined zeroed
  device_started_lem =
      let laid = started_laid f begun in
      same_device
      (sym (empty_held f begun (started f) laid refl))
      (sym (store_left_lem f (started f) laid begun.store))
      (sym (placed_none f 1 (phases f.store) f.logs))
      (sym (splice_none f.seal 0))

  -- ---- one call, and all of them

  pub call_agrees : (a : Account) → Laid f a → (call : Call) → PlainBy (effect_of (device_of f a) call).refusal a call
      → Agrees f a call (effect_of (device_of f a) call)
  unfolding effect_of opens PlainBy
  call_agrees a laid (Open lengths seal_length) plain =
      open_agrees f begun a laid lengths seal_length
      (subst (λ (n : ℕ). AllowedBy n a (Open lengths seal_length)) (open_refusal f begun a laid lengths seal_length) plain)
  call_agrees a laid (Append phase bytes) plain = append_agrees f begun a laid phase bytes
  call_agrees a laid Close plain = close_agrees f begun a laid
  call_agrees a laid (Restart number) plain = restart_agrees f begun a laid number
  call_agrees a laid Cut plain = cut_agrees f begun a laid

  -- behind a call the calls left are plain for the device of the account
  pub plain_on : (call : Call) (calls : List Call) (a : Account) → Laid f a → PlainFrom f (device_of f a) a (call ∷ calls)
      → PlainFrom f (device_of f (account_step f a call)) (account_step f a call) calls
  unfolding PlainFrom
  plain_on call calls a laid plain =
      subst (λ (d : Device). PlainFrom f d (account_step f a call) calls) (call_agrees a laid call plain.0).device plain.1

  pub run_answers_lem : (calls : List Call) (a : Account) → Laid f a → PlainFrom f (device_of f a) a calls → run_answers (device_of f a) calls ≡ answers_from f a calls
  unfolding run_answers answers_from PlainFrom
  run_answers_lem [] a laid plain = refl
  run_answers_lem (call ∷ calls) a laid plain =
      let agrees = call_agrees a laid call plain.0 in
      ap₂ (λ (answer : Answer) (d : Device). answer ∷ run_answers d calls) agrees.answer agrees.device
      ∙ ap (λ (answers : List Answer). account_answer f a call ∷ answers)
      (run_answers_lem calls (account_step f a call) (step_laid f begun a call laid) (plain_on call calls a laid plain))

  pub run_leaves : (calls : List Call) (a : Account) → Laid f a → PlainFrom f (device_of f a) a calls → run_from (device_of f a) calls ≡ device_of f (account_from f a calls)
  unfolding run_from account_from PlainFrom
  run_leaves [] a laid plain = refl
  run_leaves (call ∷ calls) a laid plain =
      ap (λ (d : Device). run_from d calls) (call_agrees a laid call plain.0).device
      ∙ run_leaves calls (account_step f a call) (step_laid f begun a call laid) (plain_on call calls a laid plain)

-- the calls of a history are plain
pub allowed_plain : (refusal : ℕ) (a : Account) (call : Call) → AllowedBy refusal a call → PlainBy refusal a call
unfolding PlainBy
allowed_plain refusal a (Open lengths seal_length) allowed = allowed
allowed_plain refusal a (Append phase bytes) allowed = tt
allowed_plain refusal a Close allowed = tt
allowed_plain refusal a (Restart number) allowed = tt
allowed_plain refusal a Cut allowed = tt

pub history_plain : (f : Fed) (d : Device) (a : Account) (calls : List Call) → RunHistoryFrom f d a calls → PlainFrom f d a calls
unfolding RunHistoryFrom PlainFrom
history_plain f d a [] history = tt
history_plain f d a (call ∷ calls) history = (allowed_plain _ a call history.0, history_plain f (device_after (effect_of d call)) (account_step f a call) calls history.1)

module _ (f : Fed) (starts : Starts f) (calls : List Call) where
  abbrev start : Begun f
  start = begun f starts

  -- after plain calls
  pub plain_start : Plain f calls → PlainFrom f (device_of f (started f)) (started f) calls
  plain_start = subst (λ (d : Device). PlainFrom f d (started f) calls) (device_started_lem f start)

  pub device_left : Plain f calls → run_from (device_started f) calls ≡ device_of f (account_from f (started f) calls)
  device_left plain =
      ap (λ (d : Device). run_from d calls) (device_started_lem f start)
      ∙ run_leaves f start calls (started f) (started_laid f start) (plain_start plain)

  pub kept_plain : Plain f calls → Kept f calls
  kept_plain plain =
      let leaves = device_left plain in
      record {
        answers = ap (λ (d : Device). run_answers d calls) (device_started_lem f start)
            ∙ run_answers_lem f start calls (started f) (started_laid f start) (plain_start plain);
        store = ap (λ (d : Device). d.store) leaves;
        logs = ap (λ (d : Device). d.logs) leaves;
        seal = ap (λ (d : Device). d.seal) leaves;
        state = ap (λ (d : Device). d.state) leaves;
      }
