-- What the calls do: each step is the definition that the contract of open, append, close or restart equates its function with; a cut is none of them.
use Rattle.std.specs.Prelude.{List, [], ◌∷◌, ℕ}
use Rattle.scheme.specs.State.{zero_state}
use Rattle.scheme.specs.Sealer.{Effect, opens, appends, closes, restarts}
use Rattle.scheme.specs.declared.State.{State}
use Rattle.claims.specs.Account.{Call, Open, Append, Close, Restart, Cut, Answer, Fed, Account, started, AllowedBy, account_step}

-- state, store and memories between two calls
pub record Device : Type 0 where
  pub state : State
  pub store : List ℕ
  pub logs : List ℕ
  pub seal : List ℕ

-- at the start of a history (FORMAT.md, 10) the state is all zeros
abbrev pub device_started : Fed → Device
device_started f = record { state = zero_state; store = f.store; logs = f.logs; seal = f.seal }

-- a cut leaves a state of zeros, and all else as it was
abbrev pub after_loss : Device → Effect
after_loss d = record { refusal = 0; count = 0; state = zero_state; store = d.store; logs = d.logs; seal = d.seal }

-- every call finds store, memories and state as the call before left them
unfoldable pub effect_of : Device → Call → Effect
effect_of d (Open lengths seal_length) = opens d.store d.logs lengths d.seal seal_length
effect_of d (Append phase bytes) = appends d.state d.store d.logs d.seal phase bytes
effect_of d Close = closes d.state d.store d.logs d.seal
effect_of d (Restart number) = restarts d.state d.store d.logs d.seal number
effect_of d Cut = after_loss d

abbrev pub device_after : Effect → Device
device_after e = record { state = e.state; store = e.store; logs = e.logs; seal = e.seal }

abbrev pub answer_of : Effect → Answer
answer_of e = record { refusal = e.refusal; count = e.count }

unfoldable pub run_from : Device → List Call → Device
run_from d [] = d
run_from d (call ∷ calls) = run_from (device_after (effect_of d call)) calls

unfoldable pub run_answers : Device → List Call → List Answer
run_answers d [] = []
run_answers d (call ∷ calls) = answer_of (effect_of d call) ∷ run_answers (device_after (effect_of d call)) calls

-- a history (FORMAT.md, 10): every call, with the refusal that it answers itself, is allowed where the account of the calls before it stands
unfoldable pub RunHistoryFrom : Fed → Device → Account → List Call → Type 0
RunHistoryFrom f d a [] = Unit {0}
RunHistoryFrom f d a (call ∷ calls) = AllowedBy (effect_of d call).refusal a call × RunHistoryFrom f (device_after (effect_of d call)) (account_step f a call) calls

abbrev pub History : Fed → List Call → Type 0
History f calls = RunHistoryFrom f (device_started f) (started f) calls
