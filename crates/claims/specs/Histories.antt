-- What a history is, from other sides (FORMAT.md, 10): by whose refusals it goes makes no difference, for any list of calls; and what may follow one.
-- And plain calls, of which less is asked than of a history's.
use Rattle.std.specs.Prelude.{◌≡◌, ◌↔◌, List, [], ◌∷◌, ◌++◌, ℕ, ◌<◌}
use Rattle.claims.specs.Account.{Call, Open, Append, Close, Restart, Cut, Fed, Account, started, account_step, account_from, lengths_reached, seal_reached, AllowedBy, HistoryFrom}
use Rattle.claims.specs.Run.{Device, device_started, effect_of, device_after, run_from, History}

-- a device that refused more, or less, than the account says would part the two
abbrev pub ByAccount : Fed → List Call → Type 0
ByAccount f calls = History f calls ↔ HistoryFrom f (started f) calls

-- what may follow a history
pub record MayFollow (f : Fed) (calls : List Call) : Type 0 where
  -- any call that is refused, a cut, a close
  pub refused : (call : Call) → ((effect_of (run_from (device_started f) calls) call).refusal ≡ 0 → ⊥) → History f (calls ++ (call ∷ []))
  pub cut : History f (calls ++ (Cut ∷ []))
  pub close : History f (calls ++ (Close ∷ []))
  -- where no cut chunk waits any append, where one does its restart, and where r is 0 an open with the lengths reached
  pub append : (account_from f (started f) calls).waiting ≡ 0 → (phase : ℕ) (bytes : List ℕ) → History f (calls ++ (Append phase bytes ∷ []))
  pub restart : 0 < (account_from f (started f) calls).waiting → History f (calls ++ (Restart (account_from f (started f) calls).waiting ∷ []))
  pub reopen : (account_from f (started f) calls).r.0 ≡ 0
      → History f (calls ++ (Open (lengths_reached (account_from f (started f) calls)) (seal_reached (account_from f (started f) calls)) ∷ []))

-- plain calls: an open that does its work comes where r is 0 and with the lengths reached, as in a history; of no other call is anything asked, nor of
-- a cut
unfoldable pub PlainBy : ℕ → Account → Call → Type 0
PlainBy refusal a (Open lengths seal_length) = AllowedBy refusal a (Open lengths seal_length)
PlainBy refusal a (Append phase bytes) = Unit {0}
PlainBy refusal a Close = Unit {0}
PlainBy refusal a (Restart number) = Unit {0}
PlainBy refusal a Cut = Unit {0}

-- by the calls' own refusals, as `History` goes
unfoldable pub PlainFrom : Fed → Device → Account → List Call → Type 0
PlainFrom f d a [] = Unit {0}
PlainFrom f d a (call ∷ calls) = PlainBy (effect_of d call).refusal a call × PlainFrom f (device_after (effect_of d call)) (account_step f a call) calls

abbrev pub Plain : Fed → List Call → Type 0
Plain f calls = PlainFrom f (device_started f) (started f) calls
