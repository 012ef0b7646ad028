-- Items out of place (FORMAT.md, 7 and 10): an append while a cut chunk waits for its restart, a restart where none waits or with another number. No
-- history has them, and no call refuses them for it; the audit refuses what they leave by 17, whatever plain calls follow, and accepts no file that
-- begins with such an item.
use Rattle.std.specs.Prelude.{◌≡◌, ◌⊎◌, ◌↔◌, List, [], ◌∷◌, ◌++◌, ℕ, ◌<◌, length, take}
use Rattle.scheme.specs.Items.{pieces}
use Rattle.scheme.specs.Audit.{audit}
use Rattle.claims.specs.Account.{Call, Open, Append, Close, Restart, Cut, Fed, Account, started, account_refusal, account_step, account_from}
use Rattle.claims.specs.Run.{device_started, effect_of, run_from, History}
use Rattle.claims.specs.Histories.{Plain}
use Rattle.claims.specs.Claim.{untouched}

-- a call that would write an item where no history allows it to
unfoldable pub OutOfPlace : Account → Call → Type 0
OutOfPlace a (Open lengths seal_length) = ⊥
OutOfPlace a (Append phase bytes) = 0 < a.waiting
OutOfPlace a Close = ⊥
OutOfPlace a (Restart number) = (a.waiting ≡ 0) ⊎ (number ≡ a.waiting → ⊥)
OutOfPlace a Cut = ⊥

-- the account, were it that a cut chunk with so many items waits
abbrev pub with_waiting : Account → ℕ → Account
with_waiting a n = record { c = a.c; r = a.r; items = a.items; logs = a.logs; lost = a.lost; waiting = n }

-- such a call after a history
pub record Misplaced (f : Fed) (calls : List Call) : Type 0 where
  -- it is plain; and any other plain call goes on with the history
  pub plain : (call : Call) → OutOfPlace (account_from f (started f) calls) call → Plain f (calls ++ (call ∷ []))
  pub other : (call : Call) → (OutOfPlace (account_from f (started f) calls) call → ⊥) → Plain f (calls ++ (call ∷ [])) → History f (calls ++ (call ∷ []))
  -- no call is refused for it: which are, does not hang on what waits
  pub unnoticed : (call : Call) (n : ℕ)
      → (effect_of (run_from (device_started f) calls) call).refusal ≡ account_refusal f (with_waiting (account_from f (started f) calls) n) call
  -- where it is not refused otherwise, and whatever plain calls follow, what they leave is refused by 17 at the item that it wrote
  pub refused : (call : Call) (more : List Call) → OutOfPlace (account_from f (started f) calls) call
      → (effect_of (run_from (device_started f) calls) call).refusal ≡ 0
      → Plain f (calls ++ call ∷ more)
      → untouched f (calls ++ call ∷ more) ≡ record { refusal = 17; number = length (account_from f (started f) calls).items }
  -- and no material at all is accepted that begins with the items up to that one
  pub unmended : (call : Call) → OutOfPlace (account_from f (started f) calls) call
      → (effect_of (run_from (device_started f) calls) call).refusal ≡ 0
      → (device logs lengths seal : List ℕ)
      → (let items = (account_step f (account_from f (started f) calls) call).items in take (length items) (pieces device seal) ≡ items)
      → (audit device f.store logs lengths seal).refusal ≡ 0 → ⊥

-- so of plain calls 17 tells those that are no history: it is said of what they leave, and of nothing that a history leaves
abbrev pub ToldBy17 : Fed → List Call → Type 0
ToldBy17 f calls = Plain f calls → ((untouched f calls).refusal ≡ 17) ↔ (History f calls → ⊥)
