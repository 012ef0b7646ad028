-- What the sealing calls answer and leave: refusal and number in one word, of which the number fits its half, the state, and every byte lent for
-- writing.
use Rattle.std.specs.Prelude.{◌≡◌, List, ℕ, ◌+◌, ◌*◌, ◌^◌, ◌≤◌}
use Rattle.scheme.specs.Sizes.{most_items}
use Rattle.scheme.specs.Sealer.{opens, appends, closes, restarts}
use Rattle.scheme.specs.declared.State.{State}
use Rattle.packed.specs.declared.calls.Packed.{Packed}

-- the 64-bit answer: the refusal, or another first number, times 2 to the 32 plus the number
abbrev pub packed : ℕ → ℕ → ℕ
packed first number = first * 2 ^ 32 + number

-- open writes only the state
pub record Opened (store logs lengths seal : List ℕ) (seal_length : ℕ) (r : Packed) : Type 0 where
  pub code : r.code ≡ packed (opens store logs lengths seal seal_length).refusal (opens store logs lengths seal seal_length).count
  pub fits : (opens store logs lengths seal seal_length).count ≤ most_items
  pub state : r.state ≡ (opens store logs lengths seal seal_length).state

pub record Appended (s : State) (store logs seal : List ℕ) (phase : ℕ) (bytes : List ℕ) (r : Packed) (store' logs' seal' : List ℕ) : Type 0 where
  pub code : r.code ≡ packed (appends s store logs seal phase bytes).refusal (appends s store logs seal phase bytes).count
  pub fits : (appends s store logs seal phase bytes).count ≤ most_items
  pub state : r.state ≡ (appends s store logs seal phase bytes).state
  pub store_left : store' ≡ (appends s store logs seal phase bytes).store
  pub logs_left : logs' ≡ (appends s store logs seal phase bytes).logs
  pub seal_left : seal' ≡ (appends s store logs seal phase bytes).seal

-- close only reads store and logs
pub record Closed (s : State) (store logs seal : List ℕ) (r : Packed) (seal' : List ℕ) : Type 0 where
  pub code : r.code ≡ packed (closes s store logs seal).refusal (closes s store logs seal).count
  pub fits : (closes s store logs seal).count ≤ most_items
  pub state : r.state ≡ (closes s store logs seal).state
  pub seal_left : seal' ≡ (closes s store logs seal).seal

-- restart only reads the logs
pub record Restarted (s : State) (store logs seal : List ℕ) (number : ℕ) (r : Packed) (store' seal' : List ℕ) : Type 0 where
  pub code : r.code ≡ packed (restarts s store logs seal number).refusal (restarts s store logs seal number).count
  pub fits : (restarts s store logs seal number).count ≤ most_items
  pub state : r.state ≡ (restarts s store logs seal number).state
  pub store_left : store' ≡ (restarts s store logs seal number).store
  pub seal_left : seal' ≡ (restarts s store logs seal number).seal
