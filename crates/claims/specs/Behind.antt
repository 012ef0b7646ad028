-- What lies behind b (FORMAT.md, 10). Where no chunk can have been put to a made-up cut, all items are intact, or a tag is forged, or a burned chunk is
-- shown; and where none was half used either, nothing is presented but what was left. And b is tight: where a chunk is left, an intruder who seizes the controller can have material accepted in which just the items behind b are
-- gone, or only the last of them.
use Rattle.std.specs.Prelude.{◌≡◌, ◌⊎◌, List, ℕ, ◌+◌, ◌≤◌, ◌<◌, length, replicate}
use Rattle.scheme.specs.Bytes.{splice}
use Rattle.scheme.specs.Store.{chunk_count, chunk_place, ratchet, burned_front}
use Rattle.scheme.specs.Items.{pieces}
use Rattle.scheme.specs.Due.{own_place}
use Rattle.scheme.specs.Keys.{key_of}
use Rattle.scheme.specs.Audit.{audit}
use Rattle.claims.specs.Account.{Call, Fed, Account, started, account_from, lengths_reached, NoneHalfUsed}
use Rattle.claims.specs.Run.{device_started, run_from}
use Rattle.claims.specs.Left.{store_left, first_left, logs_left, seal_file}
use Rattle.claims.specs.Claim.{secured, own_item, presented, Intact, Forged, Shown, IntactOrBroken, Accepted}
use Rattle.claims.specs.Seized.{Yields}

-- no more chunks are burned at the front of the store presented than the controller had burned, or it had none left
abbrev pub NoneBegun : Fed → Account → List ℕ → Type 0
NoneBegun f a device = (burned_front device ≤ first_left f a) ⊎ (first_left f a ≡ chunk_count f.store)

abbrev pub WhereNoneBegun : Fed → List Call → Type 0
WhereNoneBegun f calls =
    let a = account_from f (started f) calls in
    (device logs lengths seal : List ℕ) → NoneBegun f a device → Accepted f device logs lengths seal → IntactOrBroken f a (length a.items) device logs seal

-- and where no chunk was half used either, what is presented is the untouched material, but for log bytes beyond the lengths: the store, the seal file
-- with nothing behind it, and the lengths, with the data in the areas of all items
pub record Exactly (f : Fed) (a : Account) (device logs lengths seal : List ℕ) : Type 0 where
  pub intact : Intact f a (length a.items) device logs seal
  pub store : device ≡ store_left f a
  pub file : seal ≡ seal_file a
  pub reached : lengths ≡ lengths_reached a

abbrev pub ExactlyLeft : Fed → List Call → Type 0
ExactlyLeft f calls =
    let a = account_from f (started f) calls in
    (device logs lengths seal : List ℕ) → NoneBegun f a device → NoneHalfUsed a → Accepted f device logs lengths seal
    → Exactly f a device logs lengths seal ⊎ (Forged f a (length a.items) device logs seal ⊎ Shown f a device)

-- the store that is left, with the next chunk burned too, and the log memory that is left; the first m items, and behind them others under keys that
-- the seized device yields: accepted, and none of the controller's other items is among them
pub record Cuttable (f : Fed) (calls : List Call) (a : Account) (m : ℕ) : Type 0 where
  pub device : List ℕ
  pub lengths : List ℕ
  pub seal : List ℕ
  pub store : device ≡ splice (store_left f a) (chunk_place (store_left f a) (first_left f a)) (replicate 32 0)
  pub accepted : audit device f.store (logs_left f a) lengths seal ≡ record { refusal = 0; number = m + ratchet f.store }
  pub intact : Intact f a m device (logs_left f a) seal
  pub made : (k : ℕ) → m ≤ k → k < length (pieces device seal)
      → Yields (run_from (device_started f) calls) (own_place (presented device seal k)) (key_of f.store (presented device seal k))
  pub gone : (j k : ℕ) → j < length (pieces device seal) → m ≤ k → k < length a.items → presented device seal j ≡ own_item a k → ⊥

abbrev pub Tight : Fed → List Call → Type 0
Tight f calls =
    let a = account_from f (started f) calls in
    first_left f a < chunk_count f.store → (m : ℕ) → secured f a ≤ m → m < length a.items → Cuttable f calls a m
