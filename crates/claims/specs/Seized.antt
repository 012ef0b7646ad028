-- What a seized device yields (FORMAT.md, 10): the keys that follow from the bytes of its store and its state, each with its place. They are keys of
-- held places (`Held`), and of all of these while the state is not lost.
use Rattle.std.specs.Prelude.{◌≡◌, false, List, ℕ, suc, ◌<◌}
use Rattle.scheme.specs.Store.{chunk_count, chunk, burned}
use Rattle.scheme.specs.Items.{chunk_number, ratchet_offset}
use Rattle.scheme.specs.Due.{key_place, own_place}
use Rattle.scheme.specs.declared.KeyPlace.{KeyPlace}
use Rattle.scheme.specs.Keys.{next_key, key_at}
use Rattle.claims.specs.Account.{Call, Fed, Account, started, carried, account_from}
use Rattle.claims.specs.Run.{Device, device_started, run_from}
use Rattle.claims.specs.Claim.{Held, presented, Forged}

-- each chunk that is not burned, the state's key where its offset is above 0, and behind a key the next
pub data Yields : Device → KeyPlace → List ℕ → Type 0 where
  stored : {d : Device} {x : ℕ} → x < chunk_count d.store → burned d.store x ≡ false → Yields d (key_place x 0) (chunk d.store x)
  kept : {d : Device} → 0 < d.state.offset.0 → Yields d (record { chunk = d.state.chunk; offset = d.state.offset }) d.state.key
  derived : {d : Device} {place : KeyPlace} {key : List ℕ} → Yields d place key
      → Yields d (key_place place.chunk.0 (suc place.offset.0)) (next_key d.store key (ratchet_offset (suc place.offset.0)))

pub record Seized (f : Fed) (a : Account) (d : Device) : Type 0 where
  -- no key but those of held places
  pub only : (place : KeyPlace) (key : List ℕ) → Yields d place key → Held f a place × (key ≡ key_at f.store place.chunk place.offset)
  -- and all of those, as long as the state is not lost
  pub all : a.lost ≡ false → (place : KeyPlace) → Held f a place → Yields d place (key_at f.store place.chunk place.offset)
  -- those of a chunk that is not burned even then
  pub chunks : (x r : ℕ) → x < chunk_count f.store → carried a x ≡ false → Yields d (key_place x r) (key_at f.store (chunk_number x) (ratchet_offset r))

abbrev pub SeizedAfter : Fed → List Call → Type 0
SeizedAfter f calls = Seized f (account_from f (started f) calls) (run_from (device_started f) calls)

-- so the device yields no key at the place of a forged item
abbrev pub Unyielded : Fed → List Call → Type 0
Unyielded f calls =
    (n : ℕ) (device logs seal : List ℕ) (forged : Forged f (account_from f (started f) calls) n device logs seal) (key : List ℕ)
    → Yields (run_from (device_started f) calls) (own_place (presented device seal forged.k)) key → ⊥
