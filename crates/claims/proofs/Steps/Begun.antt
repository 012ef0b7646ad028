-- What the start of a history says of the store and of the log memory.
use mathlib.Core.Path.{◌≡◌}
use Prim.Native.Nat.{ℕ, ◌*◌, ◌<◌}
use lib.ListN.{length}
use Rattle.scheme.specs.Store.{log_capacity, phases, chunk_count, bad_logs}
use Rattle.scheme.specs.Acceptable.{KeyStore, Burned}
use Rattle.scheme.proofs.Tests.{not_differ}
use Rattle.scheme.proofs.Acceptance.Stores.{key_store, unused_is}
use Rattle.claims.specs.Account.{Fed}
use Rattle.claims.specs.Claim.{Starts}

pub record Begun (f : Fed) : Type 0 where
  pub starts : Starts f
  pub store : KeyStore f.store
  pub memory : length f.logs ≡ log_capacity f.store * phases f.store
  pub unused : (x : ℕ) → x < chunk_count f.store → Burned f.store x → ⊥

pub begun : (f : Fed) → Starts f → Begun f
unfolding bad_logs
begun f starts =
    let store = (key_store f.store).0 starts.store in
    record { starts = starts; store = store; memory = (not_differ _ _).0 starts.logs; unused = (unused_is f.store store).0 starts.unused }
