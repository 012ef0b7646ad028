-- The device between two calls as a function of the account, and what its store and memories still say.
use mathlib.Core.Path.{◌≡◌, refl, sym, ap, ap₂, ◌∙◌}
use mathlib.Core.Bool.{Bool, false, cond}
use mathlib.Core.List.{List, [], ◌∷◌, ◌++◌, append-nil}
use Prim.Native.Nat.{ℕ, zero, suc, ◌+◌, ◌≤◌, ◌<◌}
use native.Mathlib.Nat.{zero-add}
use native.Mathlib.Omega.{arith}
use lib.ListN.{length, get_or, set, replicate}
use Rattle.scheme.specs.Bytes.{splice, joined}
use Rattle.scheme.specs.Store.{header, chunk_count, bad_store, bad_logs}
use Rattle.scheme.specs.Acceptable.{KeyStore}
use Rattle.scheme.specs.State.{zero_state}
use Rattle.scheme.proofs.Splice.{splice_length, splice_twice}
use Rattle.scheme.proofs.Areas.{joined_last}
use Rattle.scheme.proofs.Headers.{SameFields, same_fields, same_bad_logs}
use Rattle.scheme.proofs.Burning.{zeroed_header, zeroed_store}
use Rattle.scheme.proofs.Acceptance.Stores.{key_store}
use Rattle.claims.specs.Account.{Fed, Account, lengths_of, seal_reached}
use Rattle.claims.specs.Run.{Device}
use Rattle.claims.specs.Left.{held, state_left, store_left, logs_left, seal_left}
use Rattle.claims.proofs.Good.{front, Laid}
use Rattle.claims.proofs.Steps.Begun.{Begun}
use Rattle.claims.proofs.Steps.LogsLeft.{logs_room}
use Rattle.claims.proofs.Steps.Placed.{placed_length}
use Rattle.claims.proofs.Steps.StoreLeft.{store_left_lem}

abbrev pub device_of : Fed → Account → Device
device_of f a = record { state = state_left f a; store = store_left f a; logs = logs_left f a; seal = seal_left f a }

pub state_held : (f : Fed) (a : Account) → a.lost ≡ false → state_left f a ≡ held f a
state_held f a kept = ap (λ (t : Bool). cond t zero_state (held f a)) kept

-- ---- the lengths

pub eight_log : (logs : List (List ℕ)) (k i : ℕ) → get_or (lengths_of logs ++ replicate k 0) i 0 ≡ length (get_or logs i [])
unfolding lengths_of
eight_log [] zero i = refl
eight_log [] (suc k) zero = refl
eight_log [] (suc k) (suc i) = eight_log [] k i
eight_log (log ∷ logs) k zero = refl
eight_log (log ∷ logs) k (suc i) = eight_log logs k i

pub lengths_at : (logs : List (List ℕ)) (i : ℕ) → get_or (lengths_of logs) i 0 ≡ length (get_or logs i [])
lengths_at logs i = rw append-nil at (eight_log logs 0 i)

pub lengths_length : (logs : List (List ℕ)) → length (lengths_of logs) ≡ length logs
unfolding lengths_of
lengths_length [] = refl
lengths_length (log ∷ logs) = ap suc (lengths_length logs)

pub lengths_set : (logs : List (List ℕ)) (k i : ℕ) (log : List ℕ) → i < length logs
    → set (lengths_of logs ++ replicate k 0) i (length log) ≡ lengths_of (set logs i log) ++ replicate k 0
unfolding lengths_of
lengths_set [] k i log h = absurd (omega arith)
lengths_set (l ∷ logs) k zero log h = refl
lengths_set (l ∷ logs) k (suc i) log h = ap (λ (ns : List ℕ). length l ∷ ns) (lengths_set logs k i log (omega arith))

pub lengths_none : (logs : List (List ℕ)) → ((i : ℕ) → length (get_or logs i []) ≡ 0) → lengths_of logs ≡ replicate (length logs) 0
unfolding lengths_of
lengths_none [] none = refl
lengths_none (log ∷ logs) none = ap₂ (λ (n : ℕ) (ns : List ℕ). n ∷ ns) (none 0) (lengths_none logs (λ i. none (suc i)))

-- ---- what is left

module _ (f : Fed) (begun : Begun f) (a : Account) (laid : Laid f a) where
  most : front a ≤ chunk_count f.store
  most = laid.spent

  pub left_header : header (store_left f a) ≡ header f.store
  left_header = ap header (store_left_lem f a laid begun.store) ∙ zeroed_header f.store begun.store (front a) most

  pub left_fields : SameFields (store_left f a) f.store
  left_fields = same_fields (store_left f a) f.store left_header

  pub left_store : KeyStore (store_left f a)
  left_store = rw (store_left_lem f a laid begun.store) (zeroed_store f.store begun.store (front a) most)

  pub left_bad : bad_store (store_left f a) ≡ bad_store f.store
  left_bad = (key_store (store_left f a)).1 left_store ∙ sym ((key_store f.store).1 begun.store)

  pub left_logs : length (logs_left f a) ≡ length f.logs
  left_logs = placed_length f 0 a.logs f.logs (logs_room f begun a.logs laid.logs)

  pub left_bad_logs : bad_logs (store_left f a) (logs_left f a) ≡ bad_logs f.store f.logs
  unfolding bad_logs
  left_bad_logs = same_bad_logs (store_left f a) f.store left_fields (logs_left f a) ∙ rw left_logs

  pub left_seal : length (seal_left f a) ≡ length f.seal
  left_seal = splice_length f.seal 0 (joined a.items) (omega arith)

-- an item behind the seal file
pub seal_append : (f : Fed) (a : Account) (it : List ℕ) → seal_reached a + length it ≤ length f.seal
    → splice (seal_left f a) (seal_reached a) it ≡ splice f.seal 0 (joined (a.items ++ (it ∷ [])))
seal_append f a it h =
    ap (λ (n : ℕ). splice (seal_left f a) n it) (sym (zero-add (seal_reached a)))
    ∙ splice_twice f.seal 0 (joined a.items) it (omega arith)
    ∙ ap (splice f.seal 0) (sym (joined_last a.items it))
