-- What holds of every account (`Laid`), and of one whose items each stand where a key was due, as after a history (`Good`): the invariants that the
-- parts of the claim share.
use mathlib.Core.Path.{◌≡◌}
use mathlib.Core.Bool.{true, cond}
use mathlib.Core.List.{List, []}
use Prim.Native.Nat.{ℕ, suc, ◌-◌, ◌≤◌, ◌<◌}
use lib.Dec.{eqb, ltb}
use lib.ListN.{length, get_or, take}
use Rattle.scheme.specs.Store.{entry_kind, data_limit, log_capacity, phases, chunk_count, ratchet}
use Rattle.scheme.specs.Items.{kind_of, phase_of, data_length, item_tag, message_of}
use Rattle.scheme.specs.Due.{key_place, due_behind}
use Rattle.scheme.specs.declared.KeyPlace.{KeyPlace}
use Rattle.scheme.specs.Keys.{key_of, tag_of}
use Rattle.scheme.specs.Areas.{area_of, area_end, areas_in, Runs}
use Rattle.scheme.specs.Acceptable.{ItemOf, Stands}
use Rattle.claims.specs.Account.{Fed, Account, log_of, carried, seal_reached}
use Rattle.claims.specs.Left.{placed}
use Rattle.claims.specs.Claim.{own_item}

-- of logs, one a phase: the log of phase p, and the log memory with each in its place
abbrev pub log_in : List (List ℕ) → ℕ → List ℕ
log_in logs p = get_or logs (p - 1) []

abbrev pub memory_with : Fed → List (List ℕ) → List ℕ
memory_with f logs = placed f 1 logs f.logs

-- they are one a phase, and none is too long
pub record Logs (f : Fed) (logs : List (List ℕ)) : Type 0 where
  pub count : length logs ≡ phases f.store
  pub sizes : (i : ℕ) → length (get_or logs i []) ≤ log_capacity f.store

-- the phase of an entry item, and its area within the phase's log
pub record InLog (f : Fed) (logs : List (List ℕ)) (it : List ℕ) : Type 0 where
  pub low : 1 ≤ phase_of it
  pub high : phase_of it ≤ phases f.store
  pub some : 1 ≤ data_length it
  pub few : data_length it ≤ data_limit f.store
  pub inside : area_end (area_of it) ≤ length (log_in logs (phase_of it))

-- an item is whole, and has the tag of its message under its key
pub record ItemAt (f : Fed) (logs : List (List ℕ)) (it : List ℕ) : Type 0 where
  pub form : ItemOf f.store it
  pub ranges : kind_of it ≡ entry_kind → InLog f logs it
  pub tag : item_tag it ≡ tag_of f.store (key_of f.store it) (message_of f.store (memory_with f logs) it)

-- how many chunks are burned
abbrev pub front : Account → ℕ
front a = cond (eqb a.r.0 0) a.c.0 (suc a.c.0)

-- whether or not each item stands where a key was due
pub record Laid (f : Fed) (a : Account) : Type 0 where
  pub offset : a.r.0 < ratchet f.store
  pub spent : front a ≤ chunk_count f.store
  pub sealed : seal_reached a ≤ length f.seal
  pub logs : Logs f a.logs
  pub items : (k : ℕ) → k < length a.items → ItemAt f a.logs (own_item a k)
  pub burned : (x : ℕ) → carried a x ≡ ltb x (front a)
  pub runs : (p : ℕ) → 1 ≤ p → p ≤ phases f.store → Runs 0 (areas_in p a.items) (length (log_of a p))
  pub standing : a.lost ≡ true → 0 < length a.items

-- the place of the counters; what is due behind the items is there, or in the chunk before where that waits for its restart
abbrev pub counters : Account → KeyPlace
counters a = record { chunk = a.c; offset = a.r }

abbrev pub place_due : Account → KeyPlace
place_due a = cond (eqb a.waiting 0) (counters a) (key_place (a.c.0 - 1) a.waiting)

-- while a chunk waits, the counters stand at the first key of the chunk after it
pub record Waits (f : Fed) (a : Account) : Type 0 where
  pub whole : a.r.0 ≡ 0
  pub few : a.waiting < ratchet f.store
  pub later : 1 ≤ a.c.0

-- and where each does
pub record Good (f : Fed) (a : Account) : Type 0 where
  pub laid : Laid f a
  pub due : due_behind (ratchet f.store) a.items ≡ place_due a
  pub waits : 0 < a.waiting → Waits f a
  pub stands : (k : ℕ) → k < length a.items → Stands (due_behind (ratchet f.store) (take k a.items)) (own_item a k)
