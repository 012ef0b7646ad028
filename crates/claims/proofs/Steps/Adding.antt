-- What one more item asks for, that an account which gets it stays laid (`adds_laid`), and good where it stands where a key is due (`adds_good`).
use mathlib.Core.Path.{◌≡◌, refl, sym, ap, ap₂, ◌∙◌}
use mathlib.Core.Bool.{Bool, true, false, cond}
use mathlib.Core.Logic.{by_cases}
use mathlib.Core.List.{List, [], ◌∷◌, ◌++◌}
use Prim.Native.Nat.{ℕ, suc, ◌+◌, ◌-◌, ◌≤◌, ◌<◌}
use native.Mathlib.Decide.{ℕ_discrete, dec_lt}
use native.Mathlib.Omega.{arith}
use lib.Dec.{eqb, ltb}
use lib.ListN.{length, get_or, take, length-append, get_or-append}
use lib.Seq.{get_or-append_seam, take-append_seam, take-append-le}
use borrow.Author.Tests.{lt-ltb, le-ltb, eq-eqb, ne_eqb}
use Rattle.scheme.specs.Store.{entry_kind, restart_kind, phases, chunk_count, ratchet}
use Rattle.scheme.specs.Items.{item_message, kind_of, chunk_field, data_of, message_of}
use Rattle.scheme.specs.Due.{key_place, own_place, place_after, due_behind}
use Rattle.scheme.specs.declared.KeyPlace.{KeyPlace}
use Rattle.scheme.specs.Keys.{key_at, tag_of}
use Rattle.scheme.specs.Areas.{areas_in, Runs}
use Rattle.scheme.specs.Acceptable.{ItemOf, Stands, there}
use Rattle.scheme.specs.declared.ChunkNumber.{ChunkNumber}
use Rattle.scheme.specs.declared.RatchetOffset.{RatchetOffset}
use Rattle.scheme.proofs.Tests.{chosen}
use Rattle.scheme.proofs.Areas.{joined_last, areas_append}
use Rattle.scheme.proofs.Runs.{runs_append}
use Rattle.scheme.proofs.Due.{same_place, after_full, after_within, due_last}
use Rattle.scheme.proofs.Items.{Made}
use Rattle.claims.specs.Account.{Fed, Account, log_of, carried_by, seal_reached, due_key, step_on}
use Rattle.claims.proofs.Good.{log_in, memory_with, Logs, InLog, ItemAt, front, Laid, counters, Good}
use Rattle.claims.proofs.Steps.Stepping.{step_cases, step_items, step_waiting}
use Rattle.claims.proofs.Steps.StoreLeft.{front_whole, front_half}

-- ---- lists of items with one more

self : (t : Bool) → cond t true false ≡ t
self true = refl
self false = refl

carried_append : (items : List (List ℕ)) (it : List ℕ) (x : ℕ)
    → carried_by (items ++ (it ∷ [])) x ≡ cond (carried_by items x) true (eqb (chunk_field it).0 x)
unfolding carried_by
carried_append [] it x = self (eqb (chunk_field it).0 x)
carried_append (y ∷ items) it x =
    ap (cond (eqb (chunk_field y).0 x) true) (carried_append items it x)
    ∙ sym (chosen (λ (t : Bool). cond t true (eqb (chunk_field it).0 x)) (eqb (chunk_field y).0 x) refl refl)

-- ---- one more item

-- what is due where no chunk waits
pub due_counters : (f : Fed) (a : Account) → Good f a → a.waiting ≡ 0 → due_behind (ratchet f.store) a.items ≡ counters a
due_counters f a good none = good.due ∙ rw (eq-eqb a.waiting 0 none)

-- and where one does
pub due_waiting : (f : Fed) (a : Account) → Good f a → 0 < a.waiting → due_behind (ratchet f.store) a.items ≡ key_place (a.c.0 - 1) a.waiting
due_waiting f a good some = good.due ∙ rw (ne_eqb a.waiting 0 (λ z. omega (arith, some, z)))

-- no chunk waits while another is half used
pub half_free : (f : Fed) (a : Account) → Good f a → 0 < a.r.0 → a.waiting ≡ 0
half_free f a good inner =
    by_cases (ℕ_discrete a.waiting 0) (λ none. none) (λ some. absurd (omega (arith, inner, (good.waits (omega arith)).whole)))

abbrev pub grown_by : Account → List ℕ → List (List ℕ) → Account
grown_by a it logs = record { c = a.c; r = a.r; items = a.items ++ (it ∷ []); logs = logs; lost = a.lost; waiting = 0 }

pub record Adds (f : Fed) (a : Account) (it : List ℕ) (logs : List (List ℕ)) : Type 0 where
  pub room : a.c.0 < chunk_count f.store
  pub sealed : seal_reached a + length it ≤ length f.seal
  pub fit : Logs f logs
  pub own : own_place it ≡ counters a
  pub fresh : ItemAt f logs it
  pub kept : (x : List ℕ) → ItemAt f a.logs x → ItemAt f logs x
  pub runs : (p : ℕ) → 1 ≤ p → p ≤ phases f.store → Runs (length (log_of a p)) (areas_in p (it ∷ [])) (length (log_in logs p))

-- a made item carries the place of the counters
pub made_own : (a : Account) (it head tag : List ℕ) → Made it head a.c a.r tag → own_place it ≡ counters a
made_own a it head tag made = same_place made.chunk made.offset

-- and has the tag of its message under its key
pub item_due : (f : Fed) (a : Account) (it head bytes tag : List ℕ) (logs : List (List ℕ)) → ItemOf f.store it
    → (kind_of it ≡ entry_kind → InLog f logs it) → Made it head a.c a.r tag
    → tag ≡ tag_of f.store (due_key f a) (item_message f.store head bytes) → data_of f.store (memory_with f logs) it ≡ bytes → ItemAt f logs it
unfolding message_of
item_due f a it head bytes tag logs form ranges made tagged same =
    record {
      form = form;
      ranges = ranges;
      tag = made.tag ∙ tagged
          ∙ sym (ap₂ (tag_of f.store) (ap₂ (key_at f.store) made.chunk made.offset) (ap₂ (item_message f.store) made.head same));
    }

-- an entry or a filler stands where the counters do, as long as no chunk waits
pub stands_there : (f : Fed) (a : Account) → Good f a → a.waiting ≡ 0 → (it : List ℕ) → (kind_of it ≡ restart_kind → ⊥) → own_place it ≡ counters a
    → Stands (due_behind (ratchet f.store) a.items) it
stands_there f a good none it other own = there {it = it} other (own ∙ sym (due_counters f a good none))

count_grown : (a : Account) (it : List ℕ) → length (a.items ++ (it ∷ [])) ≡ suc (length a.items)
count_grown a it = rw length-append (omega arith)

module _ (f : Fed) (a : Account) (laid : Laid f a) (it : List ℕ) (logs : List (List ℕ)) (adds : Adds f a it logs) where
  -- its chunk is burned with it
  burned_grown : (x : ℕ) → carried_by (a.items ++ (it ∷ [])) x ≡ ltb x (suc a.c.0)
  burned_grown x =
      carried_append a.items it x
      ∙ ap₂ (λ (t : Bool) (c : ChunkNumber). cond t true (eqb c.0 x)) (laid.burned x) (ap (λ (p : KeyPlace). p.chunk) adds.own)
      ∙ by_cases (ℕ_discrete a.r.0 0) (λ none. by_front a.c.0 (front_whole a none) (omega arith)) (λ some. by_front (suc a.c.0) (front_half a (omega arith)) (omega arith))
    where
      by_front : (n : ℕ) → front a ≡ n → (a.c.0 ≤ n) × (n ≤ suc a.c.0) → cond (ltb x (front a)) true (eqb a.c.0 x) ≡ ltb x (suc a.c.0)
      by_front n is near =
          by_cases (dec_lt x n)
          (λ low. rw (is, lt-ltb x n low) (sym (lt-ltb x (suc a.c.0) (omega (arith, near)))))
          (λ late. rw (is, le-ltb x n (omega arith)) (by_cases (ℕ_discrete a.c.0 x)
          (λ same. eq-eqb a.c.0 x same ∙ sym (lt-ltb x (suc a.c.0) (omega arith)))
          (λ other. ne_eqb a.c.0 x other ∙ sym (le-ltb x (suc a.c.0) (omega (arith, near))))))

  item_grown : (k : ℕ) → k < length (a.items ++ (it ∷ [])) → ItemAt f logs (get_or (a.items ++ (it ∷ [])) k [])
  item_grown k h =
      by_cases (dec_lt k (length a.items))
      (λ before. rw (get_or-append a.items (it ∷ []) [] k before) (adds.kept (get_or a.items k []) (laid.items k before)))
      (λ late.
      let last : k ≡ length a.items = omega (arith, count_grown a it) in
      rw (last, get_or-append_seam a.items it [] []) adds.fresh)

  abbrev at : ChunkNumber → RatchetOffset → Account
  at c r = record { c = c; r = r; items = a.items ++ (it ∷ []); logs = logs; lost = a.lost; waiting = 0 }

  grown_laid : (c : ChunkNumber) (r : RatchetOffset) → r.0 < ratchet f.store → front (at c r) ≡ suc a.c.0 → Laid f (at c r)
  grown_laid c r below ends =
      record {
        offset = below;
        spent = omega (arith, ends, adds.room);
        sealed = rw (joined_last, length-append) adds.sealed;
        logs = adds.fit;
        items = item_grown;
        burned = λ x. burned_grown x ∙ ap (ltb x) (sym ends);
        runs = λ p low high. rw areas_append (runs_append (laid.runs p low high) (adds.runs p low high));
        standing = λ lost. rw (count_grown a it) (omega arith);
      }

  pub adds_laid : Laid f (step_on f (grown_by a it logs))
  adds_laid =
      step_cases f (grown_by a it logs) (Laid f)
      (λ full. grown_laid (record { 0 = suc a.c.0 }) (record { 0 = 0 }) (omega (arith, laid.offset)) refl)
      (λ apart. grown_laid a.c (record { 0 = suc a.r.0 }) (omega (arith, laid.offset, apart)) (rw (ne_eqb (suc a.r.0) 0 (λ z. omega arith))))

module _ (f : Fed) (a : Account) (good : Good f a) (it : List ℕ) (logs : List (List ℕ)) (adds : Adds f a it logs)
    (stands : Stands (due_behind (ratchet f.store) a.items) it) where
  behind : {place : KeyPlace} → place_after (ratchet f.store) (counters a) ≡ place → due_behind (ratchet f.store) (a.items ++ (it ∷ [])) ≡ place
  behind e = due_last (ratchet f.store) (key_place 0 0) a.items it ∙ ap (place_after (ratchet f.store)) adds.own ∙ e

  stands_grown : (k : ℕ) → k < length (a.items ++ (it ∷ [])) → Stands (due_behind (ratchet f.store) (take k (a.items ++ (it ∷ [])))) (get_or (a.items ++ (it ∷ [])) k [])
  stands_grown k h =
      by_cases (dec_lt k (length a.items))
      (λ before. rw (get_or-append a.items (it ∷ []) [] k before, take-append-le k a.items (it ∷ []) (omega arith)) (good.stands k before))
      (λ late.
      let last : k ≡ length a.items = omega (arith, count_grown a it) in
      rw (last, get_or-append_seam a.items it [] [], take-append_seam a.items (it ∷ [])) stands)

  grown_good : (b : Account) → Laid f b → b.items ≡ a.items ++ (it ∷ []) → b.waiting ≡ 0 → due_behind (ratchet f.store) (a.items ++ (it ∷ [])) ≡ counters b → Good f b
  grown_good b laid items none due =
      record {
        laid = laid;
        due = rw (items, eq-eqb b.waiting 0 none) due;
        waits = λ some. absurd (omega (arith, some, none));
        stands = rw items stands_grown;
      }

  pub adds_good : Good f (step_on f (grown_by a it logs))
  adds_good =
      let b = grown_by a it logs in
      grown_good (step_on f b) (adds_laid f a good.laid it logs adds) (step_items f b) (step_waiting f b)
      (step_cases f b (λ d. due_behind (ratchet f.store) b.items ≡ counters d)
      (λ full. behind (after_full (ratchet f.store) (counters a) full))
      (λ apart. behind (after_within (ratchet f.store) (counters a) apart)))
