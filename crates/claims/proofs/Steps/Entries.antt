-- An append that is not refused gives an account all that one more item asks for.
use mathlib.Core.Path.{◌≡◌, refl, sym, ap, ◌∙◌}
use mathlib.Core.Bool.{Bool, true, false, cond}
use mathlib.Core.Logic.{inl, by_cases}
use mathlib.Core.List.{List, [], ◌∷◌, ◌++◌}
use Prim.Native.Nat.{ℕ, ◌+◌, ◌-◌, ◌≤◌, ◌<◌}
use native.Mathlib.Decide.{ℕ_discrete}
use native.Mathlib.Omega.{arith}
use lib.Dec.{eqb}
use lib.ListN.{length, get_or, take, set, length-append, length-set}
use lib.Seq.{get_or-set_same, get_or-set_other, take-append_seam, drop-append_seam, take-length}
use borrow.Author.Tests.{eqb-true, eqb-false}
use Rattle.scheme.specs.Bytes.{part}
use Rattle.scheme.specs.Store.{entry_kind, data_limit, log_capacity, phases, chunk_count}
use Rattle.scheme.specs.Items.{entry_head, item_message, entry_head_length, entry_length, kind_of, data_of}
use Rattle.scheme.specs.Keys.{tag_of}
use Rattle.scheme.specs.Areas.{areas_in, area_of, Runs}
use Rattle.scheme.proofs.Parameters.{entry_value}
use Rattle.scheme.proofs.Tags.{tag_length_lem}
use Rattle.scheme.proofs.Runs.{run_none, run_one}
use Rattle.scheme.proofs.Items.{MadeEntry, made_entry, entry_fields, entry_length_lem, entry_data}
use Rattle.claims.specs.Account.{Fed, Account, log_of, due_key, head_due, entry_due, seal_reached}
use Rattle.claims.proofs.Good.{log_in, memory_with, Logs, InLog, Laid}
use Rattle.claims.proofs.Steps.Begun.{Begun}
use Rattle.claims.proofs.Steps.Adding.{Adds, made_own, item_due}
use Rattle.claims.proofs.Steps.LogsLeft.{log_part, item_kept}

-- what an append that is not refused has found
pub record Appends (f : Fed) (a : Account) (phase : ℕ) (bytes : List ℕ) : Type 0 where
  pub low : 1 ≤ phase
  pub high : phase ≤ phases f.store
  pub some : 1 ≤ length bytes
  pub few : length bytes ≤ data_limit f.store
  pub fits : length (log_of a phase) + length bytes ≤ log_capacity f.store
  pub sealed : seal_reached a + entry_length f.store ≤ length f.seal
  pub room : a.c.0 < chunk_count f.store

abbrev pub logs_with : Account → ℕ → List ℕ → List (List ℕ)
logs_with a phase bytes = set a.logs (phase - 1) (log_of a phase ++ bytes)

pub entry_kind_lem : (f : Fed) (a : Account) (phase : ℕ) (bytes : List ℕ) → kind_of (entry_due f a phase bytes) ≡ entry_kind
unfolding entry_due entry_head
entry_kind_lem f a phase bytes = refl

pub entry_long : (f : Fed) → Begun f → (a : Account) (phase : ℕ) (bytes : List ℕ) → length (entry_due f a phase bytes) ≡ entry_length f.store
unfolding entry_due
entry_long f begun a phase bytes =
    let key = due_key f a in
    let message = item_message f.store (head_due a phase bytes) bytes in
    entry_length_lem _ _ (tag_of f.store key message) _ _ _
    ∙ ap (λ (n : ℕ). entry_head_length + n) (tag_length_lem f.store key message begun.store.set.tag_high)
    ∙ sym (entry_value f.store)

module _ (f : Fed) (begun : Begun f) (a : Account) (laid : Laid f a) (phase : ℕ) (bytes : List ℕ) (asks : Appends f a phase bytes) where
  -- the log of the phase grows, and no other
  log_same : (q : ℕ) → q - 1 ≡ phase - 1 → get_or (logs_with a phase bytes) (q - 1) [] ≡ log_of a phase ++ bytes
  log_same q e = rw e (get_or-set_same a.logs (phase - 1) (log_of a phase ++ bytes) [] (omega arith))

  log_other : (i : ℕ) → (i ≡ phase - 1 → ⊥) → get_or (logs_with a phase bytes) i [] ≡ get_or a.logs i []
  log_other i apart = get_or-set_other a.logs (phase - 1) i (log_of a phase ++ bytes) [] apart

  grown_logs : Logs f (logs_with a phase bytes)
  grown_logs =
      record {
        count = length-set a.logs (phase - 1) (log_of a phase ++ bytes) ∙ laid.logs.count;
        sizes = λ i. by_cases (ℕ_discrete i (phase - 1))
            (λ here. rw (here, log_same phase refl, length-append) asks.fits)
            (λ other. rw (log_other i other) (laid.logs.sizes i));
      }

  grown_front : (q : ℕ) → take (length (log_of a q)) (log_in (logs_with a phase bytes) q) ≡ log_of a q
  grown_front q =
      by_cases (ℕ_discrete (q - 1) (phase - 1))
      (λ same. rw (log_same q same, same) (take-append_seam (log_of a phase) bytes))
      (λ other. rw (log_other (q - 1) other) (take-length (log_of a q)))

  module _ (item : List ℕ) (made : MadeEntry item phase (length (log_of a phase)) (length bytes)) where
    item_data : data_of f.store (memory_with f (logs_with a phase bytes)) item ≡ bytes
    item_data =
        let now = log_same phase refl in
        entry_data f.store (memory_with f (logs_with a phase bytes)) item phase (length (log_of a phase)) (length bytes) made
        ∙ log_part f begun (logs_with a phase bytes) grown_logs phase (length (log_of a phase)) (length bytes) asks.low asks.high
        (omega (arith, ap length now ∙ length-append (log_of a phase) bytes))
        ∙ ap (λ (l : List ℕ). part l (length (log_of a phase)) (length bytes)) now
        ∙ ap (take (length bytes)) (drop-append_seam (log_of a phase) bytes)
        ∙ take-length bytes

    item_ranges : InLog f (logs_with a phase bytes) item
    item_ranges =
        record {
          low = rw made.phase asks.low;
          high = rw made.phase asks.high;
          some = rw made.size asks.some;
          few = rw made.size asks.few;
          inside = rw (made.at, made.size, made.phase, log_same phase refl, length-append) (omega arith);
        }

    item_runs : (q : ℕ) → 1 ≤ q → q ≤ phases f.store
        → Runs (length (log_of a q)) (areas_in q (item ∷ [])) (length (log_in (logs_with a phase bytes) q))
    unfolding areas_in
    item_runs q low high = rw (made.kind, made.phase) (go (eqb phase q) refl)
      where
        go : (t : Bool) → eqb phase q ≡ t → Runs (length (log_of a q)) (cond t (area_of item ∷ []) []) (length (log_in (logs_with a phase bytes) q))
        go true e =
            let same = eqb-true phase q e in
            run_one {area = area_of item} (made.at ∙ ap (λ (p : ℕ). length (log_of a p)) same)
            (rw (made.size, log_same q (omega arith), length-append, same) refl)
        go false e =
            let apart = eqb-false phase q e in
            run_none (sym (ap length (log_other (q - 1) (omega arith))))

  pub entry_adds : Adds f a (entry_due f a phase bytes) (logs_with a phase bytes)
  unfolding entry_due
  entry_adds =
      let logs = logs_with a phase bytes in
      let long = entry_long f begun a phase bytes in
      let head = head_due a phase bytes in
      let tag = tag_of f.store (due_key f a) (item_message f.store head bytes) in
      let high = begun.store.set in
      let made : MadeEntry (head ++ tag) phase (length (log_of a phase)) (length bytes) =
      entry_fields _ _ tag _ _ _
      (omega (arith, laid.logs.sizes (phase - 1), high.capacity_high)) (omega (arith, asks.few, high.data_high)) in
      let is = made_entry a.c a.r tag (omega (arith, asks.room, begun.store.chunks_high)) (omega (arith, laid.offset, begun.store.ratchet_high)) phase (length (log_of a phase)) (length bytes) in
      record {
        room = asks.room;
        sealed = rw long asks.sealed;
        fit = grown_logs;
        own = made_own a (head ++ tag) head tag is;
        fresh = item_due f a (head ++ tag) head bytes tag logs (inl (made.kind, long)) (λ kind. item_ranges (head ++ tag) made)
            is refl (item_data (head ++ tag) made);
        kept = item_kept f begun a.logs logs laid.logs grown_logs grown_front;
        runs = item_runs (head ++ tag) made;
      }
