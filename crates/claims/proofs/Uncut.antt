-- Without cuts no chunk waits and no restart is added, so the items stand in the order of their numbers.
use mathlib.Core.Path.{◌≡◌, refl, sym, ap, ◌∙◌}
use mathlib.Core.Bool.{Bool, true, false, cond}
use mathlib.Core.Logic.{by_cases}
use mathlib.Core.List.{List, [], ◌∷◌, ◌++◌}
use Prim.Native.Nat.{ℕ, zero, suc, ◌<◌}
use native.Mathlib.Nat.{le_refl}
use native.Mathlib.Decide.{dec_lt}
use native.Mathlib.Omega.{arith}
use borrow.Author.Tests.{eqb-true}
use lib.Dec.{eqb, ltb}
use lib.ListN.{length, get_or, take, length-append, get_or-append}
use lib.Seq.{get_or-append_seam, take-length}
use Rattle.scheme.specs.Store.{restart_kind, ratchet}
use Rattle.scheme.specs.Items.{kind_of, entry_head, filler_head}
use Rattle.scheme.specs.Due.{due_behind}
use Rattle.scheme.specs.Acceptable.{Stands, NoRestart}
use Rattle.scheme.proofs.Tests.{either}
use Rattle.scheme.proofs.Due.{rank, due_number, in_order}
use Rattle.claims.specs.Account.{Call, Open, Append, Close, Restart, Cut, Fed, Account, started, entry_due, filler_due, with_item, with_data, account_append, account_close, account_restart, account_refusal, account_done, account_refused, account_step, account_from, AllowedBy, HistoryFrom}
use Rattle.claims.specs.Run.{History}
use Rattle.claims.specs.Claim.{Starts}
use Rattle.claims.specs.Uncut.{Uncut, Straight}
use Rattle.claims.proofs.Histories.{by_account, good}
use Rattle.claims.proofs.Steps.Adding.{due_counters}
use Rattle.claims.proofs.Steps.Begun.{begun}
use Rattle.claims.proofs.Steps.Stepping.{step_items, step_waiting}

-- no restart stands, and no chunk waits for one
record Flat (a : Account) : Type 0 where
  plain : NoRestart (length a.items) a.items
  free : a.waiting ≡ 0

-- one more item of another kind
flat_on : (a b : Account) (it : List ℕ) → Flat a → b.items ≡ a.items ++ (it ∷ []) → b.waiting ≡ 0 → (kind_of it ≡ restart_kind → ⊥) → Flat b
flat_on a b it flat items free other =
    record {
      plain = rw items (λ k h. by_cases (dec_lt k (length a.items))
          (λ before. rw (get_or-append a.items (it ∷ []) [] k before) (flat.plain k before))
          (λ late.
          let last : k ≡ length a.items = omega (arith, h, length-append a.items (it ∷ [])) in
          rw (last, get_or-append_seam a.items it [] []) other));
      free = free;
    }

module _ (f : Fed) where
  entry_flat : (a : Account) (phase : ℕ) (bytes : List ℕ) → Flat a → Flat (account_append f a phase bytes)
  unfolding account_append entry_due entry_head
  entry_flat a phase bytes flat =
      let b = with_data (with_item a (entry_due f a phase bytes)) phase bytes in
      flat_on a (account_append f a phase bytes) (entry_due f a phase bytes) flat (step_items f b) (step_waiting f b) (λ kind. omega (arith, kind))

  close_flat : (n : ℕ) (a : Account) → Flat a → Flat (account_close n f a)
  unfolding account_close filler_due filler_head
  close_flat zero a flat = flat
  close_flat (suc n) a flat =
      let b = with_item a (filler_due f a) in
      either Flat (ltb 0 a.r.0) (close_flat n _ (flat_on a _ (filler_due f a) flat (step_items f b) (step_waiting f b) (λ kind. omega (arith, kind)))) flat

  calls_flat : (calls : List Call) (a : Account) → Uncut calls → HistoryFrom f a calls → Flat a → Flat (account_from f a calls)
  unfolding account_from account_step account_done account_refused Uncut HistoryFrom AllowedBy
  calls_flat [] a uncut history flat = flat
  calls_flat (Open lengths seal_length ∷ calls) a uncut history flat =
      calls_flat calls _ uncut history.1 (either Flat (eqb (account_refusal f a (Open lengths seal_length)) 0)
      (record { plain = flat.plain; free = flat.free }) (record { plain = flat.plain; free = flat.free }))
  calls_flat (Append phase bytes ∷ calls) a uncut history flat =
      calls_flat calls _ uncut history.1 (either Flat (eqb (account_refusal f a (Append phase bytes)) 0) (entry_flat a phase bytes flat) flat)
  calls_flat (Close ∷ calls) a uncut history flat =
      calls_flat calls _ uncut history.1 (either Flat (eqb (account_refusal f a Close) 0) (close_flat (ratchet f.store) a flat) flat)
  calls_flat (Restart number ∷ calls) a uncut history flat = calls_flat calls _ uncut history.1 (go (eqb (account_refusal f a (Restart number)) 0) refl)
    where
      go : (t : Bool) → eqb (account_refusal f a (Restart number)) 0 ≡ t → Flat (cond t (account_restart f a number) a)
      go true e = absurd (omega (arith, (history.0 (eqb-true (account_refusal f a (Restart number)) 0 e)).0, flat.free))
      go false e = flat
  calls_flat (Cut ∷ calls) a uncut history flat = absurd uncut

pub straight : (f : Fed) → Starts f → (calls : List Call) → History f calls → Uncut calls → Straight f calls
unfolding started
straight f starts calls history uncut =
    let a = account_from f (started f) calls in
    let g = good f starts calls history in
    let flat = calls_flat f calls (started f) uncut ((by_account f starts calls).0 history) (record { plain = λ k h. absurd (omega arith); free = refl }) in
    let n = ratchet f.store in
    let some = (begun f starts).store.ratchet_low in
    let stand : (k : ℕ) → k < length a.items → Stands (due_behind n (take k a.items)) (get_or a.items k []) = g.stands in
    let all = due_number n some a.items (length a.items) (le_refl _) stand flat.plain (length a.items) (le_refl _) in
    record {
      order = in_order n some a.items stand flat.plain;
      next = ap (rank n) (sym (due_counters f a g flat.free) ∙ ap (due_behind n) (sym (take-length a.items))) ∙ all;
    }
