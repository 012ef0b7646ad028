-- A restart that is not refused gives an account all that one more item asks for, and stands where a key is due where a history allows it.
use mathlib.Core.Path.{◌≡◌, refl, sym, ap, subst, ◌∙◌}
use mathlib.Core.Logic.{inr}
use mathlib.Core.List.{[], ◌++◌}
use Prim.Native.Nat.{ℕ, suc, ◌+◌, ◌-◌, ◌≤◌, ◌<◌}
use native.Mathlib.Omega.{arith}
use lib.ListN.{length}
use Rattle.scheme.specs.Store.{restart_kind, chunk_count, ratchet}
use Rattle.scheme.specs.Items.{item_message, chunk_number, ratchet_offset, restart_head, restart_head_length, restart_length, kind_of, number_field}
use Rattle.scheme.specs.Due.{key_place, due_behind}
use Rattle.scheme.specs.Keys.{tag_of}
use Rattle.scheme.specs.Areas.{areas_in, none}
use Rattle.scheme.specs.Acceptable.{Stands, restarts}
use Rattle.scheme.proofs.Parameters.{restart_value}
use Rattle.scheme.proofs.Tags.{tag_length_lem}
use Rattle.scheme.proofs.Due.{same_place}
use Rattle.scheme.proofs.Items.{Made, made_restart, restart_number, restart_kind_lem, restart_length_lem, restart_data}
use Rattle.claims.specs.Account.{Fed, Account, due_key, restart_due, seal_reached}
use Rattle.claims.proofs.Good.{memory_with, Laid, counters, Good}
use Rattle.claims.proofs.Steps.Begun.{Begun}
use Rattle.claims.proofs.Steps.Adding.{due_waiting, Adds, made_own, item_due}

-- what a restart that is not refused has found
pub record Restarts (f : Fed) (a : Account) (number : ℕ) : Type 0 where
  pub few : number ≤ ratchet f.store - 1
  pub first : a.r.0 ≡ 0
  pub sealed : seal_reached a + restart_length f.store ≤ length f.seal
  pub room : a.c.0 < chunk_count f.store

-- the length of its item
pub restart_long : (f : Fed) → Begun f → (a : Account) (number : ℕ) → length (restart_due f a number) ≡ restart_length f.store
unfolding restart_due
restart_long f begun a number =
    let message = item_message f.store (restart_head a.c number) [] in
    restart_length_lem a.c number (tag_of f.store (due_key f a) message)
    ∙ ap (λ (n : ℕ). restart_head_length + n) (tag_length_lem f.store (due_key f a) message begun.store.set.tag_high)
    ∙ sym (restart_value f.store)

-- its kind and its number
pub restart_is : (f : Fed) (a : Account) (number : ℕ) → kind_of (restart_due f a number) ≡ restart_kind
unfolding restart_due restart_head
restart_is f a number = refl

pub restart_says : (f : Fed) → Begun f → (a : Account) (number : ℕ) → number ≤ ratchet f.store - 1 → number_field (restart_due f a number) ≡ number
unfolding restart_due
restart_says f begun a number few =
    restart_number a.c number (tag_of f.store (due_key f a) (item_message f.store (restart_head a.c number) [])) (omega (arith, few, begun.store.ratchet_high))

module _ (f : Fed) (begun : Begun f) (a : Account) (number : ℕ) (asks : Restarts f a number) where
  pub restart_adds : Laid f a → Adds f a (restart_due f a number) a.logs
  unfolding restart_due areas_in
  restart_adds laid =
      let long = restart_long f begun a number in
      let head = restart_head a.c number in
      let tag = tag_of f.store (due_key f a) (item_message f.store head []) in
      let it = head ++ tag in
      let kind = restart_kind_lem a.c number tag in
      let is : Made it head a.c a.r tag
      = subst (λ r. Made it head a.c r tag) (ap ratchet_offset (sym asks.first)) (made_restart a.c number tag (omega (arith, asks.room, begun.store.chunks_high))) in
      record {
        room = asks.room;
        sealed = rw long asks.sealed;
        fit = laid.logs;
        own = made_own a it head tag is;
        fresh = item_due f a it head [] tag a.logs (inr (inr (kind, long))) (λ entry. absurd (omega (arith, kind, entry)))
            is refl (restart_data f.store (memory_with f a.logs) it kind);
        kept = λ x i. i;
        runs = λ q low high. rw kind none;
      }

  -- one that a history allows stands where a key is due
  pub restart_stands : Good f a → 0 < a.waiting → number ≡ a.waiting → Stands (due_behind (ratchet f.store) a.items) (restart_due f a number)
  restart_stands good some true_number =
      let it = restart_due f a number in
      let later : counters a ≡ key_place (suc (a.c.0 - 1)) 0
      = same_place (ap chunk_number (omega (arith, (good.waits some).later))) (ap ratchet_offset asks.first) in
      subst (λ p. Stands p it) (sym (due_waiting f a good some))
      (restarts {due = key_place (a.c.0 - 1) a.waiting} {it = it} (restart_is f a number) some ((restart_adds good.laid).own ∙ later)
      (restart_says f begun a number asks.few ∙ true_number))
