-- The state steps on as the account does: the held key is the due one, the lengths and the seal length are those reached.
use mathlib.Core.Path.{◌≡◌, refl, sym, ap, ap₂, ◌∙◌}
use mathlib.Core.Bool.{Bool, true, false, cond}
use mathlib.Core.Logic.{by_cases}
use mathlib.Core.List.{List, [], ◌∷◌, ◌++◌}
use Prim.Native.Nat.{ℕ, zero, suc, ◌+◌, ◌-◌, ◌*◌, ◌≤◌, ◌<◌}
use native.Mathlib.Decide.{ℕ_discrete}
use native.Mathlib.Omega.{arith}
use lib.Dec.{eqb, ltb}
use lib.ListN.{length, get_or, set, replicate, length-append, length-set}
use borrow.Author.Tests.{eqb-true, ne_eqb, lt-ltb, le-ltb}
use Rattle.scheme.specs.Bytes.{splice, joined}
use Rattle.scheme.specs.Store.{chunk_count, ratchet, chunk, chunk_place}
use Rattle.scheme.specs.Items.{entry_length, filler_length}
use Rattle.scheme.specs.declared.RatchetOffset.{RatchetOffset}
use Rattle.scheme.specs.Keys.{next_key, key_after}
use Rattle.scheme.specs.Sealer.{used_key, stepped, grown, sealed_more, entry_item, filler_item, burned_store, filled_state, filled_seal}
use Rattle.scheme.proofs.Areas.{joined_last}
use Rattle.scheme.proofs.Headers.{SameFields, same_entry_length, same_filler_length, same_ratchet_message}
use Rattle.scheme.proofs.Tags.{same_tag}
use Rattle.scheme.proofs.Burning.{zeroed, zeroed_later, zeroed_next}
use Rattle.claims.specs.Account.{Fed, Account, log_of, seal_reached, due_key, entry_due, filler_due, with_item, with_data, step_on}
use Rattle.claims.specs.Left.{store_left, seal_left, eight, holding, held}
use Rattle.claims.proofs.Good.{front, Laid}
use Rattle.claims.proofs.Steps.Begun.{Begun}
use Rattle.claims.proofs.Steps.Device.{eight_log, lengths_set, left_fields, seal_append}
use Rattle.claims.proofs.Steps.Fillers.{left, left_some, left_next, fill, filled, filled_below, filler_long, filled_sealed}
use Rattle.claims.proofs.Steps.Stepping.{step_turned, step_onward, step_cases, step_items, step_logs, step_lost}
use Rattle.claims.proofs.Steps.StoreLeft.{front_whole, store_left_lem}

-- after an item sealed with the due key
module _ (f : Fed) (store : List ℕ) (same : SameFields store f.store) where
  next_due : (key : List ℕ) (r : RatchetOffset) → next_key store key r ≡ next_key f.store key r
  unfolding next_key
  next_due key r = rw (same_ratchet_message store f.store same r)

  pub stepped_held : (a : Account) → a.r.0 < ratchet f.store → (key : List ℕ) → stepped store (due_key f a) (holding a key) ≡ held f (step_on f a)
  unfolding stepped key_after
  stepped_held a below key =
      by_cases (ℕ_discrete (suc a.r.0) (ratchet f.store))
      (λ full. rw (step_turned f a full, same.ratchet, le-ltb (suc a.r.0) (ratchet f.store) (omega arith)))
      (λ apart.
      let test : ltb (suc a.r.0) (ratchet store) ≡ true = rw same.ratchet (lt-ltb (suc a.r.0) (ratchet f.store) (omega arith)) in
      rw (step_onward f a apart, test, next_due (due_key f a) (record { 0 = suc a.r.0 }), ne_eqb (suc a.r.0) 0 (λ z. omega arith)))

-- the key that is used is the due one
module _ (f : Fed) (begun : Begun f) (a : Account) (laid : Laid f a) where
  pub first_due : a.r.0 ≡ 0 → chunk (store_left f a) a.c.0 ≡ due_key f a
  unfolding key_after
  first_due first =
      ap (λ (st : List ℕ). chunk st a.c.0) (store_left_lem f a laid begun.store)
      ∙ zeroed_later f.store begun.store (front a) laid.spent a.c.0 (omega (arith, front_whole a first))
      ∙ ap (key_after f.store a.c) (sym first)

  used_due : used_key (store_left f a) (held f a) ≡ due_key f a
  unfolding used_key
  used_due = go (eqb a.r.0 0) refl
    where
      go : (t : Bool) → eqb a.r.0 0 ≡ t → cond t (chunk (store_left f a) a.c.0) (cond t (replicate 32 0) (due_key f a)) ≡ due_key f a
      go true e = first_due (eqb-true a.r.0 0 e)
      go false e = refl

  pub entry_made : (phase : ℕ) (bytes : List ℕ) → entry_item (store_left f a) (held f a) phase bytes ≡ entry_due f a phase bytes
  unfolding entry_item entry_due
  entry_made phase bytes =
      rw (used_due, eight_log a.logs (8 - length a.logs) (phase - 1), same_tag (store_left f a) f.store (left_fields f begun a laid), (left_fields f begun a laid).id)

  -- the chunk of the item is burned
  pub burned_due : a.c.0 < chunk_count f.store → burned_store (store_left f a) (held f a) ≡ zeroed f.store (suc a.c.0)
  unfolding burned_store
  burned_due room = rw (store_left_lem f a laid begun.store) (go (eqb a.r.0 0))
    where
      go : (t : Bool)
          → (let st = zeroed f.store (cond t a.c.0 (suc a.c.0)) in cond t (splice st (chunk_place st a.c.0) (replicate 32 0)) st)
          ≡ zeroed f.store (suc a.c.0)
      go true = zeroed_next f.store begun.store a.c.0 room
      go false = refl

  -- the state that an append leaves
  pub appended_state : (phase : ℕ) (bytes it : List ℕ) → phase - 1 < length a.logs → length it ≡ entry_length f.store
      → stepped (store_left f a) (used_key (store_left f a) (held f a)) (grown (held f a) phase (length bytes) (entry_length (store_left f a)))
      ≡ held f (step_on f (with_data (with_item a it) phase bytes))
  appended_state phase bytes it h long =
      ap₂ (stepped (store_left f a)) used_due
      (ap₂ (λ (lengths : List ℕ) (sealed : ℕ). record { chunk = a.c; offset = a.r; key = (held f a).key; lengths = lengths; seal_length = sealed })
      lengths_grown sealed_grown)
      ∙ stepped_held f (store_left f a) (left_fields f begun a laid) (with_data (with_item a it) phase bytes) laid.offset (held f a).key
    where
      lengths_grown : set (eight a.logs) (phase - 1) (get_or (eight a.logs) (phase - 1) 0 + length bytes)
          ≡ eight (set a.logs (phase - 1) (log_of a phase ++ bytes))
      lengths_grown =
          rw (eight_log a.logs (8 - length a.logs) (phase - 1), ← length-append (log_of a phase) bytes, length-set a.logs (phase - 1) (log_of a phase ++ bytes))
          (lengths_set a.logs (8 - length a.logs) (phase - 1) (log_of a phase ++ bytes) h)

      sealed_grown : seal_reached a + entry_length (store_left f a) ≡ length (joined (a.items ++ (it ∷ [])))
      sealed_grown = rw (joined_last, length-append, long, same_entry_length (store_left f a) f.store (left_fields f begun a laid))

pub step_front : (f : Fed) (a : Account) → front (step_on f a) ≡ suc a.c.0
step_front f a =
    step_cases f a (λ b. front b ≡ suc a.c.0) (λ full. refl) (λ apart. rw (ne_eqb (suc a.r.0) 0 (λ z. omega arith)))

-- fillers
module _ (f : Fed) (begun : Begun f) (store : List ℕ) (same : SameFields store f.store) where
  key_due_lem : (a : Account) → 0 < a.r.0 → (held f a).key ≡ due_key f a
  key_due_lem a inner = rw (ne_eqb a.r.0 0 (λ z. omega arith))

  filled_held : (a : Account) → 0 < a.r.0 → a.r.0 < ratchet f.store
      → stepped store (held f a).key (sealed_more (held f a) (filler_length store)) ≡ held f (filled f a)
  filled_held a inner below =
      ap₂ (stepped store) (key_due_lem a inner)
      (ap (λ (sealed : ℕ). record { chunk = a.c; offset = a.r; key = (held f a).key; lengths = eight a.logs; seal_length = sealed }) sealed_more_lem)
      ∙ stepped_held f store same (with_item a (filler_due f a)) below (held f a).key
    where
      sealed_more_lem : seal_reached a + filler_length store ≡ length (joined (a.items ++ (filler_due f a ∷ [])))
      sealed_more_lem = rw (joined_last, length-append, filler_long f begun, same_filler_length store f.store same)

  filler_made : (a : Account) → 0 < a.r.0 → filler_item store (held f a) ≡ filler_due f a
  unfolding filler_item filler_due
  filler_made a inner = rw (key_due_lem a inner, same_tag store f.store same, same.id)

  pub fill_state : (k : ℕ) (a : Account) → a.r.0 < ratchet f.store → left f a ≡ k → filled_state store k (held f a) ≡ held f (fill f k a)
  unfolding filled_state fill
  fill_state zero a below e = refl
  fill_state (suc k) a below e =
      ap (filled_state store k) (filled_held a (left_some f a k e).0 below)
      ∙ fill_state k (filled f a) (filled_below f a below) (left_next f a k below e)

  pub fill_seal : (k : ℕ) (a : Account) → a.r.0 < ratchet f.store → left f a ≡ k
      → seal_reached a + k * filler_length f.store ≤ length f.seal
      → filled_seal store k (held f a) (seal_left f a) ≡ seal_left f (fill f k a)
  unfolding filled_seal fill
  fill_seal zero a below e h = refl
  fill_seal (suc k) a below e h =
      let inner = (left_some f a k e).0 in
      let it = filler_due f a in
      ap₂ (filled_seal store k) (filled_held a inner below)
      (ap (splice (seal_left f a) (seal_reached a)) (filler_made a inner)
      ∙ seal_append f a it (omega (arith, filler_long f begun a))
      ∙ ap (λ (items : List (List ℕ)). splice f.seal 0 (joined items)) (sym (step_items f (with_item a it))))
      ∙ fill_seal k (filled f a) (filled_below f a below) (left_next f a k below e) (omega (arith, filled_sealed f begun a))

module _ (f : Fed) where
  -- what no filler changes stays
  fill_keeps : {A : Type 0} (g : Account → A) → ((a : Account) → g (filled f a) ≡ g a) → (k : ℕ) (a : Account) → g (fill f k a) ≡ g a
  unfolding fill
  fill_keeps g same zero a = refl
  fill_keeps g same (suc k) a = fill_keeps g same k (filled f a) ∙ same a

  pub fill_logs : (k : ℕ) (a : Account) → (fill f k a).logs ≡ a.logs
  fill_logs = fill_keeps (λ b. b.logs) (λ b. step_logs f (with_item b (filler_due f b)))

  pub fill_lost : (k : ℕ) (a : Account) → (fill f k a).lost ≡ a.lost
  fill_lost = fill_keeps (λ b. b.lost) (λ b. step_lost f (with_item b (filler_due f b)))

  pub fill_front : (k : ℕ) (a : Account) → a.r.0 < ratchet f.store → left f a ≡ k → front (fill f k a) ≡ front a
  unfolding fill
  fill_front zero a below e = refl
  fill_front (suc k) a below e =
      let inner = (left_some f a k e).0 in
      fill_front k (filled f a) (filled_below f a below) (left_next f a k below e)
      ∙ step_front f (with_item a (filler_due f a))
      ∙ sym (rw (ne_eqb a.r.0 0 (λ z. omega arith)))
