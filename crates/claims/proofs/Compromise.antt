-- The second part of the claim: material that the audit accepts has the controller's items and their data, or a first one that differs, with a right
-- tag under a key that is gone with a burned chunk, or it shows such a chunk; or that first one is a restart of the next chunk, behind b (`beyond`).
-- So the first b are intact, or one of them is forged, or a chunk is shown (`compromise`). Assumes what holds of the account (Good).
use mathlib.Core.Path.{◌≡◌, refl, sym, ap, ap₂, subst, ◌∙◌}
use mathlib.Core.Bool.{Bool, true, false, cond, true≢false}
use mathlib.Core.Logic.{◌⊎◌, inl, inr, ⊎_elim, by_cases}
use mathlib.Core.List.{List, [], ◌∷◌, ◌++◌, List-discrete}
use Prim.Native.Nat.{ℕ, zero, suc, ◌+◌, ◌-◌, ◌*◌, ◌≤◌, ◌<◌}
use native.Mathlib.Nat.{le_refl}
use native.Mathlib.Decide.{ℕ_discrete, dec_le, dec_lt}
use native.Mathlib.Omega.{arith}
use lib.Dec.{eqb}
use lib.ListN.{length, get_or, take, drop, get_or-append, get_or-eq_default}
use lib.Seq.{take-take, length-take-le, get_or-take, ext_get_or, take-length, drop_at}
use borrow.Author.Tests.{eqb-true, eq-eqb, lt-ltb, le-ltb}
use Rattle.scheme.specs.Store.{ratchet_kind, chunk_count, ratchet, burned_front}
use Rattle.scheme.specs.Items.{ratchet_head, message_prefix, ratchet_message, chunk_number, ratchet_offset, kind_of, pieces, chunk_field, offset_field, head_length, head_of, item_tag, data_of, message_of}
use Rattle.scheme.specs.Due.{key_place, own_place, place_after, due_from, due_behind}
use Rattle.scheme.specs.declared.KeyPlace.{KeyPlace}
use Rattle.scheme.specs.Keys.{key_of, tag_of}
use Rattle.scheme.specs.Audit.{audit}
use Rattle.scheme.specs.Acceptable.{Acceptable, ItemOf, Stands, there, restarts}
use Rattle.scheme.specs.declared.RatchetOffset.{RatchetOffset}
use Rattle.scheme.proofs.Tests.{either}
use Rattle.scheme.proofs.Scans.{row_most}
use Rattle.scheme.proofs.Headers.{SameFields, same_fields, same_data_of}
use Rattle.scheme.proofs.Items.{head_fits, behind, message_split, head_length_lem, same_data, same_item, same_key}
use Rattle.scheme.proofs.Tags.{same_tag}
use Rattle.scheme.proofs.Due.{rank, same_place, after_full, after_within, after_chunk, due_on, due_within, due_after_lem, stands_after, stands_once}
use Rattle.scheme.proofs.Acceptance.{accepts, acceptable_pieces, of_burned}
use Rattle.claims.specs.Account.{Fed, Account, carried_by, carried}
use Rattle.claims.specs.Left.{logs_left, first_left}
use Rattle.claims.specs.Claim.{own_item, Starts, last_burned, last_chunk, up_to_first, secured, Held, unburned, held_key, stepped_on, own_message, presented, presented_message, Intact, Forged, Shown, IntactOrBroken, Dropped, Accepted}
use Rattle.claims.specs.Behind.{NoneBegun}
use Rattle.claims.proofs.Good.{Good, front, counters}
use Rattle.claims.proofs.Steps.Adding.{due_counters, half_free}
use Rattle.claims.proofs.Steps.Fits.{item_burned}
use Rattle.claims.proofs.Honest.{front_left}

-- ---- the first difference

-- two rows of byte lists agree below n, or differ at a first place
abbrev FirstDiffers : (ℕ → List ℕ) → (ℕ → List ℕ) → ℕ → Type 0
FirstDiffers x y n = (k : ℕ) × (k < n) × ((j : ℕ) → j < k → x j ≡ y j) × (x k ≡ y k → ⊥)

agree_or_differ : (x y : ℕ → List ℕ) (n : ℕ) → ((k : ℕ) → k < n → x k ≡ y k) ⊎ FirstDiffers x y n
agree_or_differ x y zero = inl (λ k h. absurd (omega arith))
agree_or_differ x y (suc n) = go (agree_or_differ x y n) (List-discrete ℕ_discrete (x n) (y n))
  where
    go : ((k : ℕ) → k < n → x k ≡ y k) ⊎ FirstDiffers x y n → Dec (x n ≡ y n) → ((k : ℕ) → k < suc n → x k ≡ y k) ⊎ FirstDiffers x y (suc n)
    go (inr found) last = inr (found.0, omega (arith, found.1), found.2, found.3)
    go (inl below) (no differs) = inr (n, omega arith, below, differs)
    go (inl below) (yes same) =
        inl (λ k h. by_cases (ℕ_discrete n k) (λ here. rw here at same) (λ other. below k (omega arith)))

-- ---- b

-- up to the first item of a chunk none before it is of that chunk
pub up_to_most : (x : ℕ) (items : List (List ℕ)) → up_to_first x items ≤ length items
unfolding up_to_first
up_to_most x [] = omega arith
up_to_most x (it ∷ items) =
    let more = up_to_most x items in
    either (λ n. suc n ≤ suc (length items)) (eqb (chunk_field it).0 x) (omega (arith, more)) (omega (arith, more))

up_to_before : (x : ℕ) (items : List (List ℕ)) (k j : ℕ) → k < up_to_first x items → j < k → (chunk_field (get_or items j [])).0 ≡ x → ⊥
unfolding up_to_first
up_to_before x [] k j h before same = absurd (omega arith)
up_to_before x (it ∷ items) k zero h before same = let first = eq-eqb (chunk_field it).0 x same in omega (arith, rw first at h)
up_to_before x (it ∷ items) zero (suc j) h before same = omega arith
up_to_before x (it ∷ items) (suc k) (suc j) h before same =
    either (λ n. suc k < suc n → ⊥) (eqb (chunk_field it).0 x)
    (λ low. omega (arith, low))
    (λ low. up_to_before x items k j (omega (arith, low)) (omega arith) same)
    h

pub up_to_found : (x : ℕ) (items : List (List ℕ)) → carried_by items x ≡ true → (j : ℕ) × (up_to_first x items ≡ suc j) × ((chunk_field (get_or items j [])).0 ≡ x)
unfolding up_to_first carried_by
up_to_found x [] e = absurd (true≢false (sym e))
up_to_found x (it ∷ items) e = go (eqb (chunk_field it).0 x) refl e (up_to_found x items)
  where
    go : (t : Bool) → eqb (chunk_field it).0 x ≡ t → cond t true (carried_by items x) ≡ true
        → (carried_by items x ≡ true → (j : ℕ) × (up_to_first x items ≡ suc j) × ((chunk_field (get_or items j [])).0 ≡ x))
        → (j : ℕ) × (suc (cond t 0 (up_to_first x items)) ≡ suc j) × ((chunk_field (get_or (it ∷ items) j [])).0 ≡ x)
    go true here e rest = (0, refl, eqb-true (chunk_field it).0 x here)
    go false other e rest = let later = rest e in (suc later.0, ap suc later.1, later.2)

-- the last chunk burned is the one before the front
last_burned_lem : (f : Fed) (a : Account) → Good f a → (n : ℕ) → front a ≤ n → 0 < front a → suc (last_burned a n) ≡ front a
unfolding last_burned
last_burned_lem f a good zero most some = absurd (omega arith)
last_burned_lem f a good (suc n) most some =
    by_cases (dec_lt n (front a))
    (λ here. rw (good.laid.burned n ∙ lt-ltb n (front a) here) (omega arith))
    (λ beyond. rw (good.laid.burned n ∙ le-ltb n (front a) (omega arith)) (last_burned_lem f a good n (omega arith) some))

-- ---- items and their messages

-- what an item stands at is of a chunk that is not behind its own
pub stands_chunk : {due : KeyPlace} {it : List ℕ} → Stands due it → due.chunk.0 ≤ (chunk_field it).0
stands_chunk (there other place) = omega (arith, ap (λ (p : KeyPlace). p.chunk.0) place)
stands_chunk (restarts kind above place number) = omega (arith, ap (λ (p : KeyPlace). p.chunk.0) place)

-- a message of an item is no ratchet message: the bytes of kind differ
item_kind : (st logs it : List ℕ) → ItemOf st it → (get_or (behind st logs it) 0 0 ≡ kind_of it) × (kind_of it ≡ ratchet_kind → ⊥)
item_kind st logs it form = (
  get_or-append (head_of it) (data_of st logs it) 0 0 (omega (arith, head_length_lem st logs it (head_fits st it form), some form))
      ∙ get_or-take (head_length it) it 0 0 (some form),
  other form,
)
  where
    some : ItemOf st it → 0 < head_length it
    some (inl entry) = rw entry.0 (omega arith)
    some (inr (inl filler)) = rw filler.0 (omega arith)
    some (inr (inr restart)) = rw restart.0 (omega arith)

    other : ItemOf st it → kind_of it ≡ ratchet_kind → ⊥
    other (inl entry) e = omega (arith, entry.0, e)
    other (inr (inl filler)) e = omega (arith, filler.0, e)
    other (inr (inr restart)) e = omega (arith, restart.0, e)

no_ratchet : (st logs it other : List ℕ) → message_prefix st ≡ message_prefix other → ItemOf st it → (r : RatchetOffset) → message_of st logs it ≡ ratchet_message other r → ⊥
unfolding ratchet_message ratchet_head
no_ratchet st logs it other alike form r same =
    let k = item_kind st logs it form in
    let ahead = message_prefix other in
    let rest = ratchet_head (ratchet other) r in
    let split : message_prefix st ++ behind st logs it ≡ ahead ++ rest = sym (message_split st logs it) ∙ same in
    let cut : behind st logs it ≡ rest
    = sym (drop_at (message_prefix st) (behind st logs it) (length (message_prefix st)) refl) ∙ ap₂ drop (ap length alike) split ∙ drop_at ahead rest (length ahead) refl in
    k.1 (sym k.0 ∙ ap (λ (m : List ℕ). get_or m 0 0) cut)

-- ---- the items of the account

-- what item k stands at
abbrev pub due_at : Fed → Account → ℕ → KeyPlace
due_at f a k = due_behind (ratchet f.store) (take k a.items)

-- a held place is one of a chunk that is not burned, or from the counters on in the half-used one
held_shape : {f : Fed} {a : Account} {place : KeyPlace} → Held f a place
    → (carried a place.chunk.0 ≡ false) ⊎ ((0 < a.r.0) × (place.chunk.0 ≡ a.c.0) × (a.r.0 ≤ place.offset.0))
held_shape (unburned low free) = inl free
held_shape (held_key inner) = inr (omega (arith, inner), refl, omega arith)
held_shape {f} {a} (stepped_on {place = place} held) = further (held_shape held)
  where
    further : (carried a place.chunk.0 ≡ false) ⊎ ((0 < a.r.0) × (place.chunk.0 ≡ a.c.0) × (a.r.0 ≤ place.offset.0))
        → (carried a place.chunk.0 ≡ false) ⊎ ((0 < a.r.0) × (place.chunk.0 ≡ a.c.0) × (a.r.0 ≤ suc place.offset.0))
    further (inl free) = inl free
    further (inr (inner, chunk, late)) = inr (inner, chunk, omega (arith, late))

module _ (f : Fed) (a : Account) (good : Good f a) (some : 1 ≤ ratchet f.store) where
  abbrev n : ℕ
  n = ratchet f.store

  abbrev many : ℕ
  many = length a.items

  pub stand : (k : ℕ) → k < many → Stands (due_at f a k) (own_item a k)
  stand = good.stands

  -- item k stands at a key of a burned chunk
  pub due_burned : (k : ℕ) → k < many → (due_at f a k).chunk.0 < front a
  due_burned k h = omega (arith, stands_chunk (stand k h), item_burned f a good.laid k h)

  pub ends : 0 < many → suc (last_chunk f a) ≡ front a
  ends h = last_burned_lem f a good (chunk_count f.store) good.laid.spent (omega (arith, item_burned f a good.laid 0 h))

  -- and at one that is not held; nor is the first key of a burned chunk
  free_burned : (x : ℕ) → x < front a → carried a x ≡ false → ⊥
  free_burned x h free = true≢false (sym (good.laid.burned x ∙ lt-ltb x (front a) h) ∙ free)

  due_unheld : (k : ℕ) → k < many → Held f a (due_at f a k) → ⊥
  due_unheld k h held = go (held_shape held)
    where
      go : (carried a (due_at f a k).chunk.0 ≡ false) ⊎ ((0 < a.r.0) × ((due_at f a k).chunk.0 ≡ a.c.0) × (a.r.0 ≤ (due_at f a k).offset.0)) → ⊥
      go (inl free) = free_burned _ (due_burned k h) free
      go (inr (inner, chunk, late)) =
          let all : due_at f a many ≡ counters a = ap (due_behind n) (take-length a.items) ∙ due_counters f a good (half_free f a good inner) in
          let low = due_after_lem n some a.items many (le_refl _) stand k many h (le_refl _) in
          let up = stands_after n (due_within n some a.items many (le_refl _) stand k (omega (arith, h))) (stand k h) in
          omega (arith, low, up, late, ap (rank n) all, ap (λ (c : ℕ). c * n) chunk)

  first_unheld : (x : ℕ) → x < front a → Held f a (key_place x 0) → ⊥
  first_unheld x h held = go (held_shape held)
    where
      go : (carried a x ≡ false) ⊎ ((0 < a.r.0) × (x ≡ a.c.0) × (a.r.0 ≤ 0)) → ⊥
      go (inl free) = free_burned x h free
      go (inr (inner, chunk, late)) = omega (arith, inner, late)

  -- ---- behind b

  pub b_most : secured f a ≤ many
  b_most = up_to_most (last_chunk f a) a.items

  -- where a key of the last burned chunk is due behind its first, b is reached
  b_reached : (k : ℕ) → k < many → (due_at f a k).chunk.0 ≡ (last_chunk f a) → 0 < (due_at f a k).offset.0 → secured f a ≤ k
  unfolding due_from
  b_reached zero h chunk above = absurd (omega (arith, above))
  b_reached (suc k) h chunk above =
      let due = due_on n a.items k (omega arith) in
      let near = (after_chunk n (own_place (own_item a k))).1 (rw due at above) in
      let own : (chunk_field (own_item a k)).0 ≡ (last_chunk f a) = omega (arith, near, chunk, ap (λ (p : KeyPlace). p.chunk.0) due) in
      by_cases (dec_lt (suc k) (secured f a)) (λ low. absurd (up_to_before (last_chunk f a) a.items (suc k) k low (omega arith) own)) (λ late. omega (arith, late))

  -- one of that chunk is followed by the next of it
  next_on : (k r : ℕ) → suc k < many → own_place (own_item a k) ≡ key_place (last_chunk f a) r → due_at f a (suc k) ≡ key_place (last_chunk f a) (suc r)
  next_on k r h own =
      let due = due_on n a.items k (omega (arith, h)) ∙ ap (place_after n) own in
      by_cases (ℕ_discrete (suc r) n)
      (λ full.
      let over = ap (λ (p : KeyPlace). p.chunk.0) (due ∙ after_full n (key_place (last_chunk f a) r) full) in
      absurd (omega (arith, over, due_burned (suc k) h, ends (omega (arith, h)))))
      (λ apart. due ∙ after_within n (key_place (last_chunk f a) r) apart)

  -- the first of it stands at its first key
  first_own : (k : ℕ) → k < secured f a → (chunk_field (own_item a k)).0 ≡ (last_chunk f a) → own_place (own_item a k) ≡ key_place (last_chunk f a) 0
  first_own k low chunk = go (stand k within)
    where
      within : k < many
      within = omega (arith, low, b_most)

      go : Stands (due_at f a k) (own_item a k) → own_place (own_item a k) ≡ key_place (last_chunk f a) 0
      go (there other place) =
          by_cases (ℕ_discrete (due_at f a k).offset.0 0)
          (λ none. same_place (ap chunk_number chunk) (ap ratchet_offset (ap (λ (p : KeyPlace). p.offset.0) place ∙ none)))
          (λ above. absurd (omega (arith, low, b_reached k within (sym (ap (λ (p : KeyPlace). p.chunk.0) place) ∙ chunk) (omega (arith, above)))))
      go (restarts kind above place number) = same_place (ap chunk_number chunk) (ap (λ (p : KeyPlace). p.offset) place)

  -- so behind b the keys of the last burned chunk are due, one after another
  pub behind_due : (d : ℕ) → secured f a + d < many → due_at f a (secured f a + d) ≡ key_place (last_chunk f a) (suc d)
  behind_due zero h =
      let found = up_to_found (last_chunk f a) a.items (good.laid.burned (last_chunk f a) ∙ lt-ltb (last_chunk f a) (front a) (omega (arith, ends (omega (arith, h))))) in
      let here : secured f a + 0 ≡ suc found.0 = omega (arith, found.1) in
      rw here (next_on found.0 0 (omega (arith, h, here)) (first_own found.0 (omega (arith, here)) found.2))
  behind_due (suc d) h =
      let before = behind_due d (omega (arith, h)) in
      let k = secured f a + d in
      let here : secured f a + suc d ≡ suc k = omega arith in
      rw here (next_on k (suc d) (omega (arith, h)) (go before (stand k (omega (arith, h)))))
    where
      go : due_at f a (secured f a + d) ≡ key_place (last_chunk f a) (suc d) → Stands (due_at f a (secured f a + d)) (own_item a (secured f a + d))
          → own_place (own_item a (secured f a + d)) ≡ key_place (last_chunk f a) (suc d)
      go due (there other place) = place ∙ due
      go due (restarts kind above place number) =
          absurd (omega (arith, ap (λ (p : KeyPlace). p.chunk.0) place, ap (λ (p : KeyPlace). p.chunk.0) due, item_burned f a good.laid (secured f a + d) (omega (arith, h)), ends (omega (arith, h))))

-- ---- what is presented

pub front_most : (st : List ℕ) → burned_front st ≤ chunk_count st
unfolding burned_front
front_most st = row_most _ 0 (chunk_count st)

module _ (f : Fed) (starts : Starts f) (a : Account) (good : Good f a) (device logs lengths seal : List ℕ) (n : ℕ)
    (ok : Acceptable device f.store logs lengths seal n) where
  fields : SameFields device f.store
  fields = same_fields device f.store ok.headers

  cut_so : pieces device seal ≡ ok.items
  cut_so = acceptable_pieces device f.store logs lengths seal n ok

  count : length (pieces device seal) ≡ n
  count = ap length cut_so ∙ sym ok.count

  abbrev keys : ℕ
  keys = ratchet f.store

  some : 1 ≤ keys
  some = omega (arith, ok.auditor_store.ratchet_low)

  -- a chunk of the account's is not burned
  shown : ok.burned < front a → Shown f a device
  shown h =
      record {
        x = ok.burned;
        burned = good.laid.burned ok.burned ∙ lt-ltb ok.burned (front a) h;
        original = ok.kept ok.burned (le_refl _) (rw fields.chunk_count (omega (arith, good.laid.spent)));
      }

  tagged : (k : ℕ) → k < n → item_tag (presented device seal k) ≡ tag_of f.store (key_of f.store (presented device seal k)) (presented_message device logs seal k)
  tagged k below = rw cut_so (rw (same_tag device f.store fields) at (ok.tag k below))

  form : (k : ℕ) → k < n → ItemOf device (presented device seal k)
  form k below = rw cut_so (ok.form k below)

  -- an item presented with the message of one of the account's is that one, and so is the data in its area
  module _ (k : ℕ) (below : k < n) (j : ℕ) (inside : j < length a.items) (said : presented_message device logs seal k ≡ own_message f a j) where
    whole : head_length (presented device seal k) ≤ length (presented device seal k)
    whole = head_fits device (presented device seal k) (form k below)

    whole' : head_length (own_item a j) ≤ length (own_item a j)
    whole' = head_fits f.store (own_item a j) (good.laid.items j inside).form

    one_item : presented device seal k ≡ own_item a j
    one_item =
        let key = same_key device logs (presented device seal k) f.store (logs_left f a) (own_item a j) whole whole' fields.id said f.store in
        same_item device logs (presented device seal k) f.store (logs_left f a) (own_item a j) whole whole' fields.id said
        (tagged k below ∙ ap₂ (tag_of f.store) key said ∙ sym (good.laid.items j inside).tag)

    one_data : data_of f.store logs (own_item a j) ≡ data_of f.store (logs_left f a) (own_item a j)
    one_data =
        ap (data_of f.store logs) (sym one_item)
        ∙ sym (same_data_of device f.store fields logs (presented device seal k))
        ∙ same_data device logs (presented device seal k) f.store (logs_left f a) (own_item a j) whole whole' fields.id said

  -- all chunks of the account's are burned
  module _ (all : front a ≤ ok.burned) where
    -- where the items before k are presented as they are, there is one more
    module _ (k : ℕ) (within : k < length a.items) (most : k ≤ n) (same : (j : ℕ) → j < k → presented device seal j ≡ own_item a j) where
      front_same : take k (pieces device seal) ≡ take k a.items
      front_same =
          let size : length (take k (pieces device seal)) ≡ k = length-take-le k (pieces device seal) (omega (arith, count, most)) in
          let size' : length (take k a.items) ≡ k = length-take-le k a.items (omega (arith, within)) in
          ext_get_or [] (take k (pieces device seal)) (take k a.items) (size ∙ sym size')
          (λ i h.
          let low : i < k = rw size at h in
          get_or-take k (pieces device seal) i [] low ∙ same i low ∙ sym (get_or-take k a.items i [] low))

      more : k < n
      more =
          by_cases (dec_lt k n) (λ h. h) (λ over.
          let end : k ≡ length (pieces device seal) = omega (arith, count) in
          let due : due_at f a k ≡ key_place ok.burned 0
          = ap (due_behind keys) (sym front_same) ∙ ap (λ i. due_behind keys (take i (pieces device seal))) end ∙ ap (due_behind keys) (take-length (pieces device seal) ∙ cut_so) ∙ rw fields.ratchet at ok.last in
          absurd (omega (arith, due_burned f a good some k within, ap (λ (p : KeyPlace). p.chunk.0) due, all)))

      stands : Stands (due_at f a k) (presented device seal k)
      stands =
          let presents : Stands (due_behind keys (take k (pieces device seal))) (presented device seal k) = rw cut_so (rw fields.ratchet at (ok.place k more)) in
          rw front_same at presents

      -- one moved from elsewhere would not stand there
      not_replayed : (j : ℕ) → j < length a.items → presented_message device logs seal k ≡ own_message f a j → j ≡ k
      not_replayed j inside said =
          stands_once keys some a.items (length a.items) (le_refl _) (stand f a good some) k j within inside
          (rw (one_item k more j inside said) at stands)

    -- as long as the messages are the account's, so are the items, and there are so many
    module _ (m : ℕ) (low : m ≤ length a.items) (same : (k : ℕ) → k < m → presented_message device logs seal k ≡ own_message f a k) where
      reached : (k : ℕ) → k ≤ m → (k ≤ n) × ((j : ℕ) → j < k → presented device seal j ≡ own_item a j)
      reached zero h = (omega arith, λ j before. absurd (omega arith))
      reached (suc k) h =
          let before = reached k (omega arith) in
          let within : k < length a.items = omega (arith, low, h) in
          let there = more k within before.0 before.1 in
          let here = one_item k there k within (same k h) in
          (there, λ j last. by_cases (ℕ_discrete k j) (λ now. rw now at here) (λ earlier. before.1 j (omega arith)))

      intact : Intact f a m device logs seal
      intact =
          let All_there = reached m (le_refl m) in
          let size : length (take m (pieces device seal)) ≡ m = length-take-le m (pieces device seal) (omega (arith, count, All_there.0)) in
          let size' : length (take m a.items) ≡ m = length-take-le m a.items low in
          record {
            items = ext_get_or [] (take m (pieces device seal)) (take m a.items) (size ∙ sym size')
                (λ k inside.
                let below : k < m = rw size at inside in
                get_or-take m (pieces device seal) k [] below ∙ All_there.1 k below ∙ sym (get_or-take m a.items k [] below));
            areas = λ k below. one_data k (omega (arith, All_there.0, below)) k (omega (arith, low, below)) (same k below);
          }

    -- the first that differs is forged, or a restart of the next chunk
    module _ (found : FirstDiffers (presented_message device logs seal) (own_message f a) (length a.items)) where
      abbrev k : ℕ
      k = found.0

      before : (k ≤ n) × ((j : ℕ) → j < k → presented device seal j ≡ own_item a j)
      before = reached k (omega (arith, found.1)) found.2 k (le_refl k)

      at : k < n
      at = more k found.1 before.0 before.1

      forged : (chunk_field (presented device seal k)).0 < front a → (Held f a (own_place (presented device seal k)) → ⊥)
          → (k < secured f a → ((chunk_field (presented device seal k)).0 < last_chunk f a) ⊎ ((offset_field (presented device seal k)).0 ≡ 0))
          → (secured f a ≤ k → own_place (presented device seal k) ≡ key_place (last_chunk f a) (suc (k - secured f a)))
          → Forged f a (length a.items) device logs seal
      forged burned unheld early late =
          record {
            k = k;
            below = found.1;
            among = omega (arith, at, count);
            before = intact _ (omega (arith, found.1)) (λ j low. found.2 j (omega (arith, low)));
            differs = found.3;
            tag = tagged k at;
            burned = good.laid.burned _ ∙ lt-ltb _ (front a) burned;
            unheld = λ held. absurd (unheld held);
            early = early;
            late = late;
            fresh = λ j inside said. found.3 (said ∙ ap (own_message f a) (not_replayed k found.1 before.0 before.1 j inside said));
            unratcheted = no_ratchet device logs (presented device seal k) f.store fields.id (form k at);
          }

      due_from_lem : secured f a ≤ k → due_at f a k ≡ key_place (last_chunk f a) (suc (k - secured f a))
      due_from_lem later =
          let there : secured f a + (k - secured f a) ≡ k = omega (arith, later) in
          rw there at (behind_due f a good some (k - secured f a) (omega (arith, there, found.1)))

      found_out : Stands (due_at f a k) (presented device seal k) → IntactOrBroken f a (length a.items) device logs seal ⊎ Dropped f a device logs seal
      found_out (there other place) =
          let chunk = ap (λ (p : KeyPlace). p.chunk.0) place in
          let offset = ap (λ (p : KeyPlace). p.offset.0) place in
          let most = due_burned f a good some k found.1 in
          let end = ends f a good some (omega (arith, found.1)) in
          inl (inr (inl (forged (omega (arith, chunk, most))
          (λ held. due_unheld f a good some k found.1 (subst (Held f a) place held))
          (λ low.
          by_cases (ℕ_discrete (offset_field (presented device seal k)).0 0)
          (λ first. inr first)
          (λ above. by_cases (ℕ_discrete (due_at f a k).chunk.0 (last_chunk f a))
          (λ same. absurd (omega (arith, low, b_reached f a good some k found.1 same (omega (arith, above, offset)))))
          (λ apart. inl (omega (arith, apart, most, end, chunk)))))
          (λ later. place ∙ due_from_lem later))))
      found_out (restarts kind above place number) =
          let chunk = ap (λ (p : KeyPlace). p.chunk.0) place in
          by_cases (dec_lt (suc (due_at f a k).chunk.0) (front a))
          (λ burned. inl (inr (inl (forged (omega (arith, chunk, burned))
          (λ held. first_unheld f a good some (suc (due_at f a k).chunk.0) burned (subst (Held f a) place held))
          (λ low. inr (ap (λ (p : KeyPlace). p.offset.0) place))
          (λ later. absurd (omega (arith, burned, ap (λ (p : KeyPlace). p.chunk.0) (due_from_lem later), ends f a good some (omega (arith, found.1)))))))))
          (λ next.
          let end = ends f a good some (omega (arith, found.1)) in
          let here : (due_at f a k).chunk.0 ≡ last_chunk f a = omega (arith, next, end, due_burned f a good some k found.1) in
          let late = b_reached f a good some k found.1 here above in
          inr (record {
            m = k;
            behind = late;
            within = found.1;
            before = intact k (omega (arith, found.1)) found.2;
            restart = kind;
            place = place ∙ ap (λ (c : ℕ). key_place c 0) (ap suc here ∙ end ∙ sym (front_left f a starts good.laid));
            number = number ∙ ap (λ (p : KeyPlace). p.offset.0) (due_from_lem late);
          }))

    first_differs : IntactOrBroken f a (length a.items) device logs seal ⊎ Dropped f a device logs seal
    first_differs =
        ⊎_elim
        (λ same. inl (inl (intact (length a.items) (le_refl _) same)))
        (λ found. found_out found (stands found.0 found.1 (before found).0 (before found).1))
        (agree_or_differ (presented_message device logs seal) (own_message f a) (length a.items))

  all_told : IntactOrBroken f a (length a.items) device logs seal ⊎ Dropped f a device logs seal
  all_told = by_cases (dec_le (front a) ok.burned) (λ all. first_differs all) (λ over. inl (inr (inr (shown (omega arith)))))

  -- the restart is of a burned chunk of the device store
  dropped_burned : Dropped f a device logs seal → first_left f a < burned_front device
  dropped_burned dropped =
      let k = dropped.m in
      by_cases (dec_lt k (length (pieces device seal)))
      (λ inside.
      let low : (chunk_field (presented device seal k)).0 < burned_front device
      = rw cut_so (of_burned device f.store logs lengths seal n ok k (omega (arith, inside, ap length cut_so))) in
      omega (arith, low, ap (λ (p : KeyPlace). p.chunk.0) dropped.place))
      (λ over. absurd (omega (arith, dropped.restart, ap kind_of (get_or-eq_default (pieces device seal) [] {n = k} (omega (arith, over))))))

  not_dropped : NoneBegun f a device → Dropped f a device logs seal → ⊥
  not_dropped (inl few) dropped = omega (arith, few, dropped_burned dropped)
  not_dropped (inr none) dropped = omega (arith, none, dropped_burned dropped, front_most device, fields.chunk_count)

-- ---- what acceptance tells

module _ (f : Fed) (a : Account) (device logs seal : List ℕ) where
  up_to_less : (n m : ℕ) → m ≤ n → Intact f a n device logs seal → Intact f a m device logs seal
  up_to_less n m less intact =
      record {
        items = sym (take-take m n (pieces device seal) less) ∙ ap (take m) intact.items ∙ take-take m n a.items less;
        areas = λ k below. intact.areas k (omega (arith, below, less));
      }

  -- what is told of all items tells it of the first b: a forged one is among them, or they are all before it
  first_told : IntactOrBroken f a (length a.items) device logs seal ⊎ Dropped f a device logs seal → IntactOrBroken f a (secured f a) device logs seal
  first_told (inl (inl intact)) = inl (up_to_less (length a.items) (secured f a) (up_to_most _ a.items) intact)
  first_told (inl (inr (inl forged))) =
      by_cases (dec_lt forged.k (secured f a))
      (λ low.
      inr (inl (record {
        k = forged.k;
        below = low;
        among = forged.among;
        before = forged.before;
        differs = forged.differs;
        tag = forged.tag;
        burned = forged.burned;
        unheld = forged.unheld;
        early = forged.early;
        late = forged.late;
        fresh = forged.fresh;
        unratcheted = forged.unratcheted;
      })))
      (λ late. inl (up_to_less forged.k (secured f a) (omega (arith, late)) forged.before))
  first_told (inl (inr (inr shown))) = inr (inr shown)
  first_told (inr dropped) = inl (up_to_less dropped.m (secured f a) dropped.behind dropped.before)

module _ (f : Fed) (starts : Starts f) (a : Account) (good : Good f a) (device logs lengths seal : List ℕ) (accepted : Accepted f device logs lengths seal) where
  abbrev number : ℕ
  number = (audit device f.store logs lengths seal).number

  pub ok_so : Acceptable device f.store logs lengths seal number
  ok_so = accepts device f.store logs lengths seal number (ap (λ (r : ℕ). record { refusal = r; number = number }) accepted)

  pub beyond : IntactOrBroken f a (length a.items) device logs seal ⊎ Dropped f a device logs seal
  beyond = all_told f starts a good device logs lengths seal number ok_so

  pub compromise : IntactOrBroken f a (secured f a) device logs seal
  compromise = first_told f a device logs seal beyond

  pub none_begun : NoneBegun f a device → IntactOrBroken f a (length a.items) device logs seal
  none_begun shut = ⊎_elim (λ told. told) (λ dropped. absurd (not_dropped f starts a good device logs lengths seal number ok_so shut dropped)) beyond
