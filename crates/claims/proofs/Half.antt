-- Half-used chunks by the items: what is due behind items says how many of its chunk's keys have sealed one, and of each chunk before it all have, or a
-- restart follows (`reads`).
use mathlib.Core.Path.{◌≡◌, refl, sym, ap, subst, ◌∙◌}
use mathlib.Core.Bool.{Bool, true, false, cond}
use mathlib.Core.Logic.{◌⊎◌, inl, inr, ⊎_elim, by_cases}
use mathlib.Core.List.{List, [], ◌∷◌, ◌++◌}
use Prim.Native.Nat.{ℕ, zero, suc, ◌-◌, ◌*◌, ◌≤◌, ◌<◌}
use native.Mathlib.Nat.{le_refl, suc-mul, lt_of_mul-lt-mul_right}
use native.Mathlib.Decide.{ℕ_discrete, dec_lt}
use native.Mathlib.Omega.{arith}
use lib.Dec.{eqb}
use lib.ListN.{length, get_or, take, length-append, get_or-append}
use lib.Seq.{get_or-append_seam, take-length, take-suc}
use borrow.Author.Tests.{eq-eqb, ne_eqb, ltb-true}
use Rattle.scheme.specs.Store.{restart_kind, ratchet}
use Rattle.scheme.specs.Items.{chunk_number, ratchet_offset, kind_of, chunk_field, offset_field, number_field}
use Rattle.scheme.specs.Due.{key_place, own_place, place_after, due_from, due_behind}
use Rattle.scheme.specs.declared.KeyPlace.{KeyPlace}
use Rattle.scheme.specs.Acceptable.{Stands, there, restarts}
use Rattle.scheme.proofs.Due.{rank, same_place, after_full, after_within, after_chunk, due_on, due_within, due_after_lem, stands_within, stands_after}
use Rattle.claims.specs.Account.{Call, Fed, Account, started, carried_by, account_from, NoneHalfUsed, HalfUsed}
use Rattle.claims.specs.Run.{History}
use Rattle.claims.specs.Claim.{Starts, last_chunk}
use Rattle.claims.specs.Back.{half_count}
use Rattle.claims.specs.Half.{items_carrying, Followed, HalfUsedChunk, ByItems}
use Rattle.claims.proofs.Good.{Good, front, place_due}
use Rattle.claims.proofs.Histories.{good}
use Rattle.claims.proofs.Compromise.{ends}
use Rattle.claims.proofs.Steps.Adding.{half_free}
use Rattle.claims.proofs.Steps.Begun.{begun}

-- ---- one item more

carrying_on : (items : List (List ℕ)) (it : List ℕ) (x : ℕ) → ((chunk_field it).0 ≡ x → ⊥) → items_carrying (items ++ (it ∷ [])) x ≡ items_carrying items x
unfolding items_carrying
carrying_on [] it x other = rw (ne_eqb (chunk_field it).0 x other)
carrying_on (y ∷ items) it x other = ap (λ (n : ℕ). cond (eqb (chunk_field y).0 x) (suc n) n) (carrying_on items it x other)

carrying_more : (items : List (List ℕ)) (it : List ℕ) (x : ℕ) → (chunk_field it).0 ≡ x → items_carrying (items ++ (it ∷ [])) x ≡ suc (items_carrying items x)
unfolding items_carrying
carrying_more [] it x same = rw (eq-eqb (chunk_field it).0 x same)
carrying_more (y ∷ items) it x same = ap (λ (n : ℕ). cond (eqb (chunk_field y).0 x) (suc n) n) (carrying_more items it x same) ∙ go (eqb (chunk_field y).0 x)
  where
    go : (t : Bool) → cond t (suc (suc (items_carrying items x))) (suc (items_carrying items x)) ≡ suc (cond t (suc (items_carrying items x)) (items_carrying items x))
    go true = refl
    go false = refl

followed_on : (items : List (List ℕ)) (it : List ℕ) (x : ℕ) → Followed items x → Followed (items ++ (it ∷ [])) x
followed_on items it x f =
    record {
      k = f.k;
      within = omega (arith, f.within, length-append items (it ∷ []));
      chunk = ap (λ (l : List ℕ). (chunk_field l).0) (get_or-append items (it ∷ []) [] f.k (omega (arith, f.within))) ∙ f.chunk;
      restart = ap kind_of (get_or-append items (it ∷ []) [] (suc f.k) f.within) ∙ f.restart;
    }

-- where none of the items from k on carries chunk x, those before it do
carrying_late : (items : List (List ℕ)) (k x : ℕ) → ((j : ℕ) → k ≤ j → j < length items → (chunk_field (get_or items j [])).0 ≡ x → ⊥)
    → items_carrying items x ≡ items_carrying (take k items) x
unfolding items_carrying
carrying_late [] zero x other = refl
carrying_late [] (suc k) x other = refl
carrying_late (it ∷ items) zero x other =
    rw (ne_eqb (chunk_field it).0 x (other 0 (omega arith) (omega arith))) (carrying_late items zero x (λ j low h. other (suc j) (omega arith) (omega (arith, h))))
carrying_late (it ∷ items) (suc k) x other =
    ap (λ (n : ℕ). cond (eqb (chunk_field it).0 x) (suc n) n) (carrying_late items k x (λ j low h. other (suc j) (omega (arith, low)) (omega (arith, h))))

-- ---- what is due tells

record Reads (n : ℕ) (taken : List (List ℕ)) (due : KeyPlace) : Type 0 where
  now : items_carrying taken due.chunk.0 ≡ due.offset.0
  past : (x : ℕ) → x < due.chunk.0 → (items_carrying taken x ≡ n) ⊎ Followed taken x
  later : (x : ℕ) → due.chunk.0 < x → items_carrying taken x ≡ 0
  tail : 0 < due.offset.0 → (k : ℕ) × (suc k ≡ length taken) × (own_place (get_or taken k []) ≡ key_place due.chunk.0 (due.offset.0 - 1))

module _ (n : ℕ) (taken : List (List ℕ)) (it : List ℕ) where
  abbrev grown : List (List ℕ)
  grown = taken ++ (it ∷ [])

  abbrev c : ℕ
  c = (chunk_field it).0

  abbrev r : ℕ
  r = (offset_field it).0

  -- from what holds of the item's own place
  own_reads : items_carrying taken c ≡ r → ((x : ℕ) → x < c → (items_carrying taken x ≡ n) ⊎ Followed grown x) → ((x : ℕ) → c < x → items_carrying taken x ≡ 0)
      → Reads n grown (place_after n (own_place it))
  own_reads now past later =
      by_cases (ℕ_discrete (suc r) n)
      (λ full.
      rw (after_full n (own_place it) full)
      (record {
        now = carrying_on taken it (suc c) (λ e. omega (arith, e)) ∙ later (suc c) (omega arith);
        past = λ x low. by_cases (ℕ_discrete c x)
            (λ here. inl (carrying_more taken it x here ∙ ap suc (rw here at now) ∙ full))
            (λ other. before x (omega (arith, low, other)));
        later = λ x high. carrying_on taken it x (λ e. omega (arith, e, high)) ∙ later x (omega (arith, high));
        tail = λ above. absurd (omega (arith, above));
      }))
      (λ apart.
      rw (after_within n (own_place it) apart)
      (record {
        now = carrying_more taken it c refl ∙ ap suc now;
        past = λ x low. before x low;
        later = λ x high. carrying_on taken it x (λ e. omega (arith, e, high)) ∙ later x high;
        tail = λ above. (length taken, omega (arith, length-append taken (it ∷ [])), rw (get_or-append_seam taken it [] []) (same_place refl (ap ratchet_offset (omega arith))));
      }))
    where
      before : (x : ℕ) → x < c → (items_carrying grown x ≡ n) ⊎ Followed grown x
      before x low = ⊎_elim (λ all. inl (carrying_on taken it x (λ e. omega (arith, e, low)) ∙ all)) (λ f. inr f) (past x low)

  step_reads : {due : KeyPlace} → Reads n taken due → Stands due it → Reads n grown (place_after n (own_place it))
  step_reads {due} reads (there other place) =
      let chunk = ap (λ (p : KeyPlace). p.chunk.0) place in
      let offset = ap (λ (p : KeyPlace). p.offset.0) place in
      own_reads
      (ap (items_carrying taken) chunk ∙ reads.now ∙ sym offset)
      (λ x low. ⊎_elim (λ all. inl all) (λ f. inr (followed_on taken it x f)) (reads.past x (omega (arith, low, chunk))))
      (λ x high. reads.later x (omega (arith, high, chunk)))
  step_reads {due} reads (restarts kind above place number) =
      let chunk = ap (λ (p : KeyPlace). p.chunk.0) place in
      let offset = ap (λ (p : KeyPlace). p.offset.0) place in
      let end = reads.tail above in
      own_reads
      (reads.later c (omega (arith, chunk)) ∙ sym offset)
      (λ x low. by_cases (ℕ_discrete x due.chunk.0)
      (λ here. inr (record {
        k = end.0;
        within = omega (arith, end.1, length-append taken (it ∷ []));
        chunk = ap (λ (l : List ℕ). (chunk_field l).0) (get_or-append taken (it ∷ []) [] end.0 (omega (arith, end.1)))
            ∙ ap (λ (p : KeyPlace). p.chunk.0) end.2 ∙ sym here;
        restart = rw (end.1, get_or-append_seam taken it [] []) kind;
      }))
      (λ apart. ⊎_elim (λ all. inl all) (λ f. inr (followed_on taken it x f)) (reads.past x (omega (arith, low, chunk, apart)))))
      (λ x high. reads.later x (omega (arith, high, chunk)))

module _ (n : ℕ) (some : 1 ≤ n) (items : List (List ℕ)) (stand : (k : ℕ) → k < length items → Stands (due_behind n (take k items)) (get_or items k [])) where
  reads_up : (k : ℕ) → k ≤ length items → Reads n (take k items) (due_behind n (take k items))
  unfolding due_from items_carrying
  reads_up zero h =
      record { now = refl; past = λ x low. absurd (omega (arith, low)); later = λ x high. refl; tail = λ above. absurd (omega (arith, above)) }
  reads_up (suc k) h =
      rw (due_on n items k h, take-suc items k [] h)
      (step_reads n (take k items) (get_or items k []) (reads_up k (omega (arith, h))) (stand k h))

  reads : Reads n items (due_behind n items)
  reads = rw (take-length items) at (reads_up (length items) (le_refl _))

  -- a restart that follows chunk x is of the next one, and holds the number of items that carry x: none behind it does
  module _ (x : ℕ) (by : Followed items x) where
    here : Stands (due_behind n (take (suc by.k) items)) (get_or items (suc by.k) [])
    here = stand (suc by.k) by.within

    abbrev due : KeyPlace
    due = due_behind n (take (suc by.k) items)

    due_chunk : 0 < due.offset.0 → due.chunk.0 ≡ x
    due_chunk above =
        let is = due_on n items by.k (omega (arith, by.within)) in
        ap (λ (p : KeyPlace). p.chunk.0) is ∙ (after_chunk n (own_place (get_or items by.k []))).1 (rw is at above) ∙ by.chunk

    tells : (own_place (get_or items (suc by.k) []) ≡ key_place (suc x) 0) × (number_field (get_or items (suc by.k) []) ≡ due.offset.0) × (due.chunk.0 ≡ x)
    tells = go here
      where
        go : Stands due (get_or items (suc by.k) [])
            → (own_place (get_or items (suc by.k) []) ≡ key_place (suc x) 0) × (number_field (get_or items (suc by.k) []) ≡ due.offset.0) × (due.chunk.0 ≡ x)
        go (there other place) = absurd (other by.restart)
        go (restarts kind above place number) = (place ∙ ap (λ (c : ℕ). key_place (suc c) 0) (due_chunk above), number, due_chunk above)

    -- each behind it is of a later chunk
    later_chunk : (j : ℕ) → suc by.k ≤ j → j < length items → x < (chunk_field (get_or items j [])).0
    later_chunk j low h =
        by_cases (ℕ_discrete (suc by.k) j)
        (λ same. omega (arith, ap (λ (p : KeyPlace). p.chunk.0) tells.0, ap (λ (i : ℕ). (chunk_field (get_or items i [])).0) same))
        (λ apart.
        let rises = due_after_lem n some items (length items) (le_refl _) stand (suc by.k) j (omega (arith, low, apart)) (omega (arith, h)) in
        let within = due_within n some items (length items) (le_refl _) stand j (omega (arith, h)) in
        let up = stands_after n within (stand j h) in
        let offset = stands_within n within (stand j h) in
        let much : suc x * n < suc (chunk_field (get_or items j [])).0 * n
        = omega (arith, rises, up, offset, ap (rank n) tells.0, suc-mul (chunk_field (get_or items j [])).0 n) in
        omega (arith, lt_of_mul-lt-mul_right n much))

    restart_tells : (own_place (get_or items (suc by.k) []) ≡ key_place (suc x) 0) × (number_field (get_or items (suc by.k) []) ≡ items_carrying items x)
    restart_tells =
        let all = carrying_late items (suc by.k) x (λ j low h same. omega (arith, later_chunk j low h, same)) in (
          tells.0,
          tells.1 ∙ sym (reads_up (suc by.k) (omega (arith, by.within))).now ∙ ap (items_carrying (take (suc by.k) items)) tells.2 ∙ sym all,
        )

  -- each restart follows an item
  pub each_restart : (k : ℕ) → k < length items → kind_of (get_or items k []) ≡ restart_kind
      → (x : ℕ) × (own_place (get_or items k []) ≡ key_place (suc x) 0) × (number_field (get_or items k []) ≡ items_carrying items x)
  unfolding due_from
  each_restart zero h kind = go (stand 0 h)
    where
      go : Stands (key_place 0 0) (get_or items 0 []) → (x : ℕ) × (own_place (get_or items 0 []) ≡ key_place (suc x) 0) × (number_field (get_or items 0 []) ≡ items_carrying items x)
      go (there other place) = absurd (other kind)
      go (restarts kind' above place number) = absurd (omega (arith, above))
  each_restart (suc k) h kind =
      let x = (chunk_field (get_or items k [])).0 in
      let by : Followed items x = record { k = k; within = h; chunk = refl; restart = kind } in
      let told = restart_tells x by in
      (x, told.0, told.1)

  -- so none follows the chunk in which a key is due behind all items
  unfollowed : 0 < (due_behind n items).offset.0 → Followed items (due_behind n items).chunk.0 → ⊥
  unfollowed above by =
      let c = (due_behind n items).chunk.0 in
      let end = reads.tail above in
      omega (
        arith,
        later_chunk c by end.0 (omega (arith, end.1, by.within)) (omega (arith, end.1)),
        ap (λ (p : KeyPlace). p.chunk.0) end.2,
      )

-- ---- the account

carried_some : (items : List (List ℕ)) (x : ℕ) → 0 < items_carrying items x → carried_by items x ≡ true
unfolding items_carrying carried_by
carried_some [] x h = absurd (omega (arith, h))
carried_some (it ∷ items) x h = go (eqb (chunk_field it).0 x) h (carried_some items x)
  where
    go : (t : Bool) → 0 < cond t (suc (items_carrying items x)) (items_carrying items x) → (0 < items_carrying items x → carried_by items x ≡ true) → cond t true (carried_by items x) ≡ true
    go true h rest = refl
    go false h rest = rest h

module _ (f : Fed) (some : 1 ≤ ratchet f.store) (a : Account) (g : Good f a) where
  abbrev n : ℕ
  n = ratchet f.store

  stand : (k : ℕ) → k < length a.items → Stands (due_behind n (take k a.items)) (get_or a.items k [])
  stand = g.stands

  told : Reads n a.items (place_due a)
  told = subst (Reads n a.items) g.due (reads n some a.items stand)

  bare : 0 < (place_due a).offset.0 → Followed a.items (place_due a).chunk.0 → ⊥
  bare = subst (λ (p : KeyPlace). 0 < p.offset.0 → Followed a.items p.chunk.0 → ⊥) g.due (unfollowed n some a.items stand)

  -- what is due half way
  half_place : HalfUsed a → place_due a ≡ key_place (front a - 1) (half_count a)
  half_place (inl inner) =
      rw (eq-eqb a.waiting 0 (half_free f a g inner), ne_eqb a.r.0 0 (λ z. omega (arith, inner, z)))
      (same_place (ap chunk_number (omega arith)) refl)
  half_place (inr waits) =
      rw (ne_eqb a.waiting 0 (λ z. omega (arith, waits, z)), eq-eqb a.r.0 0 (g.waits waits).whole) refl

  half_some : HalfUsed a → (0 < half_count a) × (half_count a < n)
  half_some (inl inner) = rw (ne_eqb a.r.0 0 (λ z. omega (arith, inner, z))) (inner, g.laid.offset)
  half_some (inr waits) = rw (eq-eqb a.r.0 0 (g.waits waits).whole) (waits, (g.waits waits).few)

  half_reads : HalfUsed a → Reads n a.items (key_place (front a - 1) (half_count a))
  half_reads half = subst (Reads n a.items) (half_place half) told

  half_chunk : HalfUsed a → HalfUsedChunk f a (front a - 1)
  half_chunk half =
      let now = (half_reads half).now in
      let bounds = half_some half in
      (omega (arith, now, bounds), omega (arith, now, bounds), λ by. absurd (subst (λ (p : KeyPlace). 0 < p.offset.0 → Followed a.items p.chunk.0 → ⊥) (half_place half) bare bounds.0 by))

  -- with none half used the first key of the front is due
  whole_place : NoneHalfUsed a → place_due a ≡ key_place (front a) 0
  whole_place (whole, free) = rw (eq-eqb a.waiting 0 free, eq-eqb a.r.0 0 whole) (same_place refl (ap ratchet_offset whole))

  whole_each : NoneHalfUsed a → (x : ℕ) → carried_by a.items x ≡ true → (items_carrying a.items x ≡ n) ⊎ Followed a.items x
  whole_each none x carried =
      (subst (Reads n a.items) (whole_place none) told).past x (ltb-true x (front a) (sym (g.laid.burned x) ∙ carried))

  either_way : NoneHalfUsed a ⊎ HalfUsed a
  either_way =
      by_cases (ℕ_discrete a.r.0 0)
      (λ whole. by_cases (ℕ_discrete a.waiting 0) (λ free. inl (whole, free)) (λ waits. inr (inr (omega (arith, waits)))))
      (λ inner. inr (inl (omega (arith, inner))))

  each_whole : ((x : ℕ) → carried_by a.items x ≡ true → (items_carrying a.items x ≡ n) ⊎ Followed a.items x) → NoneHalfUsed a
  each_whole all =
      ⊎_elim (λ none. none) (λ half.
      let is = half_chunk half in
      absurd (⊎_elim (λ full. omega (arith, full, is.1)) (λ followed. is.2 followed) (all (front a - 1) (carried_some a.items (front a - 1) is.0))))
      either_way

  only_half : (x : ℕ) → HalfUsedChunk f a x → HalfUsed a × (x ≡ front a - 1)
  only_half x is =
      ⊎_elim
      (λ none. absurd (⊎_elim (λ full. omega (arith, full, is.1)) (λ followed. is.2 followed) (whole_each none x (carried_some a.items x is.0))))
      (λ half. (
        half,
        let r = half_reads half in
            by_cases (dec_lt x (front a - 1))
            (λ low. absurd (⊎_elim (λ full. omega (arith, full, is.1)) (λ followed. is.2 followed) (r.past x low)))
            (λ late. by_cases (dec_lt (front a - 1) x) (λ high. absurd (omega (arith, r.later x high, is.0))) (λ low. omega (arith, late, low))),
      ))
      either_way

  last_own : HalfUsed a → own_place (get_or a.items (length a.items - 1) []) ≡ key_place (front a - 1) (half_count a - 1)
  last_own half =
      let end = (half_reads half).tail (half_some half).0 in
      let at : length a.items - 1 ≡ end.0 = omega (arith, end.1) in
      rw at end.2

  whole_last : NoneHalfUsed a → 0 < length a.items → suc (offset_field (get_or a.items (length a.items - 1) [])).0 ≡ n
  whole_last none some_item =
      let k = length a.items - 1 in
      let all : suc k ≡ length a.items = omega (arith, some_item) in
      let due : place_after n (own_place (get_or a.items k [])) ≡ key_place (front a) 0
      = sym (due_on n a.items k (omega (arith, all))) ∙ ap (λ (i : ℕ). due_behind n (take i a.items)) all ∙ ap (due_behind n) (take-length a.items) ∙ g.due ∙ whole_place none in
      by_cases (ℕ_discrete (suc (offset_field (get_or a.items k [])).0) n) (λ full. full)
      (λ within. absurd (omega (arith, ap (λ (p : KeyPlace). p.offset.0) (sym (after_within n (own_place (get_or a.items k [])) within) ∙ due))))

  -- half way, the front is behind the last burned chunk
  half_last : HalfUsed a → front a - 1 ≡ last_chunk f a
  half_last half = omega (arith, ends f a g some (omega (arith, ((half_reads half).tail (half_some half).0).1)))

pub by_items : (f : Fed) → Starts f → (calls : List Call) → History f calls → ByItems f (account_from f (started f) calls)
by_items f starts calls history =
    let a = account_from f (started f) calls in
    let g = good f starts calls history in
    let some = (begun f starts).store.ratchet_low in
    let last = half_last f some a g in
    record {
      none = (whole_each f some a g, each_whole f some a g);
      half = λ half. subst (HalfUsedChunk f a) (last half) (half_chunk f some a g half);
      only = λ x is. let found = only_half f some a g x is in (found.0, found.1 ∙ last found.0);
      number = λ half. sym (half_reads f some a g half).now ∙ ap (items_carrying a.items) (last half);
      last = λ half. last_own f some a g half ∙ ap (λ (c : ℕ). key_place c (half_count a - 1)) (last half);
      used = whole_last f some a g;
      restarts = each_restart (ratchet f.store) some a.items (stand f some a g);
    }
