-- The state that an account holds fits the store that it leaves, and a state of zeros does not where items stand.
use mathlib.Core.Path.{◌≡◌, refl, sym, ap, ◌∙◌}
use mathlib.Core.Bool.{Bool, true, false, not, cond, beq, true≢false}
use mathlib.Core.Logic.{inl, inr, by_cases}
use mathlib.Core.List.{List, [], ◌∷◌}
use Prim.Native.Nat.{ℕ, zero, suc, ◌-◌, ◌<◌}
use native.Mathlib.Decide.{ℕ_discrete, dec_lt}
use native.Mathlib.Omega.{arith}
use lib.Dec.{eqb, ltb}
use lib.ListN.{length, get_or, drop, replicate}
use lib.Seq.{drop_at}
use borrow.Author.Tests.{eq-eqb, ltb-true, lt-ltb, le-ltb, le-leb}
use Rattle.scheme.specs.Bytes.{all_zero}
use Rattle.scheme.specs.Rules.{any_true}
use Rattle.scheme.specs.Store.{log_capacity, phases, chunk_count, ratchet, burned, any_over}
use Rattle.scheme.specs.Items.{chunk_field}
use Rattle.scheme.specs.State.{zero_state, fits}
use Rattle.scheme.proofs.Tests.{not_so, same_beq, same_ltb, either}
use Rattle.scheme.proofs.Rules.{all_true_lem, each_true, ◌also◌, either_true}
use Rattle.scheme.proofs.Bytes.{zeros}
use Rattle.scheme.proofs.Scans.{nowhere}
use Rattle.scheme.proofs.Headers.{SameFields}
use Rattle.claims.specs.Account.{Fed, Account, carried_by, lengths_of, seal_reached}
use Rattle.claims.specs.Left.{store_left, seal_left, eight, held, state_left}
use Rattle.claims.specs.Claim.{own_item}
use Rattle.claims.proofs.Good.{front, Laid}
use Rattle.claims.proofs.Steps.Begun.{Begun}
use Rattle.claims.proofs.Steps.Device.{eight_log, lengths_length, left_fields, left_seal}
use Rattle.claims.proofs.Steps.StoreLeft.{front_whole, front_half, chunk_at_most, chunk_below, burned_left}

-- an item carries its chunk, which is burned
pub carried_item : (items : List (List ℕ)) (k : ℕ) → k < length items → carried_by items (chunk_field (get_or items k [])).0 ≡ true
unfolding carried_by
carried_item [] k h = absurd (omega arith)
carried_item (it ∷ items) zero h = rw (eq-eqb (chunk_field it).0 (chunk_field it).0 refl)
carried_item (it ∷ items) (suc k) h =
    either (λ t. t ≡ true) (eqb (chunk_field it).0 (chunk_field (get_or items k [])).0) refl (carried_item items k (omega arith))

pub item_burned : (f : Fed) (a : Account) → Laid f a → (k : ℕ) → k < length a.items → (chunk_field (own_item a k)).0 < front a
item_burned f a laid k h =
    let x = (chunk_field (own_item a k)).0 in
    ltb-true x (front a) (sym (laid.burned x) ∙ carried_item a.items k h)

module _ (f : Fed) (begun : Begun f) (a : Account) (laid : Laid f a) where
  fields : SameFields (store_left f a) f.store
  fields = left_fields f begun a laid

  chunk_test : any_true (eqb a.r.0 0 ∷ ltb a.c.0 (chunk_count f.store) ∷ []) ≡ true
  chunk_test =
      (either_true _ _).1 (by_cases (ℕ_discrete a.r.0 0)
      (λ none. inl (eq-eqb a.r.0 0 none))
      (λ some. inr (lt-ltb a.c.0 (chunk_count f.store) (chunk_below f a laid begun.store (omega arith)))))

  burned_test : any_true (not (ltb a.c.0 (chunk_count f.store)) ∷ beq (burned (store_left f a) a.c.0) (ltb 0 a.r.0) ∷ []) ≡ true
  burned_test =
      let same = same_ltb a.c.0 (front a) 0 a.r.0 (
        (λ h. by_cases (ℕ_discrete a.r.0 0) (λ none. absurd (omega (arith, h, front_whole a none))) (λ some. omega arith)),
        (λ h. omega (arith, front_half a h)),
      ) in
      (either_true _ _).1 (by_cases (dec_lt a.c.0 (chunk_count f.store))
      (λ below. inr (rw (burned_left f a laid begun.store begun.unused a.c.0 below, laid.burned a.c.0, same, same_beq)))
      (λ over. inl (ap not (le-ltb a.c.0 (chunk_count f.store) (omega arith)))))

  over_test : not (any_over (log_capacity f.store) (eight a.logs)) ≡ true
  unfolding any_over
  over_test =
      ap not
      (nowhere _ 0 (length (eight a.logs))
      (λ i low high. rw (eight_log a.logs (8 - length a.logs) i) (le-ltb (log_capacity f.store) (length (get_or a.logs i [])) (laid.logs.sizes i))))

  zero_test : all_zero (drop (phases f.store) (eight a.logs)) ≡ true
  zero_test =
      ap all_zero (drop_at (lengths_of a.logs) (replicate (8 - length a.logs) 0) (phases f.store) (lengths_length a.logs ∙ laid.logs.count))
      ∙ zeros (8 - length a.logs)

  held_fits : fits (store_left f a) (held f a) (length (seal_left f a)) ≡ true
  unfolding fits
  held_fits =
      each_true _ (
      rw fields.ratchet (lt-ltb a.r.0 (ratchet f.store) laid.offset)
      also rw fields.chunk_count (le-leb a.c.0 (chunk_count f.store) (chunk_at_most f a laid begun.store))
      also rw fields.chunk_count chunk_test
      also rw fields.chunk_count burned_test
      also rw fields.log_capacity over_test
      also rw fields.phases zero_test
      also rw (left_seal f begun a laid) (le-leb (seal_reached a) (length f.seal) laid.sealed)
      also tt
      )

  zero_unfit : 0 < length a.items → fits (store_left f a) zero_state (length (seal_left f a)) ≡ false
  unfolding fits any_true
  zero_unfit h = not_so (fits (store_left f a) zero_state (length (seal_left f a))) (λ e. true≢false (sym (all_true_lem _ e).1.1.1.0 ∙ clash))
    where
      chunks : ltb 0 (chunk_count (store_left f a)) ≡ true
      chunks = rw fields.chunk_count (lt-ltb 0 (chunk_count f.store) begun.store.chunks_low)

      first : burned (store_left f a) 0 ≡ true
      first =
          burned_left f a laid begun.store begun.unused 0 begun.store.chunks_low
          ∙ laid.burned 0
          ∙ lt-ltb 0 (front a) (omega (arith, item_burned f a laid 0 h))

      clash : any_true (not (ltb 0 (chunk_count (store_left f a))) ∷ beq (burned (store_left f a) 0) (ltb 0 0) ∷ []) ≡ false
      clash = rw (chunks, first)

  -- 6 holds exactly where the state was lost
  pub unfit_lost : not (fits (store_left f a) (state_left f a) (length (seal_left f a))) ≡ a.lost
  unfit_lost = go a.lost laid.standing
    where
      go : (t : Bool) → (t ≡ true → 0 < length a.items) → not (fits (store_left f a) (cond t zero_state (held f a)) (length (seal_left f a))) ≡ t
      go true standing = ap not (zero_unfit (standing refl))
      go false standing = ap not held_fits
