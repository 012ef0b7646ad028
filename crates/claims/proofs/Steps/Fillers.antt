-- A close that is not refused adds fillers up to offset 0, and each gives the account all that one more item asks for.
use mathlib.Core.Path.{◌≡◌, refl, sym, ap, ◌∙◌}
use mathlib.Core.Bool.{cond}
use mathlib.Core.Logic.{inl, inr, by_cases}
use mathlib.Core.List.{List, [], ◌∷◌, ◌++◌}
use Prim.Native.Nat.{ℕ, zero, suc, ◌+◌, ◌-◌, ◌*◌, ◌≤◌, ◌<◌}
use native.Mathlib.Decide.{ℕ_discrete}
use native.Mathlib.Omega.{arith}
use lib.Dec.{eqb}
use lib.ListN.{length, length-append}
use borrow.Author.Tests.{eq-eqb, ne_eqb, lt-ltb, le-ltb}
use Rattle.scheme.specs.Store.{ratchet}
use Rattle.scheme.specs.Items.{item_message, filler_head, filler_head_length, filler_length}
use Rattle.scheme.specs.Due.{own_place, due_behind}
use Rattle.scheme.specs.Keys.{tag_of}
use Rattle.scheme.specs.Areas.{areas_in, none}
use Rattle.scheme.specs.Acceptable.{Stands}
use Rattle.scheme.specs.Bytes.{joined}
use Rattle.scheme.proofs.Tests.{either}
use Rattle.scheme.proofs.Parameters.{filler_value}
use Rattle.scheme.proofs.Tags.{tag_length_lem}
use Rattle.scheme.proofs.Areas.{joined_last}
use Rattle.scheme.proofs.Items.{made_filler, filler_kind_lem, filler_length_lem, filler_data}
use Rattle.claims.specs.Account.{Fed, Account, due_key, filler_due, seal_reached, step_on, with_item, account_close, after_close}
use Rattle.claims.proofs.Good.{memory_with, Laid, counters, Good}
use Rattle.claims.proofs.Steps.Begun.{Begun}
use Rattle.claims.proofs.Steps.Adding.{Adds, half_free, made_own, item_due, stands_there, adds_laid, adds_good}
use Rattle.claims.proofs.Steps.Stepping.{step_cases, step_items, step_waiting}
use Rattle.claims.proofs.Steps.StoreLeft.{chunk_below}

-- the length of the filler that is due
pub filler_long : (f : Fed) → Begun f → (a : Account) → length (filler_due f a) ≡ filler_length f.store
unfolding filler_due
filler_long f begun a =
    filler_length_lem _ _ (tag_of f.store (due_key f a) (item_message f.store (filler_head a.c a.r) []))
    ∙ ap (λ (n : ℕ). filler_head_length + n) (tag_length_lem f.store (due_key f a) (item_message f.store (filler_head a.c a.r) []) begun.store.set.tag_high)
    ∙ sym (filler_value f.store)

module _ (f : Fed) (begun : Begun f) (a : Account) (laid : Laid f a) where
  filler_adds : 0 < a.r.0 → seal_reached a + filler_length f.store ≤ length f.seal → Adds f a (filler_due f a) a.logs
  unfolding filler_due areas_in
  filler_adds inner sealed =
      let room = chunk_below f a laid begun.store inner in
      let long = filler_long f begun a in
      let head = filler_head a.c a.r in
      let tag = tag_of f.store (due_key f a) (item_message f.store head []) in
      let kind = filler_kind_lem a.c a.r tag in
      let is = made_filler a.c a.r tag (omega (arith, room, begun.store.chunks_high)) (omega (arith, laid.offset, begun.store.ratchet_high)) in
      record {
        room = room;
        sealed = rw long sealed;
        fit = laid.logs;
        own = made_own a (head ++ tag) head tag is;
        fresh = item_due f a (head ++ tag) head [] tag a.logs (inr (inl (kind, long))) (λ entry. absurd (omega (arith, kind, entry)))
            is refl (filler_data f.store (memory_with f a.logs) (head ++ tag) kind);
        kept = λ it i. i;
        runs = λ q low high. rw kind none;
      }

-- and it stands where a key is due
filler_stands : (f : Fed) (a : Account) → Good f a → 0 < a.r.0 → own_place (filler_due f a) ≡ counters a
    → Stands (due_behind (ratchet f.store) a.items) (filler_due f a)
unfolding filler_due
filler_stands f a good inner own =
    let tag = tag_of f.store (due_key f a) (item_message f.store (filler_head a.c a.r) []) in
    stands_there f a good (half_free f a good inner) _ (λ restart. omega (arith, filler_kind_lem a.c a.r tag, restart)) own

-- ---- up to offset 0

abbrev pub left : Fed → Account → ℕ
left f a = cond (eqb a.r.0 0) 0 (ratchet f.store - a.r.0)

abbrev pub filled : Fed → Account → Account
filled f a = step_on f (with_item a (filler_due f a))

unfoldable pub fill : Fed → ℕ → Account → Account
fill f zero a = a
fill f (suc k) a = fill f k (filled f a)

module _ (f : Fed) where
  left_none : (a : Account) → a.r.0 < ratchet f.store → left f a ≡ 0 → a.r.0 ≡ 0
  left_none a below e =
      by_cases (ℕ_discrete a.r.0 0) (λ none. none) (λ some.
      let later : ratchet f.store - a.r.0 ≡ 0 = rw (ne_eqb a.r.0 0 some) at e in
      omega arith)

  pub left_some : (a : Account) (k : ℕ) → left f a ≡ suc k → (0 < a.r.0) × (ratchet f.store - a.r.0 ≡ suc k)
  left_some a k e =
      by_cases (ℕ_discrete a.r.0 0)
      (λ none. let never : 0 ≡ suc k = rw (eq-eqb a.r.0 0 none) at e in absurd (omega arith))
      (λ some. (omega arith, rw (ne_eqb a.r.0 0 some) at e))

  -- one filler less is left after one
  pub left_next : (a : Account) (k : ℕ) → a.r.0 < ratchet f.store → left f a ≡ suc k → left f (filled f a) ≡ k
  left_next a k below e =
      let some = left_some a k e in
      step_cases f (with_item a (filler_due f a)) (λ b. left f b ≡ k)
      (λ full. omega arith)
      (λ apart. rw (ne_eqb (suc a.r.0) 0 (λ z. omega arith)) (omega arith))

  pub filled_below : (a : Account) → a.r.0 < ratchet f.store → (filled f a).r.0 < ratchet f.store
  filled_below a below =
      step_cases f (with_item a (filler_due f a)) (λ b. b.r.0 < ratchet f.store) (λ full. omega arith) (λ apart. omega arith)

  -- close fills up what is left
  close_fill : (n k : ℕ) (a : Account) → a.r.0 < ratchet f.store → left f a ≡ k → k ≤ n → account_close n f a ≡ fill f k a
  unfolding account_close fill
  close_fill zero zero a below e h = refl
  close_fill zero (suc k) a below e h = absurd (omega arith)
  close_fill (suc n) zero a below e h = rw (le-ltb 0 a.r.0 (omega (arith, left_none a below e)))
  close_fill (suc n) (suc k) a below e h =
      rw (lt-ltb 0 a.r.0 (left_some a k e).0) (close_fill n k (filled f a) (filled_below a below) (left_next a k below e) (omega arith))

  -- at offset 0, and with no chunk waiting where none did before
  pub fill_ends : (k : ℕ) (a : Account) → a.r.0 < ratchet f.store → left f a ≡ k → (fill f k a).r.0 ≡ 0
  unfolding fill
  fill_ends zero a below e = left_none a below e
  fill_ends (suc k) a below e = fill_ends k (filled f a) (filled_below a below) (left_next a k below e)

  pub fill_free : (k : ℕ) (a : Account) → a.waiting ≡ 0 → (fill f k a).waiting ≡ 0
  unfolding fill
  fill_free zero a free = free
  fill_free (suc k) a free = fill_free k (filled f a) (step_waiting f (with_item a (filler_due f a)))

  pub fill_count : (k : ℕ) (a : Account) → length (fill f k a).items ≡ length a.items + k
  unfolding fill
  fill_count zero a = omega arith
  fill_count (suc k) a =
      let more = ap length (step_items f (with_item a (filler_due f a))) ∙ length-append a.items (filler_due f a ∷ []) in
      omega (arith, fill_count k (filled f a))

  left_at_most : (a : Account) → left f a ≤ ratchet f.store
  left_at_most a = either (λ n. n ≤ ratchet f.store) (eqb a.r.0 0) (omega arith) (omega arith)

  pub after_close_lem : (a : Account) → a.r.0 < ratchet f.store → after_close f a ≡ fill f (left f a) a
  after_close_lem a below = close_fill (ratchet f.store) (left f a) a below refl (left_at_most a)

module _ (f : Fed) (begun : Begun f) where
  pub filled_sealed : (a : Account) → seal_reached (filled f a) ≡ seal_reached a + filler_length f.store
  filled_sealed a =
      ap (λ (items : List (List ℕ)). length (joined items)) (step_items f (with_item a (filler_due f a)))
      ∙ ap length (joined_last a.items (filler_due f a))
      ∙ length-append (joined a.items) (filler_due f a)
      ∙ ap (λ (n : ℕ). seal_reached a + n) (filler_long f begun a)

  fill_sealed : (k : ℕ) (a : Account) → seal_reached (fill f k a) ≡ seal_reached a + k * filler_length f.store
  unfolding fill
  fill_sealed zero a = omega arith
  fill_sealed (suc k) a = omega (arith, fill_sealed k (filled f a), filled_sealed a)

  -- what holds after each filler holds after all
  module _ (P : Account → Type 0) (below : (a : Account) → P a → a.r.0 < ratchet f.store)
      (on : (a : Account) → P a → 0 < a.r.0 → seal_reached a + filler_length f.store ≤ length f.seal → P (filled f a)) where
    fill_holds : (k : ℕ) (a : Account) → P a → left f a ≡ k → seal_reached a + k * filler_length f.store ≤ length f.seal → P (fill f k a)
    unfolding fill
    fill_holds zero a holds e h = holds
    fill_holds (suc k) a holds e h =
        fill_holds k (filled f a) (on a holds (left_some f a k e).0 (omega arith)) (left_next f a k (below a holds) e) (omega (arith, filled_sealed a))

  pub fill_laid : (k : ℕ) (a : Account) → Laid f a → left f a ≡ k → seal_reached a + k * filler_length f.store ≤ length f.seal → Laid f (fill f k a)
  fill_laid =
      fill_holds (Laid f) (λ a laid. laid.offset)
      (λ a laid inner sealed. adds_laid f a laid (filler_due f a) a.logs (filler_adds f begun a laid inner sealed))

  pub fill_good : (k : ℕ) (a : Account) → Good f a → left f a ≡ k → seal_reached a + k * filler_length f.store ≤ length f.seal → Good f (fill f k a)
  fill_good =
      fill_holds (Good f) (λ a good. good.laid.offset)
      (λ a good inner sealed.
      let adds = filler_adds f begun a good.laid inner sealed in
      adds_good f a good (filler_due f a) a.logs adds (filler_stands f a good inner adds.own))

  -- what close adds to the seal file
  pub close_sealed : (a : Account) → a.r.0 < ratchet f.store → seal_reached (after_close f a) ≡ seal_reached a + left f a * filler_length f.store
  close_sealed a below = ap seal_reached (after_close_lem f a below) ∙ fill_sealed (left f a) a
