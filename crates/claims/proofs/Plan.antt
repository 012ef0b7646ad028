-- What a plan does (FORMAT.md, 13). All goes by the keys passed, those before the counters: the chunks burned are their number divided by the ratchet,
-- rounded up; an append passes one, a close those up to the next whole chunk, and a refused call none.
use mathlib.Core.Path.{◌≡◌, refl, sym, ap, ◌∙◌}
use mathlib.Core.Bool.{Bool, true, false, cond, false≢true, or-false}
use mathlib.Core.Logic.{◌⊎◌, inl, inr, by_cases}
use mathlib.Core.List.{List, [], ◌∷◌, ◌++◌}
use Prim.Native.Nat.{ℕ, zero, suc, ◌+◌, ◌*◌, ◌≤◌, ◌<◌}
use native.Mathlib.Nat.{suc-mul}
use native.Mathlib.Decide.{ℕ_discrete}
use native.Mathlib.Omega.{arith}
use lib.Dec.{eqb}
use lib.ListN.{length}
use borrow.Author.Tests.{eqb-true, eq-eqb, ne_eqb}
use Rattle.scheme.specs.Rules.{Rule, ◌⇒◌, refusal_by}
use Rattle.scheme.specs.Store.{chunk_count, ratchet}
use Rattle.scheme.specs.Items.{offset_of}
use Rattle.scheme.specs.declared.RatchetOffset.{RatchetOffset}
use Rattle.scheme.proofs.Places.{offset_at}
use Rattle.scheme.proofs.Rules.{both_true, refused_holds}
use Rattle.planning.specs.Chunks.{rounded_up, chunks_for}
use Rattle.planning.proofs.Quotients.{above_none, rises, shared, apart, exactly, whole}
use Rattle.claims.specs.Account.{Call, Open, Append, Close, Restart, Cut, Answer, Fed, Account, started, step_on, entry_due, filler_due, with_item, with_data, account_append, account_append_rules, account_close_rules, account_refusal, account_done, account_refused, account_step, account_answer, account_from, answers_from, NoneHalfUsed, AllowedBy}
use Rattle.claims.specs.Run.{History}
use Rattle.claims.specs.Claim.{Starts}
use Rattle.claims.specs.Plan.{Entry, interval, followed, counts_of, burned_below, chunks_burned, first_refusal, NoneBy, rules_of, without, OnlyBy, Burns, Follows}
use Rattle.claims.proofs.Good.{Good, front}
use Rattle.claims.proofs.Histories.{good}
use Rattle.claims.proofs.Invariant.{step_good}
use Rattle.claims.proofs.Steps.Agrees.{step_done, step_refused}
use Rattle.claims.proofs.Steps.Begun.{Begun, begun}
use Rattle.claims.proofs.Steps.Fillers.{left, filled, fill, fill_free, after_close_lem}
use Rattle.claims.proofs.Steps.Opening.{no_chunk, no_offset}
use Rattle.claims.proofs.Steps.Stepping.{step_cases, step_waiting}
use Rattle.claims.proofs.Steps.StoreLeft.{front_whole, front_half, fold_front}

-- ---- answers

-- where none is refused, neither is the first nor any behind it
first_none : (x : Answer) (answers : List Answer) → first_refusal (x ∷ answers) ≡ 0 → (x.refusal ≡ 0) × (first_refusal answers ≡ 0)
unfolding first_refusal
first_none x answers e =
    by_cases (ℕ_discrete x.refusal 0)
    (λ none. (none, rw (eq-eqb x.refusal 0 none) at e))
    (λ some. let never : x.refusal ≡ 0 = rw (ne_eqb x.refusal 0 some) at e in absurd (some never))

both_none : (xs ys : List Answer) → first_refusal (xs ++ ys) ≡ 0 → (first_refusal xs ≡ 0) × (first_refusal ys ≡ 0)
unfolding first_refusal
both_none [] ys e = (refl, e)
both_none (x ∷ xs) ys e =
    let first = first_none x (xs ++ ys) e in
    let later = both_none xs ys first.1 in
    (rw (eq-eqb x.refusal 0 first.0) later.0, later.1)

none_both : (n : ℕ) (xs ys : List Answer) → NoneBy n xs → NoneBy n ys → NoneBy n (xs ++ ys)
unfolding NoneBy
none_both n [] ys none more = more
none_both n (x ∷ xs) ys none more = (none.0, none_both n xs ys none.1 more)

-- calls one behind the other
answers_on : (f : Fed) (a : Account) (first later : List Call) → answers_from f a (first ++ later) ≡ answers_from f a first ++ answers_from f (account_from f a first) later
unfolding answers_from account_from
answers_on f a [] later = refl
answers_on f a (call ∷ first) later = ap (λ (answers : List Answer). account_answer f a call ∷ answers) (answers_on f (account_step f a call) first later)

pub account_on : (f : Fed) (a : Account) (first later : List Call) → account_from f a (first ++ later) ≡ account_from f (account_from f a first) later
unfolding account_from
account_on f a [] later = refl
account_on f a (call ∷ first) later = account_on f (account_step f a call) first later

-- of two numbers the one that is left
met : {n k : ℕ} → (n ≡ 0) ⊎ (n ≡ k) → (n ≡ 0 → ⊥) → n ≡ k
met (inl none) some = absurd (some none)
met (inr same) some = same

-- ---- rules

-- where none but n holds, rules refuse by n if at all
dropped : (t : Bool) (m : ℕ) (rules : List Rule) → refusal_by (cond t rules ((false ⇒ m) ∷ rules)) ≡ 0 → refusal_by rules ≡ 0
unfolding refusal_by
dropped true m rules e = e
dropped false m rules e = e

only_rule : (n : ℕ) (rules : List Rule) → refusal_by (without n rules) ≡ 0 → (refusal_by rules ≡ 0) ⊎ (refusal_by rules ≡ n)
unfolding refusal_by without
only_rule n [] e = inl refl
only_rule n ((true ⇒ m) ∷ rules) e =
    by_cases (ℕ_discrete m n) (λ same. inr same) (λ other. let none : m ≡ 0 = rw (ne_eqb m n other) at e in inl none)
only_rule n ((false ⇒ m) ∷ rules) e =
    only_rule n rules (dropped (eqb m n) m (without n rules) e)

module _ (f : Fed) where
  by_rules : (a : Account) (call : Call) → account_refusal f a call ≡ refusal_by (rules_of f a call)
  unfolding account_refusal refusal_by
  by_rules a (Open lengths seal_length) = refl
  by_rules a (Append phase bytes) = refl
  by_rules a Close = refl
  by_rules a (Restart number) = refl
  by_rules a Cut = refl

  -- so are calls, the first of them
  only_first : (n : ℕ) (calls : List Call) (a : Account) → OnlyBy n f a calls
      → (first_refusal (answers_from f a calls) ≡ 0) ⊎ (first_refusal (answers_from f a calls) ≡ n)
  unfolding OnlyBy answers_from account_answer first_refusal
  only_first n [] a only = inl refl
  only_first n (call ∷ calls) a only =
      by_cases (ℕ_discrete (account_refusal f a call) 0)
      (λ none. rw (eq-eqb (account_refusal f a call) 0 none) (only_first n calls (account_step f a call) (only.1 none)))
      (λ some. rw (ne_eqb (account_refusal f a call) 0 some) (rw (by_rules a call) (only_rule n (rules_of f a call) only.0)))

-- ---- chunks burned

module _ (f : Fed) (begun : Begun f) where
  some_keys : 0 < ratchet f.store
  some_keys = omega (arith, begun.store.ratchet_low)

  -- the keys passed, and the chunks that so many take
  abbrev number : Account → ℕ
  number a = a.c.0 * ratchet f.store + a.r.0

  abbrev taken : ℕ → ℕ
  taken n = rounded_up n (ratchet f.store)

  module _ (a : Account) (good : Good f a) where
    taken_front : taken (number a) ≡ front a
    taken_front =
        by_cases (ℕ_discrete a.r.0 0)
        (λ none.
        let ends = front_whole a none in
        exactly (number a) (ratchet f.store) (front a) some_keys (rw ends (omega arith)) (rw ends (omega arith)))
        (λ some.
        let ends = front_half a (omega arith) in
        exactly (number a) (ratchet f.store) (front a) some_keys (rw (ends, suc-mul) (omega (arith, good.laid.offset))) (rw (ends, suc-mul) (omega arith)))

    taken_most : taken (number a) ≤ chunk_count f.store
    taken_most = omega (arith, taken_front, good.laid.spent)

    pub burned_is : chunks_burned f a ≡ taken (number a)
    unfolding burned_below
    burned_is =
        fold_front f a good.laid begun.store (burned_below a) (λ (n : ℕ). n) refl (λ n one same. rw (one, same)) (λ n none. rw none)
        ∙ sym taken_front

    -- a chunk is half used unless the keys are those of whole chunks
    whole_chunks : (k : ℕ) → number a ≡ k * ratchet f.store → a.r.0 ≡ 0
    whole_chunks k e =
        ap (λ (r : RatchetOffset). r.0)
        (sym (offset_at (ratchet f.store) a.c.0 a.r.0 good.laid.offset)
        ∙ ap (offset_of (ratchet f.store)) (omega (arith, e))
        ∙ offset_at (ratchet f.store) k 0 some_keys)

    -- what a close adds ends a chunk
    up_to_whole : number a + left f a ≡ front a * ratchet f.store
    up_to_whole =
        by_cases (ℕ_discrete a.r.0 0)
        (λ none. rw (eq-eqb a.r.0 0 none) (omega arith))
        (λ some. rw (ne_eqb a.r.0 0 some, suc-mul) (omega (arith, good.laid.offset)))

  -- none are passed while there is no item
  pub first_number : (a : Account) → Good f a → a.items ≡ [] → number a ≡ 0
  first_number a good none =
      let empty = ap length none in
      rw (no_chunk f begun a good.laid empty, no_offset f begun a good.laid empty) (omega arith)

  -- ---- one call

  step_number : (a : Account) → number (step_on f a) ≡ suc (number a)
  step_number a =
      step_cases f a (λ b. number b ≡ suc (number a)) (λ full. omega (arith, suc-mul a.c.0 (ratchet f.store), full)) (λ apart. omega arith)

  append_number : (a : Account) (phase : ℕ) (bytes : List ℕ) → account_refusal f a (Append phase bytes) ≡ 0
      → number (account_step f a (Append phase bytes)) ≡ suc (number a)
  unfolding account_done account_append
  append_number a phase bytes e =
      ap number (step_done f a (Append phase bytes) e) ∙ step_number (with_data (with_item a (entry_due f a phase bytes)) phase bytes)

  -- no chunk waits behind it where none did before
  append_free : (a : Account) (phase : ℕ) (bytes : List ℕ) → a.waiting ≡ 0 → (account_step f a (Append phase bytes)).waiting ≡ 0
  unfolding account_done account_append account_refused
  append_free a phase bytes free =
      by_cases (ℕ_discrete (account_refusal f a (Append phase bytes)) 0)
      (λ e. rw (step_done f a (Append phase bytes) e) (step_waiting f (with_data (with_item a (entry_due f a phase bytes)) phase bytes)))
      (λ e. rw (step_refused f a (Append phase bytes) (ne_eqb (account_refusal f a (Append phase bytes)) 0 e)) free)

  fill_number : (k : ℕ) (a : Account) → number (fill f k a) ≡ number a + k
  unfolding fill
  fill_number zero a = omega arith
  fill_number (suc k) a = omega (arith, fill_number k (filled f a), step_number (with_item a (filler_due f a)))

  append_most : (a : Account) (phase : ℕ) (bytes : List ℕ) → number (account_step f a (Append phase bytes)) ≤ suc (number a)
  unfolding account_refused
  append_most a phase bytes =
      by_cases (ℕ_discrete (account_refusal f a (Append phase bytes)) 0)
      (λ e. omega (arith, append_number a phase bytes e))
      (λ e. omega (arith, ap number (step_refused f a (Append phase bytes) (ne_eqb (account_refusal f a (Append phase bytes)) 0 e))))

  close_number : (a : Account) → Good f a → account_refusal f a Close ≡ 0 → number (account_step f a Close) ≡ taken (number a) * ratchet f.store
  unfolding account_done
  close_number a good e =
      ap number (step_done f a Close e ∙ after_close_lem f a good.laid.offset)
      ∙ fill_number (left f a) a
      ∙ up_to_whole a good
      ∙ ap (λ (k : ℕ). k * ratchet f.store) (sym (taken_front a good))

  close_free : (a : Account) → Good f a → a.waiting ≡ 0 → (account_step f a Close).waiting ≡ 0
  unfolding account_done account_refused
  close_free a good free =
      by_cases (ℕ_discrete (account_refusal f a Close) 0)
      (λ e. rw (step_done f a Close e ∙ after_close_lem f a good.laid.offset) (fill_free f (left f a) a free))
      (λ e. rw (step_refused f a Close (ne_eqb (account_refusal f a Close) 0 e)) free)

  -- neither burns a chunk where it is refused, and a close none at all
  close_keeps : (a : Account) → Good f a → taken (number (account_step f a Close)) ≡ taken (number a)
  unfolding account_refused
  close_keeps a good =
      by_cases (ℕ_discrete (account_refusal f a Close) 0)
      (λ e. ap taken (close_number a good e) ∙ whole (taken (number a)) (ratchet f.store) some_keys)
      (λ e. ap (λ (b : Account). taken (number b)) (step_refused f a Close (ne_eqb (account_refusal f a Close) 0 e)))

  -- a close is never refused by 11, nor an append while a chunk for it is left
  close_not_spent : (a : Account) → account_refusal f a Close ≡ 11 → ⊥
  unfolding account_refusal account_close_rules
  close_not_spent a e = false≢true (refused_holds (account_close_rules f a) 11 (λ z. omega arith) e)

  append_not_spent : (a : Account) → Good f a → (phase : ℕ) (bytes : List ℕ) → taken (suc (number a)) ≤ chunk_count f.store
      → account_refusal f a (Append phase bytes) ≡ 11 → ⊥
  unfolding account_refusal account_append_rules
  append_not_spent a good phase bytes room e =
      let holds = refused_holds (account_append_rules f a phase bytes) 11 (λ z. omega arith) e in
      let spent = (both_true (eqb a.r.0 0) (eqb a.c.0 (chunk_count f.store))).0 (rw or-false at holds) in
      let offset = eqb-true a.r.0 0 spent.0 in
      let chunk = eqb-true a.c.0 (chunk_count f.store) spent.1 in
      let n = ratchet f.store in
      let all : suc (number a) ≡ chunk_count f.store * n + 1 = rw (sym chunk) (omega (arith, offset)) in
      omega (arith, ap taken all, apart (chunk_count f.store) 1 n some_keys, above_none 1 n some_keys (omega arith))

  -- ---- an interval

  -- an account that an append can go on from, and what each call leaves so
  pub record Ready (a : Account) : Type 0 where
    pub good : Good f a
    pub free : a.waiting ≡ 0

  pub append_ready : (a : Account) → Ready a → (phase : ℕ) (bytes : List ℕ) → Ready (account_step f a (Append phase bytes))
  unfolding AllowedBy
  append_ready a ready phase bytes =
      record { good = step_good f begun a (Append phase bytes) ready.good (λ e. ready.free); free = append_free a phase bytes ready.free }

  close_ready : (a : Account) → Ready a → Ready (account_step f a Close)
  unfolding AllowedBy
  close_ready a ready = record { good = step_good f begun a Close ready.good tt; free = close_free a ready.good ready.free }

  pub interval_ready : (entries : List Entry) (a : Account) → Ready a → Ready (account_from f a (interval entries))
  unfolding interval account_from
  interval_ready [] a ready = close_ready a ready
  interval_ready (e ∷ entries) a ready = interval_ready entries _ (append_ready a ready e.phase e.bytes)

  plan_ready : (plan : List (List Entry)) (a : Account) → Ready a → Ready (account_from f a (followed plan))
  unfolding followed account_from
  plan_ready [] a ready = ready
  plan_ready (entries ∷ plan) a ready = rw (account_on f a (interval entries) (followed plan)) (plan_ready plan _ (interval_ready entries a ready))

  -- no more is taken than by all its entries behind the keys passed
  interval_most : (entries : List Entry) (a : Account) → Ready a → taken (number (account_from f a (interval entries))) ≤ taken (number a + length entries)
  unfolding interval account_from
  interval_most [] a ready = omega (arith, close_keeps a ready.good, rises (number a) (number a + 0) (ratchet f.store) some_keys (omega arith))
  interval_most (e ∷ entries) a ready =
      let b = account_step f a (Append e.phase e.bytes) in
      omega (
        arith,
        interval_most entries b (append_ready a ready e.phase e.bytes),
        rises (number b + length entries) (number a + suc (length entries)) (ratchet f.store) some_keys (omega (arith, append_most a e.phase e.bytes)),
      )

  -- while so much is there, no append is refused by 11
  interval_lasts : (entries : List Entry) (a : Account) → Ready a → taken (number a + length entries) ≤ chunk_count f.store
      → NoneBy 11 (answers_from f a (interval entries))
  unfolding interval answers_from account_answer NoneBy
  interval_lasts [] a ready room = (close_not_spent a, tt)
  interval_lasts (e ∷ entries) a ready room =
      let call = Append e.phase e.bytes in
      let b = account_step f a call in
      let n = ratchet f.store in
      let one = rises (suc (number a)) (number a + suc (length entries)) n some_keys (omega arith) in
      let all = rises (number b + length entries) (number a + suc (length entries)) n some_keys (omega (arith, append_most a e.phase e.bytes)) in
      (append_not_spent a ready.good e.phase e.bytes (omega (arith, one)), interval_lasts entries b (append_ready a ready e.phase e.bytes) (omega (arith, all)))

  -- and where no call is refused, just so much is taken, in whole chunks
  interval_number : (entries : List Entry) (a : Account) → Ready a → first_refusal (answers_from f a (interval entries)) ≡ 0
      → number (account_from f a (interval entries)) ≡ taken (number a + length entries) * ratchet f.store
  unfolding interval account_from answers_from account_answer
  interval_number [] a ready e =
      close_number a ready.good (first_none (account_answer f a Close) [] e).0 ∙ ap (λ (n : ℕ). taken n * ratchet f.store) (omega arith)
  interval_number (x ∷ entries) a ready e =
      let call = Append x.phase x.bytes in
      let b = account_step f a call in
      let first = first_none (account_answer f a call) (answers_from f b (interval entries)) e in
      interval_number entries b (append_ready a ready x.phase x.bytes) first.1
      ∙ ap (λ (n : ℕ). taken n * ratchet f.store) (omega (arith, append_number a x.phase x.bytes first.0))

  -- ---- a plan

  plan_lasts : (plan : List (List Entry)) (a : Account) → Ready a
      → taken (number a) + chunks_for (counts_of plan) (ratchet f.store) ≤ chunk_count f.store → NoneBy 11 (answers_from f a (followed plan))
  unfolding followed counts_of chunks_for answers_from NoneBy
  plan_lasts [] a ready room = tt
  plan_lasts (entries ∷ plan) a ready room =
      let b = account_from f a (interval entries) in
      let most = interval_most entries a ready in
      let both = shared (number a) (length entries) (ratchet f.store) some_keys in
      rw answers_on
      (none_both 11 (answers_from f a (interval entries)) (answers_from f b (followed plan)) (interval_lasts entries a ready (omega (arith, both)))
      (plan_lasts plan b (interval_ready entries a ready) (omega (arith, most, both))))

  plan_number_lem : (plan : List (List Entry)) (a : Account) (k : ℕ) → Ready a → number a ≡ k * ratchet f.store
      → first_refusal (answers_from f a (followed plan)) ≡ 0
      → number (account_from f a (followed plan)) ≡ (k + chunks_for (counts_of plan) (ratchet f.store)) * ratchet f.store
  unfolding followed counts_of chunks_for account_from
  plan_number_lem [] a k ready there e = rw there (ap (λ (n : ℕ). n * ratchet f.store) (omega arith))
  plan_number_lem (entries ∷ plan) a k ready there e =
      let n = ratchet f.store in
      let b = account_from f a (interval entries) in
      let none = both_none (answers_from f a (interval entries)) (answers_from f b (followed plan)) (rw answers_on at e) in
      let here : number b ≡ (k + rounded_up (length entries) n) * n
      = interval_number entries a ready none.0 ∙ ap (λ (m : ℕ). m * n) (ap (λ (m : ℕ). taken (m + length entries)) there ∙ apart k (length entries) n some_keys) in
      ap number (account_on f a (interval entries) (followed plan))
      ∙ plan_number_lem plan b (k + rounded_up (length entries) n) (interval_ready entries a ready) here none.1
      ∙ ap (λ (m : ℕ). m * n) (omega arith)

  -- ---- from an account with no chunk half used

  module _ (a : Account) (good : Good f a) (none : NoneHalfUsed a) where
    ready : Ready a
    ready = record { good = good; free = none.1 }

    at_whole : number a ≡ a.c.0 * ratchet f.store
    at_whole = omega (arith, none.0)

    burned_whole : chunks_burned f a ≡ a.c.0
    burned_whole = burned_is a good ∙ ap taken at_whole ∙ whole a.c.0 (ratchet f.store) some_keys

    -- k chunks later
    burned_later_lem : (b : Account) (k : ℕ) → Good f b → number b ≡ (a.c.0 + k) * ratchet f.store → chunks_burned f b ≡ chunks_burned f a + k
    burned_later_lem b k later e =
        burned_is b later ∙ ap taken e ∙ whole (a.c.0 + k) (ratchet f.store) some_keys ∙ omega (arith, burned_whole)

    interval_does : (entries : List Entry) → first_refusal (answers_from f a (interval entries)) ≡ 0 → Burns f a entries
    interval_does entries quiet =
        let n = ratchet f.store in
        let b = account_from f a (interval entries) in
        let later = interval_ready entries a ready in
        let there : number b ≡ (a.c.0 + rounded_up (length entries) n) * n
        = interval_number entries a ready quiet
        ∙ ap (λ (m : ℕ). m * n) (ap (λ (m : ℕ). taken (m + length entries)) at_whole ∙ apart a.c.0 (length entries) n some_keys) in
        record {
          burned = omega (arith, burned_later_lem b (rounded_up (length entries) n) later.good there);
          whole = (whole_chunks b later.good (a.c.0 + rounded_up (length entries) n) there, later.free);
        }

    plan_does : (plan : List (List Entry)) → Follows f a plan
    plan_does plan =
        let k = chunks_for (counts_of plan) (ratchet f.store) in
        let b = account_from f a (followed plan) in
        let later = plan_ready plan a ready in
        let most = taken_most a good in
        let now_burned = burned_is a good in
        record {
          burned = λ quiet. omega (arith, burned_later_lem b k later.good (plan_number_lem plan a a.c.0 ready at_whole quiet));
          whole = λ quiet. (whole_chunks b later.good (a.c.0 + k) (plan_number_lem plan a a.c.0 ready at_whole quiet), later.free);
          lasts = λ enough. plan_lasts plan a ready (omega (arith, most, now_burned));
          short = λ few only.
              let refused = met (only_first f 11 (followed plan) a only) (λ quiet.
              omega (arith, few, burned_later_lem b k later.good (plan_number_lem plan a a.c.0 ready at_whole quiet), burned_is b later.good, taken_most b later.good)) in
              omega (arith, refused);
        }

-- ---- after a history

module _ (f : Fed) (starts : Starts f) (calls : List Call) (history : History f calls) (none : NoneHalfUsed (account_from f (started f) calls)) where
  pub interval_burns : (entries : List Entry) → first_refusal (answers_from f (account_from f (started f) calls) (interval entries)) ≡ 0
      → Burns f (account_from f (started f) calls) entries
  interval_burns = interval_does f (begun f starts) (account_from f (started f) calls) (good f starts calls history) none

  pub follows : (plan : List (List Entry)) → Follows f (account_from f (started f) calls) plan
  follows = plan_does f (begun f starts) (account_from f (started f) calls) (good f starts calls history) none
