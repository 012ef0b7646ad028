-- A device comes back from a cut: the calls are allowed and not refused, one after another, and leave no chunk half used.
use mathlib.Core.Path.{◌≡◌, refl, sym, ap, subst, ◌∙◌}
use mathlib.Core.Bool.{Bool, true, false, true≢false}
use mathlib.Core.Logic.{inl, inr}
use mathlib.Core.List.{List, [], ◌∷◌, ◌++◌}
use Prim.Native.Nat.{ℕ, ◌+◌, ◌-◌, ◌*◌, ◌≤◌, ◌<◌}
use native.Mathlib.Omega.{arith}
use lib.ListN.{length, length-append}
use borrow.Author.Tests.{eq-eqb, ne_eqb, lt-ltb, le-ltb}
use Rattle.scheme.specs.Bytes.{joined}
use Rattle.scheme.specs.Rules.{all_true, some_from, row}
use Rattle.scheme.specs.Store.{chunk_count, ratchet}
use Rattle.scheme.specs.Items.{filler_length, restart_length}
use Rattle.scheme.proofs.Tests.{not-true, not-not}
use Rattle.scheme.proofs.Rules.{◌also◌, none_true, in_range, silent}
use Rattle.scheme.proofs.Scans.{none_from, nowhere, row_is}
use Rattle.scheme.proofs.Areas.{joined_last}
use Rattle.scheme.proofs.Acceptance.Stores.{listed_is}
use Rattle.claims.specs.Account.{Call, Open, Close, Restart, Cut, Fed, Account, started, carried, lengths_of, lengths_reached, seal_reached, restart_due, with_lost, losing, with_item, account_restart, after_close, after_cut, account_open_rules, account_close_rules, account_restart_rules, account_refusal, account_done, account_step, account_answer, account_from, answers_from, NoneHalfUsed, HalfUsed, AllowedBy, Allowed, HistoryFrom}
use Rattle.claims.specs.Run.{Device, run_answers, History}
use Rattle.claims.specs.Claim.{Starts}
use Rattle.claims.specs.Plan.{first_refusal}
use Rattle.claims.specs.Back.{half_count, back, MayComeBack, BackWith, ComesBack}
use Rattle.claims.proofs.Good.{Good, front}
use Rattle.claims.proofs.Histories.{by_account, good, device_left, account_answers}
use Rattle.claims.proofs.Honest.{front_left}
use Rattle.claims.proofs.Invariant.{cut_half, cut_good, losing_good, lost_good, step_good}
use Rattle.claims.proofs.Claim.{claim}
use Rattle.claims.proofs.Plan.{account_on}
use Rattle.claims.proofs.Foretold.{account_history_on}
use Rattle.claims.proofs.Steps.Agrees.{step_done}
use Rattle.claims.proofs.Steps.Begun.{Begun, begun}
use Rattle.claims.proofs.Steps.Device.{device_of, lengths_at, lengths_length}
use Rattle.claims.proofs.Steps.Fillers.{left, fill, fill_ends, fill_free, fill_count, after_close_lem, close_sealed}
use Rattle.claims.proofs.Steps.Restarts.{restart_long}
use Rattle.claims.proofs.Steps.Stepping.{onward, step_onward}

-- a call that is not refused has the refusal 0 in front of the answers behind it
first_on : (f : Fed) (a : Account) (call : Call) (calls : List Call) → account_refusal f a call ≡ 0 → first_refusal (answers_from f (account_step f a call) calls) ≡ 0
    → first_refusal (answers_from f a (call ∷ calls)) ≡ 0
unfolding answers_from first_refusal account_answer
first_on f a call calls none later = rw (eq-eqb (account_refusal f a call) 0 none) later

-- an account that waits, at the first key of the next chunk; the account of a half-used chunk after a cut is one
abbrev pub waits : ℕ → ℕ → Bool → List (List ℕ) → List (List ℕ) → Account
waits c n lost items logs = record { c = record { 0 = c }; r = record { 0 = 0 }; items = items; logs = logs; lost = lost; waiting = n }

-- what it takes from there
pub record May (f : Fed) (a : Account) : Type 0 where
  pub some : 0 < a.waiting
  pub chunk : a.c.0 < chunk_count f.store
  pub room : seal_reached a + restart_length f.store + (ratchet f.store - 1) * filler_length f.store ≤ length f.seal

module _ (f : Fed) (starts : Starts f) (c n : ℕ) (lost : Bool) (items logs : List (List ℕ)) (good_a : Good f (waits c n lost items logs)) (may : May f (waits c n lost items logs)) where
  abbrev pub cut : Account
  cut = waits c n lost items logs

  start : Begun f
  start = begun f starts

  few : n < ratchet f.store
  few = (good_a.waits may.some).few

  later : 1 ≤ c
  later = (good_a.waits may.some).later

  -- ---- the open

  abbrev pub opening : Call
  opening = Open (lengths_reached cut) (seal_reached cut)

  row_front : row (carried cut) 0 (chunk_count f.store) ≡ c
  row_front =
      row_is (carried cut) 0 (chunk_count f.store) c good_a.laid.spent
      (λ x low high. good_a.laid.burned x ∙ lt-ltb x c (omega arith))
      (λ h. good_a.laid.burned (0 + c) ∙ le-ltb (0 + c) c (omega arith))

  open_unrefused : account_refusal f cut opening ≡ 0
  unfolding account_refusal account_open_rules
  open_unrefused =
      silent (account_open_rules f cut (lengths_reached cut) (seal_reached cut)) (
      starts.store
      also starts.logs
      also nowhere (carried cut) _ _ (λ x low high. good_a.laid.burned x ∙ le-ltb x c (omega (arith, low, row_front)))
      also (listed_is f.store (lengths_reached cut)).1
      (lengths_length logs ∙ good_a.laid.logs.count, (λ i h. rw (lengths_at logs i) (good_a.laid.logs.sizes i)))
      also le-ltb (length f.seal) (seal_reached cut) good_a.laid.sealed
      also tt
      )

  open_is : account_step f cut opening ≡ with_lost cut false
  unfolding account_done
  open_is = step_done f cut opening open_unrefused

  good_open : Good f (with_lost cut false)
  good_open = lost_good f start cut good_a false (λ never. absurd (true≢false (sym never)))

  -- ---- the restart

  abbrev pub before : Account
  before = with_lost cut false

  some_burned : some_from (carried before) 0 (chunk_count f.store) ≡ true
  some_burned =
      not-true _ (λ none.
      true≢false (sym (good_open.laid.burned 0 ∙ lt-ltb 0 (front before) (omega (arith, later)))
      ∙ none_from (carried before) 0 (chunk_count f.store) none 0 (omega arith) (omega (arith, start.store.chunks_low))))

  restart_unrefused : account_refusal f before (Restart n) ≡ 0
  unfolding account_refusal account_restart_rules all_true
  restart_unrefused =
      silent (account_restart_rules f before n) (
      starts.store
      also starts.logs
      also refl
      also (none_true _).1 ((in_range 1 (ratchet f.store - 1) n).1 (may.some, omega (arith, few)) also refl also not-not _ some_burned also tt)
      also le-ltb (length f.seal - seal_reached cut) (restart_length f.store) (omega (arith, may.room))
      also rw (ne_eqb c (chunk_count f.store) (λ same. omega (arith, same, may.chunk))) refl
      also tt
      )

  abbrev pub item : List ℕ
  item = restart_due f before n

  abbrev pub after : Account
  after = onward (with_item before item)

  restart_is : account_step f before (Restart n) ≡ after
  unfolding account_done account_restart
  restart_is =
      step_done f before (Restart n) restart_unrefused
      ∙ step_onward f (with_item before item) (λ full. omega (arith, full, may.some, few))

  restart_allowed : Allowed f before (Restart n)
  unfolding AllowedBy
  restart_allowed = λ none. (may.some, refl)

  pub good_after : Good f after
  good_after = rw restart_is at (step_good f start before (Restart n) good_open restart_allowed)

  after_sealed : seal_reached after ≡ seal_reached cut + restart_length f.store
  after_sealed =
      ap length (joined_last items item)
      ∙ length-append (joined items) item
      ∙ ap (λ (m : ℕ). seal_reached cut + m) (restart_long f start before n)

  -- ---- the close

  left_after : left f after ≡ ratchet f.store - 1
  left_after = refl

  close_unrefused : account_refusal f after Close ≡ 0
  unfolding account_refusal account_close_rules
  close_unrefused =
      silent (account_close_rules f after) (
      starts.store
      also starts.logs
      also refl
      also le-ltb (length f.seal - seal_reached after) (seal_reached (after_close f after) - seal_reached after)
      (omega (arith, close_sealed f start after good_after.laid.offset, ap (λ (m : ℕ). m * filler_length f.store) left_after, after_sealed, may.room))
      also tt
      )

  close_is : account_step f after Close ≡ fill f (left f after) after
  unfolding account_done
  close_is = step_done f after Close close_unrefused ∙ after_close_lem f after good_after.laid.offset

  -- ---- all of them

  abbrev pub calls_back : List Call
  calls_back = opening ∷ Restart n ∷ Close ∷ []

  pub back_is : account_from f cut calls_back ≡ fill f (left f after) after
  unfolding account_from
  back_is =
      ap (λ (b : Account). account_step f (account_step f b (Restart n)) Close) open_is
      ∙ ap (λ (b : Account). account_step f b Close) restart_is
      ∙ close_is

  pub back_whole : NoneHalfUsed (account_from f cut calls_back)
  back_whole = rw back_is (fill_ends f (left f after) after good_after.laid.offset refl, fill_free f (left f after) after refl)

  pub back_count : length (account_from f cut calls_back).items ≡ length items + ratchet f.store
  back_count =
      ap (λ (b : Account). length b.items) back_is
      ∙ fill_count f (left f after) after
      ∙ omega (arith, left_after, length-append items (item ∷ []), few)

  pub back_unrefused : first_refusal (answers_from f cut calls_back) ≡ 0
  unfolding account_refusal answers_from first_refusal
  back_unrefused =
      first_on f cut opening (Restart n ∷ Close ∷ []) open_unrefused
      (rw open_is (first_on f before (Restart n) (Close ∷ []) restart_unrefused
      (rw restart_is (first_on f after Close [] close_unrefused refl))))

  pub back_history : HistoryFrom f cut calls_back
  unfolding HistoryFrom AllowedBy
  back_history = ((λ none. (refl, refl, refl)), rw open_is (restart_allowed, (tt, tt)))

-- so it comes back, from an account that waits
pub record Backs (f : Fed) (a : Account) (more : List Call) (count : ℕ) : Type 0 where
  pub unrefused : first_refusal (answers_from f a more) ≡ 0
  pub history : HistoryFrom f a more
  pub whole : NoneHalfUsed (account_from f a more)
  pub number : length (account_from f a more).items ≡ count + ratchet f.store

pub backs : (f : Fed) → Starts f → (a : Account) → Good f a → May f a
    → Backs f a (Open (lengths_reached a) (seal_reached a) ∷ Restart a.waiting ∷ Close ∷ []) (length a.items)
backs f starts a good may =
    let whole = (good.waits may.some).whole in
    let same : waits a.c.0 a.waiting a.lost a.items a.logs ≡ a
    = λ i. record { c = a.c; r = record { 0 = sym whole i }; items = a.items; logs = a.logs; lost = a.lost; waiting = a.waiting } in
    let good' = subst (Good f) (sym same) good in
    let may' : May f (waits a.c.0 a.waiting a.lost a.items a.logs) = record { some = may.some; chunk = may.chunk; room = may.room } in
    subst (λ (b : Account). Backs f b (Open (lengths_reached a) (seal_reached a) ∷ Restart a.waiting ∷ Close ∷ []) (length a.items)) same
    (record {
      unrefused = back_unrefused f starts a.c.0 a.waiting a.lost a.items a.logs good' may';
      history = back_history f starts a.c.0 a.waiting a.lost a.items a.logs good' may';
      whole = back_whole f starts a.c.0 a.waiting a.lost a.items a.logs good' may';
      number = back_count f starts a.c.0 a.waiting a.lost a.items a.logs good' may';
    })

module _ (f : Fed) (starts : Starts f) (a : Account) (good_a : Good f a) (may : MayComeBack f a) where
  chunk_left : front a < chunk_count f.store
  chunk_left = omega (arith, may.chunk, front_left f a starts good_a.laid)

  -- where a cut left it so
  waiting_backs : 0 < a.waiting → Backs f a (back a) (length a.items)
  waiting_backs some =
      let whole = eq-eqb a.r.0 0 (good_a.waits some).whole in
      let chunk : a.c.0 < chunk_count f.store = rw whole at chunk_left in
      rw whole (backs f starts a good_a (record { some = some; chunk = chunk; room = may.room }))

  -- after a cut, which changes no more than that the state is lost where one left it so
  cut_step : account_step f a Cut ≡ after_cut a
  unfolding account_step account_refusal account_done
  cut_step = refl

  behind : (b : Account) → Good f b → 0 < b.waiting → b.c.0 ≡ front a → b.waiting ≡ half_count a → b.items ≡ a.items → b.logs ≡ a.logs → after_cut a ≡ b
      → Backs f a (Cut ∷ back a) (length a.items)
  unfolding account_from answers_from HistoryFrom AllowedBy account_refusal
  behind b well some chunk number items logs is =
      let done = backs f starts b well (record {
        some = some;
        chunk = rw chunk chunk_left;
        room = rw items may.room;
      }) in
      let list : Open (lengths_reached b) (seal_reached b) ∷ Restart b.waiting ∷ Close ∷ [] ≡ back a
      = λ i. Open (lengths_of (logs i)) (length (joined (items i))) ∷ Restart (number i) ∷ Close ∷ [] in
      let same : Backs f b (back a) (length a.items)
      = subst (λ (n : ℕ). Backs f b (back a) n) (ap length items) (subst (λ (l : List Call). Backs f b l (length b.items)) list done) in
      let moved = subst (λ (d : Account). Backs f d (back a) (length a.items)) (sym (cut_step ∙ is)) same in
      record { unrefused = first_on f a Cut (back a) refl moved.unrefused; history = (tt, moved.history); whole = moved.whole; number = moved.number }

  cut_backs : Backs f a (Cut ∷ back a) (length a.items)
  unfolding after_cut
  cut_backs = go may.half
    where
      go : HalfUsed a → Backs f a (Cut ∷ back a) (length a.items)
      go (inl inner) =
          let half = ne_eqb a.r.0 0 (λ z. omega (arith, inner, z)) in
          behind (cut_half a) (cut_good f (begun f starts) a good_a inner) inner (rw half) (rw half) refl refl (rw (lt-ltb 0 a.r.0 inner))
      go (inr some) =
          let none = (good_a.waits some).whole in
          let whole = eq-eqb a.r.0 0 none in
          behind (losing a) (losing_good f (begun f starts) a good_a) some (rw whole) (rw whole) refl refl (rw (le-ltb 0 a.r.0 (omega (arith, none))))

  from_backs : (calls : List Call) → History f calls → account_from f (started f) calls ≡ a → (more : List Call) → Backs f a more (length a.items) → BackWith f calls a more
  from_backs calls history is more done =
      let on = account_on f (started f) calls more ∙ ap (λ (b : Account). account_from f b more) is in
      let ways = by_account f starts in
      let all = account_history_on f (started f) calls more ((ways calls).0 history) (subst (λ (b : Account). HistoryFrom f b more) (sym is) done.history) in
      let own = (ways (calls ++ more)).1 all in
      record {
        unrefused = ap (λ (d : Device). first_refusal (run_answers d more)) (device_left f starts calls history ∙ ap (device_of f) is)
            ∙ ap first_refusal (account_answers f (begun f starts) a good_a.laid more done.history) ∙ done.unrefused;
        history = own;
        accepted = (claim f starts (calls ++ more) own).honest (rw on done.whole)
            ∙ ap (λ (n : ℕ). record { refusal = 0; number = n }) (ap (λ (b : Account). length b.items) on ∙ done.number);
      }

pub comes_back : (f : Fed) → Starts f → (calls : List Call) → History f calls → MayComeBack f (account_from f (started f) calls)
    → ComesBack f calls (account_from f (started f) calls)
comes_back f starts calls history may =
    let a = account_from f (started f) calls in
    let g = good f starts calls history in
    record {
      cut = from_backs f starts a g may calls history refl (Cut ∷ back a) (cut_backs f starts a g may);
      waiting = λ some. from_backs f starts a g may calls history refl (back a) (waiting_backs f starts a g may some);
    }
