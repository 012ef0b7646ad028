-- The account of every history is good, and that of any calls whatever laid: calls that are refused change no item, and the others add items one by one.
use mathlib.Core.Path.{◌≡◌, refl, sym, ap, ◌∙◌}
use mathlib.Core.Bool.{Bool, true, false, ◌||◌, cond, true≢false}
use mathlib.Core.Logic.{by_cases}
use mathlib.Core.List.{List, [], ◌∷◌}
use Prim.Native.Nat.{ℕ, zero, suc, ◌+◌, ◌-◌, ◌*◌, ◌≤◌, ◌<◌}
use native.Mathlib.Decide.{dec_lt}
use native.Mathlib.Omega.{arith}
use lib.Dec.{eqb, ltb}
use lib.ListN.{length, get_or, replicate, length-replicate}
use borrow.Author.Tests.{eq-eqb, ne_eqb, ltb-true, ltb-false, le-ltb}
use Rattle.scheme.specs.Rules.{all_true}
use Rattle.scheme.specs.Store.{data_limit, log_capacity, phases, chunk_count, ratchet}
use Rattle.scheme.specs.Items.{chunk_number, entry_length, filler_length, restart_length}
use Rattle.scheme.specs.Due.{due_from}
use Rattle.scheme.specs.Areas.{areas_in, none}
use Rattle.scheme.specs.Bytes.{joined}
use Rattle.scheme.proofs.Tests.{not_differ}
use Rattle.scheme.proofs.Rules.{none_true, both_true, in_range, passed}
use Rattle.scheme.proofs.Due.{same_place}
use Rattle.claims.specs.Account.{Fed, Account, Call, Open, Append, Close, Restart, Cut, started, log_of, carried_by, seal_reached, with_lost, losing, entry_due, restart_due, account_append, account_restart, after_close, after_cut, account_append_rules, account_close_rules, account_restart_rules, account_refusal, account_done, account_refused, account_step, account_from, AllowedBy, Allowed, HistoryFrom}
use Rattle.claims.proofs.Good.{Laid, Good}
use Rattle.claims.proofs.Steps.Agrees.{step_either}
use Rattle.claims.proofs.Steps.Begun.{Begun}
use Rattle.claims.proofs.Steps.Adding.{due_counters, half_free, stands_there, adds_laid, adds_good}
use Rattle.claims.proofs.Steps.Entries.{Appends, logs_with, entry_kind_lem, entry_adds}
use Rattle.claims.proofs.Steps.Fillers.{left, after_close_lem, close_sealed, fill_laid, fill_good}
use Rattle.claims.proofs.Steps.Restarts.{Restarts, restart_adds, restart_stands}
use Rattle.claims.proofs.Steps.StoreLeft.{front_half, chunk_at_most, chunk_below}

empty_log : (n p : ℕ) → length (get_or (replicate {A = List ℕ} n []) p []) ≡ 0
empty_log zero p = refl
empty_log (suc n) zero = refl
empty_log (suc n) (suc p) = empty_log n p

-- the account after a cut of a half-used chunk
abbrev pub cut_half : Account → Account
cut_half a =
    let b = losing a in
    record { c = record { 0 = suc a.c.0 }; r = record { 0 = 0 }; items = b.items; logs = b.logs; lost = b.lost; waiting = a.r.0 }

module _ (f : Fed) (begun : Begun f) where
  pub started_laid : Laid f (started f)
  unfolding started joined carried_by areas_in
  started_laid =
      record {
        offset = omega (arith, begun.store.ratchet_low);
        spent = omega arith;
        sealed = omega arith;
        logs = record { count = length-replicate (phases f.store) []; sizes = λ i. omega (arith, empty_log (phases f.store) i) };
        items = λ k h. absurd (omega arith);
        burned = λ x. sym (le-ltb x 0 (omega arith));
        runs = λ p low high. rw empty_log none;
        standing = λ e. absurd (true≢false (sym e));
      }

  pub started_good : Good f (started f)
  unfolding started due_from
  started_good = record { laid = started_laid; due = refl; waits = λ some. absurd (omega arith); stands = λ k h. absurd (omega arith) }

  lost_laid : (a : Account) → Laid f a → (lost : Bool) → (lost ≡ true → 0 < length a.items) → Laid f (with_lost a lost)
  lost_laid a laid lost standing =
      record {
        offset = laid.offset;
        spent = laid.spent;
        sealed = laid.sealed;
        logs = laid.logs;
        items = laid.items;
        burned = laid.burned;
        runs = laid.runs;
        standing = standing;
      }

  pub lost_good : (a : Account) → Good f a → (lost : Bool) → (lost ≡ true → 0 < length a.items) → Good f (with_lost a lost)
  lost_good a good lost standing =
      record {
        laid = lost_laid a good.laid lost standing;
        due = good.due;
        waits = λ some. let w = good.waits some in record { whole = w.whole; few = w.few; later = w.later };
        stands = good.stands;
      }

  -- 11 does not hold: a chunk is left
  left_room : (a : Account) → Laid f a → all_true (eqb a.r.0 0 ∷ eqb a.c.0 (chunk_count f.store) ∷ []) ≡ false → a.c.0 < chunk_count f.store
  left_room a laid unspent =
      by_cases (dec_lt a.c.0 (chunk_count f.store)) (λ below. below)
      (λ over. absurd (true≢false (sym ((both_true (eqb a.r.0 0) (eqb a.c.0 (chunk_count f.store))).1 (spent over)) ∙ unspent)))
    where
      spent : (a.c.0 < chunk_count f.store → ⊥) → (eqb a.r.0 0 ≡ true) × (eqb a.c.0 (chunk_count f.store) ≡ true)
      spent over = (
        by_cases (dec_lt 0 a.r.0) (λ inner. absurd (over (chunk_below f a laid begun.store inner))) (λ outer. eq-eqb a.r.0 0 (omega arith)),
        eq-eqb a.c.0 (chunk_count f.store) (omega (arith, chunk_at_most f a laid begun.store)),
      )

  -- what an append that is not refused has found, and a restart
  pub append_asks : (a : Account) → Laid f a → (phase : ℕ) (bytes : List ℕ) → account_refusal f a (Append phase bytes) ≡ 0 → Appends f a phase bytes
  unfolding account_refusal account_append_rules
  append_asks a laid phase bytes e =
      let test = passed (account_append_rules f a phase bytes) refl e in
      let phase_in_lem = (in_range 1 (phases f.store) phase).0 (test 7) in
      let size_in = (in_range 1 (data_limit f.store) (length bytes)).0 (test 8) in
      let log_free = ltb-false (log_capacity f.store - length (log_of a phase)) (length bytes) (test 9) in
      let seal_free = ltb-false (length f.seal - seal_reached a) (entry_length f.store) (test 10) in
      record {
        low = phase_in_lem.0;
        high = phase_in_lem.1;
        some = size_in.0;
        few = size_in.1;
        fits = omega (arith, laid.logs.sizes (phase - 1));
        sealed = omega (arith, laid.sealed);
        room = left_room a laid (test 11);
      }

  pub restart_asks : (a : Account) → Laid f a → (number : ℕ) → account_refusal f a (Restart number) ≡ 0 → Restarts f a number
  unfolding account_refusal account_restart_rules
  restart_asks a laid number e =
      let test = passed (account_restart_rules f a number) refl e in
      let own = (none_true _).0 (test 27) in
      let seal_free = ltb-false (length f.seal - seal_reached a) (restart_length f.store) (test 10) in
      record {
        few = ((in_range 1 (ratchet f.store - 1) number).0 own.0).1;
        first = (not_differ a.r.0 0).0 own.1.0;
        sealed = omega (arith, laid.sealed);
        room = left_room a laid (test 11);
      }

  pub close_fits : (a : Account) → Laid f a → account_refusal f a Close ≡ 0 → seal_reached a + left f a * filler_length f.store ≤ length f.seal
  unfolding account_refusal account_close_rules
  close_fits a laid e =
      let test = passed (account_close_rules f a) refl e in
      let free = ltb-false (length f.seal - seal_reached a) (seal_reached (after_close f a) - seal_reached a) (test 10) in
      omega (arith, close_sealed f begun a laid.offset)

  losing_stands : (a : Account) → Laid f a → (a.lost || ltb 0 (length a.items)) ≡ true → 0 < length a.items
  losing_stands a laid = go a.lost laid.standing
    where
      go : (t : Bool) → (t ≡ true → 0 < length a.items) → (t || ltb 0 (length a.items)) ≡ true → 0 < length a.items
      go true standing e = standing refl
      go false standing e = ltb-true 0 (length a.items) e

  pub losing_laid : (a : Account) → Laid f a → Laid f (losing a)
  losing_laid a laid = lost_laid a laid (a.lost || ltb 0 (length a.items)) (losing_stands a laid)

  pub losing_good : (a : Account) → Good f a → Good f (losing a)
  losing_good a good = lost_good a good (a.lost || ltb 0 (length a.items)) (losing_stands a good.laid)

  pub cut_laid : (a : Account) → Laid f a → 0 < a.r.0 → Laid f (cut_half a)
  cut_laid a laid inner =
      record {
        offset = omega (arith, laid.offset);
        spent = omega (arith, laid.spent, front_half a inner);
        sealed = laid.sealed;
        logs = laid.logs;
        items = laid.items;
        burned = λ x. laid.burned x ∙ ap (ltb x) (front_half a inner);
        runs = laid.runs;
        standing = losing_stands a laid;
      }

  -- what was due there waits
  pub cut_good : (a : Account) → Good f a → 0 < a.r.0 → Good f (cut_half a)
  cut_good a good inner =
      let before : a.c.0 ≡ suc a.c.0 - 1 = omega arith in
      record {
        laid = cut_laid a good.laid inner;
        due = due_counters f a good (half_free f a good inner) ∙ rw (ne_eqb a.r.0 0 (λ z. omega arith)) (same_place (ap chunk_number before) refl);
        waits = λ some. record { whole = refl; few = good.laid.offset; later = omega arith };
        stands = good.stands;
      }

  -- ---- one call

  pub done_laid : (a : Account) (call : Call) → Laid f a → account_refusal f a call ≡ 0 → Laid f (account_done f a call)
  unfolding account_done account_append account_restart after_cut
  done_laid a (Open lengths seal_length) laid e = lost_laid a laid false (λ never. absurd (true≢false (sym never)))
  done_laid a (Append phase bytes) laid e =
      adds_laid f a laid (entry_due f a phase bytes) (logs_with a phase bytes) (entry_adds f begun a laid phase bytes (append_asks a laid phase bytes e))
  done_laid a Close laid e =
      rw (after_close_lem f a laid.offset) (fill_laid f begun (left f a) a laid refl (close_fits a laid e))
  done_laid a (Restart number) laid e =
      adds_laid f a laid (restart_due f a number) a.logs (restart_adds f begun a number (restart_asks a laid number e) laid)
  done_laid a Cut laid e = go (ltb 0 a.r.0) refl
    where
      go : (t : Bool) → ltb 0 a.r.0 ≡ t → Laid f (cond t (cut_half a) (losing a))
      go true test = cut_laid a laid (ltb-true 0 a.r.0 test)
      go false test = losing_laid a laid

  done_good : (a : Account) (call : Call) → Good f a → Allowed f a call → account_refusal f a call ≡ 0 → Good f (account_done f a call)
  unfolding account_done account_append account_restart after_cut AllowedBy
  done_good a (Open lengths seal_length) good allowed e = lost_good a good false (λ never. absurd (true≢false (sym never)))
  done_good a (Append phase bytes) good allowed e =
      let it = entry_due f a phase bytes in
      let adds = entry_adds f begun a good.laid phase bytes (append_asks a good.laid phase bytes e) in
      adds_good f a good it (logs_with a phase bytes) adds
      (stands_there f a good (omega (arith, allowed e)) it (λ restart. omega (arith, restart, entry_kind_lem f a phase bytes)) adds.own)
  done_good a Close good allowed e =
      rw (after_close_lem f a good.laid.offset) (fill_good f begun (left f a) a good refl (close_fits a good.laid e))
  done_good a (Restart number) good allowed e =
      let asks = restart_asks a good.laid number e in
      adds_good f a good (restart_due f a number) a.logs (restart_adds f begun a number asks good.laid)
      (restart_stands f begun a number asks good (allowed e).0 (allowed e).1)
  done_good a Cut good allowed e = go (ltb 0 a.r.0) refl
    where
      go : (t : Bool) → ltb 0 a.r.0 ≡ t → Good f (cond t (cut_half a) (losing a))
      go true test = cut_good a good (ltb-true 0 a.r.0 test)
      go false test = losing_good a good

  pub refused_laid : (a : Account) (call : Call) → Laid f a → Laid f (account_refused a call)
  unfolding account_refused
  refused_laid a (Open lengths seal_length) laid = losing_laid a laid
  refused_laid a (Append phase bytes) laid = laid
  refused_laid a Close laid = laid
  refused_laid a (Restart number) laid = laid
  refused_laid a Cut laid = laid

  refused_good : (a : Account) (call : Call) → Good f a → Good f (account_refused a call)
  unfolding account_refused
  refused_good a (Open lengths seal_length) good = losing_good a good
  refused_good a (Append phase bytes) good = good
  refused_good a Close good = good
  refused_good a (Restart number) good = good
  refused_good a Cut good = good

  pub step_laid : (a : Account) (call : Call) → Laid f a → Laid f (account_step f a call)
  step_laid a call laid = step_either f a call (Laid f) (done_laid a call laid) (refused_laid a call laid)

  pub step_good : (a : Account) (call : Call) → Good f a → Allowed f a call → Good f (account_step f a call)
  step_good a call good allowed = step_either f a call (Good f) (done_good a call good allowed) (refused_good a call good)

  -- ---- all of them

  pub from_laid : (a : Account) (calls : List Call) → Laid f a → Laid f (account_from f a calls)
  unfolding account_from
  from_laid a [] laid = laid
  from_laid a (call ∷ calls) laid = from_laid (account_step f a call) calls (step_laid a call laid)

  pub from_good : (a : Account) (calls : List Call) → Good f a → HistoryFrom f a calls → Good f (account_from f a calls)
  unfolding account_from HistoryFrom
  from_good a [] good history = good
  from_good a (call ∷ calls) good history = from_good (account_step f a call) calls (step_good a call good history.0) history.1
