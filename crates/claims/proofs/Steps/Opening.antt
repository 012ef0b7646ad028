-- Open finds the state that the account holds, and a refused open leaves a state of zeros, which is held with no items standing.
use mathlib.Core.Path.{◌≡◌, refl, sym, ap, ◌∙◌}
use mathlib.Core.Bool.{Bool, true, false, ◌||◌, cond}
use mathlib.Core.Logic.{by_cases}
use mathlib.Core.List.{List, [], ◌∷◌, ◌++◌}
use Prim.Native.Nat.{ℕ, suc, ◌+◌, ◌-◌, ◌<◌}
use native.Mathlib.Decide.{ℕ_discrete, dec_lt}
use native.Mathlib.Omega.{arith}
use lib.Dec.{eqb, ltb}
use lib.ListN.{length, get_or, replicate, replicate-append-replicate, get_or-eq_default}
use borrow.Author.Tests.{eqb-true, ltb-false, lt-ltb, le-ltb, eq-eqb}
use Rattle.scheme.specs.Rules.{refusal_by, some_from, row}
use Rattle.scheme.specs.Store.{phases, chunk_count, burned, burned_front, burned_later}
use Rattle.scheme.specs.State.{zero_state, opened_state}
use Rattle.scheme.specs.Sealer.{open_rules, opens}
use Rattle.scheme.specs.Areas.{areas_in}
use Rattle.scheme.specs.Bytes.{joined}
use Rattle.scheme.proofs.Scans.{same_scan, same_row, row_most, row_is}
use Rattle.scheme.proofs.Headers.{same_bad_lengths}
use Rattle.scheme.proofs.Runs.{run_ends}
use Rattle.claims.specs.Account.{Call, Open, Fed, Account, carried_by, lengths_reached, seal_reached, carried, due_key, with_lost, losing, account_open_rules, account_refusal, account_count, account_done, account_refused, AllowedBy, Allowed}
use Rattle.claims.specs.Left.{store_left, logs_left, seal_left, eight, held, state_left}
use Rattle.claims.proofs.Good.{front, Laid}
use Rattle.claims.proofs.Steps.Agrees.{Agrees, answer_done, step_done, answer_refused, step_refused, same_device}
use Rattle.claims.proofs.Steps.Begun.{Begun}
use Rattle.claims.proofs.Steps.Device.{device_of, lengths_length, lengths_none, left_fields, left_bad, left_bad_logs, left_seal}
use Rattle.claims.proofs.Invariant.{done_laid, refused_laid}
use Rattle.claims.proofs.Steps.StoreLeft.{front_whole, front_half, chunk_at_most, store_left_lem, burned_left}

-- ---- with no items

no_items : (items : List (List ℕ)) → length items ≡ 0 → items ≡ []
no_items [] e = refl
no_items (it ∷ items) e = absurd (omega arith)

-- at offset 0 no key is held
first_key : (f : Fed) (a : Account) → a.r.0 ≡ 0 → (held f a).key ≡ replicate 32 0
first_key f a e = ap (λ (t : Bool). cond t (replicate 32 0) (due_key f a)) (eq-eqb a.r.0 0 e)

module _ (f : Fed) (begun : Begun f) (a : Account) (laid : Laid f a) (empty : length a.items ≡ 0) where
  no_log : (i : ℕ) → length (get_or a.logs i []) ≡ 0
  unfolding areas_in
  no_log i =
      by_cases (dec_lt i (phases f.store))
      (λ below.
      let there : suc i - 1 ≡ i = omega arith in
      rw there at (run_ends (rw (no_items a.items empty) at (laid.runs (suc i) (omega arith) (omega arith)))))
      (λ above. ap length (get_or-eq_default a.logs [] (omega arith)))

  no_lengths : eight a.logs ≡ replicate 8 0
  no_lengths =
      let all : length a.logs + (8 - length a.logs) ≡ 8 = omega arith in
      ap (λ (ns : List ℕ). ns ++ replicate (8 - length a.logs) 0) (lengths_none a.logs no_log)
      ∙ replicate-append-replicate (length a.logs) (8 - length a.logs) 0
      ∙ ap (λ (n : ℕ). replicate n 0) all

  no_seal : seal_reached a ≡ 0
  unfolding joined
  no_seal = rw (no_items a.items empty)

  -- no chunk is burned
  no_front : front a ≡ 0
  unfolding carried_by
  no_front =
      let none : carried_by a.items 0 ≡ false = rw (no_items a.items empty) refl in
      omega (arith, ltb-false 0 (front a) (sym (laid.burned 0) ∙ none))

  pub no_offset : a.r.0 ≡ 0
  no_offset = by_cases (ℕ_discrete a.r.0 0) (λ none. none) (λ some. absurd (omega (arith, no_front, front_half a (omega arith))))

  pub no_chunk : a.c.0 ≡ 0
  no_chunk = sym (front_whole a no_offset) ∙ no_front

  pub empty_held : held f a ≡ zero_state
  empty_held =
      λ i.
      record {
        chunk = record { 0 = no_chunk i };
        offset = record { 0 = no_offset i };
        key = first_key f a no_offset i;
        lengths = no_lengths i;
        seal_length = no_seal i;
      }

-- ---- open

module _ (f : Fed) (begun : Begun f) (a : Account) (laid : Laid f a) where
  burned_front_lem : burned_front (store_left f a) ≡ row (carried a) 0 (chunk_count f.store)
  unfolding burned_front
  burned_front_lem =
      rw (left_fields f begun a laid).chunk_count
      (same_row (burned (store_left f a)) (carried a) 0 (chunk_count f.store)
      (λ x low high. burned_left f a laid begun.store begun.unused x (omega arith)))

  burned_later_lem : burned_later (store_left f a)
      ≡ some_from (carried a) (row (carried a) 0 (chunk_count f.store)) (chunk_count f.store - row (carried a) 0 (chunk_count f.store))
  unfolding burned_later
  burned_later_lem =
      let first = row (carried a) 0 (chunk_count f.store) in
      let most = row_most (carried a) 0 (chunk_count f.store) in
      rw (burned_front_lem, (left_fields f begun a laid).chunk_count)
      (same_scan (burned (store_left f a)) (carried a) first (chunk_count f.store - first)
      (λ x low high. burned_left f a laid begun.store begun.unused x (omega arith)))

  -- at offset 0 the burned chunks at the front are those before the due one
  front_due : a.r.0 ≡ 0 → burned_front (store_left f a) ≡ a.c.0
  front_due e =
      let ends = front_whole a e in
      burned_front_lem
      ∙ row_is (carried a) 0 (chunk_count f.store) a.c.0 (chunk_at_most f a laid begun.store)
      (λ x low high. laid.burned x ∙ lt-ltb x (front a) (omega arith))
      (λ h. laid.burned (0 + a.c.0) ∙ le-ltb (0 + a.c.0) (front a) (omega arith))

  -- losing or finding the state changes no store
  pub store_same : (lost : Bool) → Laid f (with_lost a lost) → store_left f a ≡ store_left f (with_lost a lost)
  store_same lost moved = store_left_lem f a laid begun.store ∙ sym (store_left_lem f (with_lost a lost) moved begun.store)

  pub zero_held : zero_state ≡ state_left f (losing a)
  zero_held = go a.lost (ltb 0 (length a.items)) laid.standing refl
    where
      go : (t u : Bool) → (t ≡ true → 0 < length a.items) → ltb 0 (length a.items) ≡ u → zero_state ≡ cond (t || u) zero_state (held f a)
      go true u standing e = refl
      go false true standing e = refl
      go false false standing e =
          sym (empty_held f begun a laid (omega (arith, ltb-false 0 (length a.items) e)))

  module _ (lengths : List ℕ) (seal_length : ℕ) where
    pub open_refusal : refusal_by (open_rules (store_left f a) (logs_left f a) lengths (seal_left f a) seal_length) ≡ account_refusal f a (Open lengths seal_length)
    unfolding open_rules account_refusal account_open_rules
    open_refusal =
        rw (
          left_bad f begun a laid,
          left_bad_logs f begun a laid,
          burned_later_lem,
          same_bad_lengths (store_left f a) f.store (left_fields f begun a laid) lengths,
          left_seal f begun a laid,
        )

    opened_held : a.r.0 ≡ 0 → lengths ≡ lengths_reached a → seal_length ≡ seal_reached a → opened_state (store_left f a) lengths seal_length ≡ held f a
    unfolding opened_state
    opened_held offset same sealed =
        let padded : lengths ++ replicate (8 - length lengths) 0 ≡ eight a.logs = rw (same, lengths_length) in
        λ i.
        record {
          chunk = record { 0 = front_due offset i };
          offset = record { 0 = sym offset i };
          key = sym (first_key f a offset) i;
          lengths = padded i;
          seal_length = sealed i;
        }

    pub open_agrees : Allowed f a (Open lengths seal_length)
        → Agrees f a (Open lengths seal_length) (opens (store_left f a) (logs_left f a) lengths (seal_left f a) seal_length)
    unfolding opens AllowedBy account_count account_done account_refused
    open_agrees allowed = rw open_refusal (go (eqb (account_refusal f a (Open lengths seal_length)) 0) refl)
      where
        call : Call
        call = Open lengths seal_length

        go : (t : Bool) → eqb (account_refusal f a call) 0 ≡ t
            → Agrees f a call
            (record {
              refusal = account_refusal f a call;
              count = 0;
              state = cond t (opened_state (store_left f a) lengths seal_length) zero_state;
              store = store_left f a;
              logs = logs_left f a;
              seal = seal_left f a;
            })
        go true e =
            let none = eqb-true (account_refusal f a call) 0 e in
            let given = allowed none in
            record {
              answer = ap (λ (n : ℕ). record { refusal = n; count = 0 }) none ∙ sym (answer_done f a call none);
              device = same_device (opened_held (omega arith) given.1 given.2)
                  (store_same false (done_laid f begun a call laid none)) refl refl
                  ∙ ap (device_of f) (sym (step_done f a call none));
            }
        go false e =
            record {
              answer = sym (answer_refused f a call e);
              device = same_device zero_held
                  (store_same (a.lost || ltb 0 (length a.items)) (refused_laid f begun a call laid)) refl refl
                  ∙ ap (device_of f) (sym (step_refused f a call e));
            }
