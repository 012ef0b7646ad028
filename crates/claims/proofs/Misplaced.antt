-- What a call out of place writes stands where no key is due (`written`), and nothing is ever put before it (`from_grows`): the audit takes the items
-- before it and refuses it by 17 (`misplaced`). So 17 tells plain calls that are no history (`told_by_17`): one of them is the first out of place.
use mathlib.Core.Path.{◌≡◌, refl, sym, ap, ap₂, subst, ◌∙◌}
use mathlib.Core.Bool.{Bool, true, false, cond}
use mathlib.Core.Logic.{◌⊎◌, inl, inr, ⊎_elim, by_cases}
use mathlib.Core.List.{List, [], ◌∷◌, ◌++◌, append-nil, append_assoc}
use Prim.Native.Nat.{ℕ, zero, suc, ◌-◌, ◌≤◌, ◌<◌}
use native.Mathlib.Decide.{ℕ_discrete}
use native.Mathlib.Omega.{arith}
use lib.Dec.{ltb}
use lib.ListN.{length, get_or, take, length-append, length-take, get_or-append}
use lib.Seq.{append_snoc, take-append-le, take-append_seam, get_or-append_seam, get_or-take, take-take}
use Rattle.scheme.specs.Store.{ratchet, burned_front}
use Rattle.scheme.specs.Items.{chunk_field, pieces}
use Rattle.scheme.specs.Due.{own_place, due_behind, place_for}
use Rattle.scheme.specs.declared.KeyPlace.{KeyPlace}
use Rattle.scheme.specs.Audit.{Said, audit}
use Rattle.scheme.specs.Acceptable.{Stands, Acceptable}
use Rattle.scheme.proofs.Tests.{either}
use Rattle.scheme.proofs.Headers.{same_fields}
use Rattle.scheme.proofs.Acceptance.{said_at, accepts, acceptable_pieces}
use Rattle.scheme.proofs.Acceptance.MaterialRules.{unrefused}
use Rattle.scheme.proofs.Acceptance.Items.{for_other, for_restart, for_first, stands_for, restart_holds, item_off}
use Rattle.scheme.proofs.Acceptance.Walk.{EachFits}
use Rattle.claims.specs.Account.{Call, Open, Append, Close, Restart, Cut, Fed, Account, started, entry_due, filler_due, restart_due, lengths_reached, step_on, with_item, with_data, with_lost, losing, account_append, account_close, account_restart, after_cut, account_open_rules, account_append_rules, account_close_rules, account_restart_rules, account_refusal, account_done, account_refused, account_step, account_from, AllowedBy, HistoryFrom}
use Rattle.claims.specs.Run.{Device, device_started, effect_of, run_from, RunHistoryFrom, History, device_after}
use Rattle.claims.specs.Histories.{PlainBy, PlainFrom, Plain}
use Rattle.claims.specs.Left.{store_left, logs_left, seal_file}
use Rattle.claims.specs.Claim.{own_item, Starts, untouched}
use Rattle.claims.specs.Misplaced.{OutOfPlace, with_waiting, Misplaced, ToldBy17}
use Rattle.claims.proofs.Good.{front, Laid, counters, Good}
use Rattle.claims.proofs.Invariant.{started_laid, started_good, append_asks, restart_asks, step_good, from_laid}
use Rattle.claims.proofs.Kept.{plain_on, plain_start, kept_plain, history_plain}
use Rattle.claims.proofs.Honest.{left_material, front_left, left_form, left_fits, left_pieces}
use Rattle.claims.proofs.Claim.{untouched_is, claim, half_way}
use Rattle.claims.proofs.Histories.{refusal_same, by_account, good, device_left, history_on}
use Rattle.claims.proofs.Plan.{account_on}
use Rattle.claims.proofs.Steps.Adding.{due_counters, due_waiting}
use Rattle.claims.proofs.Steps.Agrees.{step_done, step_either}
use Rattle.claims.proofs.Steps.Begun.{Begun, begun}
use Rattle.claims.proofs.Steps.Device.{device_of, left_fields}
use Rattle.claims.proofs.Steps.Entries.{entry_kind_lem, entry_adds}
use Rattle.claims.proofs.Steps.Fits.{item_burned}
use Rattle.claims.proofs.Steps.Restarts.{restart_is, restart_says, restart_adds}
use Rattle.claims.proofs.Steps.Stepping.{step_items}

-- ---- items stay

-- what is added stands behind what there was
abbrev Grows : Account → Account → Type 0
Grows a b = (rest : List (List ℕ)) × (b.items ≡ a.items ++ rest)

none_grows : (a b : Account) → b.items ≡ a.items → Grows a b
none_grows a b same = ([], same ∙ sym (append-nil a.items))

module _ (f : Fed) where
  close_grows : (n : ℕ) (a : Account) → Grows a (account_close n f a)
  unfolding account_close
  close_grows zero a = none_grows a a refl
  close_grows (suc n) a =
      let it = filler_due f a in
      let more = close_grows n (step_on f (with_item a it)) in
      either (Grows a) (ltb 0 a.r.0)
      (it ∷ more.0, more.1 ∙ ap (λ (items : List (List ℕ)). items ++ more.0) (step_items f (with_item a it)) ∙ append_snoc a.items it more.0)
      (none_grows a a refl)

  done_grows : (a : Account) (call : Call) → Grows a (account_done f a call)
  unfolding account_done account_append account_restart after_cut
  done_grows a (Open lengths seal_length) = none_grows a (with_lost a false) refl
  done_grows a (Append phase bytes) = (entry_due f a phase bytes ∷ [], step_items f (with_data (with_item a (entry_due f a phase bytes)) phase bytes))
  done_grows a Close = close_grows (ratchet f.store) a
  done_grows a (Restart number) = (restart_due f a number ∷ [], step_items f (with_item a (restart_due f a number)))
  done_grows a Cut = none_grows a (after_cut a) (either (λ (b : Account). b.items ≡ a.items) (ltb 0 a.r.0) refl refl)

  refused_grows : (a : Account) (call : Call) → Grows a (account_refused a call)
  unfolding account_refused
  refused_grows a (Open lengths seal_length) = none_grows a (losing a) refl
  refused_grows a (Append phase bytes) = none_grows a a refl
  refused_grows a Close = none_grows a a refl
  refused_grows a (Restart number) = none_grows a a refl
  refused_grows a Cut = none_grows a a refl

  from_grows : (a : Account) (calls : List Call) → Grows a (account_from f a calls)
  unfolding account_from
  from_grows a [] = none_grows a a refl
  from_grows a (call ∷ calls) =
      let now = step_either f a call (Grows a) (λ e. done_grows a call) (refused_grows a call) in
      let later = from_grows (account_step f a call) calls in
      (now.0 ++ later.0, later.1 ∙ ap (λ (items : List (List ℕ)). items ++ later.0) now.1 ∙ append_assoc a.items now.0 later.0)

-- ---- an item out of place

-- it stands behind the others, at the place of the counters, where no key is due for it; what is due there is of a chunk no later than its own
record Written (f : Fed) (a : Account) (call : Call) : Type 0 where
  it : List ℕ
  items : (account_step f a call).items ≡ a.items ++ (it ∷ [])
  own : own_place it ≡ counters a
  near : (place_for (due_behind (ratchet f.store) a.items) it).chunk.0 ≤ a.c.0
  off : Stands (due_behind (ratchet f.store) a.items) it → ⊥

module _ (f : Fed) (begun : Begun f) (a : Account) (good : Good f a) where
  abbrev due : KeyPlace
  due = due_behind (ratchet f.store) a.items

  -- an entry while a chunk waits: a key of that one is due
  entry_written : (phase : ℕ) (bytes : List ℕ) → 0 < a.waiting → account_refusal f a (Append phase bytes) ≡ 0 → Written f a (Append phase bytes)
  unfolding account_done account_append
  entry_written phase bytes some e =
      let it = entry_due f a phase bytes in
      let own = (entry_adds f begun a good.laid phase bytes (append_asks f begun a good.laid phase bytes e)).own in
      let place = for_other due it (λ restart. omega (arith, restart, entry_kind_lem f a phase bytes)) in
      let chunk : (place_for due it).chunk.0 ≡ a.c.0 - 1 = ap (λ (p : KeyPlace). p.chunk.0) (place ∙ due_waiting f a good some) in
      record {
        it = it;
        items = ap (λ (b : Account). b.items) (step_done f a (Append phase bytes) e) ∙ step_items f (with_data (with_item a it) phase bytes);
        own = own;
        near = omega (arith, chunk);
        off = λ stands. omega (arith, chunk, (good.waits some).later, ap (λ (p : KeyPlace). p.chunk.0) (stands_for due it stands ∙ own));
      }

  module _ (number : ℕ) (e : account_refusal f a (Restart number) ≡ 0) where
    abbrev restart : List ℕ
    restart = restart_due f a number

    -- a restart where the first key of a chunk is due, or with another number than what is due there
    restart_near : (place_for due restart).chunk.0 ≤ a.c.0
    restart_near =
        by_cases (ℕ_discrete a.waiting 0)
        (λ none.
        let at = due_counters f a good none in
        let first : due.offset.0 ≡ 0 = ap (λ (p : KeyPlace). p.offset.0) at ∙ (restart_asks f begun a good.laid number e).first in
        omega (arith, ap (λ (p : KeyPlace). p.chunk.0) (for_first due restart first ∙ at)))
        (λ some.
        let at = due_waiting f a good (omega (arith, some)) in
        let above : 0 < due.offset.0 = omega (arith, some, ap (λ (p : KeyPlace). p.offset.0) at) in
        omega (
          arith,
          (good.waits (omega (arith, some))).later,
          ap (λ (p : KeyPlace). p.chunk.0) at,
          ap (λ (p : KeyPlace). p.chunk.0) (for_restart due restart (restart_is f a number) above),
        ))

    restart_off : (a.waiting ≡ 0) ⊎ (number ≡ a.waiting → ⊥) → Stands due restart → ⊥
    restart_off out stands =
        let asks = restart_asks f begun a good.laid number e in
        let holds = restart_holds due restart stands (restart_is f a number) in
        by_cases (ℕ_discrete a.waiting 0)
        (λ none. omega (arith, holds.0, asks.first, ap (λ (p : KeyPlace). p.offset.0) (due_counters f a good none)))
        (λ some. ⊎_elim some (λ other. other (
        sym (restart_says f begun a number asks.few) ∙ holds.1 ∙ ap (λ (p : KeyPlace). p.offset.0) (due_waiting f a good (omega (arith, some))))) out)

    restart_written : (a.waiting ≡ 0) ⊎ (number ≡ a.waiting → ⊥) → Written f a (Restart number)
    unfolding account_done account_restart
    restart_written out =
        record {
          it = restart;
          items = ap (λ (b : Account). b.items) (step_done f a (Restart number) e) ∙ step_items f (with_item a restart);
          own = (restart_adds f begun a number (restart_asks f begun a good.laid number e) good.laid).own;
          near = restart_near;
          off = restart_off out;
        }

  written : (call : Call) → OutOfPlace a call → account_refusal f a call ≡ 0 → Written f a call
  unfolding OutOfPlace
  written (Open lengths seal_length) out e = absurd out
  written (Append phase bytes) out e = entry_written phase bytes out e
  written Close out e = absurd out
  written (Restart number) out e = restart_written number e out
  written Cut out e = absurd out

-- ---- what the audit says of it

module _ (f : Fed) (starts : Starts f) (a : Account) (good : Good f a) (call : Call) (w : Written f a call) where
  abbrev k : ℕ
  k = length a.items

  -- with whatever calls behind it
  module _ (more : List Call) where
    abbrev final : Account
    final = account_from f a (call ∷ more)

    laid : Laid f final
    laid = from_laid f (begun f starts) a (call ∷ more) good.laid

    abbrev rest : List (List ℕ)
    rest = (from_grows f (account_step f a call) more).0

    items_are : final.items ≡ a.items ++ (w.it ∷ rest)
    unfolding account_from
    items_are =
        (from_grows f (account_step f a call) more).1
        ∙ ap (λ (items : List (List ℕ)). items ++ rest) w.items
        ∙ append_snoc a.items w.it rest

    within : k < length final.items
    within = omega (arith, ap length items_are, length-append a.items (w.it ∷ rest))

    at_k : own_item final k ≡ w.it
    at_k = ap (λ (items : List (List ℕ)). get_or items k []) items_are ∙ get_or-append_seam a.items w.it rest []

    before : take k final.items ≡ a.items
    before = ap (take k) items_are ∙ take-append_seam a.items (w.it ∷ rest)

    -- those before it fit
    stands_before : (j : ℕ) → j < k → Stands (due_behind (ratchet f.store) (take j final.items)) (own_item final j)
    stands_before j h =
        rw (items_are, take-append-le j a.items (w.it ∷ rest) (omega (arith, h)), get_or-append a.items (w.it ∷ rest) [] j h) (good.stands j h)

    fits_before : EachFits (store_left f final) f.store (logs_left f final) (lengths_reached final) [] final.items k
    fits_before j h = left_fits f final starts laid j (omega (arith, h, within)) (stands_before j h)

    -- it does not
    due_is : due_behind (ratchet (store_left f final)) (take k final.items) ≡ due_behind (ratchet f.store) a.items
    due_is = ap₂ due_behind (left_fields f (begun f starts) final laid).ratchet before

    burned_there : (place_for (due_behind (ratchet (store_left f final)) (take k final.items)) (own_item final k)).chunk.0 < burned_front (store_left f final)
    burned_there =
        omega (
          arith,
          w.near,
          ap₂ (λ (p : KeyPlace) (it : List ℕ). (place_for p it).chunk.0) due_is at_k,
          ap (λ (it : List ℕ). (chunk_field it).0) at_k,
          ap (λ (p : KeyPlace). p.chunk.0) w.own,
          item_burned f final laid k within,
          front_left f final starts laid,
        )

    off_there : Stands (due_behind (ratchet (store_left f final)) (take k final.items)) (own_item final k) → ⊥
    off_there = rw (due_is, at_k) w.off

    said : audit (store_left f final) f.store (logs_left f final) (lengths_reached final) (seal_file final) ≡ record { refusal = 17; number = k }
    said =
        said_at (store_left f final) f.store (logs_left f final) (lengths_reached final) (seal_file final) final.items (left_pieces f final starts laid) k within
        (unrefused (store_left f final) f.store (logs_left f final) (lengths_reached final) (front final) (left_material f final starts laid))
        fits_before 17 (λ e. omega arith)
        (item_off (store_left f final) f.store (logs_left f final) (lengths_reached final) (take k final.items) (own_item final k)
        (left_form f final starts laid k within) burned_there off_there)

  -- in any material
  module _ (device logs lengths seal : List ℕ) (begins : take (length (account_step f a call).items) (pieces device seal) ≡ (account_step f a call).items) (n : ℕ)
      (ok : Acceptable device f.store logs lengths seal n) where
    begin : take (suc k) ok.items ≡ a.items ++ (w.it ∷ [])
    begin =
        let count : length (account_step f a call).items ≡ suc k = omega (arith, ap length w.items, length-append a.items (w.it ∷ [])) in
        ap₂ take (sym count) (sym (acceptable_pieces device f.store logs lengths seal n ok)) ∙ begins ∙ w.items

    unstanding : ⊥
    unstanding =
        let long : k < n = omega (arith, ok.count, ap length begin, length-take (suc k) ok.items, length-append a.items (w.it ∷ [])) in
        let there : get_or ok.items k [] ≡ w.it
        = sym (get_or-take (suc k) ok.items k [] (omega arith)) ∙ ap (λ (items : List (List ℕ)). get_or items k []) begin ∙ get_or-append_seam a.items w.it [] [] in
        let front_is : take k ok.items ≡ a.items
        = sym (take-take k (suc k) ok.items (omega arith)) ∙ ap (take k) begin ∙ take-append_seam a.items (w.it ∷ []) in
        w.off (rw ((same_fields device f.store ok.headers).ratchet, front_is, there) at (ok.place k long))

-- ---- no rule reads what waits

module _ (f : Fed) (a : Account) (n : ℕ) where
  close_same : (k : ℕ) → (account_close k f (with_waiting a n)).items ≡ (account_close k f a).items
  unfolding account_close filler_due
  close_same zero = refl
  close_same (suc k) = go (ltb 0 a.r.0)
    where
      go : (t : Bool) → (cond t (account_close k f (step_on f (with_item a (filler_due f a)))) (with_waiting a n)).items ≡ (cond t (account_close k f (step_on f (with_item a (filler_due f a)))) a).items
      go true = refl
      go false = refl

  waiting_same : (call : Call) → account_refusal f (with_waiting a n) call ≡ account_refusal f a call
  unfolding account_refusal account_open_rules account_append_rules account_close_rules account_restart_rules
  waiting_same (Open lengths seal_length) = refl
  waiting_same (Append phase bytes) = refl
  waiting_same Close = rw (close_same (ratchet f.store))
  waiting_same (Restart number) = refl
  waiting_same Cut = refl

-- ---- one call more

-- a plain call is allowed, or out of place and not refused
allowed_or_out : (n : ℕ) (a : Account) (call : Call) → PlainBy n a call → AllowedBy n a call ⊎ ((n ≡ 0) × OutOfPlace a call)
unfolding PlainBy AllowedBy OutOfPlace
allowed_or_out n a (Open lengths seal_length) plain = inl plain
allowed_or_out n a (Append phase bytes) plain =
    by_cases (ℕ_discrete n 0)
    (λ done. by_cases (ℕ_discrete a.waiting 0) (λ none. inl (λ e. none)) (λ some. inr (done, omega (arith, some))))
    (λ refused. inl (λ e. absurd (refused e)))
allowed_or_out n a Close plain = inl tt
allowed_or_out n a (Restart number) plain =
    by_cases (ℕ_discrete n 0)
    (λ done. by_cases (ℕ_discrete a.waiting 0) (λ none. inr (done, inl none)) (λ some.
    by_cases (ℕ_discrete number a.waiting) (λ same. inl (λ e. (omega (arith, some), same))) (λ other. inr (done, inr other))))
    (λ refused. inl (λ e. absurd (refused e)))
allowed_or_out n a Cut plain = inl tt

out_plain : (refusal : ℕ) (a : Account) (call : Call) → OutOfPlace a call → PlainBy refusal a call
unfolding OutOfPlace PlainBy
out_plain refusal a (Open lengths seal_length) out = absurd out
out_plain refusal a (Append phase bytes) out = tt
out_plain refusal a Close out = tt
out_plain refusal a (Restart number) out = tt
out_plain refusal a Cut out = tt

module _ (f : Fed) where
  plain_more : (d : Device) (a : Account) (first : List Call) (call : Call) → PlainFrom f d a first → PlainBy (effect_of (run_from d first) call).refusal (account_from f a first) call
      → PlainFrom f d a (first ++ (call ∷ []))
  unfolding PlainFrom run_from account_from
  plain_more d a [] call before last = (last, tt)
  plain_more d a (c ∷ first) call before last = (before.0, plain_more (device_after (effect_of d c)) (account_step f a c) first call before.1 last)

  plain_last : (d : Device) (a : Account) (first : List Call) (call : Call) → PlainFrom f d a (first ++ (call ∷ []))
      → PlainBy (effect_of (run_from d first) call).refusal (account_from f a first) call
  unfolding PlainFrom run_from account_from
  plain_last d a [] call plain = plain.0
  plain_last d a (c ∷ first) call plain = plain_last (device_after (effect_of d c)) (account_step f a c) first call plain.1

  goes_on : (calls : List Call) → History f calls → (call : Call) → AllowedBy (effect_of (run_from (device_started f) calls) call).refusal (account_from f (started f) calls) call
      → History f (calls ++ (call ∷ []))
  unfolding RunHistoryFrom
  goes_on calls history call allowed = history_on f (device_started f) (started f) calls (call ∷ []) history (allowed, tt)

pub misplaced : (f : Fed) → Starts f → (calls : List Call) → History f calls → Misplaced f calls
misplaced f starts calls history =
    let a = account_from f (started f) calls in
    let g = good f starts calls history in
    let start = begun f starts in
    let wrote : (call : Call) → OutOfPlace a call → (effect_of (run_from (device_started f) calls) call).refusal ≡ 0 → Written f a call
    = λ call out done. written f start a g call out
    (sym (refusal_same f start a g.laid call) ∙ sym (ap (λ (d : Device). (effect_of d call).refusal) (device_left f starts calls history)) ∙ done) in
    record {
      plain = λ call out. plain_more f _ _ calls call (history_plain f _ _ calls history) (out_plain _ _ call out);
      other = λ call in_place plain.
          goes_on f calls history call (⊎_elim (λ allowed. allowed) (λ out. absurd (in_place out.1)) (allowed_or_out _ _ call (plain_last f _ _ calls call plain)));
      unnoticed = λ call n.
          ap (λ (d : Device). (effect_of d call).refusal) (device_left f starts calls history) ∙ refusal_same f start a g.laid call ∙ sym (waiting_same f a n call);
      refused = λ call more out done plain.
          let all = calls ++ call ∷ more in
          untouched_is f all (kept_plain f starts all plain) (from_laid f start (started f) all (started_laid f start)) _
          (rw (account_on f (started f) calls (call ∷ more)) (said f starts a g call (wrote call out done) more));
      unmended = λ call out done device logs lengths seal begins accepted.
          let n = (audit device f.store logs lengths seal).number in
          unstanding f starts a g call (wrote call out done) device logs lengths seal begins n
          (accepts device f.store logs lengths seal n (ap (λ (r : ℕ). record { refusal = r; number = n }) accepted));
    }

-- ---- plain calls that are no history

-- the first that is out of place
record Astray (f : Fed) (a : Account) (calls : List Call) : Type 0 where
  before : List Call
  call : Call
  more : List Call
  is : calls ≡ before ++ call ∷ more
  history : HistoryFrom f a before
  out : OutOfPlace (account_from f a before) call
  done : account_refusal f (account_from f a before) call ≡ 0

history_or_astray : (f : Fed) (begun : Begun f) (calls : List Call) (a : Account) → Good f a → PlainFrom f (device_of f a) a calls → HistoryFrom f a calls ⊎ Astray f a calls
unfolding HistoryFrom PlainFrom account_from
history_or_astray f begun [] a good plain = inl tt
history_or_astray f begun (call ∷ calls) a good plain =
    ⊎_elim
    (λ allowed. ⊎_elim
    (λ history. inl (allowed, history))
    (λ later. inr (record {
      before = call ∷ later.before;
      call = later.call;
      more = later.more;
      is = ap (λ (l : List Call). call ∷ l) later.is;
      history = (allowed, later.history);
      out = later.out;
      done = later.done;
    }))
    (history_or_astray f begun calls (account_step f a call) (step_good f begun a call good allowed) (plain_on f begun call calls a good.laid plain)))
    (λ here. inr (record { before = []; call = call; more = calls; is = refl; history = tt; out = here.1; done = here.0 }))
    (allowed_or_out (account_refusal f a call) a call (subst (λ (n : ℕ). PlainBy n a call) (refusal_same f begun a good.laid call) plain.0))

pub told_by_17 : (f : Fed) → Starts f → (calls : List Call) → ToldBy17 f calls
told_by_17 f starts calls plain = (never, (λ none. ⊎_elim (λ history. absurd (none ((by_account f starts calls).1 history))) found either_so))
  where
    start : Begun f
    start = begun f starts

    -- a history leaves what is accepted, or misses items
    never : (untouched f calls).refusal ≡ 17 → History f calls → ⊥
    never said history =
        let a = account_from f (started f) calls in
        by_cases (ℕ_discrete a.r.0 0)
        (λ whole. by_cases (ℕ_discrete a.waiting 0)
        (λ free. omega (arith, said, ap (λ (s : Said). s.refusal) ((claim f starts calls history).honest (whole, free))))
        (λ some. omega (arith, said, ap (λ (s : Said). s.refusal) (half_way f starts calls history (inr (omega (arith, some)))))))
        (λ inner. omega (arith, said, ap (λ (s : Said). s.refusal) (half_way f starts calls history (inl (omega (arith, inner))))))

    either_so : HistoryFrom f (started f) calls ⊎ Astray f (started f) calls
    either_so = history_or_astray f start calls (started f) (started_good f start) (plain_start f starts calls plain)

    found : Astray f (started f) calls → (untouched f calls).refusal ≡ 17
    found s =
        let a = account_from f (started f) s.before in
        let history = (by_account f starts s.before).1 s.history in
        let laid = from_laid f start (started f) s.before (started_laid f start) in
        let done = ap (λ (d : Device). (effect_of d s.call).refusal) (device_left f starts s.before history) ∙ refusal_same f start a laid s.call ∙ s.done in
        subst (λ (l : List Call). (untouched f l).refusal ≡ 17) (sym s.is)
        (ap (λ (e : Said). e.refusal) ((misplaced f starts s.before history).refused s.call s.more s.out done (subst (Plain f) s.is plain)))
