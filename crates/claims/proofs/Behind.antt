-- What lies behind b. It is tight: the account cut back to its first b items, or to more, is good, in a seal memory with room, and comes back from
-- there with a restart of the next chunk; what it leaves is accepted, also with the log memory as the controller left it.
use mathlib.Core.Path.{◌≡◌, refl, sym, ap, subst, ◌∙◌}
use mathlib.Core.Bool.{false, true≢false}
use mathlib.Core.Logic.{inl, inr, ⊎_elim, by_cases}
use mathlib.Core.List.{List, [], ◌∷◌, ◌++◌}
use Prim.Native.Nat.{ℕ, zero, suc, ◌+◌, ◌-◌, ◌*◌, ◌≤◌, ◌<◌}
use native.Mathlib.Nat.{le_refl, suc-mul, lt_of_mul-lt-mul_right}
use native.Mathlib.Decide.{ℕ_discrete, dec_lt}
use native.Mathlib.Omega.{arith}
use lib.Dec.{ltb}
use lib.ListN.{length, get_or, take, drop, replicate, length-append, length-replicate, length-take, get_or-append, take-append-drop}
use lib.Seq.{take-take, length-take-le, get_or-take, ext_get_or, take_all, take-length, get_or-append_seam}
use borrow.Author.Tests.{ne_eqb, lt-ltb, le-ltb}
use Rattle.scheme.specs.Bytes.{splice, joined}
use Rattle.scheme.specs.Store.{entry_kind, filler_kind, restart_kind, phases, chunk_count, chunk_place, log_place, ratchet, burned_front, chunk}
use Rattle.scheme.specs.Items.{item_message, filler_head, filler_length, restart_length, chunk_number, ratchet_offset, kind_of, chunk_field, phase_of, head_of, data_of, message_of, pieces}
use Rattle.scheme.specs.Due.{key_place, own_place, due_behind}
use Rattle.scheme.specs.declared.KeyPlace.{KeyPlace}
use Rattle.scheme.specs.Keys.{key_of, tag_of}
use Rattle.scheme.specs.Areas.{Area, areas_in, covered, length_in, Runs, none, next}
use Rattle.scheme.specs.Acceptable.{Stands, there, restarts, Acceptable}
use Rattle.scheme.proofs.Tests.{not_so}
use Rattle.scheme.proofs.Scans.{row_most}
use Rattle.scheme.proofs.Headers.{SameFields, same_fields, same_store}
use Rattle.scheme.proofs.Acceptance.{acceptable_pieces, of_burned}
use Rattle.scheme.proofs.Areas.{areas_append}
use Rattle.scheme.proofs.Runs.{run_covered, run_within}
use Rattle.scheme.proofs.Burning.{zeroed, zeroed_next, zeroed_header, zeroed_fields, zeroed_store, zeroed_later, zeroed_burned}
use Rattle.scheme.proofs.Due.{rank, same_place, due_within, due_after_lem, stands_after, stands_within}
use Rattle.claims.specs.Account.{Call, Fed, Account, started, carried_by, filler_due, with_item, account_from, lengths_reached, NoneHalfUsed}
use Rattle.claims.specs.Run.{device_started, run_from, History}
use Rattle.claims.specs.Left.{store_left, logs_left, seal_file, placed, first_left}
use Rattle.claims.specs.Claim.{own_item, Starts, last_chunk, up_to_first, secured, Intact}
use Rattle.claims.specs.Seized.{Seized}
use Rattle.claims.specs.Behind.{NoneBegun, WhereNoneBegun, Exactly, ExactlyLeft, Cuttable, Tight}
use Rattle.claims.proofs.Good.{Good, log_in, memory_with, Logs, InLog, ItemAt, front}
use Rattle.claims.proofs.Histories.{good}
use Rattle.claims.proofs.Invariant.{from_good}
use Rattle.claims.proofs.Seized.{seized}
use Rattle.claims.proofs.Compromise.{front_most, ok_so, none_begun, due_at, up_to_most, up_to_found, stand, ends, behind_due, stands_chunk}
use Rattle.claims.proofs.Honest.{front_left, honest_over, left_pieces}
use Rattle.claims.proofs.Back.{waits, May, before, item, after, calls_back, good_after, back_is, back_whole, back_count, back_history}
use Rattle.claims.proofs.Steps.Begun.{Begun, begun}
use Rattle.claims.proofs.Steps.Adding.{due_counters}
use Rattle.claims.proofs.Steps.Device.{left_logs, lengths_at, lengths_length}
use Rattle.claims.proofs.Steps.Fillers.{left, fill, filled}
use Rattle.claims.proofs.Steps.Fits.{carried_item, item_burned}
use Rattle.claims.proofs.Steps.LogsLeft.{data_kept}
use Rattle.claims.proofs.Steps.States.{fill_logs, fill_front}
use Rattle.claims.proofs.Steps.Stepping.{step_items}
use Rattle.claims.proofs.Steps.Restarts.{restart_is}
use Rattle.claims.proofs.Steps.StoreLeft.{front_whole, store_left_lem}

-- ---- lists

take_front : (n : ℕ) (l : List ℕ) → take (length (take n l)) l ≡ take n l
take_front zero l = refl
take_front (suc n) [] = refl
take_front (suc n) (x ∷ l) = ap (λ (r : List ℕ). x ∷ r) (take_front n l)

take_none : (n : ℕ) → take {A = ℕ} n [] ≡ []
take_none zero = refl
take_none (suc n) = refl

-- logs cut to lengths, from one number on
trim : (ℕ → ℕ) → ℕ → List (List ℕ) → List (List ℕ)
trim e i [] = []
trim e i (l ∷ ls) = take (e i) l ∷ trim e (suc i) ls

trim_at : (e : ℕ → ℕ) (i : ℕ) (ls : List (List ℕ)) (j : ℕ) → get_or (trim e i ls) j [] ≡ take (e (i + j)) (get_or ls j [])
unfolding trim
trim_at e i [] j = sym (take_none (e (i + j)))
trim_at e i (l ∷ ls) zero = let here : i ≡ i + 0 = omega arith in ap (λ (n : ℕ). take (e n) l) here
trim_at e i (l ∷ ls) (suc j) = let here : suc i + j ≡ i + suc j = omega arith in trim_at e (suc i) ls j ∙ ap (λ (n : ℕ). take (e n) (get_or ls j [])) here

trim_length : (e : ℕ → ℕ) (i : ℕ) (ls : List (List ℕ)) → length (trim e i ls) ≡ length ls
unfolding trim
trim_length e i [] = refl
trim_length e i (l ∷ ls) = ap suc (trim_length e (suc i) ls)

-- areas that run, cut in two
runs_most : {n m : ℕ} {areas : List Area} → Runs n areas m → n ≤ m
runs_most {n} none = le_refl n
runs_most (next e more) = omega (arith, runs_most more)

runs_cut : (xs ys : List Area) {n m : ℕ} → Runs n (xs ++ ys) m → (e : ℕ) × Runs n xs e × (e ≤ m)
runs_cut [] ys {n} run = (n, none, runs_most run)
runs_cut (x ∷ xs) ys (next e more) = let rest = runs_cut xs ys more in (rest.0, next e rest.1, rest.2)

covered_most : (limit : ℕ) (areas : List Area) → covered limit areas ≤ limit
unfolding covered
covered_most limit areas = row_most _ 0 limit

-- logs in the same memory, fed otherwise
placed_same : (f g : Fed) → f.store ≡ g.store → (p : ℕ) (logs : List (List ℕ)) (memory : List ℕ) → placed f p logs memory ≡ placed g p logs memory
unfolding placed
placed_same f g same p [] memory = refl
placed_same f g same p (log ∷ logs) memory =
    placed_same f g same (suc p) logs (splice memory (log_place f.store p) log) ∙ ap (λ (st : List ℕ). placed g (suc p) logs (splice memory (log_place st p) log)) same

-- ---- fillers stand behind

module _ (f : Fed) where
  fill_before : (k : ℕ) (a : Account) (j : ℕ) → j < length a.items → get_or (fill f k a).items j [] ≡ get_or a.items j []
  unfolding fill
  fill_before zero a j h = refl
  fill_before (suc k) a j h =
      let more = step_items f (with_item a (filler_due f a)) in
      fill_before k (filled f a) j (omega (arith, h, ap length more, length-append a.items (filler_due f a ∷ [])))
      ∙ ap (λ (l : List (List ℕ)). get_or l j []) more
      ∙ get_or-append a.items (filler_due f a ∷ []) [] j h

  filler_is : (a : Account) → kind_of (filler_due f a) ≡ filler_kind
  unfolding filler_due filler_head
  filler_is a = refl

  fill_behind : (k : ℕ) (a : Account) (j : ℕ) → length a.items ≤ j → j < length (fill f k a).items → kind_of (get_or (fill f k a).items j []) ≡ filler_kind
  unfolding fill
  fill_behind zero a j late h = absurd (omega (arith, late, h))
  fill_behind (suc k) a j late h =
      let more = step_items f (with_item a (filler_due f a)) in
      let count = ap length more ∙ length-append a.items (filler_due f a ∷ []) in
      by_cases (ℕ_discrete (length a.items) j)
      (λ here.
      let at : get_or (filled f a).items j [] ≡ filler_due f a
      = ap (λ (l : List (List ℕ)). get_or l j []) more ∙ ap (λ (i : ℕ). get_or (a.items ++ (filler_due f a ∷ [])) i []) (sym here) ∙ get_or-append_seam a.items (filler_due f a) [] [] in
      ap kind_of (fill_before k (filled f a) j (omega (arith, count, here)) ∙ at) ∙ filler_is a)
      (λ other. fill_behind k (filled f a) j (omega (arith, count, late, other)) h)

no_data : (st logs it : List ℕ) → (kind_of it ≡ entry_kind → ⊥) → data_of st logs it ≡ []
unfolding data_of
no_data st logs it other = rw (ne_eqb (kind_of it) entry_kind other)

-- ---- the account cut back

module _ (f : Fed) (starts : Starts f) (a : Account) (g : Good f a) (room : first_left f a < chunk_count f.store)
    (b : ℕ) (reached : secured f a ≤ b) (more : b < length a.items) where
  start : Begun f
  start = begun f starts

  some : 1 ≤ ratchet f.store
  some = start.store.ratchet_low

  -- so many items of the last burned chunk are kept
  abbrev number : ℕ
  number = suc (b - secured f a)

  abbrev last : ℕ
  last = last_chunk f a

  abbrev kept : List (List ℕ)
  kept = take b a.items

  kept_count : length kept ≡ b
  kept_count = length-take-le b a.items (omega (arith, more))

  last_front : suc last ≡ front a
  last_front = ends f a g some (omega (arith, more))

  first_left_lem : first_left f a ≡ suc last
  first_left_lem = front_left f a starts g.laid ∙ sym last_front

  -- behind b keys of the last burned chunk are due
  due_at_lem : (k : ℕ) → secured f a ≤ k → k < length a.items → due_at f a k ≡ key_place last (suc (k - secured f a))
  due_at_lem k late h =
      let here : secured f a + (k - secured f a) ≡ k = omega (arith, late) in
      subst (λ (i : ℕ). due_at f a i ≡ key_place last (suc (k - secured f a))) here (behind_due f a g some (k - secured f a) (omega (arith, here, h)))

  due_b : due_behind (ratchet f.store) kept ≡ key_place last number
  due_b = due_at_lem b reached more

  two : number < ratchet f.store
  two =
      omega (
        arith,
        due_within (ratchet f.store) some a.items (length a.items) (le_refl _) (stand f a g some) b (omega (arith, more)),
        ap (λ (p : KeyPlace). p.offset.0) due_b,
      )

  -- each behind them is of that chunk
  chunk_behind : (k : ℕ) → b ≤ k → k < length a.items → last ≤ (chunk_field (own_item a k)).0
  chunk_behind k late h =
      omega (arith, stands_chunk (stand f a g some k h), ap (λ (p : KeyPlace). p.chunk.0) (due_at_lem k (omega (arith, reached, late)) h))

  -- the logs up to where they cover
  abbrev end : ℕ → ℕ
  end p = covered (length (log_in a.logs p)) (areas_in p kept)

  abbrev logs : List (List ℕ)
  logs = trim end 1 a.logs

  log_at : (p : ℕ) → 1 ≤ p → log_in logs p ≡ take (end p) (log_in a.logs p)
  log_at p low = let here : 1 + (p - 1) ≡ p = omega (arith, low) in trim_at end 1 a.logs (p - 1) ∙ ap (λ (n : ℕ). take (end n) (log_in a.logs p)) here

  log_long : (p : ℕ) → 1 ≤ p → length (log_in logs p) ≡ end p
  log_long p low = ap length (log_at p low) ∙ length-take-le (end p) (log_in a.logs p) (covered_most (length (log_in a.logs p)) (areas_in p kept))

  log_grows : (p : ℕ) → take (length (log_in logs p)) (log_in a.logs p) ≡ log_in logs p
  log_grows p =
      let at = trim_at end 1 a.logs (p - 1) in
      ap (λ (l : List ℕ). take (length l) (log_in a.logs p)) at ∙ take_front (end (1 + (p - 1))) (log_in a.logs p) ∙ sym at

  kept_runs : (p : ℕ) → 1 ≤ p → p ≤ phases f.store → Runs 0 (areas_in p kept) (length (log_in logs p))
  kept_runs p low high =
      let parts : areas_in p a.items ≡ areas_in p kept ++ areas_in p (drop b a.items)
      = ap (areas_in p) (sym (take-append-drop b a.items)) ∙ areas_append p kept (drop b a.items) in
      let run : Runs 0 (areas_in p kept ++ areas_in p (drop b a.items)) (length (log_in a.logs p)) = rw parts at (g.laid.runs p low high) in
      let cut = runs_cut (areas_in p kept) (areas_in p (drop b a.items)) run in
      let ends : cut.0 ≡ length (log_in logs p) = sym (run_covered (length (log_in a.logs p)) cut.1 cut.2) ∙ sym (log_long p low) in
      subst (Runs 0 (areas_in p kept)) ends cut.1

  -- fed a seal memory with room
  abbrev fed : Fed
  fed = record {
    store = f.store;
    logs = f.logs;
    seal = replicate (length (joined kept) + restart_length f.store + (ratchet f.store - 1) * filler_length f.store) 0;
  }

  fed_starts : Starts fed
  fed_starts = record { store = starts.store; logs = starts.logs; unused = starts.unused }

  fed_begun : Begun fed
  fed_begun = begun fed fed_starts

  fed_long : length fed.seal ≡ length (joined kept) + restart_length f.store + (ratchet f.store - 1) * filler_length f.store
  fed_long = length-replicate _ 0

  logs_size : (i : ℕ) → length (get_or logs i []) ≤ length (get_or a.logs i [])
  logs_size i =
      omega (arith, ap length (trim_at end 1 a.logs i), length-take (end (1 + i)) (get_or a.logs i []))

  logs_fit : Logs fed logs
  logs_fit = record { count = trim_length end 1 a.logs ∙ g.laid.logs.count; sizes = λ i. omega (arith, logs_size i, g.laid.logs.sizes i) }

  all_fit : Logs fed a.logs
  all_fit = record { count = g.laid.logs.count; sizes = g.laid.logs.sizes }

  -- the items kept, with the logs so cut
  kept_at : (k : ℕ) → k < b → get_or kept k [] ≡ own_item a k
  kept_at k h = get_or-take b a.items k [] h

  module _ (k : ℕ) (h : k < b) where
    whole : k < length a.items
    whole = omega (arith, h, more)

    kept_in : kind_of (own_item a k) ≡ entry_kind → InLog fed logs (own_item a k)
    kept_in kind =
        let e = (g.laid.items k whole).ranges kind in
        let it = own_item a k in
        let inside = (run_within (phase_of it) kept k (kept_runs (phase_of it) e.low e.high) (omega (arith, h, kept_count)) (rw (kept_at k h) (kind, refl))).1 in
        record { low = e.low; high = e.high; some = e.some; few = e.few; inside = rw (kept_at k h) at inside }

    kept_data : data_of f.store (memory_with fed logs) (own_item a k) ≡ data_of f.store (logs_left f a) (own_item a k)
    kept_data =
        data_kept fed fed_begun logs a.logs logs_fit all_fit log_grows (own_item a k) (g.laid.items k whole).form kept_in
        ∙ ap (λ (m : List ℕ). data_of f.store m (own_item a k)) (placed_same fed f refl 1 a.logs f.logs)

    kept_item : ItemAt fed logs (get_or kept k [])
    unfolding message_of
    kept_item =
        let it = own_item a k in
        let i = g.laid.items k whole in
        let is : ItemAt fed logs it = record {
          form = i.form;
          ranges = kept_in;
          tag = i.tag ∙ ap (λ (d : List ℕ). tag_of f.store (key_of f.store it) (item_message f.store (head_of it) d)) (sym kept_data);
        } in
        rw (kept_at k h) is

    kept_stands : Stands (due_behind (ratchet f.store) (take k kept)) (get_or kept k [])
    kept_stands = rw (kept_at k h, take-take k b a.items (omega (arith, h))) (g.stands k whole)

  -- each chunk up to the last burned is carried by one of them
  kept_burned : (x : ℕ) → carried_by kept x ≡ ltb x (suc last)
  kept_burned x =
      by_cases (dec_lt x (suc last))
      (λ low.
      let found = up_to_found x a.items (g.laid.burned x ∙ lt-ltb x (front a) (omega (arith, low, last_front))) in
      let j = found.0 in
      let inside : j < length a.items = omega (arith, found.1, up_to_most x a.items) in
      let early : j < b = by_cases (ℕ_discrete x last)
      (λ here. omega (arith, found.1, ap (λ (y : ℕ). up_to_first y a.items) here, reached))
      (λ other. by_cases (dec_lt j b) (λ h. h) (λ late. absurd (omega (arith, chunk_behind j (omega (arith, late)) inside, found.2, low, other)))) in
      let of : (chunk_field (get_or kept j [])).0 ≡ x = ap (λ (it : List ℕ). (chunk_field it).0) (kept_at j early) ∙ found.2 in
      ap (carried_by kept) (sym of) ∙ carried_item kept j (omega (arith, early, kept_count)) ∙ sym (lt-ltb x (suc last) low))
      (λ high.
      not_so (carried_by kept x) (λ e.
      let found = up_to_found x kept e in
      let j = found.0 in
      let early : j < b = omega (arith, found.1, up_to_most x kept, kept_count) in
      omega (arith, high, last_front, item_burned f a g.laid j (omega (arith, early, more)), sym (ap (λ (it : List ℕ). (chunk_field it).0) (kept_at j early)) ∙ found.2))
      ∙ sym (le-ltb x (suc last) (omega (arith, high))))

  abbrev shadow : Account
  shadow = waits (suc last) number false kept logs

  shadow_good : Good fed shadow
  shadow_good =
      record {
        laid = record {
          offset = some;
          spent = omega (arith, room, first_left_lem);
          sealed = omega (arith, fed_long);
          logs = logs_fit;
          items = λ k h. kept_item k (omega (arith, h, kept_count));
          burned = kept_burned;
          runs = kept_runs;
          standing = λ never. absurd (true≢false (sym never));
        };
        due = due_b ∙ rw (ne_eqb number 0 (λ z. omega (arith, z))) (same_place (ap chunk_number (omega arith)) refl);
        waits = λ waiting. record { whole = refl; few = two; later = omega arith };
        stands = λ k h. kept_stands k (omega (arith, h, kept_count));
      }

  shadow_may : May fed shadow
  shadow_may = record { some = omega arith; chunk = omega (arith, room, first_left_lem); room = omega (arith, fed_long) }

  -- ---- what comes of it

  abbrev turned : Account
  turned = after fed fed_starts (suc last) number false kept logs shadow_good shadow_may

  abbrev restart : List ℕ
  restart = item fed fed_starts (suc last) number false kept logs shadow_good shadow_may

  abbrev calls : List Call
  calls = calls_back fed fed_starts (suc last) number false kept logs shadow_good shadow_may

  abbrev final : Account
  final = account_from fed shadow calls

  final_is : final ≡ fill fed (left fed turned) turned
  final_is = back_is fed fed_starts (suc last) number false kept logs shadow_good shadow_may

  final_good : Good fed final
  final_good = from_good fed fed_begun shadow calls shadow_good (back_history fed fed_starts (suc last) number false kept logs shadow_good shadow_may)

  final_count : length final.items ≡ b + ratchet f.store
  final_count = back_count fed fed_starts (suc last) number false kept logs shadow_good shadow_may ∙ ap (λ (n : ℕ). n + ratchet f.store) kept_count

  turned_count : length turned.items ≡ suc b
  turned_count = omega (arith, length-append kept (restart ∷ []), kept_count)

  final_at : (k : ℕ) → k < suc b → own_item final k ≡ get_or (kept ++ (restart ∷ [])) k []
  final_at k h = ap (λ (c : Account). own_item c k) final_is ∙ fill_before fed (left fed turned) turned k (omega (arith, h, turned_count))

  final_kept : (k : ℕ) → k < b → own_item final k ≡ own_item a k
  final_kept k h = final_at k (omega (arith, h)) ∙ get_or-append kept (restart ∷ []) [] k (omega (arith, h, kept_count)) ∙ kept_at k h

  final_restart : own_item final b ≡ restart
  final_restart =
      final_at b (omega arith) ∙ ap (λ (i : ℕ). get_or (kept ++ (restart ∷ [])) i []) (sym kept_count) ∙ get_or-append_seam kept restart [] []

  final_kind : kind_of (own_item final b) ≡ restart_kind
  final_kind = ap kind_of final_restart ∙ restart_is fed (before fed fed_starts (suc last) number false kept logs shadow_good shadow_may) number

  final_plain : (k : ℕ) → b ≤ k → k < length final.items → kind_of (own_item final k) ≡ entry_kind → ⊥
  final_plain k late h kind =
      by_cases (ℕ_discrete k b)
      (λ here. omega (arith, kind, ap (λ (i : ℕ). kind_of (own_item final i)) here ∙ final_kind))
      (λ other.
      let filler : kind_of (own_item final k) ≡ filler_kind
      = ap (λ (c : Account). kind_of (own_item c k)) final_is
      ∙ fill_behind fed (left fed turned) turned k (omega (arith, late, other, turned_count)) (omega (arith, h, ap (λ (c : Account). length c.items) final_is)) in
      omega (arith, kind, filler))

  final_front : take b final.items ≡ kept
  final_front =
      let size : length (take b final.items) ≡ b = length-take-le b final.items (omega (arith, final_count)) in
      ext_get_or [] (take b final.items) kept (size ∙ sym kept_count)
      (λ k h.
      let low : k < b = omega (arith, h, size) in
      get_or-take b final.items k [] low ∙ final_kept k low ∙ sym (kept_at k low))

  -- the data that the items say stand in the log memory that is left
  final_logs : logs_left fed final ≡ memory_with fed logs
  final_logs = ap (λ (l : List (List ℕ)). memory_with fed l) (ap (λ (c : Account). c.logs) final_is ∙ fill_logs fed (left fed turned) turned)

  final_data : (k : ℕ) → k < length final.items → data_of f.store (logs_left f a) (own_item final k) ≡ data_of f.store (logs_left fed final) (own_item final k)
  final_data k h =
      by_cases (dec_lt k b)
      (λ low.
      ap (data_of f.store (logs_left f a)) (final_kept k low) ∙ sym (kept_data k low)
      ∙ ap (data_of f.store (memory_with fed logs)) (sym (final_kept k low)) ∙ ap (λ (m : List ℕ). data_of f.store m (own_item final k)) (sym final_logs))
      (λ late.
      let other = final_plain k (omega (arith, late)) h in
      no_data f.store (logs_left f a) (own_item final k) other ∙ sym (no_data f.store (logs_left fed final) (own_item final k) other))

  -- the last of them are of the next chunk
  final_first : own_place (own_item final b) ≡ key_place (suc last) 0
  final_first = go (final_good.stands b (omega (arith, final_count, some)))
    where
      due : due_behind (ratchet f.store) (take b final.items) ≡ key_place last number
      due = ap (due_behind (ratchet f.store)) final_front ∙ due_b

      go : Stands (due_behind (ratchet f.store) (take b final.items)) (own_item final b) → own_place (own_item final b) ≡ key_place (suc last) 0
      go (there other place) = absurd (other final_kind)
      go (restarts kind above place number) = place ∙ ap (λ (p : KeyPlace). key_place (suc p.chunk.0) 0) due

  final_chunk : (k : ℕ) → b ≤ k → k < length final.items → suc last ≤ (chunk_field (own_item final k)).0
  final_chunk k late h =
      by_cases (ℕ_discrete k b)
      (λ here. omega (arith, ap (λ (i : ℕ). (chunk_field (own_item final i)).0) here, ap (λ (p : KeyPlace). p.chunk.0) final_first))
      (λ other.
      let n = ratchet f.store in
      let stands : (j : ℕ) → j < length final.items → Stands (due_behind n (take j final.items)) (own_item final j) = final_good.stands in
      let low = due_after_lem n some final.items (length final.items) (le_refl _) stands b k (omega (arith, late, other)) (omega (arith, h)) in
      let within = due_within n some final.items (length final.items) (le_refl _) stands k (omega (arith, h)) in
      let up = stands_after n within (stands k h) in
      let offset = stands_within n within (stands k h) in
      let much : suc last * n < suc (chunk_field (own_item final k)).0 * n
      = omega (arith, low, up, offset, ap (rank n) final_first, suc-mul (chunk_field (own_item final k)).0 n) in
      omega (arith, lt_of_mul-lt-mul_right n much))

  final_pieces : pieces (store_left fed final) (seal_file final) ≡ final.items
  final_pieces = left_pieces fed final fed_starts final_good.laid

  final_store : store_left fed final ≡ splice (store_left f a) (chunk_place (store_left f a) (first_left f a)) (replicate 32 0)
  final_store =
      let ends : front final ≡ suc (suc last)
      = ap front final_is ∙ fill_front fed (left fed turned) turned (good_after fed fed_starts (suc last) number false kept logs shadow_good shadow_may).laid.offset refl in
      let left_so : store_left f a ≡ zeroed f.store (suc last) = store_left_lem f a g.laid start.store ∙ ap (zeroed f.store) (sym last_front) in
      store_left_lem fed final final_good.laid start.store
      ∙ ap (zeroed f.store) ends
      ∙ sym (zeroed_next f.store start.store (suc last) (omega (arith, room, first_left_lem)))
      ∙ ap (λ (st : List ℕ). splice st (chunk_place st (suc last)) (replicate 32 0)) (sym left_so)
      ∙ ap (λ (c : ℕ). splice (store_left f a) (chunk_place (store_left f a) c) (replicate 32 0)) (sym first_left_lem)

  gone_so : (j k : ℕ) → j < length final.items → b ≤ k → k < length a.items → own_item final j ≡ own_item a k → ⊥
  gone_so j k h late within same =
      by_cases (dec_lt j b)
      (λ low.
      let n = ratchet f.store in
      let stands = stand f a g some in
      let up = due_after_lem n some a.items (length a.items) (le_refl _) stands j k (omega (arith, low, late)) (omega (arith, within)) in
      let on = stands_after n (due_within n some a.items (length a.items) (le_refl _) stands k (omega (arith, within))) (stands k within) in
      omega (arith, up, on, ap (λ (it : List ℕ). rank n (own_place it)) (sym (final_kept j low) ∙ same)))
      (λ over. omega (arith, final_chunk j (omega (arith, over)) h, ap (λ (it : List ℕ). (chunk_field it).0) same, item_burned f a g.laid k within, last_front))

  cuttable : (history : List Call) → Seized f a (run_from (device_started f) history) → Cuttable f history a b
  cuttable history seized =
      record {
        device = store_left fed final;
        lengths = lengths_reached final;
        seal = seal_file final;
        store = final_store;
        accepted = honest_over fed final fed_starts final_good (back_whole fed fed_starts (suc last) number false kept logs shadow_good shadow_may) (logs_left f a)
            (left_logs f start a g.laid ∙ sym (left_logs fed fed_begun final final_good.laid)) final_data
            ∙ ap (λ (n : ℕ). record { refusal = 0; number = n }) final_count;
        intact = record { items = ap (take b) final_pieces ∙ final_front; areas = λ k below. refl };
        made = λ k late h.
            let inside : k < length final.items = omega (arith, h, ap length final_pieces) in
            rw final_pieces
            (seized.chunks _ _
            (omega (arith, item_burned fed final final_good.laid k inside, final_good.laid.spent))
            (g.laid.burned _ ∙ le-ltb _ (front a) (omega (arith, final_chunk k late inside, last_front))));
        gone = λ j k h late within same.
            gone_so j k (omega (arith, h, ap length final_pieces)) late within (ap (λ (l : List (List ℕ)). get_or l j []) (sym final_pieces) ∙ same);
      }

pub tight : (f : Fed) → Starts f → (calls : List Call) → History f calls → Tight f calls
tight f starts calls history room m reached more =
    cuttable f starts (account_from f (started f) calls) (good f starts calls history) room m reached more calls (seized f starts calls history)

-- ---- where no chunk can have been put to a made-up cut

pub where_none_begun : (f : Fed) → Starts f → (calls : List Call) → History f calls → WhereNoneBegun f calls
where_none_begun f starts calls history device logs lengths seal shut accepted =
    none_begun f starts (account_from f (started f) calls) (good f starts calls history) device logs lengths seal accepted shut

module _ (f : Fed) (starts : Starts f) (a : Account) (g : Good f a) (device logs lengths seal : List ℕ) (n : ℕ) (ok : Acceptable device f.store logs lengths seal n)
    (shut : NoneBegun f a device) (none : NoneHalfUsed a) (whole : Intact f a (length a.items) device logs seal) where
  fields : SameFields device f.store
  fields = same_fields device f.store ok.headers

  cut_so : pieces device seal ≡ ok.items
  cut_so = acceptable_pieces device f.store logs lengths seal n ok

  abbrev many : ℕ
  many = length a.items

  burned_most : burned_front device ≤ front a
  burned_most =
      let left = front_left f a starts g.laid in
      ⊎_elim (λ few. omega (arith, few, left)) (λ all. omega (arith, all, left, front_most device, fields.chunk_count)) shut

  items_front : take many ok.items ≡ a.items
  items_front = ap (take many) (sym cut_so) ∙ whole.items ∙ take-length a.items

  -- behind the controller's items the first key of the next chunk is due, which no burned chunk has
  due_next : due_behind (ratchet device) (take many ok.items) ≡ key_place (front a) 0
  due_next =
      rw fields.ratchet (ap (due_behind (ratchet f.store)) items_front ∙ due_counters f a g none.1
      ∙ same_place (ap chunk_number (sym (front_whole a none.0))) (ap ratchet_offset none.0))

  nothing_behind : many < n → ⊥
  nothing_behind more = go (ok.place many more)
    where
      low : (chunk_field (get_or ok.items many [])).0 < front a
      low = omega (arith, burned_most, of_burned device f.store logs lengths seal n ok many (omega (arith, more, ok.count)))

      go : Stands (due_behind (ratchet device) (take many ok.items)) (get_or ok.items many []) → ⊥
      go (there other place) = omega (arith, low, ap (λ (p : KeyPlace). p.chunk.0) (place ∙ due_next))
      go (restarts kind above place number) = omega (arith, above, ap (λ (p : KeyPlace). p.offset.0) due_next)

  same_items : ok.items ≡ a.items
  same_items =
      by_cases (dec_lt many n) (λ more. absurd (nothing_behind more))
      (λ most. sym (take_all many ok.items (omega (arith, most, ok.count))) ∙ items_front)

  same_length : (p : ℕ) → 1 ≤ p → p ≤ phases f.store → length_in lengths p ≡ length (log_in a.logs p)
  same_length p low high =
      let theirs : Runs 0 (areas_in p a.items) (length_in lengths p) = rw same_items at (ok.runs p low (omega (arith, high, fields.phases))) in
      let most = length_in lengths p + length (log_in a.logs p) in
      sym (run_covered most theirs (omega arith)) ∙ run_covered most (g.laid.runs p low high) (omega arith)

  -- the store is the one left: burned as far, and the same behind
  burned_is : ok.burned ≡ front a
  burned_is = sym (ap (λ (p : KeyPlace). p.chunk.0) (sym due_next ∙ ap (due_behind (ratchet device)) (items_front ∙ sym same_items) ∙ ok.last))

  chunks_same : (x : ℕ) → x < chunk_count f.store → chunk device x ≡ chunk (zeroed f.store (front a)) x
  chunks_same x inside =
      let st = ok.auditor_store in
      by_cases (dec_lt x (front a))
      (λ low. ok.spent x (omega (arith, low, burned_is)) ∙ sym (zeroed_burned f.store st (front a) g.laid.spent x low))
      (λ late. ok.kept x (omega (arith, late, burned_is)) (omega (arith, inside, fields.chunk_count)) ∙ sym (zeroed_later f.store st (front a) g.laid.spent x (omega (arith, late))))

  store_is : device ≡ store_left f a
  store_is =
      let st = f.store in
      let most = g.laid.spent in
      let zeros = zeroed_fields st ok.auditor_store (front a) most in
      same_store device (zeroed st (front a)) ok.device_store (zeroed_store st ok.auditor_store (front a) most)
      (ok.headers ∙ sym (zeroed_header st ok.auditor_store (front a) most)) (λ x inside. chunks_same x (omega (arith, inside, zeros.chunk_count)))
      ∙ sym (store_left_lem f a g.laid ok.auditor_store)

  exact : Exactly f a device logs lengths seal
  exact =
      record {
        intact = whole;
        store = store_is;
        file = ok.file ∙ ap joined same_items;
        reached = ext_get_or 0 lengths (lengths_reached a) (ok.listed ∙ fields.phases ∙ sym (lengths_length a.logs ∙ g.laid.logs.count))
            (λ i h.
            let here : suc i - 1 ≡ i = omega arith in
            rw here at (same_length (suc i) (omega arith) (omega (arith, h, ok.listed, fields.phases))) ∙ sym (lengths_at a.logs i));
      }

pub exactly_left : (f : Fed) → Starts f → (calls : List Call) → History f calls → ExactlyLeft f calls
exactly_left f starts calls history device logs lengths seal shut closed accepted =
    let a = account_from f (started f) calls in
    let g = good f starts calls history in
    ⊎_elim (λ whole. inl (exact f starts a g device logs lengths seal _ (ok_so f starts a g device logs lengths seal accepted) shut closed whole)) (λ broken. inr broken)
    (where_none_begun f starts calls history device logs lengths seal shut accepted)
