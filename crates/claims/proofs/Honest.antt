-- What a history left, untouched, fits the audit's rules up to the end of the items (`left_fitting`): the audit accepts it where no chunk
-- is half used (`honest`), and misses the items of a half-used one (`half_way`).
use mathlib.Core.Path.{◌≡◌, refl, sym, ◌∙◌, ap}
use mathlib.Core.Logic.{inl, inr}
use mathlib.Core.List.{List}
use Prim.Native.Nat.{ℕ, ◌-◌, ◌≤◌, ◌<◌}
use native.Mathlib.Nat.{le_refl}
use native.Mathlib.Omega.{arith}
use lib.ListN.{length, take}
use borrow.Author.Tests.{eq-eqb, ne_eqb}
use Rattle.scheme.specs.Store.{entry_kind, phases, ratchet, chunk, burned_front}
use Rattle.scheme.specs.Items.{ratchet_offset, item_message, kind_of, head_of, phase_of, data_of, message_of, pieces}
use Rattle.scheme.specs.Keys.{key_of, tag_of}
use Rattle.scheme.specs.Due.{key_place, due_behind}
use Rattle.scheme.specs.declared.KeyPlace.{KeyPlace}
use Rattle.scheme.specs.Areas.{area_of, area_end, areas_in, covered, length_in}
use Rattle.scheme.specs.Audit.{audit}
use Rattle.scheme.specs.Acceptable.{ItemOf, Stands}
use Rattle.scheme.proofs.Acceptance.{Fitting, fitting_accepted, fitting_missing}
use Rattle.scheme.proofs.Acceptance.MaterialRules.{Material, front_is}
use Rattle.scheme.proofs.Acceptance.Items.{Fits, Ends}
use Rattle.scheme.proofs.Acceptance.Pieces.{pieces_joined}
use Rattle.scheme.proofs.Due.{same_place}
use Rattle.scheme.proofs.Headers.{same_data_of, same_message, same_entry_length, same_filler_length, same_restart_length}
use Rattle.scheme.proofs.Tags.{same_tag}
use Rattle.scheme.proofs.Burning.{zeroed_later, zeroed_burned}
use Rattle.scheme.proofs.Runs.{run_covered, run_begins}
use Rattle.claims.specs.Account.{Fed, Account, log_of, lengths_reached, NoneHalfUsed, HalfUsed}
use Rattle.claims.specs.Left.{store_left, logs_left, seal_file}
use Rattle.claims.specs.Claim.{own_item, Starts}
use Rattle.claims.proofs.Good.{InLog, front, Laid, counters, place_due, Good}
use Rattle.claims.proofs.Steps.Adding.{half_free}
use Rattle.claims.proofs.Steps.Begun.{begun}
use Rattle.claims.proofs.Steps.Fits.{item_burned}
use Rattle.claims.proofs.Steps.StoreLeft.{front_whole, store_left_lem}
use Rattle.claims.proofs.Steps.Device.{lengths_at, lengths_length, left_header, left_fields, left_store, left_logs}

module _ (f : Fed) (a : Account) (laid : Laid f a) where
  -- each log is covered
  full : (p : ℕ) → 1 ≤ p → p ≤ phases f.store → length_in (lengths_reached a) p ≤ covered (length_in (lengths_reached a) p) (areas_in p a.items)
  full p low high =
      let long = length (log_of a p) in
      rw (lengths_at a.logs (p - 1), run_covered long (laid.runs p low high) (le_refl long)) (le_refl long)

  module _ (k : ℕ) (h : k < length a.items) (kind : kind_of (own_item a k) ≡ entry_kind) where
    entry : InLog f a.logs (own_item a k)
    entry = (laid.items k h).ranges kind

    inside : area_end (area_of (own_item a k)) ≤ length_in (lengths_reached a) (phase_of (own_item a k))
    inside = rw (lengths_at a.logs (phase_of (own_item a k) - 1)) entry.inside

    -- it begins where the covered bytes before it end
    begins : (area_of (own_item a k)).from ≡ covered (length_in (lengths_reached a) (phase_of (own_item a k))) (areas_in (phase_of (own_item a k)) (take k a.items))
    begins =
        let p = phase_of (own_item a k) in
        rw (lengths_at a.logs (p - 1)) (run_begins p a.items k h (kind, refl) (laid.runs p entry.low entry.high))

module _ (f : Fed) (a : Account) (starts : Starts f) (laid : Laid f a) where
  pub left_material : Material (store_left f a) f.store (logs_left f a) (lengths_reached a) (front a)
  left_material =
      let st = f.store in
      let b = begun f starts in
      let fields = left_fields f b a laid in
      let most = laid.spent in
      let zeros = store_left_lem f a laid b.store in
      record {
        device_store = left_store f b a laid;
        auditor_store = b.store;
        headers = left_header f b a laid;
        unused = b.unused;
        memory = rw (fields.phases, fields.log_capacity) (left_logs f b a laid ∙ b.memory);
        listed = rw fields.phases (lengths_length a.logs ∙ laid.logs.count);
        limited = λ i h. rw (lengths_at a.logs i, fields.log_capacity) (laid.logs.sizes i);
        front_most = rw fields.chunk_count most;
        spent = λ x h. ap (λ (l : List ℕ). chunk l x) zeros ∙ zeroed_burned st b.store (front a) most x h;
        kept = λ x low high. ap (λ (l : List ℕ). chunk l x) zeros ∙ zeroed_later st b.store (front a) most x low;
      }

  -- the first chunk that is not burned
  pub front_left : burned_front (store_left f a) ≡ front a
  front_left = front_is (store_left f a) f.store (logs_left f a) (lengths_reached a) (front a) left_material

  -- each item is whole
  pub left_form : (k : ℕ) → k < length a.items → ItemOf (store_left f a) (own_item a k)
  left_form k h =
      let left = store_left f a in
      let st = f.store in
      let fields = left_fields f (begun f starts) a laid in
      rw (same_entry_length left st fields, same_filler_length left st fields, same_restart_length left st fields) (laid.items k h).form

  -- an item that stands where a key is due fits
  pub left_fits : (k : ℕ) → k < length a.items → Stands (due_behind (ratchet f.store) (take k a.items)) (own_item a k)
      → Fits (store_left f a) f.store (logs_left f a) (lengths_reached a) (take k a.items) (own_item a k)
  left_fits k h stands =
      let st = f.store in
      let left = store_left f a in
      let fields = left_fields f (begun f starts) a laid in
      record {
        form = left_form k h;
        due = rw front_left (item_burned f a laid k h);
        place = rw fields.ratchet stands;
        ranges = λ kind.
            let e = entry f a laid k h kind in
            (e.low, rw fields.phases e.high, e.some, rw fields.data_limit e.few, inside f a laid k h kind);
        begins = begins f a laid k h;
        tag = rw (same_tag left st fields, same_message left st fields) (laid.items k h).tag;
      }

  -- the seal file is cut into the items
  pub left_pieces : pieces (store_left f a) (seal_file a) ≡ a.items
  left_pieces = pieces_joined (store_left f a) a.items left_form

module _ (f : Fed) (a : Account) (starts : Starts f) (good : Good f a) where
  due_left : due_behind (ratchet (store_left f a)) a.items ≡ place_due a
  due_left = rw (left_fields f (begun f starts) a good.laid).ratchet good.due

  -- what is left fits, half way through a chunk or not
  left_fitting : Fitting (store_left f a) f.store (logs_left f a) (lengths_reached a) (seal_file a) (front a) a.items
  left_fitting =
      record {
        material = left_material f a starts good.laid;
        file = refl;
        each = λ k h. left_fits f a starts good.laid k h (good.stands k h);
      }

  left_ends : NoneHalfUsed a → Ends (store_left f a) (lengths_reached a) a.items
  left_ends (whole, free) =
      let phases_left = (left_fields f (begun f starts) a good.laid).phases in
      let first : counters a ≡ key_place a.c.0 0 = same_place refl (ap ratchet_offset whole) in
      record {
        last = due_left ∙ rw (eq-eqb a.waiting 0 free, front_left f a starts good.laid, front_whole a whole) first;
        whole = λ p low high. full f a good.laid p low (rw phases_left at high);
      }

  pub honest : NoneHalfUsed a
      → audit (store_left f a) f.store (logs_left f a) (lengths_reached a) (seal_file a) ≡ record { refusal = 0; number = length a.items }
  honest none =
      fitting_accepted (store_left f a) f.store (logs_left f a) (lengths_reached a) (seal_file a) (front a) a.items left_fitting (left_ends none)

  -- so is the same with another log memory that has the data in the items' areas
  pub honest_over : NoneHalfUsed a → (logs : List ℕ) → length logs ≡ length (logs_left f a)
      → ((k : ℕ) → k < length a.items → data_of f.store logs (own_item a k) ≡ data_of f.store (logs_left f a) (own_item a k))
      → audit (store_left f a) f.store logs (lengths_reached a) (seal_file a) ≡ record { refusal = 0; number = length a.items }
  unfolding message_of
  honest_over none logs long same =
      let left = store_left f a in
      let fields = left_fields f (begun f starts) a good.laid in
      let m = left_material f a starts good.laid in
      fitting_accepted left f.store logs (lengths_reached a) (seal_file a) (front a) a.items
      (record {
        material = record {
          device_store = m.device_store;
          auditor_store = m.auditor_store;
          headers = m.headers;
          unused = m.unused;
          memory = long ∙ m.memory;
          listed = m.listed;
          limited = m.limited;
          front_most = m.front_most;
          spent = m.spent;
          kept = m.kept;
        };
        file = refl;
        each = λ k h.
            let e = left_fitting.each k h in
            let it = own_item a k in
            record {
              form = e.form;
              due = e.due;
              place = e.place;
              ranges = e.ranges;
              begins = e.begins;
              tag = e.tag ∙ ap (λ (d : List ℕ). tag_of left (key_of f.store it) (item_message left (head_of it) d))
                  (same_data_of left f.store fields (logs_left f a) it ∙ sym (same k h) ∙ sym (same_data_of left f.store fields logs it));
            };
      })
      (left_ends none)

  -- the key due has an offset above 0
  half_due : HalfUsed a → 0 < (place_due a).offset.0
  half_due (inl inner) = rw (eq-eqb a.waiting 0 (half_free f a good inner)) inner
  half_due (inr some) = rw (ne_eqb a.waiting 0 (λ z. omega arith)) some

  pub half_way : HalfUsed a
      → audit (store_left f a) f.store (logs_left f a) (lengths_reached a) (seal_file a) ≡ record { refusal = 22; number = 0 }
  half_way half =
      fitting_missing (store_left f a) f.store (logs_left f a) (lengths_reached a) (seal_file a) (front a) a.items left_fitting
      (λ there. omega (arith, half_due half, ap (λ (p : KeyPlace). p.offset.0) (sym due_left ∙ there)))
