-- The data of an entry item in the log memory that an account leaves: the part of its phase's log, which stays when logs grow.
use mathlib.Core.Path.{◌≡◌, sym, ap, ◌∙◌}
use mathlib.Core.Bool.{cond}
use mathlib.Core.Logic.{inl, inr}
use mathlib.Core.List.{List, []}
use Prim.Native.Nat.{ℕ, ◌+◌, ◌-◌, ◌≤◌}
use native.Mathlib.Omega.{arith}
use lib.ListN.{length, take, drop, length-take}
use lib.Seq.{drop-drop}
use Rattle.scheme.specs.Bytes.{part}
use Rattle.scheme.specs.Store.{entry_kind, log_place, phases}
use Rattle.scheme.specs.Items.{item_message, kind_of, is_entry, phase_of, log_offset, data_length, head_of, data_of, message_of}
use Rattle.scheme.specs.Keys.{key_of, tag_of}
use Rattle.scheme.specs.Acceptable.{ItemOf}
use Rattle.scheme.proofs.Parameters.{log_inside}
use Rattle.scheme.proofs.Splice.{part_of_front}
use Rattle.claims.specs.Account.{Fed}
use Rattle.claims.proofs.Good.{log_in, memory_with, Logs, InLog, ItemAt}
use Rattle.claims.proofs.Steps.Begun.{Begun}
use Rattle.claims.proofs.Steps.Placed.{Room, placed_log}

-- logs fit into the log memory, and each stands in its place
module _ (f : Fed) (begun : Begun f) (logs : List (List ℕ)) (ok : Logs f logs) where
  pub logs_room : Room f 0 logs f.logs
  logs_room =
      record {
        long = λ q low high. omega (arith, begun.memory, log_inside f.store q (phases f.store) low (omega (arith, ok.count)));
        sizes = ok.sizes;
      }

  pub log_part : (p at size : ℕ) → 1 ≤ p → p ≤ phases f.store → at + size ≤ length (log_in logs p)
      → part (memory_with f logs) (log_place f.store p + at) size ≡ part (log_in logs p) at size
  log_part p at size low high within =
      sym (ap (take size) (drop-drop at (log_place f.store p) (memory_with f logs)))
      ∙ part_of_front (drop (log_place f.store p) (memory_with f logs)) at size (length (log_in logs p)) within
      ∙ ap (λ (l : List ℕ). part l at size) (placed_log f 0 logs f.logs logs_room (p - 1) p (omega (arith, ok.count)) (omega arith))

-- an item stays what it is when logs grow behind their ends
module _ (f : Fed) (begun : Begun f) (logs more : List (List ℕ)) (ok : Logs f logs) (too : Logs f more)
    (grows : (p : ℕ) → take (length (log_in logs p)) (log_in more p) ≡ log_in logs p) where
  in_log : (it : List ℕ) → InLog f logs it → InLog f more it
  in_log it e =
      let p = phase_of it in
      let longer = sym (length-take (length (log_in logs p)) (log_in more p)) ∙ ap length (grows p) in
      record { low = e.low; high = e.high; some = e.some; few = e.few; inside = omega (arith, e.inside) }

  pub data_kept : (it : List ℕ) → ItemOf f.store it → (kind_of it ≡ entry_kind → InLog f logs it)
      → data_of f.store (memory_with f logs) it ≡ data_of f.store (memory_with f more) it
  unfolding data_of
  data_kept it form ranges = go form
    where
      go : ItemOf f.store it → data_of f.store (memory_with f logs) it ≡ data_of f.store (memory_with f more) it
      go (inl entry) =
          let p = phase_of it in
          let e = ranges entry.0 in
          ap (λ (d : List ℕ). cond (is_entry it) d [])
          (log_part f begun logs ok p (log_offset it) (data_length it) e.low e.high e.inside
          ∙ sym
          (log_part f begun more too p (log_offset it) (data_length it) e.low e.high (in_log it e).inside
          ∙ part_of_front (log_in more p) (log_offset it) (data_length it) (length (log_in logs p)) e.inside
          ∙ ap (λ (l : List ℕ). part l (log_offset it) (data_length it)) (grows p)))
      go (inr (inl filler)) = rw filler.0
      go (inr (inr restart)) = rw restart.0

  pub item_kept : (it : List ℕ) → ItemAt f logs it → ItemAt f more it
  unfolding message_of
  item_kept it i =
      record {
        form = i.form;
        ranges = λ kind. in_log it (i.ranges kind);
        tag = i.tag ∙ ap (λ (d : List ℕ). tag_of f.store (key_of f.store it) (item_message f.store (head_of it) d)) (data_kept it i.form i.ranges);
      }
