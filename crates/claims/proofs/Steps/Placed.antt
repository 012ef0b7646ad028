-- The logs in the log memory: where each stands, and that a log which grows is one more write behind it.
use mathlib.Core.Path.{◌≡◌, refl, sym, ap, ◌∙◌}
use mathlib.Core.List.{List, [], ◌∷◌, ◌++◌}
use Prim.Native.Nat.{ℕ, zero, suc, ◌+◌, ◌≤◌, ◌<◌}
use native.Mathlib.Omega.{arith}
use lib.ListN.{length, get_or, set}
use Rattle.scheme.specs.Bytes.{part, splice}
use Rattle.scheme.specs.Store.{log_capacity, log_place}
use Rattle.scheme.proofs.Parameters.{log_next}
use Rattle.scheme.proofs.Splice.{splice_length, splice_before, splice_inside, splice_twice, splice_apart}
use Rattle.claims.specs.Account.{Fed}
use Rattle.claims.specs.Left.{placed}

-- logs from phase p on fit into a memory
pub record Room (f : Fed) (p : ℕ) (logs : List (List ℕ)) (memory : List ℕ) : Type 0 where
  pub long : (q : ℕ) → suc p ≤ q → q ≤ p + length logs → log_place f.store q + log_capacity f.store ≤ length memory
  pub sizes : (i : ℕ) → length (get_or logs i []) ≤ log_capacity f.store

module _ (f : Fed) where
  -- the memory with the log of phase p + 1 written
  abbrev with : ℕ → List ℕ → List ℕ → List ℕ
  with p log memory = splice memory (log_place f.store (suc p)) log

  first_fits : (p : ℕ) (log : List ℕ) (logs : List (List ℕ)) (memory : List ℕ) → Room f p (log ∷ logs) memory
      → log_place f.store (suc p) + length log ≤ length memory
  first_fits p log logs memory room = omega (arith, room.sizes 0, room.long (suc p) (omega arith) (omega arith))

  room_next : (p : ℕ) (log : List ℕ) (logs : List (List ℕ)) (memory : List ℕ) → Room f p (log ∷ logs) memory → Room f (suc p) logs (with p log memory)
  room_next p log logs memory room =
      record {
        long = λ q low high. rw (splice_length memory (log_place f.store (suc p)) log (first_fits p log logs memory room)) (room.long q (omega arith) (omega arith));
        sizes = λ i. room.sizes (suc i);
      }

  -- what lies before the logs' places stays
  placed_before : (p : ℕ) (logs : List (List ℕ)) (memory : List ℕ) → Room f p logs memory
      → (a n : ℕ) → a + n ≤ log_place f.store (suc p) → part (placed f (suc p) logs memory) a n ≡ part memory a n
  unfolding placed
  placed_before p [] memory room a n h = refl
  placed_before p (log ∷ logs) memory room a n h =
      placed_before (suc p) logs (with p log memory) (room_next p log logs memory room) a n (omega (arith, log_next f.store p))
      ∙ splice_before memory (log_place f.store (suc p)) log a n h (omega (arith, first_fits p log logs memory room))

  pub placed_length : (p : ℕ) (logs : List (List ℕ)) (memory : List ℕ) → Room f p logs memory
      → length (placed f (suc p) logs memory) ≡ length memory
  unfolding placed
  placed_length p [] memory room = refl
  placed_length p (log ∷ logs) memory room =
      placed_length (suc p) logs (with p log memory) (room_next p log logs memory room)
      ∙ splice_length memory (log_place f.store (suc p)) log (first_fits p log logs memory room)

  -- each log stands in its place
  pub placed_log : (p : ℕ) (logs : List (List ℕ)) (memory : List ℕ) → Room f p logs memory → (i q : ℕ) → i < length logs → q ≡ suc p + i
      → part (placed f (suc p) logs memory) (log_place f.store q) (length (get_or logs i [])) ≡ get_or logs i []
  unfolding placed
  placed_log p [] memory room i q h e = absurd (omega arith)
  placed_log p (log ∷ logs) memory room zero q h e =
      let here : q ≡ suc p = omega arith in
      rw here
      (placed_before (suc p) logs (with p log memory) (room_next p log logs memory room) (log_place f.store (suc p)) (length log)
      (omega (arith, log_next f.store p, room.sizes 0))
      ∙ splice_inside memory (log_place f.store (suc p)) log (first_fits p log logs memory room))
  placed_log p (log ∷ logs) memory room (suc i) q h e =
      placed_log (suc p) logs (with p log memory) (room_next p log logs memory room) i q (omega arith) (omega arith)

  -- a write before the logs' places may come after them
  placed_splice : (p : ℕ) (logs : List (List ℕ)) (memory : List ℕ) → Room f p logs memory → (a : ℕ) (bytes : List ℕ)
      → a + length bytes ≤ log_place f.store (suc p)
      → placed f (suc p) logs (splice memory a bytes) ≡ splice (placed f (suc p) logs memory) a bytes
  unfolding placed
  placed_splice p [] memory room a bytes h = refl
  placed_splice p (log ∷ logs) memory room a bytes h =
      ap (placed f (suc (suc p)) logs) (splice_apart memory a bytes (log_place f.store (suc p)) log h (first_fits p log logs memory room))
      ∙ placed_splice (suc p) logs (with p log memory) (room_next p log logs memory room) a bytes (omega (arith, log_next f.store p))

  -- a log that grows is written on behind
  pub placed_grown : (p : ℕ) (logs : List (List ℕ)) (memory : List ℕ) → Room f p logs memory → (i q : ℕ) (bytes : List ℕ)
      → i < length logs → q ≡ suc p + i → length (get_or logs i []) + length bytes ≤ log_capacity f.store
      → placed f (suc p) (set logs i (get_or logs i [] ++ bytes)) memory
      ≡ splice (placed f (suc p) logs memory) (log_place f.store q + length (get_or logs i [])) bytes
  unfolding placed
  placed_grown p [] memory room i q bytes h e fits = absurd (omega arith)
  placed_grown p (log ∷ logs) memory room zero q bytes h e fits =
      let here : q ≡ suc p = omega arith in
      rw here
      (ap (placed f (suc (suc p)) logs)
      (sym (splice_twice memory (log_place f.store (suc p)) log bytes (omega (arith, room.long (suc p) (omega arith) (omega arith)))))
      ∙ placed_splice (suc p) logs (with p log memory) (room_next p log logs memory room) (log_place f.store (suc p) + length log) bytes
      (omega (arith, log_next f.store p)))
  placed_grown p (log ∷ logs) memory room (suc i) q bytes h e fits =
      placed_grown (suc p) logs (with p log memory) (room_next p log logs memory room) i q bytes (omega arith) (omega arith) fits
