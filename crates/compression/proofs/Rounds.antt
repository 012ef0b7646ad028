-- Laws of the message schedule and of the rounds (FIPS 180-4, 6.2.2), and what one turn of the compression keeps.
use Rattle.std.proofs.Common.{◌≡◌, ℕ, zero, suc, ◌+◌, ◌-◌, ◌<◌, ◌≤◌, List, [], ◌∷◌, ◌++◌, length, get_or, drop, sym, refl, ap, ◌∙◌, ap₂, add-suc, add_comm, suc-add, zero-add, add-one, arith, length-append, length-drop, get_or-drop, drop-cons, drop-drop}
use lib.ListN.{get_or-append}
use lib.Seq.{drop-length, drop-append-le}
use Rattle.compression.specs.Fips.{◌⊞◌, σ₀, σ₁, words, schedule, W, K, round, rounds, added, compress}
use Rattle.compression.specs.Rounds.{entries, slide, Reached}
use Rattle.compression.specs.declared.words.Words.{Words}
use Rattle.compression.specs.declared.Working.{Working}

-- the schedule's length, and that its words stay what they are
pub schedule_length : (b : List ℕ) (n : ℕ) → length (schedule b n) ≡ 16 + n
unfolding schedule
schedule_length b zero = refl
schedule_length b (suc n) = simp length-append (omega (arith, schedule_length b n))

later : (b : List ℕ) (n d t : ℕ) → t < 16 + n → get_or (schedule b (d + n)) t 0 ≡ get_or (schedule b n) t 0
unfolding schedule
later b n zero t h = rw (zero-add n)
later b n (suc d) t h =
    rw (suc-add d n)
    (get_or-append (schedule b (d + n)) _ 0 t (omega (arith, schedule_length b (d + n))) ∙ later b n d t h)

pub W_at : (b : List ℕ) (n t : ℕ) → n ≤ 48 → t < 16 + n → W b t ≡ get_or (schedule b n) t 0
unfolding W
W_at b n t h k =
    let e : 48 ≡ 48 - n + n = omega arith in
    ap (λ m. get_or (schedule b m) t 0) e ∙ later b n (48 - n) t k

-- entries up to the end are what is left of the list
pub entries_drop : (xs : List ℕ) (i n : ℕ) → length xs ≡ i + n → entries xs i n ≡ drop i xs
entries_drop xs i zero h = let e : length xs ≡ i = omega arith in rw (← e) (sym (drop-length xs))
entries_drop xs i (suc n) h =
    ap (λ ys. get_or xs i 0 ∷ ys) (entries_drop xs (suc i) n (omega arith)) ∙ sym (drop-cons xs i 0 (omega arith))

-- the window slides along the schedule
pub window_slides : (b : List ℕ) (n : ℕ) (w : List ℕ) → w ≡ drop n (schedule b n) → slide w ≡ drop (suc n) (schedule b (suc n))
unfolding schedule
window_slides b n w e =
    let s = schedule b n in
    let long : length s ≡ 16 + n = schedule_length b n in
    let size : length w ≡ 1 + 15 = ap length e ∙ length-drop n s ∙ omega arith in
    let tail : entries w 1 15 ≡ drop (suc n) s =
    entries_drop w 1 15 size ∙ ap (drop 1) e ∙ drop-drop 1 n s ∙ ap (λ i. drop i s) (add-one n) in
    let at : (j : ℕ) → get_or w j 0 ≡ get_or s (j + n) 0 = λ j. ap (λ ys. get_or ys j 0) e ∙ get_or-drop n s j 0 ∙ ap (λ i. get_or s i 0) (add_comm n j) in
    let new : (σ₁ (get_or w 14 0) ⊞ get_or w 9 0 ⊞ σ₀ (get_or w 1 0) ⊞ get_or w 0 0)
    ≡ (σ₁ (get_or s (14 + n) 0) ⊞ get_or s (9 + n) 0 ⊞ σ₀ (get_or s (1 + n) 0) ⊞ get_or s n 0) =
    rw (at 14, at 9, at 1, at 0, zero-add n) in
    ap₂ (λ ys x. ys ++ (x ∷ [])) tail new ∙ sym (drop-append-le (suc n) s _ (omega arith))

pub window_last : (b : List ℕ) (n : ℕ) (w : List ℕ) → n < 48 → w ≡ drop (suc n) (schedule b (suc n)) → get_or w 15 0 ≡ W b (16 + n)
window_last b n w h e =
    ap (λ ys. get_or ys 15 0) e ∙ get_or-drop (suc n) (schedule b (suc n)) 15 0 ∙
    ap (λ i. get_or (schedule b (suc n)) i 0) (omega arith) ∙ sym (W_at b (suc n) (16 + n) h (omega arith))

-- a round more
pub round_more : (k w : ℕ → ℕ) (t : ℕ) (s v r : Words) → v ≡ rounds k w t s → r ≡ round v (k t) (w t) → r ≡ rounds k w (suc t) s
unfolding rounds
round_more k w t s v r e f = f ∙ ap (λ x. round x (k t) (w t)) e

-- the rounds see of the schedule only the words that they use
pub rounds_same : (k w u : ℕ → ℕ) (n : ℕ) (s : Words) → ((t : ℕ) → t < n → w t ≡ u t) → rounds k w n s ≡ rounds k u n s
unfolding rounds
rounds_same k w u zero s h = refl
rounds_same k w u (suc n) s h =
    ap₂ (λ x y. round x (k n) y) (rounds_same k w u n s (λ t l. h t (omega arith))) (h n (omega arith))

-- one turn: the window slides, and a round is made with its last word
pub round_made : (k b : List ℕ) (s : Words) (n : ℕ) (v r : Working) → n < 48 → Reached k b s n v → r.w ≡ slide v.w
    → r.s ≡ round v.s (get_or k (16 + n) 0) (get_or r.w 15 0) → Reached k b s (suc n) r
round_made k b s n v r h reached slid made =
    let window = slid ∙ window_slides b n v.w reached.window in
    record {
      variables =
          rw (add-suc 16 n)
          (round_more (λ t. get_or k t 0) (W b) (16 + n) s v.s r.s reached.variables
          (made ∙ ap (round v.s (get_or k (16 + n) 0)) (window_last b n r.w h window)));
      window = window;
    }

-- the words of the block are where the turns begin
pub rounds_begun : (k b : List ℕ) (s : Words) (v : Working) → v.w ≡ words b 16
    → v.s ≡ rounds (λ t. get_or k t 0) (λ t. get_or v.w t 0) 16 s → Reached k b s 0 v
unfolding schedule
rounds_begun k b s v e f =
    record {
      variables =
          f ∙ rounds_same (λ t. get_or k t 0) (λ t. get_or v.w t 0) (W b) 16 s
          (λ t l. ap (λ ys. get_or ys t 0) e ∙ sym (W_at b 0 t (omega arith) (omega arith)));
      window = e;
    }

-- after 64 rounds the sums give the next hash value
pub ended : {k b : List ℕ} {s : Words} {n : ℕ} {v : Working} (r : Words) → k ≡ K → n ≡ 48 → Reached k b s n v → r ≡ added v.s s
    → r ≡ compress s b
unfolding compress
ended {k} {b} {s} {n} {v} r constants all reached sums =
    sums ∙ ap (λ x. added x s)
    (reached.variables ∙ ap₂ (λ ks m. rounds (λ t. get_or ks t 0) (W b) (16 + m) s) constants all)
