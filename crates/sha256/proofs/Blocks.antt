-- Laws of a message that is hashed block by block, part after part. What is appended to a message goes behind the bytes after its
-- whole blocks, its `rest` (`over_append`, `held_append`), and so do the parts of `update` and the padding of `finish`. Assumes nothing.
use Rattle.std.proofs.Common.{◌≡◌, ℕ, zero, suc, ◌+◌, ◌-◌, ◌*◌, ◌/◌, ◌%◌, ◌^◌, ◌<◌, ◌≤◌, List, [], ◌∷◌, ◌++◌, length, take, drop, set, replicate, sym, refl, ap, ◌∙◌, subst, ap₂, append_assoc, append-nil, le_refl, mod-lt, pow-suc, mul-add, arith, lit<, length-append, length-drop, length-set, take-append-drop, drop_of_length-le, length-take-le, take_all, drop-drop, take_at, drop_at}
use native.Mathlib.Nat.{one-le-pow, div-div-eq-div-mul, pow-succ'}
use lib.Arith.{digits_div, digits_mod, mod-mul}
use lib.ListN.{length-replicate, replicate-append-replicate}
use lib.Seq.{drop-append-le, take-append_seam, drop-append-add, set-append_left, set-append_seam}
use Rattle.std.specs.Int.{byte_at, bytes_high_first}
use Rattle.compression.specs.Fips.{big_endian, hashed, pad, sha256, zero_bytes, digest, H₀}
use Rattle.compression.specs.declared.words.Words.{Words}
use Rattle.compression.proofs.Hashed.{hashed_append, hashed_add}
use Rattle.sha256.specs.State.{Held, Stands}
use Rattle.sha256.specs.declared.state.Sha256.{Sha256}

-- a part up to the end
pub to_end : (l : List ℕ) (a : ℕ) → take (length l - a) (drop a l) ≡ drop a l
to_end l a = take_all (length l - a) (drop a l) (rw length-drop (le_refl (length l - a)))

-- ---- bytes of a number

-- w bytes hold a number modulo 256 ^ w
byte_digits : (w n : ℕ) → big_endian w (n % 256 ^ w) ≡ big_endian w n
byte_digits zero n = refl
byte_digits (suc w) n =
    let split = ap (λ (m : ℕ). n % m) (pow-suc 256 w) ∙ mod-mul n (one-le-pow w 256 (lit< tt)) (lit< tt) in
    rw (split, digits_div (n / 256 % 256 ^ w) (mod-lt n (lit< tt)), digits_mod (n / 256 % 256 ^ w) (mod-lt n (lit< tt)), byte_digits w (n / 256))

pub bytes_mod : (w a b : ℕ) → a % 256 ^ w ≡ b % 256 ^ w → big_endian w a ≡ big_endian w b
bytes_mod w a b e = sym (byte_digits w a) ∙ ap (big_endian w) e ∙ byte_digits w b

-- std's bytes of a number are the standard's
byte_above : (k n : ℕ) → byte_at k (n / 256) ≡ byte_at (suc k) n
byte_above zero n = refl
byte_above (suc k) n = ap (λ (q : ℕ). q % 256) (div-div-eq-div-mul n 256 (256 ^ suc k) ∙ ap (λ (d : ℕ). n / d) (sym (pow-succ' 256 (suc k))))

first_byte : (k n : ℕ) → big_endian (suc k) n ≡ byte_at k n ∷ big_endian k n
first_byte zero n = refl
first_byte (suc k) n =
    ap (λ (l : List ℕ). l ++ (n % 256 ∷ [])) (first_byte k (n / 256)) ∙ ap (λ (b : ℕ). b ∷ big_endian (suc k) n) (byte_above k n)

pub be_bytes : (w n : ℕ) → bytes_high_first w n ≡ big_endian w n
be_bytes zero n = refl
be_bytes (suc k) n = ap (λ (l : List ℕ). byte_at k n ∷ l) (be_bytes k n) ∙ sym (first_byte k n)

-- the hash value after every whole block of m
abbrev pub over : Words → List ℕ → Words
over s m = hashed s m (length m / 64)

-- ---- the bytes after the whole blocks

abbrev pub rest : List ℕ → List ℕ
rest m = drop (64 * (length m / 64)) m

pub length_rest : (m : List ℕ) → length (rest m) ≡ length m % 64
length_rest m = simp length-drop (omega arith)

pub rest_none : (m : List ℕ) → length m % 64 ≡ 0 → rest m ≡ []
rest_none m h = drop_of_length-le m {i = 64 * (length m / 64)} (omega arith)

-- the hash value before and the count may be given by other names
pub held_same : {v w : Words} {p : List ℕ} {k n : ℕ} {r : Sha256} → Held v p k r → v ≡ w → k ≡ n → Held w p n r
held_same {p = p} h e f = record { words = h.words ∙ ap (λ (s : Words). over s p) e; pending = h.pending; counted = h.counted ∙ f }

-- what is appended to m goes behind m's rest: how many blocks there are then, what they come to, and the rest
module _ (m p : List ℕ) where
  count_append : length (m ++ p) / 64 ≡ length m / 64 + length (rest m ++ p) / 64
  count_append = omega (arith, length-append m p, length-append (rest m) p, length_rest m)

  left_append : length (m ++ p) % 64 ≡ length (rest m ++ p) % 64
  left_append = omega (arith, length-append m p, length-append (rest m) p, length_rest m)

  behind : drop (64 * (length m / 64)) (m ++ p) ≡ rest m ++ p
  behind = drop-append-le (64 * (length m / 64)) m p (omega arith)

  rest_append : rest (m ++ p) ≡ rest (rest m ++ p)
  rest_append =
      rw (count_append, mul-add)
      (sym (drop-drop (64 * (length (rest m ++ p) / 64)) (64 * (length m / 64)) (m ++ p)) ∙ ap (drop (64 * (length (rest m ++ p) / 64))) behind)

  pub over_append : (s : Words) → over s (m ++ p) ≡ over (over s m) (rest m ++ p)
  over_append s =
      ap (hashed s (m ++ p)) count_append
      ∙ hashed_add s (m ++ p) (length m / 64) (length (rest m ++ p) / 64)
      ∙ ap₂ (λ (v : Words) (l : List ℕ). hashed v l (length (rest m ++ p) / 64)) (hashed_append s m p (length m / 64) (omega arith)) behind

  pub held_append : {s : Words} {n : ℕ} {r : Sha256} → Held (over s m) (rest m ++ p) n r → Held s (m ++ p) n r
  held_append {s} h =
      record {
        words = h.words ∙ sym (over_append s);
        pending = h.pending ∙ ap₂ (λ (l : List ℕ) (k : ℕ). l ++ replicate (64 - k) 0) (sym rest_append) (sym left_append);
        counted = h.counted;
      }

  -- behind whole blocks
  pub over_whole : (s : Words) → length m % 64 ≡ 0 → over (over s m) p ≡ over s (m ++ p)
  over_whole s h = sym (over_append s ∙ ap (λ (l : List ℕ). over (over s m) (l ++ p)) (rest_none m h))

  pub rest_whole : length m % 64 ≡ 0 → rest (m ++ p) ≡ rest p
  rest_whole h = rest_append ∙ ap (λ (l : List ℕ). rest (l ++ p)) (rest_none m h)

  pub held_whole : {s : Words} {n : ℕ} {r : Sha256} → length m % 64 ≡ 0 → Held (over s m) p n r → Held s (m ++ p) n r
  held_whole {s} {n} {r} e h = held_append (subst (λ (l : List ℕ). Held (over s m) (l ++ p) n r) (sym (rest_none m e)) h)

-- ---- a block with zeros behind the bytes that it holds

abbrev pub zero_filled : List ℕ → List ℕ
zero_filled p = p ++ replicate (64 - length p) 0

length_filled : (p : List ℕ) → length p ≤ 64 → length (zero_filled p) ≡ 64
length_filled p h = omega (arith, length-append p (replicate (64 - length p) 0), length-replicate {A = ℕ} (64 - length p) 0)

filled_full : (p : List ℕ) → length p ≡ 64 → zero_filled p ≡ p
filled_full p h = ap (λ (k : ℕ). p ++ replicate (64 - k) 0) h ∙ append-nil p

pub filled_rest : (m : List ℕ) → zero_filled (rest m) ≡ rest m ++ replicate (64 - length m % 64) 0
filled_rest m = ap (λ (k : ℕ). rest m ++ replicate (64 - k) 0) (length_rest m)

-- d with s written at a place
abbrev pub put : List ℕ → ℕ → List ℕ → List ℕ
put d at s = take at d ++ s ++ drop (at + length s) d

zeros : (k j : ℕ) {n : ℕ} → k + j ≡ n → replicate {A = ℕ} n 0 ≡ replicate k 0 ++ replicate j 0
zeros k j e = ap (λ (i : ℕ). replicate {A = ℕ} i 0) (sym e) ∙ sym (replicate-append-replicate k j 0)

zeros_append : (k j : ℕ) {n : ℕ} (e : List ℕ) → k + j ≡ n → replicate k 0 ++ (replicate j 0 ++ e) ≡ replicate n 0 ++ e
zeros_append k j e h = sym (append_assoc (replicate k 0) (replicate j 0) e) ∙ ap (λ (l : List ℕ). l ++ e) (sym (zeros k j h))

pub put_filled : (p q : List ℕ) → length p + length q ≤ 64 → put (zero_filled p) (length p) q ≡ zero_filled (p ++ q)
put_filled p q h =
    let left = 64 - length (p ++ q) in
    let size : length q + left ≡ 64 - length p = omega (arith, length-append p q) in
    ap₂ (λ (a b : List ℕ). a ++ q ++ b) (take-append_seam p (replicate (64 - length p) 0))
    (drop-append-add p (replicate (64 - length p) 0) (length q)
    ∙ ap (drop (length q)) (zeros (length q) left size)
    ∙ drop_at (replicate (length q) 0) (replicate left 0) (length q) (length-replicate (length q) 0))

-- bytes that fill no block are all held
pub held_short : {s : Words} (p : List ℕ) {n : ℕ} {r : Sha256} → length p < 64 → r.words ≡ s → r.block ≡ zero_filled p → r.length ≡ n → Held s p n r
unfolding hashed
held_short {s} p h w b e =
    let none : length p / 64 ≡ 0 = omega arith in
    let part : length p ≡ length p % 64 = omega arith in
    record {
      words = w ∙ ap (hashed s p) (sym none);
      pending = b ∙ ap₂ (λ (i k : ℕ). drop (64 * i) p ++ replicate (64 - k) 0) (sym none) part;
      counted = e;
    }

-- ---- the padding

-- what it puts behind m
abbrev pub ending : List ℕ → List ℕ
ending m = 128 ∷ replicate (zero_bytes (length m)) 0 ++ big_endian 8 (8 * length m)

pub sha256_ending : (m : List ℕ) → sha256 m ≡ digest (over (over H₀ m) (rest m ++ ending m))
unfolding sha256 pad
sha256_ending m =
    ap (λ (l : List ℕ). digest (over H₀ l)) (append_assoc m (128 ∷ replicate (zero_bytes (length m)) 0) (big_endian 8 (8 * length m)))
    ∙ ap digest (over_append m (ending m) H₀)

-- the mark behind the bytes p
marked : (p e : List ℕ) (k : ℕ) → set (p ++ replicate (suc k) 0 ++ e) (length p) 128 ≡ p ++ (128 ∷ replicate k 0 ++ e)
marked p e k =
    ap (λ (l : List ℕ). set l (length p) 128) (append_assoc p (replicate (suc k) 0) e) ∙ set-append_seam p 0 (replicate k 0 ++ e) 128

marked_filled : (p e : List ℕ) → length p < 64 → set (zero_filled p) (length p) 128 ++ e ≡ p ++ (128 ∷ replicate (63 - length p) 0 ++ e)
marked_filled p e h =
    let room : 64 - length p ≡ suc (63 - length p) = omega arith in
    sym (set-append_left (zero_filled p) e (length p) 128 (omega (arith, length_filled p (omega arith))))
    ∙ ap (λ (j : ℕ). set (p ++ replicate j 0 ++ e) (length p) 128) room
    ∙ marked p e (63 - length p)

-- a last block that has room behind the bytes p, and two blocks where it has none
module _ (p : List ℕ) (n : ℕ) where
  one_block : length p < 56 → set (put (zero_filled p) 56 (big_endian 8 n)) (length p) 128 ≡ p ++ (128 ∷ replicate (55 - length p) 0 ++ big_endian 8 n)
  one_block h =
      let k = 55 - length p in
      let room : List ℕ = replicate (suc k) 0 in
      let size : length (p ++ room) ≡ 56 = omega (arith, length-append p room, length-replicate {A = ℕ} (suc k) 0) in
      let front : take 56 (zero_filled p) ≡ p ++ room =
      ap (λ (l : List ℕ). take 56 (p ++ l)) (zeros (suc k) 8 {n = 64 - length p} (omega arith))
      ∙ ap (take 56) (sym (append_assoc p room (replicate 8 0)))
      ∙ take_at (p ++ room) (replicate 8 0) 56 size in
      let back : drop 64 (zero_filled p) ≡ [] = drop_of_length-le (zero_filled p) {i = 64} (omega (arith, length_filled p (omega arith))) in
      ap₂ (λ (f g : List ℕ). set (f ++ big_endian 8 n ++ g) (length p) 128) front back
      ∙ ap (λ (l : List ℕ). set l (length p) 128) (append-nil (p ++ room ++ big_endian 8 n))
      ∙ marked p (big_endian 8 n) k

  two_blocks : length p < 64 → set (zero_filled p) (length p) 128 ++ put (replicate 64 0) 56 (big_endian 8 n) ≡ p ++ (128 ∷ replicate (119 - length p) 0 ++ big_endian 8 n)
  two_blocks h =
      marked_filled p (replicate 56 0 ++ big_endian 8 n) h
      ∙ ap (λ (l : List ℕ). p ++ (128 ∷ l)) (zeros_append (63 - length p) 56 {n = 119 - length p} (big_endian 8 n) (omega arith))

-- ---- a state that stands for m

module _ {s : Sha256} (m : List ℕ) (h : Stands s m) where
  pub stands_place : s.length % 64 ≡ length (rest m)
  stands_place = omega (arith, length_rest m, h.counted)

  pub stands_block : s.block ≡ zero_filled (rest m)
  stands_block = h.pending ∙ sym (filled_rest m)

  pub stands_put : (q : List ℕ) → s.length % 64 + length q ≤ 64 → put s.block (s.length % 64) q ≡ zero_filled (rest m ++ q)
  stands_put q f =
      ap₂ (λ (b : List ℕ) (k : ℕ). put b k q) stands_block stands_place
      ∙ put_filled (rest m) q (omega (arith, stands_place))

  pub stands_count : (q : List ℕ) → (s.length + length q) % 2 ^ 64 ≡ length (m ++ q) % 2 ^ 64
  stands_count q = omega (arith, h.counted, length-append m q)

  pub stands_bits : big_endian 8 (8 * s.length) ≡ big_endian 8 (8 * length m)
  stands_bits = bytes_mod 8 (8 * s.length) (8 * length m) (omega (arith, h.counted))

  pub stands_length : length s.block ≡ 64
  stands_length = ap length stands_block ∙ length_filled (rest m) (omega (arith, length_rest m))

  -- a part that fills the block: the block is hashed, and then what is left of the part
  pub stands_full : (q : List ℕ) {v : Words} {n : ℕ} {r : Sha256} → 64 ≤ s.length % 64 + length q
      → v ≡ over s.words (put s.block (s.length % 64) (take (64 - s.length % 64) q))
      → Held v (take (length q - (64 - s.length % 64)) (drop (64 - s.length % 64) q)) n r
      → Held H₀ (m ++ q) n r
  stands_full q {v} {n} {r} f e t =
      let free = 64 - s.length % 64 in
      let front = take free q in
      let left = take (length q - free) (drop free q) in
      let size : length front ≡ free = length-take-le free q (omega arith) in
      let full : length (rest m ++ front) ≡ 64 = omega (arith, length-append (rest m) front, stands_place, length_rest m) in
      let block = stands_put front (omega arith) ∙ filled_full (rest m ++ front) full in
      let part = ap (λ (l : List ℕ). front ++ l) (to_end q free) ∙ take-append-drop free q in
      held_append m q
      (subst (λ (l : List ℕ). Held (over H₀ m) l n r) (append_assoc (rest m) front left ∙ ap (λ (l : List ℕ). rest m ++ l) part)
      (held_whole (rest m ++ front) left (omega arith) (held_same t (e ∙ ap₂ over h.words block) refl)))

  -- the last blocks of the padded message
  pub stands_one : s.length % 64 < 56 → set (put s.block 56 (big_endian 8 (8 * s.length))) (s.length % 64) 128 ≡ rest m ++ ending m
  unfolding zero_bytes
  stands_one f =
      let fill : 55 - length (rest m) ≡ zero_bytes (length m) = omega (arith, length_rest m, h.counted) in
      ap₂ (λ (b : List ℕ) (i : ℕ). set (put b 56 (big_endian 8 (8 * s.length))) i 128) stands_block stands_place
      ∙ one_block (rest m) (8 * s.length) (omega (arith, stands_place))
      ∙ ap₂ (λ (i : ℕ) (b : List ℕ). rest m ++ (128 ∷ replicate i 0 ++ b)) fill stands_bits

  pub stands_two : 56 ≤ s.length % 64
      → set s.block (s.length % 64) 128 ++ put (replicate 64 0) 56 (big_endian 8 (8 * s.length)) ≡ rest m ++ ending m
  unfolding zero_bytes
  stands_two f =
      let fill : 119 - length (rest m) ≡ zero_bytes (length m) = omega (arith, length_rest m, h.counted) in
      ap₂ (λ (b : List ℕ) (i : ℕ). set b i 128 ++ put (replicate 64 0) 56 (big_endian 8 (8 * s.length))) stands_block stands_place
      ∙ two_blocks (rest m) (8 * s.length) (omega (arith, length_rest m))
      ∙ ap₂ (λ (i : ℕ) (b : List ℕ). rest m ++ (128 ∷ replicate i 0 ++ b)) fill stands_bits

-- the digest from a state that stands for m, the mark being set at i: the padding has room in the block, or it takes a block more
module _ {s : Sha256} (m : List ℕ) (i : ℕ) (h : Stands s m) (place : i ≡ s.length % 64) where
  pub sha256_one : i < 56 → digest (over s.words (set (put s.block 56 (big_endian 8 (8 * s.length))) i 128)) ≡ sha256 m
  sha256_one f =
      ap (λ (j : ℕ). digest (over s.words (set (put s.block 56 (big_endian 8 (8 * s.length))) j 128))) place
      ∙ ap digest (ap₂ over h.words (stands_one m h (omega arith)))
      ∙ sym (sha256_ending m)

  pub sha256_two : 56 ≤ i
      → digest (over (over s.words (set s.block i 128)) (put (replicate 64 0) 56 (big_endian 8 (8 * s.length)))) ≡ sha256 m
  sha256_two f =
      let end = put (replicate 64 0) 56 (big_endian 8 (8 * s.length)) in
      let last = set s.block (s.length % 64) 128 in
      let whole : length last % 64 ≡ 0 = omega (arith, length-set s.block (s.length % 64) 128, stands_length m h) in
      ap₂ (λ (v : Words) (j : ℕ). digest (over (over v (set s.block j 128)) end)) h.words place
      ∙ ap digest (over_whole last end (over H₀ m) whole ∙ ap (over (over H₀ m)) (stands_two m h (omega arith)))
      ∙ sym (sha256_ending m)

-- the state that holds the bytes after m's whole blocks
pub stands_rest : {v : Words} {p : List ℕ} {k : ℕ} (m : List ℕ) → v ≡ over H₀ m → p ≡ rest m → k ≡ length m % 2 ^ 64
    → Stands (record { words = v; block = put (replicate 64 0) 0 p; length = k }) m
stands_rest {p = p} m e f g =
    record {
      words = e;
      pending = put_filled [] p (omega (arith, ap length f, length_rest m)) ∙ ap zero_filled f ∙ filled_rest m;
      counted = g;
    }

-- 32 bytes behind a message of one block: the block that they and the padding fill
pub sha256_with : {s : Sha256} (m q : List ℕ) → Stands s m → length m ≡ 64 → length q ≡ 32
    → sha256 (m ++ q) ≡ digest (over s.words (set (put (put (replicate 64 0) 0 q) 56 (big_endian 8 (8 * 96))) 32 128))
sha256_with {s} m q h one half =
    let laid = put_filled [] q (omega (arith, half)) in
    let held : Sha256 = record { words = s.words; block = put (replicate 64 0) 0 q; length = 96 } in
    let stands : Stands held (m ++ q) =
    held_whole m q (omega (arith, one))
    (held_short q (omega (arith, half)) h.words laid (omega (arith, length-append m q, one, half))) in
    sha256_ending (m ++ q) ∙ sym (ap digest (ap₂ over stands.words (stands_one (m ++ q) stands (lit< tt))))
