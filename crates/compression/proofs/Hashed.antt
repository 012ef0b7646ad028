-- Laws of the hash value after some blocks of a message (FIPS 180-4, 6.2.2). Assumes nothing.
use Rattle.std.proofs.Common.{◌≡◌, ℕ, zero, suc, ◌+◌, ◌*◌, ◌<◌, ◌≤◌, List, ◌++◌, length, get_or, take, drop, sym, refl, ap, ◌∙◌, ap₂, add-zero, add-suc, mul-add, add-one, one-add, arith, length-drop, drop-drop}
use lib.Seq.{take-append-le, drop-append-le}
use Rattle.std.specs.Simd.{first_chunks}
use Rattle.compression.specs.Fips.{block, compress, hashed}
use Rattle.compression.specs.declared.words.Words.{Words}

-- a block more
pub block_more : (s : Words) (m b : List ℕ) (i : ℕ) (v r : Words) → v ≡ hashed s m i → b ≡ block m i → r ≡ compress v b → r ≡ hashed s m (i + 1)
unfolding hashed
block_more s m b i v r e f g = rw (add-one i) (g ∙ ap₂ compress e f)

block_append : (p q : List ℕ) (i : ℕ) → 64 * i + 64 ≤ length p → block (p ++ q) i ≡ block p i
unfolding block
block_append p q i h =
    ap (take 64) (drop-append-le (64 * i) p q (omega arith)) ∙ take-append-le 64 (drop (64 * i) p) q (simp length-drop (omega arith))

block_drop : (m : List ℕ) (a i : ℕ) → block (drop (64 * a) m) i ≡ block m (a + i)
unfolding block
block_drop m a i = ap (take 64) (drop-drop (64 * i) (64 * a) m ∙ ap (λ (k : ℕ). drop k m) (sym (mul-add 64 a i)))

-- a message's blocks are its chunks of 64 bytes
pub chunk_at : (n i : ℕ) (m d : List ℕ) → i < n → get_or (first_chunks 64 n m) i d ≡ block m i
unfolding block
chunk_at zero i m d h = absurd (omega arith)
chunk_at (suc n) zero m d h = refl
chunk_at (suc n) (suc i) m d h = chunk_at n i (drop 64 m) d (omega arith) ∙ block_drop m 1 i ∙ ap (block m) (one-add i)

-- what follows does not change the blocks before it
pub hashed_append : (s : Words) (p q : List ℕ) (n : ℕ) → 64 * n ≤ length p → hashed s (p ++ q) n ≡ hashed s p n
unfolding hashed
hashed_append s p q zero h = refl
hashed_append s p q (suc n) h = ap₂ compress (hashed_append s p q n (omega arith)) (block_append p q n (omega arith))

-- the blocks from block a on are those of what lies behind them
pub hashed_add : (s : Words) (m : List ℕ) (a b : ℕ) → hashed s m (a + b) ≡ hashed (hashed s m a) (drop (64 * a) m) b
unfolding hashed
hashed_add s m a zero = ap (hashed s m) (add-zero a)
hashed_add s m a (suc b) = ap (hashed s m) (add-suc a b) ∙ ap₂ compress (hashed_add s m a b) (sym (block_drop m a b))
