-- Where the compression of a block stands: what its inner functions keep between two rounds.
use Rattle.std.specs.Prelude.{◌≡◌, ℕ, zero, suc, ◌+◌, List, [], ◌∷◌, ◌++◌, drop, slice_index, slice_index_or}
use Rattle.compression.specs.Fips.{◌⊞◌, σ₀, σ₁, schedule, W, rounds}
use Rattle.compression.specs.declared.words.Words.{Words}
use Rattle.compression.specs.declared.Working.{Working}

-- n entries of a list, from i on
abbrev pub entries : List ℕ → ℕ → ℕ → List ℕ
entries xs i zero = []
entries xs i (suc n) = slice_index xs i ∷ entries xs (suc i) n

-- a window of 16 words of the schedule, a word further on
abbrev pub slide : List ℕ → List ℕ
slide w = entries w 1 15 ++ ((σ₁ (slice_index w 14) ⊞ slice_index_or w 9 0 ⊞ σ₀ (slice_index w 1) ⊞ slice_index_or w 0 0) ∷ [])

-- v is what the hash value s comes to after n rounds on the words w, with the constants k
abbrev pub After : List ℕ → List ℕ → Words → ℕ → Words → Type 0
After k w s n v = v ≡ rounds (λ t. slice_index k t) (λ t. slice_index w t) n s

-- v is what the block b and the hash value s come to after 16 + n rounds, with the constants k
pub record Reached (k b : List ℕ) (s : Words) (n : ℕ) (v : Working) : Type 0 where
  pub variables : v.s ≡ rounds (λ t. slice_index k t) (W b) (16 + n) s
  pub window : v.w ≡ drop n (schedule b n)
