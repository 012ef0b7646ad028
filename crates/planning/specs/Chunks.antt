-- The chunks that counts of entries take, each count followed by a close, and the plans that are refused (FORMAT.md, 13).
use Rattle.std.specs.Prelude.{Bool, List, [], ◌∷◌, ℕ, ◌+◌, ◌-◌, ◌/◌, ◌≤◌, ltb, length}
use Rattle.scheme.specs.Rules.{Rule, ◌⇒◌, any_true, outside}
use Rattle.scheme.specs.Store.{any_over}

-- a count divided by n, rounded up: for n from 1 on, the least number whose product with n is not below the count (`enough`)
unfoldable pub rounded_up : ℕ → ℕ → ℕ
rounded_up count n = (count + n - 1) / n

-- the sum of the counts divided by n, each rounded up
unfoldable pub chunks_for : List ℕ → ℕ → ℕ
chunks_for [] n = 0
chunks_for (count ∷ counts) n = rounded_up count n + chunks_for counts n

-- with the ratchet n so many chunks last for the counts
abbrev pub Lasts : List ℕ → ℕ → ℕ → Type 0
Lasts counts chunks n = chunks_for counts n ≤ chunks

-- 25: over 64 counts, a count over 65,536, or a chunk count outside 1 to 1,024
unfoldable pub bad_plan : List ℕ → ℕ → Bool
bad_plan counts chunks = any_true (ltb 64 (length counts) ∷ any_over 65536 counts ∷ outside 1 1024 chunks ∷ [])

-- the only check
abbrev pub plan_rules : List ℕ → ℕ → List Rule
plan_rules counts chunks = (bad_plan counts chunks ⇒ 25) ∷ []
