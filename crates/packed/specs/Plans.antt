-- What the plan of a ratchet answers: refusal and ratchet in one word.
use Rattle.std.specs.Prelude.{◌≡◌, List, ℕ}
use Rattle.scheme.specs.Rules.{refusal_by}
use Rattle.planning.specs.Chunks.{plan_rules}
use Rattle.planning.specs.Ratchet.{plan_number}
use Rattle.packed.specs.Surface.{packed}

-- the ratchet, 0 where none lasts or the plan is refused
abbrev pub RatchetPlanned : List ℕ → ℕ → ℕ → Type 0
RatchetPlanned counts chunks r = r ≡ packed (refusal_by (plan_rules counts chunks)) (plan_number counts chunks)
