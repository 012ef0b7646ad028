-- The answer of `pahyndoi_data_at` is 0 just where the lookup is refused.
use mathlib.Core.Path.{◌≡◌, refl, ◌∙◌}
use mathlib.Core.Logic.{◌↔◌}
use mathlib.Core.List.{List}
use Prim.Native.Nat.{ℕ}
use native.Mathlib.Omega.{arith}
use Rattle.seeking.specs.Lookup.{lookup}
use Rattle.seeking.proofs.Looking.{nowhere}
use Rattle.lookup.proofs.Exactly.{holds_asked}
use Rattle.audited.specs.Lengths.{listed}
use Rattle.audited.specs.LookedUp.{Located}

module _ (device auditor logs bytes seal : List ℕ) (phase offset r : ℕ) (located : Located device auditor logs bytes seal phase offset r) where
  abbrev lengths : List ℕ
  lengths = listed device bytes

  pub zero_refused : (r ≡ 0) ↔ ((lookup device auditor logs lengths seal phase offset).refusal ≡ 0 → ⊥)
  zero_refused = (
    (λ zero found. omega (arith, zero, located.answer, (holds_asked device auditor logs lengths seal phase offset found).some)),
    (λ refused. located.answer ∙ rw (nowhere device auditor logs lengths seal phase offset _ _ refl refused) refl),
  )
