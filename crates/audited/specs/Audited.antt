-- What the audit call answers: refusal and number in one word, of which the number fits its half, whatever set the store has.
use Rattle.std.specs.Prelude.{◌≡◌, List, ℕ, ◌≤◌}
use Rattle.scheme.specs.Sizes.{most_items}
use Rattle.scheme.specs.Audit.{audit}
use Rattle.packed.specs.Surface.{packed}
use Rattle.audited.specs.Lengths.{listed}

pub record Audited (device auditor logs bytes seal : List ℕ) (r : ℕ) : Type 0 where
  pub answer : r ≡ packed (audit device auditor logs (listed device bytes) seal).refusal (audit device auditor logs (listed device bytes) seal).number
  pub fits : (audit device auditor logs (listed device bytes) seal).number ≤ most_items
