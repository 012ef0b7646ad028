-- What the lookups answer: two numbers in one word, of which the second fits its half. The list of lengths is lent as to the audit.
use Rattle.std.specs.Prelude.{◌≡◌, List, ℕ, ◌+◌, ◌≤◌}
use Rattle.scheme.specs.Sizes.{most_items, most_logged}
use Rattle.seeking.specs.Lookup.{lookup, data_place}
use Rattle.packed.specs.Surface.{packed}
use Rattle.audited.specs.Lengths.{listed}

-- refusal and number
pub record LookedUp (device auditor logs bytes seal : List ℕ) (phase offset r : ℕ) : Type 0 where
  pub answer : r ≡ packed
      (lookup device auditor logs (listed device bytes) seal phase offset).refusal (lookup device auditor logs (listed device bytes) seal phase offset).number
  pub fits : (lookup device auditor logs (listed device bytes) seal phase offset).number ≤ most_items

-- where the data begin in the log memory, and how many they are: 0 and 0 where the lookup is refused
pub record Located (device auditor logs bytes seal : List ℕ) (phase offset r : ℕ) : Type 0 where
  pub answer : r ≡ packed
      (data_place device auditor logs (listed device bytes) seal phase offset).begin (data_place device auditor logs (listed device bytes) seal phase offset).size
  pub fits : (data_place device auditor logs (listed device bytes) seal phase offset).begin + (data_place device auditor logs (listed device bytes) seal phase offset).size ≤ most_logged
