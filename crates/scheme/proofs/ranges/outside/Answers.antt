-- `scheme::ranges::outside` meets its contract: the two tests are those of `outside`, in order.
use borrow.Author.Tests.{lt-ltb, le-ltb}
use Rattle.scheme.specs.Rules as Rules
use Rattle.scheme.specs.Rules.{any_true}
use mathlib.Core.Bool.{or-false}
use Rattle.scheme.proofs.ranges.outside.Goals as goal

pub returns-then-n-low : goal.returns-then-n-low
unfolding Rules.outside any_true
returns-then-n-low c = simp (lt-ltb _ _ c.if-n-low.true)

pub returns : goal.returns
unfolding Rules.outside any_true
returns c = simp (le-ltb _ _ c.if-n-low.false, or-false)
