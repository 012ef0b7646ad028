-- `planning::bad_plan` meets its contract: the three tests are those of 25, in order.
use mathlib.Core.Path.{◌≡◌, sym, ap, ap₂, ◌∙◌}
use Prim.Native.Nat.{ℕ}
use mathlib.Core.Bool.{Bool, or-false}
use mathlib.Core.List.{List}
use native.Mathlib.Omega.{arith}
use borrow.Author.Tests.{lt-ltb, le-ltb}
use lib.ListN.{length}
use Rattle.scheme.specs.Rules.{any_true, outside}
use Rattle.scheme.specs.Store.{any_over}
use Rattle.scheme.proofs.Rules.{any_at}
use Rattle.planning.specs.Chunks.{bad_plan}
use Rattle.planning.proofs.bad_plan.Goals as goal

pub returns-then-counts-gt-MOST_COUNTS : goal.returns-then-counts-gt-MOST_COUNTS
unfolding bad_plan
returns-then-counts-gt-MOST_COUNTS c = sym (any_at _ 0 (lt-ltb 64 (length c.args.counts.now) (omega (arith, c.if-counts-gt-MOST_COUNTS.true))))

-- the limit that was tested is the plan's
over_limit : (counts : List ℕ) (limit : ℕ) {r : Bool} → limit ≡ 65536 → r ≡ any_over limit counts → any_over 65536 counts ≡ r
over_limit counts limit same tested = ap (λ (l : ℕ). any_over l counts) (sym same) ∙ sym tested

pub returns-then-any_over : goal.returns-then-any_over
unfolding bad_plan
returns-then-any_over c = sym (any_at _ 1 (over_limit c.args.counts.now _ (omega arith) c.any_over.ensures ∙ c.if-any_over.true))

pub returns : goal.returns
unfolding bad_plan any_true
returns c =
    let many = le-ltb 64 (length c.args.counts.now) (omega (arith, c.if-counts-gt-MOST_COUNTS.false)) in
    let large = over_limit c.args.counts.now _ (omega arith) c.any_over.ensures ∙ c.if-any_over.false in
    rw (many, large, or-false) (c.outside.ensures ∙ ap₂ (λ (low high : ℕ). outside low high c.args.chunks) (omega arith) (omega arith))
