-- `scheme::ranges::out_of_range` meets its contract: each answer `true` stands behind one of the conditions.
use mathlib.Core.Path.{sym, ◌∙◌}
use mathlib.Core.List.{[], ◌∷◌}
use Rattle.scheme.specs.Store.{out_of_range}
use Rattle.scheme.proofs.Rules.{any_at, last_decides, ◌also◌}
use Rattle.scheme.proofs.ranges.out_of_range.Goals as goal

pub returns-then-outside : goal.returns-then-outside
unfolding out_of_range
returns-then-outside c = sym (any_at _ 0 (sym c.outside.ensures ∙ c.if-outside.true))

pub returns-then-outside-2 : goal.returns-then-outside-2
unfolding out_of_range
returns-then-outside-2 c = sym (any_at _ 1 (sym c.outside-2.ensures ∙ c.if-outside-2.true))

pub returns-then-outside-3 : goal.returns-then-outside-3
unfolding out_of_range
returns-then-outside-3 c = sym (any_at _ 2 (sym c.outside-3.ensures ∙ c.if-outside-3.true))

pub returns-then-outside-4 : goal.returns-then-outside-4
unfolding out_of_range
returns-then-outside-4 c = sym (any_at _ 3 (sym c.outside-4.ensures ∙ c.if-outside-4.true))

pub returns-then-outside-5 : goal.returns-then-outside-5
unfolding out_of_range
returns-then-outside-5 c = sym (any_at _ 4 (sym c.outside-5.ensures ∙ c.if-outside-5.true))

pub returns-then-outside-6 : goal.returns-then-outside-6
unfolding out_of_range
returns-then-outside-6 c = sym (any_at _ 5 (sym c.outside-6.ensures ∙ c.if-outside-6.true))

pub returns : goal.returns
unfolding out_of_range
returns c =
    let sixth = c in
    let fifth = sixth in
    let fourth = fifth in
    let third = fourth in
    let second = third in
    let first = second in
    last_decides (_ ∷ _ ∷ _ ∷ _ ∷ _ ∷ _ ∷ []) _ (
    (sym first.outside.ensures ∙ second.if-outside.false)
    also (sym second.outside-2.ensures ∙ third.if-outside-2.false)
    also (sym third.outside-3.ensures ∙ fourth.if-outside-3.false)
    also (sym fourth.outside-4.ensures ∙ fifth.if-outside-4.false)
    also (sym fifth.outside-5.ensures ∙ sixth.if-outside-5.false)
    also (sym sixth.outside-6.ensures ∙ c.if-outside-6.false)
    also tt
    )
