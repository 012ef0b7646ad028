-- `planning::least_ratchet` meets its contract: what the search gives is the answer.
use Rattle.std.proofs.Common.{sym, ◌∙◌, arith}
use Rattle.planning.proofs.Plans.{none_lasts, least_lasts}
use Rattle.planning.proofs.least_ratchet.Goals as goal

pub returns-then-n-gt-LARGEST_RATCHET : goal.returns-then-n-gt-LARGEST_RATCHET
returns-then-n-gt-LARGEST_RATCHET c =
    let fits = sym c.bad_plan.ensures ∙ c.if-bad_plan.false in
    none_lasts _ _ fits _ c.halved-n.ensures (omega (arith, c.if-n-gt-LARGEST_RATCHET.true))

pub returns : goal.returns
returns c =
    let fits = sym c.bad_plan.ensures ∙ c.if-bad_plan.false in
    least_lasts _ _ fits _ c.halved-n.ensures (omega (arith, c.if-n-gt-LARGEST_RATCHET.false)) _ (omega arith)
