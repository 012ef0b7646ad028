use Rattle.std.proofs.Common.{sym, ◌∙◌, arith}
use Rattle.scheme.proofs.Scans.{over_all, over_here, over_behind, over_none}
use Rattle.octets.proofs.memory.any_over.Goals as goal

pub loop-x-init : goal.loop-x-init
loop-x-init c = over_all c.args.limit c.args.xs.now

pub returns-then-limit-x : goal.returns-then-limit-x
returns-then-limit-x c =
    let a = c.args in
    let l = c.loop-x in
    sym (l.invariant ∙ over_here a.limit a.xs.now l.x-index (omega arith) (omega (arith, c.if-limit-x.true)))

pub loop-x-preserved : goal.loop-x-preserved
loop-x-preserved c =
    let a = c.args in
    let l = c.loop-x in
    l.invariant ∙ over_behind a.limit a.xs.now l.x-index (omega arith) (omega (arith, c.if-limit-x.false))

pub returns : goal.returns
returns c =
    let a = c.args in
    let l = c.loop-x in
    sym (l.invariant ∙ over_none a.limit a.xs.now l.x-index (omega arith))
