use native.Mathlib.Omega.{arith}
use Rattle.planning.proofs.Plans.{limits}
use Rattle.planning.proofs.Search.{goes_up}
use Rattle.planning.proofs.halved.Goals as goal

pub chunks_for-requires : goal.chunks_for-requires
chunks_for-requires c =
    let plan = limits _ _ c.requires in
    let known = c.loop-low.invariant in
    (plan.few, plan.small, omega (arith, known.some), omega (arith, known.most))

pub loop-low-preserved : goal.loop-low-preserved
loop-low-preserved c =
    let l = c.loop-low in
    goes_up _ _ l.low _ l.high l.invariant (omega arith) (omega arith) (omega arith)
