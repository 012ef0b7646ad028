use Rattle.std.proofs.Common.{◌+◌, ◌∙◌, refl, ap, add-one, List, ℕ, arith}
use lib.ListN.{get_or, set, length-set}
use lib.Seq.{paste-zero, paste-suc}
use Rattle.scheme.proofs.Splice.{pasted}
use Rattle.octets.proofs.memory.write.Goals as goal

pub loop-i-init : goal.loop-i-init
loop-i-init c = (paste-zero c.args.memory.now c.args.at c.args.bytes.now, refl)

pub loop-i-preserved : goal.loop-i-preserved
loop-i-preserved c =
    let a = c.args in
    let l = c.loop-i in
    let put : List ℕ → List ℕ = λ m. set m (a.at + l.i) (get_or a.bytes.now l.i 0) in
    let copied = paste-suc a.memory.now a.at a.bytes.now l.i 0 (omega arith) (omega arith) in
    (ap put l.invariant.0 ∙ rw add-one copied, simp length-set l.invariant.1)

pub returns : goal.returns
returns c =
    let l = c.loop-i in
    l.invariant.0 ∙ pasted _ _ _ l.i (omega arith)
