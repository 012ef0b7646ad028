use Rattle.std.proofs.Common.{sym, ◌∙◌, arith}
use Rattle.scheme.proofs.Bytes.{lengths_differ, not_same, same_so_far, none_different}
use Rattle.octets.proofs.by_bytes.same_by_bytes.Goals as goal

pub returns-then-a-b : goal.returns-then-a-b
returns-then-a-b c = sym (lengths_differ _ _ (λ e. omega (arith, e)))

pub returns-then-a-k : goal.returns-then-a-k
returns-then-a-k c =
    let l = c.loop-k in
    sym (l.invariant ∙ not_same _ _ l.k (omega arith) (omega arith) (λ e. omega (arith, e, c.if-a-k.true)))

pub loop-k-preserved : goal.loop-k-preserved
loop-k-preserved c =
    let l = c.loop-k in
    l.invariant ∙ same_so_far _ _ l.k (omega arith) (omega arith) (omega (arith, c.if-a-k.false))

pub returns : goal.returns
returns c =
    let l = c.loop-k in
    sym (l.invariant ∙ none_different _ _ l.k (omega arith) (omega arith))
