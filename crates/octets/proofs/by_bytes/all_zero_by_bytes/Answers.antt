-- `octets::by_bytes::all_zero_by_bytes` meets its contract. The laws of a front part are listed, so that a loop over such a part goes by how long it is.
use Rattle.std.proofs.Common.{sym, ◌∙◌, arith, ℕ}
use Rattle.std.proofs.lemmas.List.{length-take, get_or-take}
use Rattle.scheme.proofs.Bytes.{not_all_zero, zero_so_far, none_nonzero}
use Rattle.octets.proofs.by_bytes.all_zero_by_bytes.Goals as goal

pub returns : goal.returns
returns c =
    let l = c.loop-byte in
    sym (l.invariant ∙ none_nonzero _ l.byte-index (omega (arith, length-take {A = ℕ})))

pub returns-then-byte-ne0 : goal.returns-then-byte-ne0
returns-then-byte-ne0 c =
    let l = c.loop-byte in
    sym (l.invariant ∙ not_all_zero _ l.byte-index (omega (arith, length-take {A = ℕ})) (λ e. omega (arith, e, c.if-byte-ne0.true, length-take {A = ℕ}, get_or-take {A = ℕ})))

pub loop-byte-preserved : goal.loop-byte-preserved
loop-byte-preserved c =
    let l = c.loop-byte in
    l.invariant ∙ zero_so_far _ l.byte-index (omega (arith, length-take {A = ℕ})) (omega (arith, c.if-byte-ne0.false, length-take {A = ℕ}, get_or-take {A = ℕ}))
