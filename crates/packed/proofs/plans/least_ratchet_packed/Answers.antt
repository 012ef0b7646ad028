-- `packed::plans::least_ratchet_packed` meets its contract: its word is that of the answer, which is `promised`.
use Rattle.std.proofs.Common.{arith}
use Rattle.planning.proofs.Plans.{promised}
use Rattle.packed.proofs.plans.least_ratchet_packed.Goals as goal

pub returns : goal.returns
returns c =
    let said = promised c.args.counts.now c.args.chunks in
    omega (arith, rw c.least_ratchet.ensures at c.ratchet_code.ensures, said.refusal, said.number)
