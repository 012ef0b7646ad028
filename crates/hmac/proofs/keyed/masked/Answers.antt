use Rattle.std.proofs.Common.{◌≡◌, ◌<◌, length, arith, rules}
use Rattle.std.specs.Int.Bits.{bit_xor}
use Rattle.hmac.proofs.Keys.{mapped_more}
use Rattle.hmac.proofs.keyed.masked.Goals as goal

pub loop-x-preserved : goal.loop-x-preserved
loop-x-preserved c =
    let size : length c.args.block ≡ 64 = search rules in
    let within : c.loop-x.x-index < length c.args.block = omega arith in
    mapped_more (λ k. bit_xor k c.args.p) c.args.block c.loop-x.x-index within c.loop-x.invariant
