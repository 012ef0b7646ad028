-- `hmac::keyed::masked` meets its contract. The loop's invariant: the bytes before the index are masked, and the others are as they were.
use Rattle.std.proofs.Common.{◌≡◌}
use Rattle.std.specs.Int.Bits.{bit_xor}
use Rattle.hmac.proofs.Keys.{mapped}
use Rattle.hmac.proofs.keyed.masked.Given as goal

abbrev pub invariant-loop-x : goal.invariant-loop-x
invariant-loop-x l = l.x-items ≡ mapped (λ k. bit_xor k l.p) l.initial.x-items l.x-index
