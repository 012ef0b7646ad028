-- `octets::by_bytes::all_zero_by_bytes` meets its contract. The loop's invariant: all bytes are zero exactly if those from this one on are.
use Rattle.std.proofs.Common.{◌≡◌, drop}
use Rattle.scheme.specs.Bytes.{all_zero}
use Rattle.octets.proofs.by_bytes.all_zero_by_bytes.Given as goal

abbrev pub invariant-loop-byte : goal.invariant-loop-byte
invariant-loop-byte l = all_zero l.bytes ≡ all_zero (drop l.byte-index l.bytes)
