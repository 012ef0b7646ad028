-- `octets::alike::all_zero_alike` meets its contract: both zero tests say whether the bytes are zero.
use Rattle.std.proofs.Common.{sym, ◌∙◌}
use Rattle.scheme.proofs.Tests.{same_beq}
use Rattle.octets.proofs.alike.all_zero_alike.Goals as goal

pub returns : goal.returns
returns c = rw (c.all_zero.ensures ∙ sym c.all_zero_by_bytes.ensures) (same_beq c.all_zero_by_bytes.result)
