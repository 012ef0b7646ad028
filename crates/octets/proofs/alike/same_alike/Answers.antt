-- `octets::alike::same_alike` meets its contract: both comparisons say whether the bytes are the same.
use Rattle.std.proofs.Common.{sym, ◌∙◌}
use Rattle.scheme.proofs.Tests.{same_beq}
use Rattle.octets.proofs.alike.same_alike.Goals as goal

pub returns : goal.returns
returns c = rw (c.same.ensures ∙ sym c.same_by_bytes.ensures) (same_beq c.same_by_bytes.result)
