-- `hmac::keyed::Hmac::update` meets its contract: the part goes behind the inner state's message, and the outer state stays.
use mathlib.Core.List.{append_assoc}
use Rattle.hmac.proofs.keyed.Hmac.update.Goals as goal

pub returns : goal.returns
returns c key m k = record { inner = rw append_assoc at (c.update.ensures _ k.inner); outer = k.outer }
