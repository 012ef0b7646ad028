-- Bit by bit, `((x ^ y) & (y ^ z)) ^ y` is the majority: y, unless x and z both differ from it.
use Rattle.compression.proofs.Bits.{maj_form}
use Rattle.compression.proofs.words.maj.Goals as goal

pub returns : goal.returns
returns c = maj_form c.args.x c.args.y c.args.z
