-- Bit by bit, `z ^ (x & (y ^ z))` is y where x is one and z where x is zero, as Ch is.
use Rattle.compression.proofs.Bits.{ch_form}
use Rattle.compression.proofs.words.ch.Goals as goal

pub returns : goal.returns
returns c = ch_form c.args.x c.args.y c.args.z c.ranges.x.fits c.ranges.z.fits
