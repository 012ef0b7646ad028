-- `compression::others` meets its contract: each call of `two` brings the working variables two rounds further.
use Rattle.std.proofs.Common.{refl}
use Rattle.compression.proofs.others.Goals as goal

pub returns : goal.returns
returns c b s R = c.two-u-24.ensures b s 46 refl (c.two-u-23.ensures b s 44 refl (c.two-u-22.ensures b s 42 refl (c.two-u-21.ensures b s 40 refl (c.two-u-20.ensures b s 38 refl (c.two-u-19.ensures b s 36 refl (c.two-u-18.ensures b s 34 refl (c.two-u-17.ensures b s 32 refl (c.two-u-16.ensures b s 30 refl (c.two-u-15.ensures b s 28 refl (c.two-u-14.ensures b s 26 refl (c.two-u-13.ensures b s 24 refl (c.two-u-12.ensures b s 22 refl (c.two-u-11.ensures b s 20 refl (c.two-u-10.ensures b s 18 refl (c.two-u-9.ensures b s 16 refl (c.two-u-8.ensures b s 14 refl (c.two-u-7.ensures b s 12 refl (c.two-u-6.ensures b s 10 refl (c.two-u-5.ensures b s 8 refl (c.two-u-4.ensures b s 6 refl (c.two-u-3.ensures b s 4 refl (c.two-u-2.ensures b s 2 refl (c.two-u.ensures b s 0 refl R)))))))))))))))))))))))
