-- `compression::first` meets its contract: each call of `pair` brings the working variables two rounds further.
use Rattle.std.proofs.Common.{refl}
use Rattle.compression.specs.Fips.{rounds}
use Rattle.compression.proofs.first.Goals as goal

pub returns : goal.returns
unfolding rounds
returns c =
    let s = c.args.s in
    let two = c.pair-v.ensures s refl in
    let four = c.pair-v-2.ensures s two in
    let six = c.pair-v-3.ensures s four in
    let eight = c.pair-v-4.ensures s six in
    let ten = c.pair-v-5.ensures s eight in
    let twelve = c.pair-v-6.ensures s ten in
    let fourteen = c.pair-v-7.ensures s twelve in
    c.pair-v-8.ensures s fourteen
