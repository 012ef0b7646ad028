-- `packed::calls::open_packed` meets its contract: it packs the answer that `open` gives, whose count is 0.
use mathlib.Core.Path.{◌∙◌}
use Rattle.packed.proofs.Packing.{opens_count, count_fits, packed_answer}
use Rattle.packed.proofs.calls.open_packed.Goals as goal

pub pack-requires : goal.pack-requires
pack-requires c = count_fits _ _ c.open.ensures (opens_count _ _ _ _ _)

pub returns : goal.returns
returns c =
    let left = c.open.ensures in
    record {
      code = packed_answer _ _ left c.pack.result c.pack.ensures.0;
      fits = opens_count _ _ _ _ _;
      state = c.pack.ensures.1 ∙ left.state;
    }
