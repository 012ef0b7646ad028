-- `packed::calls::close_packed` meets its contract: it packs the answer that `close` gives, whose count is a number of fillers.
use mathlib.Core.Path.{◌∙◌}
use Rattle.packed.proofs.Packing.{closes_count, count_fits, packed_answer}
use Rattle.packed.proofs.calls.close_packed.Goals as goal

pub pack-requires : goal.pack-requires
pack-requires c = count_fits _ _ c.close.ensures.gives (closes_count _ _ _ _)

pub returns : goal.returns
returns c =
    let left = c.close.ensures in
    record {
      code = packed_answer _ _ left.gives c.pack.result c.pack.ensures.0;
      fits = closes_count _ _ _ _;
      state = c.pack.ensures.1 ∙ left.gives.state;
      seal_left = left.seal;
    }
