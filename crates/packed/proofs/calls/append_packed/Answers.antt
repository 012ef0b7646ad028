-- `packed::calls::append_packed` meets its contract: it packs the answer that `append` gives, whose count is an item's number.
use mathlib.Core.Path.{◌∙◌}
use Rattle.packed.proofs.Packing.{appends_count, count_fits, packed_answer}
use Rattle.packed.proofs.calls.append_packed.Goals as goal

pub pack-requires : goal.pack-requires
pack-requires c = count_fits _ _ c.append.ensures.gives (appends_count _ _ _ _ _ _)

pub returns : goal.returns
returns c =
    let left = c.append.ensures in
    record {
      code = packed_answer _ _ left.gives c.pack.result c.pack.ensures.0;
      fits = appends_count _ _ _ _ _ _;
      state = c.pack.ensures.1 ∙ left.gives.state;
      store_left = left.store;
      logs_left = left.logs;
      seal_left = left.seal;
    }
