-- `packed::calls::restart_packed` meets its contract: it packs the answer that `restart` gives, whose count is a key's number.
use mathlib.Core.Path.{◌∙◌}
use Rattle.packed.proofs.Packing.{restarts_count, count_fits, packed_answer}
use Rattle.packed.proofs.calls.restart_packed.Goals as goal

pub pack-requires : goal.pack-requires
pack-requires c = count_fits _ _ c.restart.ensures.gives (restarts_count _ _ _ _ _)

pub returns : goal.returns
returns c =
    let left = c.restart.ensures in
    record {
      code = packed_answer _ _ left.gives c.pack.result c.pack.ensures.0;
      fits = restarts_count _ _ _ _ _;
      state = c.pack.ensures.1 ∙ left.gives.state;
      store_left = left.store;
      seal_left = left.seal;
    }
