-- `compression::compress` meets its contract: the first 16 rounds are made on the block's words, the other 48 on the words
-- that follow from them.
use Rattle.std.proofs.Common.{refl}
use Rattle.compression.proofs.Rounds.{rounds_begun, ended}
use Rattle.compression.proofs.compress.Goals as goal

pub returns : goal.returns
returns c =
    let reached = rounds_begun _ _ _ _ c.load-w.ensures c.first.ensures in
    ended _ c.requires refl (c.others-v.ensures _ _ reached) c.added.ensures
