-- The part leaves the block open (`held`), or it starts at a block's start, or its front fills the block, which is hashed, and the rest of
-- the part starts at a block's start.
use Rattle.std.proofs.Common.{refl, ap, ◌∙◌, arith}
use Rattle.sha256.proofs.Blocks.{held_same, held_whole, length_rest, over, stands_count, stands_full, stands_place}
use Rattle.sha256.proofs.state.Sha256.update.Goals as goal

pub returns-then-n-eq0 : goal.returns-then-n-eq0
returns-then-n-eq0 c m h =
    let a = c.args in
    let part = a.part.now in
    held_whole m part (omega (arith, stands_place m h, length_rest m))
    (held_same c.whole.ensures h.words (stands_count m h part))

pub returns : goal.returns
returns c m h =
    let a = c.args in
    let part = a.part.now in
    let count = stands_count m h part in
    let full = c.blocks-2.ensures ∙ ap (over a.self.words) c.put-full.ensures in
    stands_full m h part (omega arith) full (held_same c.whole-2.ensures refl count)
