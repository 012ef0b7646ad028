-- The part goes behind the bytes that the state holds (`held_append`), and leaves the block open.
use Rattle.std.proofs.Common.{◌++◌, ◌∙◌, arith, length-append}
use Rattle.sha256.proofs.Blocks.{held_append, held_short, rest, stands_count, stands_place, stands_put}
use Rattle.sha256.proofs.state.Sha256.held.Goals as goal

pub returns : goal.returns
returns c m h =
    let a = c.args in
    let part = a.part.now in
    held_append m part
    (held_short (rest m ++ part) (omega (arith, length-append (rest m) part, stands_place m h)) h.words
    (c.put.ensures ∙ stands_put m h part (omega arith))
    (stands_count m h part))
