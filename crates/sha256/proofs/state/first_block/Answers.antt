-- Written over a block of zeros, the part's first 64 bytes stand before what is left of the zeros.
use Rattle.std.proofs.Common.{◌≡◌, ℕ, ◌-◌, List, [], ◌++◌, length, take, replicate, sym, ap, ◌∙◌, arith, length-take-le, take_all}
use Rattle.sha256.proofs.Blocks.{put_filled}
use Rattle.sha256.proofs.state.first_block.Goals as goal

pub slice_bounds-put-end : goal.slice_bounds-put-end
slice_bounds-put-end c = sym (length-take-le 64 c.args.part.now (omega arith))

pub put-requires : goal.put-requires
put-requires c =
    let part = c.args.part.now in
    omega (arith, length-take-le 64 part (omega arith))

pub returns-then-part-gt64 : goal.returns-then-part-gt64
returns-then-part-gt64 c =
    let part = c.args.part.now in
    let size : length (take 64 part) ≡ 64 = length-take-le 64 part (omega arith) in
    let left : 64 - length (take 64 part) ≡ 64 - length part = omega arith in
    c.put.ensures ∙ put_filled [] (take 64 part) (omega arith) ∙ ap (λ (k : ℕ). take 64 part ++ replicate k 0) left

pub returns : goal.returns
returns c =
    let part = c.args.part.now in
    c.put-2.ensures ∙ put_filled [] part (omega arith) ∙ ap (λ (l : List ℕ). l ++ replicate (64 - length part) 0) (sym (take_all 64 part (omega arith)))
