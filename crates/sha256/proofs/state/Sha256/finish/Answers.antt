-- The padding goes behind the bytes that the state holds (`sha256_one`, `sha256_two`): the block has room for it if they are fewer than 56,
-- and else it takes a block more.
use Rattle.std.proofs.Common.{ℕ, ◌%◌, List, set, refl, ap, ◌∙◌, ap₂, arith}
use Rattle.compression.specs.Fips.{digest}
use Rattle.sha256.proofs.Blocks.{over, sha256_one, sha256_two}
use Rattle.sha256.proofs.state.Sha256.finish.Goals as goal

pub returns-then-n-lt56 : goal.returns-then-n-lt56
returns-then-n-lt56 c m h =
    let self = c.args.self in
    let n = self.length % 64 in
    let last = ap (λ (b : List ℕ). over self.words (set b n 128)) c.with_length-end.ensures in
    c.digest.ensures ∙ ap digest (c.blocks-then-n-lt56.ensures ∙ last) ∙ sha256_one m n h refl (omega arith)

pub returns : goal.returns
returns c m h =
    let self = c.args.self in
    let end = c.with_length-end-2.ensures in
    c.digest-2.ensures
    ∙ ap digest (c.blocks-3.ensures ∙ ap₂ over c.blocks-2.ensures end)
    ∙ sha256_two m (self.length % 64) h refl (omega arith)
