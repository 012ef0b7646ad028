use Rattle.std.proofs.Common.{ℕ, ◌/◌, ◌<◌, List, [], length, get_or, refl, ap, ◌∙◌, arith}
use Rattle.compression.specs.Fips.{K, hashed}
use Rattle.compression.proofs.Hashed.{block_more, chunk_at}
use Rattle.compression.proofs.blocks.Goals as goal

pub loop-b-init : goal.loop-b-init
unfolding hashed
loop-b-init c = refl

pub compress-v-requires : goal.compress-v-requires
unfolding K
compress-v-requires c = refl

pub loop-b-preserved : goal.loop-b-preserved
loop-b-preserved c =
    let chunk = ap (λ (l : List (List ℕ)). get_or l c.loop-b.b-index []) c.as_chunks.ensures.front in
    let within : c.loop-b.b-index < length c.args.part.now / 64 = omega (arith, c.as_chunks.ensures.front_len) in
    block_more _ _ _ _ _ _ c.loop-b.invariant (chunk ∙ chunk_at _ _ c.args.part.now [] within) c.compress-v.ensures
