-- `sha256::state::Sha256::of_block` meets its contract: from the starting words the block is a part that starts at a block's start.
use Rattle.std.proofs.Common.{◌≡◌, length, arith, rules}
use Rattle.compression.specs.Fips.{hashed}
use Rattle.sha256.proofs.Blocks.{held_same}
use Rattle.sha256.proofs.state.Sha256.of_block.Goals as goal

pub returns : goal.returns
unfolding hashed
returns c =
    let size : length c.args.block ≡ 64 = search rules in
    held_same c.whole.ensures c.new-start.ensures.words (omega (arith, size))
