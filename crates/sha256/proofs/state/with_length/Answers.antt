-- The last 8 bytes of the block become those of the length in bits, which are the same modulo 2 ^ 64.
use Rattle.std.proofs.Common.{◌*◌, refl, ◌∙◌, arith}
use Rattle.std.proofs.lemmas.Slice.{put_mid-paste}
use Rattle.compression.specs.Fips.{big_endian}
use Rattle.sha256.proofs.Blocks.{be_bytes, bytes_mod}
use Rattle.sha256.proofs.state.with_length.Goals as goal

pub returns : goal.returns
returns c =
    let bits = 8 * c.args.count in
    let bytes = c.copy_from_slice.ensures.after ∙ c.to_be_bytes.ensures ∙ be_bytes 8 _ ∙ bytes_mod 8 _ bits (omega arith) in
    put_mid-paste 56 8 c.args.block _ (big_endian 8 bits) 8 bytes refl refl
