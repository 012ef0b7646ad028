-- `hmac::keyed::tag` meets its contract: the message goes behind the inner block, and its digest behind the outer one; then the output is cut.
use mathlib.Core.Path.{◌∙◌, ap}
use mathlib.Core.List.{List, ◌++◌}
use Prim.Native.Nat.{ℕ}
use native.Mathlib.Omega.{arith}
use Rattle.compression.specs.Fips.{sha256}
use Rattle.hmac.specs.Rfc2104.{ipad, opad, masked, hmac}
use Rattle.hmac.proofs.Keys.{absorbed, masked_length}
use Rattle.hmac.proofs.Cuts.{tagged_by, as_wanted}
use Rattle.hmac.proofs.keyed.tag.Goals as goal

pub returns : goal.returns
unfolding hmac
returns c =
    let ended = c in
    let b = ended in
    let block = b.padded-block in
    let key = b.args.key.now in
    let inner = absorbed ipad key block.result block.ensures b.masked-inner.ensures b.of_block.ensures in
    let outer = absorbed opad key block.result block.ensures ended.masked-outer.ensures ended.of_block-2.ensures in
    let digest = ended.finish-digest.ensures _ (ended.update.ensures _ inner) in
    let output = ended.finish_with.ensures _ outer (masked_length opad key) ∙ ap (λ (d : List ℕ). sha256 (masked opad key ++ d)) digest in
    as_wanted key _ _ _ (tagged_by key _ _ output c.cut.ensures) (omega arith)
