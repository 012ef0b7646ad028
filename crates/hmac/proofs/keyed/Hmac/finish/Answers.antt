-- `hmac::keyed::Hmac::finish` meets its contract: the inner digest goes behind the outer block, and the output is cut.
use mathlib.Core.Path.{◌∙◌, ap}
use mathlib.Core.List.{List, ◌++◌}
use Prim.Native.Nat.{ℕ}
use native.Mathlib.Omega.{arith}
use Rattle.compression.specs.Fips.{sha256}
use Rattle.hmac.specs.Rfc2104.{opad, masked, hmac}
use Rattle.hmac.proofs.Keys.{masked_length}
use Rattle.hmac.proofs.Cuts.{tagged_by, as_wanted}
use Rattle.hmac.proofs.keyed.Hmac.finish.Goals as goal

pub returns : goal.returns
unfolding hmac
returns c key m k =
    let ended = c in
    let output =
    ended.finish_with.ensures _ k.outer (masked_length opad key) ∙
    ap (λ (d : List ℕ). sha256 (masked opad key ++ d)) (ended.finish-digest.ensures _ k.inner) in
    as_wanted key m _ _ (tagged_by key m _ output c.cut.ensures) (omega arith)
