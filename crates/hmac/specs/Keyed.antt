-- What a keyed state stands for.
use Rattle.std.specs.Prelude.{List, ◌++◌, ℕ}
use Rattle.sha256.specs.State.{Stands}
use Rattle.hmac.specs.Rfc2104.{ipad, opad, masked}
use Rattle.hmac.specs.declared.keyed.Hmac.{Hmac}

-- the state s stands for the message m under the key: both padded blocks are absorbed, and the message after the inner one
pub record Keyed (s : Hmac) (key m : List ℕ) : Type 0 where
  pub inner : Stands s.inner (masked ipad key ++ m)
  pub outer : Stands s.outer (masked opad key)
