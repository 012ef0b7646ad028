-- What the hash calls answer and leave: the refusal's number, and all 32 bytes lent for the result.
use Rattle.std.specs.Prelude.{◌≡◌, List, ℕ}
use Rattle.compression.specs.Fips.{sha256}
use Rattle.sha256.specs.Call.{within, refusal_if, bytes_if}
use Rattle.hmac.specs.Rfc2104.{tagged}
use Rattle.hmac.specs.Call.{both, both_within, may_be_wanted, refusal_if as tag_refusal_if}

pub record Hashed (message : List ℕ) (r : ℕ) (digest : List ℕ) : Type 0 where
  pub refusal : r ≡ refusal_if (within message)
  pub bytes : digest ≡ bytes_if (within message) (sha256 message)

pub record Tagged (key message : List ℕ) (wanted r : ℕ) (tag : List ℕ) : Type 0 where
  pub refusal : r ≡ tag_refusal_if (both_within key message) (may_be_wanted wanted)
  pub bytes : tag ≡ bytes_if (both (both_within key message) (may_be_wanted wanted)) (tagged key message wanted)
