-- An item of one store in material accepted for another (FORMAT.md, 10): the controller's item k stands as item j in material accepted for a
-- store equal to the controller's but for the id. Then its tag is that of two different messages; and it is item k there too, where no restart stands
-- up to it in either.
use Rattle.std.specs.Prelude.{◌≡◌, List, [], ℕ, suc, ◌<◌, length, get_or}
use Rattle.scheme.specs.Items.{pieces}
use Rattle.scheme.specs.Audit.{audit}
use Rattle.scheme.specs.Acceptable.{NoRestart}
use Rattle.scheme.specs.Standby.{ButIds, OneTag}
use Rattle.claims.specs.Account.{Call, Fed, started, account_from}
use Rattle.claims.specs.Left.{logs_left}

abbrev pub Standby : Fed → List Call → Type 0
Standby f calls =
    let a = account_from f (started f) calls in
    (other device logs lengths seal : List ℕ) (k j : ℕ) → ButIds f.store other
    → (audit device other logs lengths seal).refusal ≡ 0
    → k < length a.items → j < length (pieces device seal) → get_or (pieces device seal) j [] ≡ get_or a.items k []
    → OneTag f.store other (logs_left f a) logs (get_or a.items k []) × (NoRestart (suc k) a.items → NoRestart (suc j) (pieces device seal) → j ≡ k)
