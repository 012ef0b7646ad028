-- That the claim leaves out no store: one written with any set of parameters in kind 6, or in kind 1, which has the set 32, 512, 8,192, begins
-- histories where none of its chunks is all zeros.
use Rattle.std.specs.Prelude.{◌≡◌, List, ℕ, ◌*◌, ◌<◌, length, replicate}
use Rattle.scheme.specs.Bytes.{part}
use Rattle.scheme.specs.Acceptable.{GoodSet}
use Rattle.scheme.specs.Written.{common_store, own_set_store, MayBeWritten}
use Rattle.claims.specs.Claim.{Starts}

-- none of so many chunks is all zeros
abbrev pub NoneZero : ℕ → List ℕ → Type 0
NoneZero c chunks = (x : ℕ) → x < c → part chunks (32 * x) 32 ≡ replicate 32 0 → ⊥

abbrev pub EveryStart : Type 0
EveryStart = (id : List ℕ) (p c n tag limit capacity : ℕ) (chunks logs seal : List ℕ) → MayBeWritten id p c n chunks → GoodSet tag limit capacity
    → NoneZero c chunks → length logs ≡ capacity * p
    → Starts (record { store = own_set_store id p c n tag limit capacity chunks; logs = logs; seal = seal })

abbrev pub CommonStart : Type 0
CommonStart = (id : List ℕ) (p c n : ℕ) (chunks logs seal : List ℕ) → MayBeWritten id p c n chunks → NoneZero c chunks → length logs ≡ 8192 * p
    → Starts (record { store = common_store id p c n chunks; logs = logs; seal = seal })
