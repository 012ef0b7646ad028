-- That a device comes back from a cut (FORMAT.md, 7 and 10): after a history that left a chunk half used, a cut, an open with the lengths reached, a
-- restart with the number of that chunk's items and a close go on with it, and what they leave is accepted; without another cut where one left it so.
use Rattle.std.specs.Prelude.{◌≡◌, cond, List, [], ◌∷◌, ◌++◌, ℕ, ◌+◌, ◌-◌, ◌*◌, ◌≤◌, ◌<◌, eqb, length}
use Rattle.scheme.specs.Store.{chunk_count, ratchet}
use Rattle.scheme.specs.Items.{filler_length, restart_length}
use Rattle.claims.specs.Account.{Call, Open, Close, Restart, Cut, Fed, Account, lengths_reached, seal_reached, HalfUsed}
use Rattle.claims.specs.Run.{device_started, run_from, run_answers, History}
use Rattle.claims.specs.Left.{first_left}
use Rattle.claims.specs.Claim.{untouched}
use Rattle.claims.specs.Plan.{first_refusal}

-- how many items the half-used chunk has, cut already or not
abbrev pub half_count : Account → ℕ
half_count a = cond (eqb a.r.0 0) a.waiting a.r.0

abbrev pub back : Account → List Call
back a = Open (lengths_reached a) (seal_reached a) ∷ Restart (half_count a) ∷ Close ∷ []

-- what it takes: a chunk is half used, one is left, and the seal memory has room for the restart and a filler under each other key of that
pub record MayComeBack (f : Fed) (a : Account) : Type 0 where
  pub half : HalfUsed a
  pub chunk : first_left f a < chunk_count f.store
  pub room : seal_reached a + restart_length f.store + (ratchet f.store - 1) * filler_length f.store ≤ length f.seal

-- none of it is refused, all of it is a history, and untouched material is then accepted, with the items of before and those of one chunk more
pub record BackWith (f : Fed) (calls : List Call) (a : Account) (more : List Call) : Type 0 where
  pub unrefused : first_refusal (run_answers (run_from (device_started f) calls) more) ≡ 0
  pub history : History f (calls ++ more)
  pub accepted : untouched f (calls ++ more) ≡ record { refusal = 0; number = length a.items + ratchet f.store }

-- after a cut, and where one left the chunk so after none
pub record ComesBack (f : Fed) (calls : List Call) (a : Account) : Type 0 where
  pub cut : BackWith f calls a (Cut ∷ back a)
  pub waiting : 0 < a.waiting → BackWith f calls a (back a)
