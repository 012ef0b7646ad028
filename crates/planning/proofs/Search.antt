-- A search by halves: what is known after a ratchet that does not last. That it rules out all below it is `antitone`.
use mathlib.Core.List.{List}
use Prim.Native.Nat.{ℕ, ◌+◌, ◌≤◌, ◌<◌}
use native.Mathlib.Omega.{arith}
use Rattle.planning.specs.Chunks.{chunks_for}
use Rattle.planning.specs.Ratchet.{Between}
use Rattle.planning.proofs.Sums.{antitone}

pub goes_up : (counts : List ℕ) (chunks low middle high : ℕ) → Between counts chunks low high → low ≤ middle → middle < high
    → chunks < chunks_for counts middle → Between counts chunks (middle + 1) high
goes_up counts chunks low middle high known from to short =
    record {
      some = omega arith;
      order = omega arith;
      most = omega arith;
      below = λ m some most lasts. omega (arith, antitone counts m middle some (omega arith));
      lasts = known.lasts;
    }
