-- Demand 3, whole: the claim holds of every history; and what the audit says half way through a chunk.
use mathlib.Core.Path.{◌≡◌, ap, ◌∙◌}
use mathlib.Core.List.{List}
use native.Mathlib.Omega.{arith}
use lib.ListN.{take}
use Rattle.scheme.specs.Audit.{Said, audit}
use Rattle.scheme.proofs.Splice.{splice_inside}
use Rattle.scheme.proofs.Acceptance.Walk.{accepts_with}
use Rattle.claims.specs.Account.{Call, Fed, Account, started, account_from, lengths_reached, seal_reached}
use Rattle.claims.specs.Run.{History}
use Rattle.claims.specs.Left.{store_left, logs_left, seal_file, seal_left}
use Rattle.claims.specs.Claim.{Starts, Kept, Claim, HalfWay, untouched}
use Rattle.claims.proofs.Good.{Laid}
use Rattle.claims.proofs.Histories.{good, kept}
use Rattle.claims.proofs.Compromise.{compromise, beyond}
use Rattle.claims.proofs.Honest.{honest, half_way as left_half_way}

-- the seal file is the front of the seal memory
file_front : (f : Fed) (a : Account) → Laid f a → take (seal_reached a) (seal_left f a) ≡ seal_file a
file_front f a laid = splice_inside f.seal 0 (seal_file a) (omega (arith, laid.sealed))

-- what the audit says of untouched material, from what it says of what the account leaves
pub untouched_is : (f : Fed) (calls : List Call) → Kept f calls → Laid f (account_from f (started f) calls) → (said : Said)
    → (let a = account_from f (started f) calls in audit (store_left f a) f.store (logs_left f a) (lengths_reached a) (seal_file a) ≡ said)
    → untouched f calls ≡ said
untouched_is f calls k laid said e = rw (k.store, k.logs, k.seal, file_front f (account_from f (started f) calls) laid) e

pub claim : (f : Fed) → Starts f → (calls : List Call) → History f calls → Claim f calls
claim f starts calls history =
    let a = account_from f (started f) calls in
    let g = good f starts calls history in
    let k = kept f starts calls history in
    record {
      kept = k;
      compromise = compromise f starts a g;
      beyond = beyond f starts a g;
      honest = λ closed. untouched_is f calls k g.laid _ (honest f a starts g closed) ∙ ap accepts_with (omega arith);
    }

pub half_way : (f : Fed) → Starts f → (calls : List Call) → History f calls → HalfWay f calls
half_way f starts calls history some =
    let g = good f starts calls history in
    untouched_is f calls (kept f starts calls history) g.laid _ (left_half_way f (account_from f (started f) calls) starts g some)
