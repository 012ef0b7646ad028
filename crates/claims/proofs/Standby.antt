-- An item of the controller's that is accepted for a store equal to the controller's but for the id has one tag for two messages.
use mathlib.Core.Path.{◌≡◌, sym, ap, ◌∙◌}
use mathlib.Core.List.{List, []}
use Prim.Native.Nat.{ℕ, suc, ◌<◌}
use native.Mathlib.Omega.{arith}
use lib.ListN.{length, get_or}
use Rattle.scheme.specs.Store.{ratchet}
use Rattle.scheme.specs.Items.{chunk_of, offset_of, pieces}
use Rattle.scheme.specs.Due.{own_place}
use Rattle.scheme.specs.declared.KeyPlace.{KeyPlace}
use Rattle.scheme.specs.Audit.{audit}
use Rattle.scheme.specs.Acceptable.{Acceptable, NoRestart}
use Rattle.scheme.specs.Standby.{ButIds, OneTag}
use Rattle.scheme.proofs.Headers.{same_fields}
use Rattle.scheme.proofs.Places.{one_number}
use Rattle.scheme.proofs.Due.{own_numbered}
use Rattle.scheme.proofs.Acceptance.{accepts, acceptable_pieces}
use Rattle.scheme.proofs.Standby.{same_ratchet, accepted_twice}
use Rattle.claims.specs.Account.{Call, Fed, Account, started, account_from}
use Rattle.claims.specs.Run.{History}
use Rattle.claims.specs.Left.{logs_left}
use Rattle.claims.specs.Claim.{own_item, Starts}
use Rattle.claims.specs.Standby.{Standby}
use Rattle.claims.proofs.Good.{Good}
use Rattle.claims.proofs.Histories.{good}
use Rattle.claims.proofs.Steps.Begun.{begun}

module _ (f : Fed) (starts : Starts f) (a : Account) (g : Good f a) (other device logs lengths seal : List ℕ) (n : ℕ)
    (ok : Acceptable device other logs lengths seal n) (but : ButIds f.store other) (k j : ℕ) (below : k < length a.items) (inside : j < length (pieces device seal))
    (here : get_or (pieces device seal) j [] ≡ own_item a k) where
  cut_so : pieces device seal ≡ ok.items
  cut_so = acceptable_pieces device other logs lengths seal n ok

  there : get_or ok.items j [] ≡ own_item a k
  there = ap (λ (l : List (List ℕ)). get_or l j []) (sym cut_so) ∙ here

  counted : j < n
  counted = omega (arith, inside, ap length cut_so, ok.count)

  same_keys : ratchet device ≡ ratchet f.store
  same_keys = (same_fields device other ok.headers).ratchet ∙ sym (same_ratchet f.store other but)

  one_place : NoRestart (suc k) a.items → NoRestart (suc j) (pieces device seal) → j ≡ k
  one_place plain plain' =
      let n = ratchet f.store in
      let mine : own_place (own_item a k) ≡ record { chunk = chunk_of n k; offset = offset_of n k }
      = own_numbered n (begun f starts).store.ratchet_low a.items (suc k) below (λ i h. g.stands i (omega (arith, below))) plain k (omega arith) in
      let theirs : own_place (own_item a k) ≡ record { chunk = chunk_of n j; offset = offset_of n j }
      = rw there at (own_numbered n (begun f starts).store.ratchet_low ok.items (suc j) (omega (arith, counted, ok.count))
      (λ i h. rw same_keys at (ok.place i (omega (arith, counted)))) (rw cut_so at plain') j (omega arith)) in
      one_number n j k
      (ap (λ (p : KeyPlace). p.chunk) (sym theirs ∙ mine))
      (ap (λ (p : KeyPlace). p.offset) (sym theirs ∙ mine))

  one_tag : OneTag f.store other (logs_left f a) logs (own_item a k)
  one_tag =
      let it = g.laid.items k below in
      accepted_twice f.store other (logs_left f a) (own_item a k) device logs lengths seal n j (begun f starts).store but
      it.tag ok counted there

pub standby : (f : Fed) → Starts f → (calls : List Call) → History f calls → Standby f calls
standby f starts calls history other device logs lengths seal k j but accepted below inside here =
    let n = (audit device other logs lengths seal).number in
    let ok = accepts device other logs lengths seal n (ap (λ (r : ℕ). record { refusal = r; number = n }) accepted) in
    let a = account_from f (started f) calls in
    let g = good f starts calls history in
    (one_tag f starts a g other device logs lengths seal n ok but k j below inside here, one_place f starts a g other device logs lengths seal n ok but k j below inside here)
