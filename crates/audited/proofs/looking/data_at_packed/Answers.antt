-- `audited::looking::data_at_packed` meets its contract: the lengths read of the bytes lead to the same place as those that the definition
-- lists, and its two numbers are small.
use mathlib.Core.Path.{sym, ap, ap₂, subst, ◌∙◌}
use Prim.Native.Nat.{◌+◌, ◌≤◌}
use native.Mathlib.Omega.{arith}
use Rattle.seeking.specs.Lookup.{data_place}
use Rattle.seeking.specs.declared.Place.{Place}
use Rattle.lookup.proofs.Exactly.{place_small}
use Rattle.scheme.specs.Sizes.{most_logged}
use Rattle.packed.specs.Surface.{packed}
use Rattle.audited.proofs.Listing.{same_place}
use Rattle.audited.proofs.looking.data_at_packed.Goals as goal

pub code-requires : goal.code-requires
code-requires c =
    let small : c.data_place-place.result.begin + c.data_place-place.result.size ≤ most_logged = subst (λ (x : Place). x.begin + x.size ≤ most_logged) (sym c.data_place-place.ensures) (place_small _ _ _ _ _ _ _) in
    (omega (arith, small), omega (arith, small))

pub returns : goal.returns
returns c =
    let small : c.data_place-place.result.begin + c.data_place-place.result.size ≤ most_logged = subst (λ (x : Place). x.begin + x.size ≤ most_logged) (sym c.data_place-place.ensures) (place_small _ _ _ _ _ _ _) in
    let a = c.args in
    let device = a.device.now in
    let auditor = a.auditor.now in
    let logs = a.logs.now in
    let seal = a.seal.now in
    let same =
    c.data_place-place.ensures ∙
    ap (λ lengths. data_place device auditor logs lengths seal a.phase a.offset) (c.as_slice.ensures ∙ c.of-lengths.ensures.read) ∙
    same_place device auditor logs a.bytes.now seal a.phase a.offset _ c.of-lengths.ensures.counted in
    let sized = ap (λ (x : Place). x.size) same in
    record {
      answer = c.code.ensures ∙ ap₂ packed (ap (λ (x : Place). x.begin) same) sized;
      fits = subst (λ (x : Place). x.begin + x.size ≤ most_logged) same small;
    }
