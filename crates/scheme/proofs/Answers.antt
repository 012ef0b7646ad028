-- The number of a refusal is above 0, and small.
use mathlib.Core.Path.{◌≡◌, refl}
use mathlib.Core.Bool.{false}
use Prim.Native.Nat.{◌≤◌}
use native.Mathlib.Omega.{arith}
use borrow.Author.Tests.{ne_eqb}
use lib.Dec.{eqb}
use Rattle.scheme.specs.Rules.{any_true, outside}
use Rattle.scheme.specs.Answers.{refusal_number}
use Rattle.scheme.specs.declared.Refusal.{Refusal}
use Rattle.scheme.specs.declared.Refusal.TheVariants.{TooLong, BadStore, BadLogs, BurnedAfterUnburned, BadLengths, StateUnfit, NoSuchPhase, BadDataLength, LogFull, SealFull, KeysSpent, BadAuditorStore, HeadersDiffer, ChunkDiffers, BadItem, ItemNotDue, WrongPlace, BadArea, AreaShared, AreaBeyond, WrongTag, ItemsMissing, NotCovered, NoSuchByte, BadPlan, BadTagLength, BadRestart}
use Rattle.scheme.proofs.Rules.{in_range}

numbered : (x : Refusal) → outside 1 255 (refusal_number x) ≡ false
unfolding outside any_true
numbered =
    elim [
      | TooLong ↦ refl
      | BadStore ↦ refl
      | BadLogs ↦ refl
      | BurnedAfterUnburned ↦ refl
      | BadLengths ↦ refl
      | StateUnfit ↦ refl
      | NoSuchPhase ↦ refl
      | BadDataLength ↦ refl
      | LogFull ↦ refl
      | SealFull ↦ refl
      | KeysSpent ↦ refl
      | BadAuditorStore ↦ refl
      | HeadersDiffer ↦ refl
      | ChunkDiffers ↦ refl
      | BadItem ↦ refl
      | ItemNotDue ↦ refl
      | WrongPlace ↦ refl
      | BadArea ↦ refl
      | AreaShared ↦ refl
      | AreaBeyond ↦ refl
      | WrongTag ↦ refl
      | ItemsMissing ↦ refl
      | NotCovered ↦ refl
      | NoSuchByte ↦ refl
      | BadPlan ↦ refl
      | BadTagLength ↦ refl
      | BadRestart ↦ refl
    ]

pub number_bounds : (x : Refusal) → (1 ≤ refusal_number x) × (refusal_number x ≤ 255)
number_bounds x = (in_range 1 255 (refusal_number x)).0 (numbered x)

pub never_zero : (x : Refusal) → eqb (refusal_number x) 0 ≡ false
never_zero x = ne_eqb (refusal_number x) 0 (λ e. omega (arith, number_bounds x))
