-- The least ratchet that lasts, and what the call answers and promises by it.
use Rattle.std.specs.Prelude.{◌≡◌, Bool, false, cond, if◌then◌else◌, List, ℕ, zero, suc, ◌≤◌, ◌<◌, ◌==◌, eqb, leb, Option, Some, None, is_none, unwrap_or, Result, Ok, Err}
use Rattle.scheme.specs.Rules.{refusal_by}
use Rattle.scheme.specs.Answers.{refusal_number}
use Rattle.scheme.specs.declared.Refusal.{Refusal}
use Rattle.scheme.specs.declared.Refusal.TheVariants.{BadPlan}
use Rattle.planning.specs.Chunks.{chunks_for, Lasts, bad_plan, plan_rules}

-- of k ratchets from n on, the first with which so many chunks last, 0 where none does
unfoldable pub first_lasting : List ℕ → ℕ → ℕ → ℕ → ℕ
first_lasting counts chunks zero n = 0
first_lasting counts chunks (suc k) n = let more = first_lasting counts chunks k (suc n) in cond (leb (chunks_for counts n) chunks) n more

-- the least ratchet from 1 to 256 that lasts, 0 where none does (`least`, `nothing`)
abbrev pub least_ratchet : List ℕ → ℕ → ℕ
least_ratchet counts chunks = first_lasting counts chunks 256 1

-- the number that is said of a plan: the least ratchet, 0 where none lasts or the plan is refused; and whether it is said that none does
abbrev pub plan_number : List ℕ → ℕ → ℕ
plan_number counts chunks = cond (bad_plan counts chunks) 0 (least_ratchet counts chunks)

abbrev pub plan_none : List ℕ → ℕ → Bool
plan_none counts chunks = cond (bad_plan counts chunks) false (eqb (least_ratchet counts chunks) 0)

-- of the ratchets from 1 to 256, n lasts and nothing smaller does
pub record IsLeast (counts : List ℕ) (chunks n : ℕ) : Type 0 where
  pub low : 1 ≤ n
  pub high : n ≤ 256
  pub lasts : Lasts counts chunks n
  pub least : (m : ℕ) → 1 ≤ m → m < n → Lasts counts chunks m → ⊥

-- or nothing does
abbrev pub NothingLasts : List ℕ → ℕ → Type 0
NothingLasts counts chunks = (m : ℕ) → 1 ≤ m → m ≤ 256 → Lasts counts chunks m → ⊥

-- what is answered to a plan: the least ratchet, `None` where none lasts, or that the plan is refused
abbrev pub planned : List ℕ → ℕ → Result (Option ℕ) Refusal
planned counts chunks =
    let n = least_ratchet counts chunks in
    if bad_plan counts chunks then Err BadPlan else Ok (if n == 0 then None else Some n)

-- the refusal of an answer, 0 with none; its number, the ratchet, 0 where none lasts or the plan is refused; and whether it says that none lasts
abbrev pub ratchet_refusal : Result (Option ℕ) Refusal → ℕ
ratchet_refusal (Ok ratchet) = 0
ratchet_refusal (Err refusal) = refusal_number refusal

abbrev pub ratchet_number : Result (Option ℕ) Refusal → ℕ
ratchet_number (Ok ratchet) = unwrap_or ratchet 0
ratchet_number (Err refusal) = 0

abbrev pub ratchet_none : Result (Option ℕ) Refusal → Bool
ratchet_none (Ok ratchet) = is_none ratchet
ratchet_none (Err refusal) = false

-- what `least_ratchet` promises by what it answers (`promised`)
pub record Planned (counts : List ℕ) (chunks : ℕ) (r : Result (Option ℕ) Refusal) : Type 0 where
  pub refusal : ratchet_refusal r ≡ refusal_by (plan_rules counts chunks)
  pub number : ratchet_number r ≡ plan_number counts chunks
  pub none : ratchet_none r ≡ plan_none counts chunks

-- what the search knows: nothing below low lasts, and high does where it is a ratchet
pub record Between (counts : List ℕ) (chunks low high : ℕ) : Type 0 where
  pub some : 1 ≤ low
  pub order : low ≤ high
  pub most : high ≤ 257
  pub below : (m : ℕ) → 1 ≤ m → m < low → Lasts counts chunks m → ⊥
  pub lasts : high ≤ 256 → Lasts counts chunks high
