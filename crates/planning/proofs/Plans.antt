-- A plan that is not refused is within its limits (`limits`). The ratchet said is the least that lasts (`least`), none is said to last just where
-- nothing does (`nothing`), an empty list needs 1 (`empty_needs_one`), and a plan has one answer (`one_answer`).
use Rattle.std.proofs.Common.{◌≡◌, refl, sym, ap, ◌∙◌, Bool, true, false, cond, if◌then◌else◌, ◌⊎◌, inl, inr, ◌↔◌, List, [], ◌∷◌, ℕ, zero, suc, ◌+◌, ◌≤◌, ◌<◌, ◌==◌, arith, length, get_or, Option, Some, None, Result, Ok, Err}
use mathlib.Core.Bool.{true≢false, false≢true}
use mathlib.Core.Logic.{by_cases}
use native.Mathlib.Decide.{dec_lt}
use lib.Dec.{ltb, eqb}
use borrow.Author.Tests.{ltb-false, eq-eqb, ne_eqb, le-leb, lt-leb}
use Rattle.scheme.specs.Rules.{◌⇒◌, outside, some_from, refusal_by}
use Rattle.scheme.specs.Store.{any_over}
use Rattle.scheme.specs.Answers.{refusal_number}
use Rattle.scheme.specs.declared.Refusal.{Refusal}
use Rattle.scheme.specs.declared.Refusal.TheVariants.{TooLong, BadStore, BadLogs, BurnedAfterUnburned, BadLengths, StateUnfit, NoSuchPhase, BadDataLength, LogFull, SealFull, KeysSpent, BadAuditorStore, HeadersDiffer, ChunkDiffers, BadItem, ItemNotDue, WrongPlace, BadArea, AreaShared, AreaBeyond, WrongTag, ItemsMissing, NotCovered, NoSuchByte, BadPlan, BadTagLength, BadRestart}
use Rattle.scheme.proofs.Answers.{number_bounds}
use Rattle.scheme.proofs.Rules.{none_true, in_range, passed}
use Rattle.scheme.proofs.Scans.{none_over}
use Rattle.planning.specs.Chunks.{chunks_for, Lasts, bad_plan, plan_rules}
use Rattle.planning.specs.Ratchet.{first_lasting, least_ratchet, planned, ratchet_refusal, ratchet_number, ratchet_none, IsLeast, NothingLasts, Planned, Between}

-- what is known of a plan that is not refused
pub record Limits (counts : List ℕ) (chunks : ℕ) : Type 0 where
  pub few : length counts ≤ 64
  pub small : (i : ℕ) → get_or counts i 0 ≤ 65536
  pub some : 1 ≤ chunks
  pub most : chunks ≤ 1024

pub limits : (counts : List ℕ) (chunks : ℕ) → bad_plan counts chunks ≡ false → Limits counts chunks
unfolding bad_plan
limits counts chunks fits =
    let tests = (none_true (ltb 64 (length counts) ∷ any_over 65536 counts ∷ outside 1 1024 chunks ∷ [])).0 fits in
    let range = (in_range 1 1024 chunks).0 tests.1.1.0 in
    record { few = ltb-false 64 (length counts) tests.0; small = none_over 65536 counts tests.1.0; some = range.0; most = range.1 }

module _ (counts : List ℕ) (chunks : ℕ) where
  -- where j of the ratchets from n on lasts, m is one of them that lasts, and not behind it
  record Reached (n j m : ℕ) : Type 0 where
    from : n ≤ m
    to : m ≤ j
    holds : Lasts counts chunks m

  reached : (k n j : ℕ) → n ≤ j → j < n + k → Lasts counts chunks j → Reached n j (first_lasting counts chunks k n)
  unfolding first_lasting
  reached zero n j low high lasts = absurd (omega arith)
  reached (suc k) n j low high lasts =
      by_cases (dec_lt chunks (chunks_for counts n))
      (λ short.
      let other : j ≡ n → ⊥ = (λ same. omega (arith, ap (chunks_for counts) same)) in
      let later = reached k (suc n) j (by_cases (dec_lt n j) (λ past. past) (λ none. absurd (other (omega arith)))) (omega arith) lasts in
      rw (lt-leb (chunks_for counts n) chunks short) (record { from = omega (arith, later.from); to = later.to; holds = later.holds }))
      (λ enough. rw (le-leb (chunks_for counts n) chunks (omega arith)) (record { from = omega arith; to = low; holds = omega arith }))

  -- what is said of k ratchets from n on is 0, or one of them that lasts
  abbrev Said : ℕ → ℕ → ℕ → Type 0
  Said k n m = (m ≡ 0) ⊎ ((n ≤ m) × (m < n + k) × Lasts counts chunks m)

  said : (k n : ℕ) → Said k n (first_lasting counts chunks k n)
  unfolding first_lasting
  said zero n = inl refl
  said (suc k) n =
      by_cases (dec_lt chunks (chunks_for counts n)) (λ short. rw (lt-leb (chunks_for counts n) chunks short) (later (said k (suc n))))
      (λ enough. rw (le-leb (chunks_for counts n) chunks (omega arith)) (inr (omega arith, omega arith, omega arith)))
    where
      later : {m : ℕ} → Said k (suc n) m → Said (suc k) n m
      later (inl none) = inl none
      later (inr (from, to, holds)) = inr (omega arith, omega arith, holds)

  -- so of those from 1 to 256
  first : (j : ℕ) → 1 ≤ j → j ≤ 256 → Lasts counts chunks j → Reached 1 j (least_ratchet counts chunks)
  first j low high lasts = reached _ 1 j low (omega arith) lasts

  pub least : (n : ℕ) → 0 < n → (least_ratchet counts chunks ≡ n) ↔ IsLeast counts chunks n
  least n some = ((λ is. there is (said _ 1)), back)
    where
      there : least_ratchet counts chunks ≡ n → Said 256 1 (least_ratchet counts chunks) → IsLeast counts chunks n
      there is (inl none) = absurd (omega arith)
      there is (inr (low, high, lasts)) =
          record {
            low = some;
            high = omega arith;
            lasts = omega (arith, ap (chunks_for counts) is);
            least = λ j from less holds. omega (arith, (first j from (omega arith) holds).to);
          }

      back : IsLeast counts chunks n → least_ratchet counts chunks ≡ n
      back it =
          let found = first n it.low it.high it.lasts in
          by_cases (dec_lt (least_ratchet counts chunks) n) (λ less. absurd (it.least _ found.from less found.holds)) (λ other. omega (arith, found.to))

  pub nothing : (least_ratchet counts chunks ≡ 0) ↔ NothingLasts counts chunks
  nothing = ((λ none j low high lasts. omega (arith, (first j low high lasts).from)), (λ never. back never (said _ 1)))
    where
      back : NothingLasts counts chunks → Said 256 1 (least_ratchet counts chunks) → least_ratchet counts chunks ≡ 0
      back never (inl none) = none
      back never (inr (low, high, lasts)) = absurd (never (least_ratchet counts chunks) low (omega arith) lasts)

-- what the search gives is the answer
module _ (counts : List ℕ) (chunks : ℕ) (fits : bad_plan counts chunks ≡ false) (n : ℕ) (found : Between counts chunks n n) where
  pub none_lasts : 256 < n → Ok None ≡ planned counts chunks
  none_lasts past =
      let zeroth : least_ratchet counts chunks ≡ 0 = (nothing counts chunks).1 (λ m low high. found.below m low (omega arith)) in
      rw (fits, eq-eqb (least_ratchet counts chunks) 0 zeroth) refl

  pub least_lasts : n ≤ 256 → (m : ℕ) → m ≡ n → Ok (Some m) ≡ planned counts chunks
  least_lasts high m same =
      let is : least_ratchet counts chunks ≡ n
      = (least counts chunks n found.some).1 record { low = found.some; high = high; lasts = found.lasts high; least = found.below } in
      rw (fits, is, ne_eqb n 0 (λ z. omega (arith, found.some)), same) refl

-- 25 is the number of one refusal alone
number_25 : (x : Refusal) → refusal_number x ≡ 25 → x ≡ BadPlan
number_25 =
    elim [
      | TooLong ↦ (λ same. absurd (omega arith))
      | BadStore ↦ (λ same. absurd (omega arith))
      | BadLogs ↦ (λ same. absurd (omega arith))
      | BurnedAfterUnburned ↦ (λ same. absurd (omega arith))
      | BadLengths ↦ (λ same. absurd (omega arith))
      | StateUnfit ↦ (λ same. absurd (omega arith))
      | NoSuchPhase ↦ (λ same. absurd (omega arith))
      | BadDataLength ↦ (λ same. absurd (omega arith))
      | LogFull ↦ (λ same. absurd (omega arith))
      | SealFull ↦ (λ same. absurd (omega arith))
      | KeysSpent ↦ (λ same. absurd (omega arith))
      | BadAuditorStore ↦ (λ same. absurd (omega arith))
      | HeadersDiffer ↦ (λ same. absurd (omega arith))
      | ChunkDiffers ↦ (λ same. absurd (omega arith))
      | BadItem ↦ (λ same. absurd (omega arith))
      | ItemNotDue ↦ (λ same. absurd (omega arith))
      | WrongPlace ↦ (λ same. absurd (omega arith))
      | BadArea ↦ (λ same. absurd (omega arith))
      | AreaShared ↦ (λ same. absurd (omega arith))
      | AreaBeyond ↦ (λ same. absurd (omega arith))
      | WrongTag ↦ (λ same. absurd (omega arith))
      | ItemsMissing ↦ (λ same. absurd (omega arith))
      | NotCovered ↦ (λ same. absurd (omega arith))
      | NoSuchByte ↦ (λ same. absurd (omega arith))
      | BadPlan ↦ (λ same. refl)
      | BadTagLength ↦ (λ same. absurd (omega arith))
      | BadRestart ↦ (λ same. absurd (omega arith))
    ]

not_zero : (n : ℕ) → eqb (suc n) 0 ≡ false
not_zero n = ne_eqb (suc n) 0 (λ e. omega arith)

-- what is answered keeps the promise, and nothing else does: of a plan that is bad or not, and its least ratchet
kept_of : (bad : Bool) (n : ℕ) → let r : Result (Option ℕ) Refusal = if bad then Err BadPlan else Ok (if n == 0 then None else Some n) in
    (ratchet_refusal r ≡ refusal_by ((bad ⇒ 25) ∷ [])) × (ratchet_number r ≡ cond bad 0 n) × (ratchet_none r ≡ cond bad false (eqb n 0))
unfolding refusal_by
kept_of true n = (refl, refl, refl)
kept_of false zero = (refl, refl, refl)
kept_of false (suc n) = rw (not_zero n) (refl, refl, refl)

settled_of : (bad : Bool) (n : ℕ) (r : Result (Option ℕ) Refusal) → ratchet_refusal r ≡ refusal_by ((bad ⇒ 25) ∷ [])
    → ratchet_number r ≡ cond bad 0 n → ratchet_none r ≡ cond bad false (eqb n 0)
    → r ≡ (if bad then Err BadPlan else Ok (if n == 0 then None else Some n))
unfolding refusal_by
settled_of true n (Ok ratchet) refusal number none = absurd (omega arith)
settled_of true n (Err x) refusal number none = ap Err (number_25 x refusal)
settled_of false n (Err x) refusal number none = absurd (omega (arith, number_bounds x))
settled_of false zero (Ok None) refusal number none = refl
settled_of false zero (Ok (Some m)) refusal number none = absurd (false≢true none)
settled_of false (suc n) (Ok None) refusal number none = absurd (true≢false (none ∙ not_zero n))
settled_of false (suc n) (Ok (Some m)) refusal number none = rw (not_zero n) (ap (λ (k : ℕ). Ok (Some k)) number)

module _ (counts : List ℕ) (chunks : ℕ) where
  pub promised : Planned counts chunks (planned counts chunks)
  promised =
      let kept = kept_of (bad_plan counts chunks) (least_ratchet counts chunks) in
      record { refusal = kept.0; number = kept.1; none = kept.2 }

  pub settled : (r : Result (Option ℕ) Refusal) → Planned counts chunks r → r ≡ planned counts chunks
  settled r p = settled_of (bad_plan counts chunks) (least_ratchet counts chunks) r p.refusal p.number p.none

-- what an answer says
module _ (counts : List ℕ) (chunks : ℕ) where
  not_refused : (ratchet : Option ℕ) → Planned counts chunks (Ok ratchet) → bad_plan counts chunks ≡ false
  not_refused ratchet p = passed (plan_rules counts chunks) refl (sym p.refusal) 25

  pub is_least : (n : ℕ) → Planned counts chunks (Ok (Some n)) → IsLeast counts chunks n
  is_least n p =
      let fits = not_refused (Some n) p in
      let said : n ≡ least_ratchet counts chunks = p.number ∙ rw fits in
      let told : false ≡ eqb (least_ratchet counts chunks) 0 = p.none ∙ rw fits in
      by_cases (dec_lt 0 n) (λ some. (least counts chunks n some).0 (sym said))
      (λ other. absurd (true≢false (sym (eq-eqb (least_ratchet counts chunks) 0 (omega (arith, said))) ∙ sym told)))

  pub nothing_lasts : Planned counts chunks (Ok None) → NothingLasts counts chunks
  nothing_lasts p =
      let fits = not_refused None p in
      (nothing counts chunks).0 (sym (p.number ∙ rw fits))

-- a plan has one answer: the promise settles it
pub one_answer : (counts : List ℕ) (chunks : ℕ) (a b : Result (Option ℕ) Refusal) → Planned counts chunks a → Planned counts chunks b → a ≡ b
one_answer counts chunks a b p q = settled counts chunks a p ∙ sym (settled counts chunks b q)

-- an empty list needs 1
pub empty_needs_one : (chunks : ℕ) → 1 ≤ chunks → chunks ≤ 1024 → (r : Result (Option ℕ) Refusal) → Planned [] chunks r → r ≡ Ok (Some 1)
unfolding bad_plan any_over some_from chunks_for
empty_needs_one chunks some most r p =
    let fits = (none_true (ltb 64 0 ∷ any_over 65536 [] ∷ outside 1 1024 chunks ∷ [])).1 (refl, (refl, ((in_range 1 1024 chunks).1 (some, most), tt))) in
    let found : Between [] chunks 1 1
    = record { some = omega arith; order = omega arith; most = omega arith; below = λ m low less lasts. omega arith; lasts = λ high. omega arith } in
    settled [] chunks r p ∙ sym (least_lasts [] chunks fits 1 found (omega arith) 1 refl)
