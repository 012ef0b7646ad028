-- Every refusal's number fits in 32 bits, every count is one of a store's items, and an answer packed from what a call gives is that of the call's effect.
use mathlib.Core.Path.{◌≡◌, ◌∙◌}
use mathlib.Core.Bool.{cond}
use mathlib.Core.List.{List}
use mathlib.Core.Logic.{by_cases}
use Prim.Native.Nat.{ℕ, suc, ◌*◌, ◌^◌, ◌≤◌, ◌<◌}
use native.Mathlib.Decide.{ℕ_discrete}
use native.Mathlib.Nat.{le_refl, mul-le-mul}
use native.Mathlib.Omega.{arith}
use borrow.Author.Tests.{eq-eqb, ne_eqb}
use lib.Dec.{eqb}
use Rattle.scheme.specs.Answers.{refusal_number, outcome_refusal, outcome_count}
use Rattle.scheme.specs.Rules.{refusal_by}
use Rattle.scheme.specs.Acceptable.{KeyStore}
use Rattle.scheme.specs.Items.{item_number}
use Rattle.scheme.specs.Sealer.{Effect, Gives, opens, appends, appended, append_rules, closes, closed, close_rules, restarts, restarted, restart_rules, refused}
use Rattle.scheme.specs.Sizes.{most_items}
use Rattle.scheme.specs.Store.{chunk_count, ratchet}
use Rattle.scheme.specs.declared.Refusal.{Refusal}
use Rattle.scheme.specs.declared.Sealed.{Sealed}
use Rattle.scheme.specs.declared.State.{State}
use Rattle.scheme.proofs.Answers.{number_bounds}
use Rattle.scheme.proofs.Parameters.{sizes}
use Rattle.checks.proofs.Allowed as Allowed
use Rattle.packed.specs.Surface.{packed}
use Rattle.packed.specs.declared.calls.Packed.{Packed}

pub number_fits : (x : Refusal) (r : ℕ) → r ≡ refusal_number x → r < 2 ^ 32
number_fits x r e = omega (arith, e, (number_bounds x).1)

pub opens_count : (store logs lengths seal : List ℕ) (seal_length : ℕ) → (opens store logs lengths seal seal_length).count ≤ most_items
unfolding opens
opens_count store logs lengths seal seal_length = omega arith

-- a call that refuses has the count 0, and one that does not has that of the work done
count_by : (n : ℕ) (done : Effect) (s : State) (store logs seal : List ℕ) → (n ≡ 0 → done.count ≤ most_items)
    → (cond (eqb n 0) done (refused n s store logs seal)).count ≤ most_items
count_by n done s store logs seal small =
    by_cases (ℕ_discrete n 0) (λ none. rw (eq-eqb n 0 none) (small none)) (λ some. rw (ne_eqb n 0 some) (omega arith))

-- the number of a key is below that of the store's keys
key_number : (store : List ℕ) → KeyStore store → (s : State) → s.chunk.0 < chunk_count store → s.offset.0 < ratchet store
    → item_number (ratchet store) s.chunk s.offset ≤ most_items
key_number store good s below low =
    let keys : suc s.chunk.0 * ratchet store ≤ chunk_count store * ratchet store = mul-le-mul below (le_refl (ratchet store)) in
    omega (arith, keys, (sizes store good).items)

pub appends_count : (s : State) (store logs seal : List ℕ) (phase : ℕ) (bytes : List ℕ) → (appends s store logs seal phase bytes).count ≤ most_items
unfolding appends appended
appends_count s store logs seal phase bytes =
    count_by (refusal_by (append_rules s store logs seal phase bytes)) (appended s store logs seal phase bytes) s store logs seal
    (λ none.
    let allowed = Allowed.append s store logs seal phase bytes none in
    key_number store allowed.good s allowed.chunk allowed.offset)

pub restarts_count : (s : State) (store logs seal : List ℕ) (number : ℕ) → (restarts s store logs seal number).count ≤ most_items
unfolding restarts restarted
restarts_count s store logs seal number =
    count_by (refusal_by (restart_rules s store logs seal number)) (restarted s store logs seal number) s store logs seal
    (λ none.
    let allowed = Allowed.restart s store logs seal number none in
    key_number store allowed.good s allowed.chunk (omega (arith, allowed.first, allowed.good.ratchet_low)))

-- the number of fillers: at most one for each key of a chunk
pub closes_count : (s : State) (store logs seal : List ℕ) → (closes s store logs seal).count ≤ most_items
unfolding closes closed
closes_count s store logs seal =
    count_by (refusal_by (close_rules s store logs seal)) (closed s store logs seal) s store logs seal
    (λ none.
    let allowed = Allowed.close s store logs seal none in
    omega (arith, allowed.due, allowed.good.ratchet_high))

module _ (e : Effect) (sealed : Sealed) (gives : Gives e sealed) where
  pub count_fits : e.count ≤ most_items → outcome_count sealed.outcome < 2 ^ 32
  count_fits small = omega (arith, gives.count)

  pub packed_answer : (r : Packed) → r.code ≡ packed (outcome_refusal sealed.outcome) (outcome_count sealed.outcome) → r.code ≡ packed e.refusal e.count
  packed_answer r code = code ∙ rw (gives.refusal, gives.count)
