-- The lengths read of the bytes and those that the definition lists lead to the same audit and the same lookups: they differ only where
-- a rule of 2 to 5 refuses both.
use mathlib.Core.Path.{◌≡◌, refl, sym, ap, ◌∙◌}
use mathlib.Core.Bool.{Bool, true, false, not}
use mathlib.Core.List.{List, [], ◌∷◌, ◌++◌}
use mathlib.Core.Logic.{by_cases}
use Prim.Native.Nat.{ℕ, zero, suc, ◌+◌, ◌*◌}
use native.Mathlib.Decide.{ℕ_discrete}
use native.Mathlib.Omega.{arith}
use borrow.Author.Tests.{eq-eqb, ne_eqb, eqb-false}
use lib.Dec.{eqb}
use lib.ListN.{length, take, drop}
use lib.Seq.{drop-drop}
use Rattle.scheme.specs.Bytes.{num, part}
use Rattle.scheme.specs.Rules.{◌⇒◌, refusal_by}
use Rattle.scheme.specs.Store.{phases, log_capacity, bad_store, bad_logs, burned_later, bad_lengths, any_over}
use Rattle.scheme.specs.Audit.{Said, audit, material_rules}
use Rattle.scheme.proofs.Acceptance.Stores.{key_store}
use Rattle.scheme.proofs.Rules.{any_at}
use Rattle.seeking.specs.Lookup.{lookup, data_place}
use Rattle.seeking.proofs.Looking.{audit_first, nowhere}
use Rattle.audited.specs.Lengths.{words, listed, Counted}

-- ---- the numbers of bytes

pub no_words : (bytes : List ℕ) → words 0 bytes ≡ []
unfolding words
no_words bytes = refl

words_length : (n : ℕ) (bytes : List ℕ) → length (words n bytes) ≡ n
unfolding words
words_length zero bytes = refl
words_length (suc n) bytes = ap suc (words_length n (drop 4 bytes))

pub one_length_more : (n : ℕ) (bytes : List ℕ) → words (suc n) bytes ≡ words n bytes ++ (num (part bytes (4 * n) 4) ∷ [])
unfolding words
one_length_more zero bytes = refl
one_length_more (suc n) bytes =
    let place : 4 + 4 * n ≡ 4 * suc n = omega arith in
    let next : drop (4 * n) (drop 4 bytes) ≡ drop (4 * suc n) bytes = drop-drop (4 * n) 4 bytes ∙ ap (λ (k : ℕ). drop k bytes) place in
    ap (λ rest. num (take 4 bytes) ∷ rest) (one_length_more n (drop 4 bytes) ∙ ap (λ l. words n (drop 4 bytes) ++ (num (take 4 l) ∷ [])) next)

-- ---- refusals that look at no length

-- the first of 2, 3 and 4 that holds, else 5
abbrev early : List ℕ → List ℕ → Said
early device logs =
    record {
      refusal = refusal_by ((bad_store device ⇒ 2) ∷ (bad_logs device logs ⇒ 3) ∷ (burned_later device ⇒ 4) ∷ (true ⇒ 5) ∷ []);
      number = 0;
    }

refuses_early : (s t u : Bool) → eqb (refusal_by ((s ⇒ 2) ∷ (t ⇒ 3) ∷ (u ⇒ 4) ∷ (true ⇒ 5) ∷ [])) 0 ≡ false
unfolding refusal_by
refuses_early true t u = refl
refuses_early false true u = refl
refuses_early false false true = refl
refuses_early false false false = refl

module _ (device auditor logs lengths seal : List ℕ) where
  refused_early : refusal_by (material_rules device auditor logs lengths) ≡ (early device logs).refusal → audit device auditor logs lengths seal ≡ early device logs
  unfolding audit
  refused_early e = rw (e, refuses_early (bad_store device) (bad_logs device logs) (burned_later device))

  bad_store_lem : bad_store device ≡ true → audit device auditor logs lengths seal ≡ early device logs
  unfolding material_rules refusal_by
  bad_store_lem bad = refused_early (rw bad)

  bad_lengths_lem : bad_lengths device lengths ≡ true → audit device auditor logs lengths seal ≡ early device logs
  unfolding material_rules refusal_by
  bad_lengths_lem bad = refused_early (rw bad)

-- a list that has not one length for each phase
another_number : (device lengths : List ℕ) → (length lengths ≡ phases device → ⊥) → bad_lengths device lengths ≡ true
unfolding bad_lengths
another_number device lengths other =
    any_at (not (eqb (length lengths) (phases device)) ∷ any_over (log_capacity device) lengths ∷ []) 0
    (ap not (ne_eqb (length lengths) (phases device) other))

-- an empty list, since a store has at least one phase
none_listed : (device : List ℕ) → bad_store device ≡ false → bad_lengths device [] ≡ true
none_listed device good = another_number device [] (λ e. omega (arith, e, ((key_store device).0 good).phases_low))

-- ---- what is read, and what is listed

module _ (device auditor logs bytes seal : List ℕ) where
  refused_some : (early device logs).refusal ≡ 0 → ⊥
  refused_some = eqb-false _ 0 (refuses_early (bad_store device) (bad_logs device logs) (burned_later device))

  all_listed : length bytes ≡ 4 * phases device → listed device bytes ≡ words (phases device) bytes
  unfolding listed
  all_listed e = rw (eq-eqb (length bytes) (4 * phases device) e)

  unlisted : (length bytes ≡ 4 * phases device → ⊥) → listed device bytes ≡ []
  unfolding listed
  unlisted other = rw (ne_eqb (length bytes) (4 * phases device) other)

  refused_unlisted : (length bytes ≡ 4 * phases device → ⊥) → bad_store device ≡ false → audit device auditor logs (listed device bytes) seal ≡ early device logs
  refused_unlisted other good = rw (unlisted other) (bad_lengths_lem device auditor logs [] seal (none_listed device good))

  -- bytes of another count than the phases ask for give 5, in its place in the order
  pub other_count : (length bytes ≡ 4 * phases device → ⊥) → bad_store device ≡ false → bad_logs device logs ≡ false → burned_later device ≡ false
      → audit device auditor logs (listed device bytes) seal ≡ record { refusal = 5; number = 0 }
  unfolding refusal_by
  other_count other store logs_fit front = refused_unlisted other store ∙ rw (store, logs_fit, front)

  -- what two lists of lengths agree on that are both refused early
  abbrev Early : List ℕ → Type 0
  Early lengths = audit device auditor logs lengths seal ≡ early device logs

  -- what is read of the bytes is what the definition lists, or both are refused early; so what is the same then is the same for both
  module _ {A : Type 0} (f : List ℕ → A) (same : (ls ms : List ℕ) → Early ls → Early ms → f ls ≡ f ms) where
    abbrev Same : ℕ → Type 0
    Same n = f (words n bytes) ≡ f (listed device bytes)

    -- of bytes of another count none are read, or another number than the phases
    none_or_other : (length bytes ≡ 4 * phases device → ⊥) → bad_store device ≡ false → (n : ℕ) → Counted (length bytes) n → Same n
    none_or_other other good zero counted = ap f (no_words bytes ∙ sym (unlisted other))
    none_or_other other good (suc n) counted =
        let unfit : length (words (suc n) bytes) ≡ phases device → ⊥ = λ e. other (omega (arith, e, words_length (suc n) bytes, counted.whole (omega arith))) in
        same (words (suc n) bytes) (listed device bytes)
        (bad_lengths_lem device auditor logs (words (suc n) bytes) seal (another_number device (words (suc n) bytes) unfit)) (refused_unlisted other good)

    pub same_read : (n : ℕ) → Counted (length bytes) n → Same n
    same_read n counted = by_store (bad_store device) refl
      where
        by_store : (t : Bool) → bad_store device ≡ t → Same n
        by_store true bad =
            same (words n bytes) (listed device bytes) (bad_store_lem device auditor logs (words n bytes) seal bad) (bad_store_lem device auditor logs (listed device bytes) seal bad)
        by_store false good =
            by_cases (ℕ_discrete (length bytes) (4 * phases device))
            (λ e.
            let all = counted.all (phases device) ((key_store device).0 good).phases_high e in
            ap f (ap (λ k. words k bytes) all ∙ sym (all_listed e)))
            (λ other. none_or_other other good n counted)

  -- what is read of the bytes is audited as what the definition lists
  pub same_audit : (n : ℕ) → Counted (length bytes) n → audit device auditor logs (words n bytes) seal ≡ audit device auditor logs (listed device bytes) seal
  same_audit = same_read (λ lengths. audit device auditor logs lengths seal) (λ ls ms e e'. e ∙ sym e')

  -- a lookup in it is refused as the audit is, and finds no place
  module _ (p i : ℕ) where
    looked_early : (lengths : List ℕ) → Early lengths → lookup device auditor logs lengths seal p i ≡ early device logs
    looked_early lengths e =
        audit_first device auditor logs lengths seal p i (λ none. refused_some (sym (ap (λ (s : Said). s.refusal) e) ∙ none)) ∙ e

    -- bytes of another count than the phases ask for give 5 in its place here too
    pub other_count_lookup : (length bytes ≡ 4 * phases device → ⊥) → bad_store device ≡ false → bad_logs device logs ≡ false → burned_later device ≡ false
        → lookup device auditor logs (listed device bytes) seal p i ≡ record { refusal = 5; number = 0 }
    other_count_lookup other store logs_fit front =
        looked_early (listed device bytes) (refused_unlisted other store)
        ∙ sym (refused_unlisted other store) ∙ other_count other store logs_fit front

    pub same_lookup : (n : ℕ) → Counted (length bytes) n
        → lookup device auditor logs (words n bytes) seal p i ≡ lookup device auditor logs (listed device bytes) seal p i
    same_lookup = same_read (λ lengths. lookup device auditor logs lengths seal p i) (λ ls ms e e'. looked_early ls e ∙ sym (looked_early ms e'))

    pub same_place : (n : ℕ) → Counted (length bytes) n
        → data_place device auditor logs (words n bytes) seal p i ≡ data_place device auditor logs (listed device bytes) seal p i
    same_place =
        same_read (λ lengths. data_place device auditor logs lengths seal p i)
        (λ ls ms e e'.
        nowhere device auditor logs ls seal p i _ _ (looked_early ls e) refused_some
        ∙ sym (nowhere device auditor logs ms seal p i _ _ (looked_early ms e') refused_some))
