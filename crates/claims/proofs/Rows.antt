-- The marked rows hold, and so do their companions: one list, one statement over it.
use mathlib.Core.Path.{◌≡◌, refl, ap, ◌∙◌}
use mathlib.Core.List.{List, [], ◌∷◌, ◌++◌}
use Prim.Native.Nat.{ℕ, ◌+◌, ◌≤◌}
use lib.ListN.{length, take, drop, replicate}
use lib.Seq.{length-take-le}
use native.Mathlib.Omega.{arith}
use Rattle.compression.specs.Fips.{pad, zero_bytes}
use Rattle.hmac.specs.Rfc2104.{hmac}
use Rattle.hmac.proofs.Cuts.{hmac_length}
use Rattle.scheme.specs.Bytes.{le, num, splice, all_zero, same_bytes}
use Rattle.scheme.specs.Rules.{refusal_by, any_true, all_true, outside, some_from, row}
use Rattle.scheme.specs.Store.{header_length, data_limit, log_capacity, tag_length, store_id, phases, chunk_count, ratchet, chunk, burned, burned_front, unheaded, out_of_range, bad_store, burned_later, any_burned, bad_logs, any_over, bad_lengths}
use Rattle.scheme.specs.Items.{entry_head, filler_head, restart_head, entry_length, filler_length, restart_length, ratchet_head, ratchet_message, pieces_by, pieces}
use Rattle.scheme.specs.State.{fits}
use Rattle.scheme.specs.Sealer.{open_rules, opens, used_key, stepped, entry_item, append_rules, appended, appends, close_rules, fillers_due, filler_item, filled_state, filled_seal, closed, closes, restart_rules, restart_item, restarted, restarts}
use Rattle.scheme.specs.Due.{place_after, due_from, place_for}
use Rattle.scheme.specs.Areas.{areas_in, in_area, covered}
use Rattle.scheme.specs.Audit.{item_rules, material_rules, last_rules, walk, audit}
use Rattle.scheme.specs.Keys.{tag_of}
use Rattle.scheme.proofs.Tags.{tag_front}
use Rattle.claims.specs.Account.{carried_by}
use Rattle.claims.specs.Claim.{last_burned, up_to_first}
use Rattle.claims.specs.Rows.{common, least, tight, store_with, logs_for, state_at, open_of, append_of, close_of, audit_of, padded_of, entry_at, area_rule_of, before, held_tag, id_said, entry_said, filler_said, closing_said, entry_row, filler_row, area_row, closing_row, companions, burned_with, restart_of, filler_at, restart_at, place_rule_of, last_rule_of, restart_said, restart_row, restarting_row, place_row, last_row, carriers, secured_of, secured_row, rows, Hold, none, next}

-- a tag is as long as the page says
tag_said : (st key message : List ℕ) (n : ℕ) → tag_length st ≡ n → tag_of st key message ≡ take n (hmac key message)
tag_said st key message n long = tag_front st key message ∙ ap (λ k. take k (hmac key message)) long

-- a filler written at the front of a seal memory that has one byte more
closing_written : (n : ℕ) (tag : List ℕ) → length tag ≡ n → drop {A = ℕ} (9 + n) (replicate (10 + n) 5) ≡ 5 ∷ []
    → splice (replicate (10 + n) 5) 0 (closing_said ++ tag) ≡ closing_said ++ tag ++ (5 ∷ [])
unfolding splice closing_said
closing_written n tag long rest =
    let behind : 0 + length (closing_said ++ tag) ≡ 9 + n = omega arith in
    ap (λ k. closing_said ++ tag ++ drop {A = ℕ} k (replicate (10 + n) 5)) behind ∙ ap (λ l. closing_said ++ tag ++ l) rest

held_length : (n : ℕ) → n ≤ 32 → length (take n (hmac (replicate 32 9) (id_said ++ closing_said))) ≡ n
held_length n few = length-take-le n (hmac (replicate 32 9) (id_said ++ closing_said)) (omega (arith, hmac_length (replicate 32 9) (id_said ++ closing_said)))

closing : (st : List ℕ) (n : ℕ) → tag_length st ≡ n → n ≤ 32 → drop {A = ℕ} (9 + n) (replicate (10 + n) 5) ≡ 5 ∷ []
    → splice (replicate (10 + n) 5) 0 (closing_said ++ tag_of st (replicate 32 9) (id_said ++ closing_said)) ≡ closing_said ++ take n (hmac (replicate 32 9) (id_said ++ closing_said)) ++ (5 ∷ [])
closing st n long few rest =
    ap (λ t. splice (replicate (10 + n) 5) 0 (closing_said ++ t)) (tag_said st (replicate 32 9) (id_said ++ closing_said) n long) ∙ closing_written n _ (held_length n few) rest

pub rows_hold : Hold rows
unfolding rows companions entry_row filler_row area_row closing_row restart_row restarting_row place_row last_row secured_row secured_of carriers carried_by last_burned up_to_first burned_with restart_of filler_at restart_at place_rule_of last_rule_of restart_said store_with logs_for state_at open_of append_of close_of audit_of padded_of entry_at area_rule_of before held_tag id_said entry_said filler_said closing_said pad zero_bytes le num all_zero same_bytes refusal_by any_true all_true outside some_from row header_length data_limit log_capacity tag_length store_id phases chunk_count ratchet chunk burned burned_front unheaded out_of_range bad_store burned_later any_burned bad_logs any_over bad_lengths entry_head filler_head restart_head entry_length filler_length restart_length ratchet_head ratchet_message pieces_by pieces fits open_rules opens used_key stepped entry_item append_rules appended appends close_rules fillers_due filler_item filled_state filled_seal closed closes restart_rules restart_item restarted restarts areas_in in_area covered place_after due_from place_for item_rules material_rules last_rules walk audit
rows_hold =
    next refl
    (next (ap (λ t. entry_said ++ t) (tag_said (store_with common 2 3 3 96 7) (replicate 32 9) (id_said ++ entry_said ++ (10 ∷ 11 ∷ 12 ∷ [])) 32 refl))
    (next (ap (λ t. filler_said ++ t) (tag_said (store_with common 2 3 3 96 7) (replicate 32 9) (id_said ++ filler_said) 32 refl))
    (next refl (next refl (next refl (next refl (next refl
    (next (ap (λ (l : List ℕ). 0 ∷ 1 ∷ 41 ∷ 0 ∷ l) (closing (store_with common 1 1 3 32 0) 32 refl (omega arith) refl))
    (next refl (next refl (next refl
    (next (ap (λ t. restart_said ++ t) (tag_said (store_with common 1 4 3 128 7) (replicate 32 7) (id_said ++ restart_said) 32 refl))
    (next refl (next refl (next refl (next refl
    (next (ap (λ t. entry_said ++ t) (tag_said (store_with tight 2 3 3 96 7) (replicate 32 9) (id_said ++ entry_said ++ (10 ∷ 11 ∷ 12 ∷ [])) 20 refl))
    (next (ap (λ t. filler_said ++ t) (tag_said (store_with least 2 3 3 96 7) (replicate 32 9) (id_said ++ filler_said) 16 refl))
    (next refl (next refl (next refl (next refl (next refl (next refl (next refl (next refl (next refl (next refl (next refl (next refl
    (next (ap (λ (l : List ℕ). 0 ∷ 1 ∷ 25 ∷ 0 ∷ l) (closing (store_with least 1 1 3 32 0) 16 refl (omega arith) refl))
    (next refl (next refl
    (next (ap (λ t. restart_said ++ t) (tag_said (store_with tight 1 4 3 128 7) (replicate 32 7) (id_said ++ restart_said) 20 refl))
    (next refl (next refl (next refl (next refl none))))))))))))))))))))))))))))))))))))))
