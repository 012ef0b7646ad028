-- `blocks` hashes the whole blocks where they lie; the bytes after them, written over a block of zeros, are what is held.
use Rattle.std.proofs.Common.{ℕ, rules, ◌≤◌, ◌+◌, ◌-◌, ◌*◌, ◌/◌, [], length, take, drop, refl, ap, ◌∙◌, mul_comm}
use Rattle.sha256.proofs.Blocks.{zero_filled, filled_rest, put_filled, to_end}
use Rattle.sha256.proofs.state.whole.Goals as goal

pub returns : goal.returns
returns c =
    let part = c.args.part.now in
    let at = length part / 64 * 64 in
    let room : length {A = ℕ} [] + length (take (length part - at) (drop at part)) ≤ 64 = search rules in
    let held = put_filled [] (take (length part - at) (drop at part)) room in
    let left = to_end part at ∙ ap (λ (k : ℕ). drop k part) (mul_comm (length part / 64) 64) in
    record {
      words = c.blocks-2.ensures;
      pending = c.put.ensures ∙ held ∙ ap zero_filled left ∙ filled_rest part;
      counted = refl;
    }
