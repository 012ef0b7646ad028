-- Behind whole blocks the part's own blocks go on (`over_whole`), and what is left of the part is what is left of the message.
use Rattle.std.proofs.Common.{ℕ, ◌*◌, ◌/◌, ◌++◌, length, drop, sym, ap, ◌∙◌, mul_comm}
use Rattle.compression.specs.Fips.{H₀}
use Rattle.compression.specs.declared.words.Words.{Words}
use Rattle.sha256.proofs.Blocks.{over, over_whole, rest_whole, stands_count, to_end}
use Rattle.sha256.proofs.state.Sha256.finish_part.Goals as goal

pub returns : goal.returns
returns c m h whole =
    let part = c.args.part.now in
    let at = length part / 64 * 64 in
    let hashed = c.blocks-2.ensures ∙ ap (λ (v : Words). over v part) h.words ∙ over_whole m part H₀ whole in
    let left = to_end part at ∙ ap (λ (k : ℕ). drop k part) (mul_comm (length part / 64) 64) ∙ sym (rest_whole m part whole) in
    c.ended.ensures (m ++ part) hashed left (stands_count m h part)
