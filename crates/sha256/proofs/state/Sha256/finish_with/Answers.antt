-- The part and the padding behind it fill one block, which follows the message's own (`sha256_with`).
use Rattle.std.proofs.Common.{rules, ◌≡◌, ℕ, ◌*◌, List, length, set, sym, ap, ◌∙◌}
use Rattle.compression.specs.Fips.{big_endian, digest}
use Rattle.sha256.proofs.Blocks.{over, put, sha256_with}
use Rattle.sha256.proofs.state.Sha256.finish_with.Goals as goal

pub returns : goal.returns
returns c m h one =
    let b = c in
    let a = b.args in
    let half : length a.part ≡ 32 = search rules in
    let end = b.with_length-end.ensures ∙ ap (λ (d : List ℕ). put d 56 (big_endian 8 (8 * 96))) b.put.ensures in
    c.digest.ensures
    ∙ ap digest (c.blocks-2.ensures ∙ ap (λ (d : List ℕ). over a.self.words (set d 32 128)) end)
    ∙ sym (sha256_with m a.part h one half)
