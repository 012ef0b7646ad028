-- The bytes are what a state holds that stands for the message (`stands_rest`), and its padding goes behind them.
use Rattle.std.proofs.Common.{ℕ, ◌*◌, List, length, set, ap, ◌∙◌, ap₂, arith}
use Rattle.compression.specs.Fips.{big_endian, digest}
use Rattle.sha256.proofs.Blocks.{length_rest, over, put, sha256_one, sha256_two, stands_rest}
use Rattle.sha256.proofs.state.ended.Goals as goal

pub returns-then-n-lt56 : goal.returns-then-n-lt56
returns-then-n-lt56 c m e f g =
    let a = c.args in
    let n = length a.rest.now in
    let held = c.put.ensures in
    let laid = c.with_length-end.ensures ∙ ap (λ (b : List ℕ). put b 56 (big_endian 8 (8 * a.count))) held in
    c.digest.ensures
    ∙ ap digest (c.blocks-then-n-lt56.ensures ∙ ap (λ (b : List ℕ). over a.words (set b n 128)) laid)
    ∙ sha256_one m n (stands_rest m e f g) (omega (arith, ap length f, length_rest m, g)) (omega arith)

pub returns : goal.returns
returns c m e f g =
    let a = c.args in
    let n = length a.rest.now in
    let held = c.put-last.ensures in
    let last = c.blocks-2.ensures ∙ ap (λ (b : List ℕ). over a.words (set b n 128)) held in
    c.digest-2.ensures
    ∙ ap digest (c.blocks-3.ensures ∙ ap₂ over last c.with_length-end-2.ensures)
    ∙ sha256_two m n (stands_rest m e f g) (omega (arith, ap length f, length_rest m, g)) (omega arith)
