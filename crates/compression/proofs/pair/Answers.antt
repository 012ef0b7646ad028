-- `compression::pair` meets its contract: each of the two rounds brings the working variables one round further.
use Rattle.std.proofs.Common.{ℕ, suc, get_or, ap, ◌∙◌, add-one}
use Rattle.compression.specs.Fips.{round}
use Rattle.compression.proofs.Rounds.{round_more}
use Rattle.compression.proofs.pair.Goals as goal

pub returns : goal.returns
returns c b e =
    let a = c.args in
    let k : ℕ → ℕ = λ i. get_or a.k.now i 0 in
    let w : ℕ → ℕ = λ i. get_or a.w i 0 in
    let v = c.round-v.result in
    let one = round_more k w a.t b a.s v e c.round-v.ensures in
    round_more k w (suc a.t) b v _ one (c.round.ensures ∙ ap (λ i. round v (k i) (w i)) (add-one a.t))
