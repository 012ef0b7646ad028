-- `planning::counting::chunks_for` meets its contract: what is added up are the quotients of the list that is walked, and that list is the counts.
use Rattle.std.proofs.Common.{rules, arith, ◌≡◌, ◌^◌, ◌<◌, ap, ◌∙◌, ℕ}
use Rattle.std.proofs.lemmas.List.{take_all}
use Rattle.std.proofs.lemmas.List.Sums.{sum_by-take-le}
use Rattle.std.specs.Int.{div_ceil}
use Rattle.std.specs.List.{sum_by}
use Rattle.planning.specs.Chunks.{chunks_for}
use Rattle.planning.proofs.Sums.{added, fits}
use Rattle.planning.proofs.counting.chunks_for.Goals as goal

pub returns : goal.returns
returns c =
    let all : c.iter.result.rest.now ≡ c.args.counts.now = grind (arith, take_all {A = ℕ}) in
    (search rules) ∙ added c.args.ratchet c.requires.2 c.iter.result.rest.now ∙ ap (λ counts. chunks_for counts c.args.ratchet) all

pub sum-requires-clause-fits : goal.sum-requires-clause-fits
sum-requires-clause-fits c =
    let whole = fits c.args.ratchet c.requires.2 c.args.counts.now c.requires.0 c.requires.1 in
    let small : sum_by (λ count. div_ceil count c.args.ratchet) c.iter.result.rest.now < 2 ^ 32 = grind (arith, sum_by-take-le (λ count. div_ceil count c.args.ratchet)) in
    search rules
