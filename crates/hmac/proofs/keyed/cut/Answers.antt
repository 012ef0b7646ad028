-- `hmac::keyed::cut` meets its contract: from 32 bytes on the output is whole, and else the bytes wanted stand before what is left of the zeros.
use Rattle.std.proofs.Common.{sym, ap, ap₂, ◌∙◌, List, ◌++◌, ℕ, take, arith, rules}
use Rattle.std.proofs.lemmas.List.{drop-replicate}
use Rattle.hmac.specs.Rfc2104.{cut}
use Rattle.hmac.proofs.Cuts.{cut_whole}
use Rattle.hmac.proofs.keyed.cut.Goals as goal

pub returns-then-wanted-ge-OUTPUT_LENGTH : goal.returns-then-wanted-ge-OUTPUT_LENGTH
returns-then-wanted-ge-OUTPUT_LENGTH c = sym (cut_whole c.args.output c.args.wanted (search rules) (omega arith))

pub returns : goal.returns
unfolding cut
returns c =
    let front = c.copy_from_slice.ensures.after ∙ ap (λ n. take n c.args.output) {y = c.args.wanted} (omega arith) in
    ap₂ (λ (l r : List ℕ). l ++ r) front (drop-replicate c.args.wanted 32 0)
