use mathlib.Core.Path.{◌≡◌, refl, sym, ap, ◌∙◌}
use mathlib.Core.List.{[], ◌∷◌, ◌++◌}
use Prim.Native.Nat.{◌*◌}
use native.Mathlib.Numerals.{add-one}
use native.Mathlib.Omega.{arith}
use borrow.Author.Rules.{rules}
use lib.ListN.{length-set}
use lib.Seq.{take-suc-set}
use Rattle.scheme.specs.Bytes.{num, part}
use Rattle.audited.specs.Lengths.{words}
use Rattle.audited.proofs.Listing.{no_words, one_length_more}
use Rattle.audited.proofs.lengths.read_lengths.Goals as goal

pub loop-i-init : goal.loop-i-init
loop-i-init c = (search rules, sym (no_words _), refl)

pub loop-i-preserved : goal.loop-i-preserved
loop-i-preserved c =
    let bytes = c.args.bytes.now in
    let l = c.loop-i in
    let read = c.read_u32 in
    let put = take-suc-set l.lengths l.i read.result (omega arith) in
    let first = ap (λ ls. ls ++ (read.result ∷ [])) l.invariant.1 in
    let here : read.result ≡ num (part bytes (4 * l.i) 4) = cc in
    let last = ap (λ n. words l.i bytes ++ (n ∷ [])) here in
    (search rules, rw add-one (put ∙ first ∙ last ∙ sym (one_length_more l.i bytes)), simp length-set l.invariant.2)

pub returns : goal.returns
returns c =
    let l = c.loop-i in
    let done : l.i ≡ c.args.count = omega arith in
    rw done at l.invariant.1
