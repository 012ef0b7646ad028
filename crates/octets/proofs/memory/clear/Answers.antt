-- `octets::memory::clear` meets its contract: the part at the place holds zeros.
use Rattle.std.proofs.Common.{◌≡◌, ◌+◌, ◌-◌, ◌∙◌, length, take, drop, replicate, sym, ap, arith, length-drop, length-take-le, rules}
use Rattle.std.proofs.lemmas.List.{length-replicate}
use Rattle.std.proofs.lemmas.Slice.{put_mid-paste}
use Rattle.scheme.proofs.Splice.{pasted}
use Rattle.octets.proofs.memory.clear.Goals as goal

pub returns : goal.returns
returns c =
    let a = c.args in
    let n = a.n in
    let rest = drop a.at a.memory.now in
    let size : length (take (a.at + n - a.at) rest) ≡ n = length-take-le (a.at + n - a.at) rest (simp length-drop (omega arith)) ∙ omega arith in
    let zeros : c.fill.new.self ≡ replicate n 0 = c.fill.ensures.after (λ y e. search rules) ∙ ap (λ k. replicate k 0) size in
    put_mid-paste a.at _ a.memory.now c.fill.new.self (replicate n 0) n zeros (omega arith) (sym (length-replicate n 0)) ∙ pasted _ _ _ n (sym (length-replicate n 0))
