-- `octets::memory::all_zero` meets its contract: all bytes are zero exactly if the words are, and the bytes behind them.
use Rattle.std.proofs.Common.{◌≡◌, sym, ◌∙◌, ◌-◌, ◌*◌, ◌/◌, arith, length}
use Rattle.scheme.specs.Bytes.{all_zero, part}
use Rattle.octets.proofs.Parts.{so_many, this_zero, front_nonzero, front_zero}
use Rattle.octets.proofs.memory.all_zero.Goals as goal

pub returns-then-not-zero_words : goal.returns-then-not-zero_words
returns-then-not-zero_words c =
    let bytes = c.args.bytes.now in
    sym (front_nonzero bytes (8 * (length bytes / 8)) (sym c.zero_words.ensures ∙ c.if-not-zero_words.true))

pub returns : goal.returns
returns c =
    let words = c in
    let bytes = words.args.bytes.now in
    let n = length bytes in
    let k = 8 * (n / 8) in
    let tail : c.all_zero_by_bytes.result ≡ all_zero (part bytes k (n - k)) =
    this_zero c.all_zero_by_bytes.ensures (omega (arith, so_many)) in
    tail ∙ sym (front_zero bytes k (sym words.zero_words.ensures ∙ c.if-not-zero_words.false))
