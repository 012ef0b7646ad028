-- `hmac::keyed::padded` meets its contract: the key, or its digest where it is longer than a block, stands before zeros.
use native.Mathlib.Omega.{arith}
use mathlib.Core.Path.{◌∙◌, sym}
use Rattle.hmac.proofs.Keys.{padded_block, key_taken, key_hashed}
use Rattle.hmac.proofs.keyed.padded.Goals as goal

pub returns-then-key-gt-BLOCK_LENGTH : goal.returns-then-key-gt-BLOCK_LENGTH
returns-then-key-gt-BLOCK_LENGTH c =
    let started = c.new.ensures in
    let absorbed = c.update.ensures _ started in
    let hashed = c.finish-digest.ensures _ absorbed in
    padded_block _ _ _ (key_hashed _ (omega arith) ∙ sym hashed) (omega arith) c.first_block.ensures

pub returns : goal.returns
returns c = padded_block _ _ _ (key_taken _ (omega arith)) (omega arith) c.first_block-2.ensures
