-- `hmac::keyed::Hmac::new` meets its contract: each of the two states has absorbed the padded key under its mask, and the inner one the front.
use Rattle.hmac.specs.Rfc2104.{ipad, opad}
use Rattle.hmac.proofs.Keys.{absorbed, absorbed_with}
use Rattle.hmac.proofs.keyed.Hmac.new.Goals as goal

pub returns : goal.returns
returns c =
    let b = c in
    let args = b.args in
    let key = args.key.now in
    let block = b.padded-block in
    record {
      inner = absorbed_with ipad key block.result block.ensures b.masked.ensures args.front.now c.of_block_with.ensures;
      outer = absorbed opad key block.result block.ensures b.masked-2.ensures c.of_block.ensures;
    }
