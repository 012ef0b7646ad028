-- `codec::header::headed_kind` meets its contract: as many bytes are asked for as a header of the kind has.
use Rattle.std.proofs.Common.{arith}
use Rattle.codec.proofs.Headers.{is_kind, no_kind, too_short, cut_short, whole}
use Rattle.codec.proofs.header.headed_kind.Goals as goal

pub returns-then-store : goal.returns-then-store
returns-then-store c = too_short c.args.store.now (omega (arith, c.if-store.true))

pub returns-in_default : goal.returns-in_default
returns-in_default c = no_kind c.args.store.now c.in_default.field-0 (grind arith)

pub returns-then-store-header_length : goal.returns-then-store-header_length
returns-then-store-header_length c =
    cut_short c.args.store.now _ (is_kind c.args.store.now c.in-Ok.kind (grind arith)) (omega (arith, c.header_length.ensures, c.if-store-header_length.true))

pub returns : goal.returns
returns c =
    whole c.args.store.now _ (is_kind c.args.store.now c.in-Ok.kind (grind arith)) (omega (arith, c.header_length.ensures, c.if-store-header_length.false))
