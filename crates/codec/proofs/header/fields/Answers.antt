-- `codec::header::fields` meets its contract: by the kind, the set is read behind the other fields or is the common one.
use Rattle.std.proofs.Common.{◌≡◌, ap, arith, refl}
use Rattle.layout.specs.Kinds.{header_length_of}
use Rattle.codec.proofs.Headers.{headed, own_fields, common_fields}
use Rattle.codec.proofs.header.fields.Goals as goal

pub bounds-store-9 : goal.bounds-store-9
bounds-store-9 c = omega (arith, (headed _ _ c.requires).fields)

pub read_u32-chunks-requires : goal.read_u32-chunks-requires
read_u32-chunks-requires c = omega (arith, (headed _ _ c.requires).fields)

pub read_u32-ratchet-requires : goal.read_u32-ratchet-requires
read_u32-ratchet-requires c = omega (arith, (headed _ _ c.requires).fields)

pub bounds-store-18 : goal.bounds-store-18
bounds-store-18 c = omega (arith, (headed _ _ c.requires).set c.in-OwnSet.is)

pub read_u32-requires : goal.read_u32-requires
read_u32-requires c = omega (arith, (headed _ _ c.requires).set c.in-OwnSet.is)

pub read_u32-requires-in-OwnSet : goal.read_u32-requires-in-OwnSet
read_u32-requires-in-OwnSet c = omega (arith, (headed _ _ c.requires).set c.in-OwnSet.is)

pub returns-in-Plain : goal.returns-in-Plain
returns-in-Plain c =
    let long : header_length_of c.args.kind ≡ 18 = ap header_length_of c.in-Plain.is in
    common_fields _ c.read_u32-chunks.ensures c.read_u32-ratchet.ensures (omega (arith, long, c.header_length-header_length.ensures))
    ((headed _ _ c.requires).common c.in-Plain.is)

pub returns-in-OwnSet : goal.returns-in-OwnSet
returns-in-OwnSet c =
    let long : header_length_of c.args.kind ≡ 27 = ap header_length_of c.in-OwnSet.is in
    own_fields _ c.read_u32-chunks.ensures c.read_u32-ratchet.ensures (omega (arith, long, c.header_length-header_length.ensures))
    ((headed _ _ c.requires).own c.in-OwnSet.is)
    refl c.read_u32.ensures c.read_u32-in-OwnSet.ensures
