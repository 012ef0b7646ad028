-- `codec::header::read_header` meets its contract: each `None` stands behind one step of rule 2, and where all of them pass the fields that
-- were read are the header's.
use Rattle.std.proofs.Common.{◌≡◌, sym, ap, ◌∙◌, ◌+◌, ◌*◌, Some, None}
use Rattle.scheme.specs.Store.{chunk_count, chunk_place, unheaded}
use Rattle.scheme.specs.Fields.{bad_fields}
use Rattle.layout.specs.Header.{header_of}
use Rattle.codec.proofs.Headers.{some_told, none_told, no_header, bad_field, bad_length, good_header}
use Rattle.codec.proofs.header.read_header.Goals as goal

pub returns-in_err-kind : goal.returns-in_err-kind
returns-in_err-kind c = c.from_residual.ensures ∙ no_header _ (none_told (unheaded c.args.store.now) _ (sym c.headed_kind.ensures ∙ c.in_err-kind.was))

pub returns-then-out_of_range : goal.returns-then-out_of_range
returns-then-out_of_range c = bad_field _ (ap bad_fields (sym c.fields-header.ensures) ∙ sym c.out_of_range.ensures ∙ c.if-out_of_range.true)

pub returns-then-store-chunk_place : goal.returns-then-store-chunk_place
returns-then-store-chunk_place c =
    let size : let st = c.args.store.now in c.chunk_place.result ≡ chunk_place st (chunk_count st) = c.chunk_place.ensures ∙ ap (λ h. h.header_length + 32 * h.chunks) c.fields-header.ensures in
    bad_length _ (λ e. c.if-store-chunk_place.true (e ∙ sym size))

pub returns : goal.returns
returns c =
    let size : let st = c.args.store.now in c.chunk_place.result ≡ chunk_place st (chunk_count st) = c.chunk_place.ensures ∙ ap (λ h. h.header_length + 32 * h.chunks) c.fields-header.ensures in
    ap Some c.fields-header.ensures
    ∙ good_header _ (some_told (unheaded c.args.store.now) (sym c.headed_kind.ensures ∙ c.in_ok-kind.was)).0
    (ap bad_fields (sym c.fields-header.ensures) ∙ sym c.out_of_range.ensures ∙ c.if-out_of_range.false)
    (c.if-store-chunk_place.false ∙ size)
