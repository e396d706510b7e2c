use Rattle.std.proofs.Common.{ap, ◌∙◌, arith}
use Rattle.std.specs.Prelude.{encode_utf8_all}
use Rattle.std.proofs.Output.{has_written_of_eq}
use Rattle.dns_wire.specs.Form.{name_text}
use Rattle.dns_wire.proofs.Walks.{composed}
use Rattle.dns_wire.proofs.display.write_name.Goals as goal

pub invariant_of-labels : goal.invariant_of-labels
invariant_of-labels g c =
    let name = g.met.N.ToLabelIter.is_name _ c.compose_len-len.ensures.holds in
    rw (composed _ _ _ _ _ c.labels-1.given.0 c.compose.ensures.ok c.compose.ensures.fits c.new-octets.ensures c.as_slice.ensures.value name) name.short

pub labels_in-requires : goal.labels_in-requires
labels_in-requires g c =
    let name = g.met.N.ToLabelIter.is_name _ c.compose_len-len.ensures.holds in
    rw (composed _ _ _ _ _ c.labels-1.given.0 c.compose.ensures.ok c.compose.ensures.fits c.new-octets.ensures c.as_slice.ensures.value name)
    (record { room = omega (arith, c.compose_len-len.ensures.value, c.if-len-le64.true) })

pub returns-then-len-le64 : goal.returns-then-len-le64
returns-then-len-le64 g c = λ plain ok.
    let name = g.met.N.ToLabelIter.is_name _ c.compose_len-len.ensures.holds in
    has_written_of_eq _ _ _ _ _
    (c.labels_in.ensures ∙ ap (λ labels. encode_utf8_all (name_text c.args.form c.args.dot labels))
    (composed _ _ _ _ _ c.labels-1.given.0 c.compose.ensures.ok c.compose.ensures.fits c.new-octets.ensures c.as_slice.ensures.value name))
    (c.write_str.ensures.writes plain ok)

pub invariant_of-labels-2 : goal.invariant_of-labels-2
invariant_of-labels-2 g c =
    let name = g.met.N.ToLabelIter.is_name _ c.compose_len-len.ensures.holds in
    rw (composed _ _ _ _ _ c.labels-2-1.given.0 c.compose.ensures.ok c.compose.ensures.fits c.new-octets.ensures c.as_slice.ensures.value name) name.short

pub labels_in-requires-2 : goal.labels_in-requires-2
labels_in-requires-2 g c =
    let name = g.met.N.ToLabelIter.is_name _ c.compose_len-len.ensures.holds in
    rw (composed _ _ _ _ _ c.labels-2-1.given.0 c.compose.ensures.ok c.compose.ensures.fits c.new-octets.ensures c.as_slice.ensures.value name)
    (record { room = omega (arith, name.fits) })

pub returns : goal.returns
returns g c = λ plain ok.
    let name = g.met.N.ToLabelIter.is_name _ c.compose_len-len.ensures.holds in
    has_written_of_eq _ _ _ _ _
    (c.labels_in-2.ensures ∙ ap (λ labels. encode_utf8_all (name_text c.args.form c.args.dot labels))
    (composed _ _ _ _ _ c.labels-2-1.given.0 c.compose.ensures.ok c.compose.ensures.fits c.new-octets.ensures c.as_slice.ensures.value name))
    (c.write_str-2.ensures.writes plain ok)
