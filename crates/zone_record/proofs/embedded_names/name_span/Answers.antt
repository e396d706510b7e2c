use Rattle.std.proofs.Common.{◌∙◌, length, sym, subst, arith, ap, refl, length-drop}
use Rattle.rdata_tokens.proofs.FormLaws.{slice_values}
use Rattle.zone_record.specs.FieldForms.{CanonicalFields}
use Rattle.zone_record.specs.EmbeddedNames.{fields_of_form, names_size}
use Rattle.zone_record.proofs.UntextedNames.{behind, span_form}
use Rattle.zone_record.proofs.embedded_names.name_span.Goals as goal

pub returns-in-Some-clause-within : goal.returns-in-Some-clause-within
returns-in-Some-clause-within c =
    let front = c.name_places-front.result.front in
    let octets = c.args.octets.now in
    let few = c.in-Some.ensures.within in
    (omega arith, omega (arith, few, c.if-front-octets.false, ap length (behind front _ octets refl), length-drop front octets))

pub returns-in-Some-clause-form : goal.returns-in-Some-clause-form
returns-in-Some-clause-form c = λ form h.
    let p = c.name_places-front.result in
    let octets = c.args.octets.now in
    span_form p octets (slice_values octets (λ k. (c.type_inv.octets k).fits)) c.in-Some.width form (c.in-Some.ensures.size ∙ ap (names_size p.names) (behind p.front _ octets refl))
    (subst (λ q. CanonicalFields (fields_of_form q octets) octets form) (sym c.name_places-front.ensures.form) h)
