use Rattle.std.proofs.Common.{◌∙◌, sym, ap, not, refl}
use Rattle.rdata_tokens.proofs.FormLaws.{slice_values}
use Rattle.zone_record.specs.EmbeddedNames.{fields_of_form, names_size}
use Rattle.zone_record.proofs.UntextedNames.{behind, form_found, some_of, table_part}
use Rattle.zone_record.proofs.embedded_names.untexted_fields.Goals as goal

pub returns : goal.returns
returns c =
    let p = c.name_places-front.result in
    let octets = c.args.octets.now in
    let some = some_of c.names_width.result (c.is_none.ensures ∙ ap not c.if-is_none.false) in
    table_part p.front p.names _ c.name_places-front.ensures.few.0 c.name_places-front.ensures.few.1 refl
    ∙ form_found p octets (slice_values octets (λ k. (c.type_inv.octets k).fits)) some.0 (sym some.1 ∙ c.names_width.ensures.size ∙ ap (names_size p.names) (behind p.front _ octets refl))
    ∙ ap (λ q. fields_of_form q octets) c.name_places-front.ensures.form
