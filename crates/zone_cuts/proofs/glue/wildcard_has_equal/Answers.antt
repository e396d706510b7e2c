use Rattle.std.proofs.Common.{[], ◌∷◌, length, sym, ap, subst, ◌∙◌, arith}
use Rattle.dns_wire.specs.Labelled.{wire_same}
use Rattle.dns_wire.proofs.Wires.{length_wire}
use Rattle.rdata_tokens.specs.NameSpelling.{IsWireName}
use Rattle.zone_rules.proofs.NameParts.{wildcard_name}
use Rattle.zone_cuts.specs.Glue.{has_equal_data}
use Rattle.zone_cuts.proofs.glue.wildcard_has_equal.Goals as goal

pub wildcard_octets-wildcard-requires : goal.wildcard_octets-wildcard-requires
wildcard_octets-wildcard-requires g c = omega (arith, ap length c.octets_of.ensures.value, length_wire c.args.name.now, c.requires)

pub name_of-requires : goal.name_of-requires
name_of-requires g c =
    let e = c.octets_of.ensures in
    subst IsWireName (sym (c.as_slice.ensures.value ∙ c.wildcard_octets-wildcard.ensures ∙ ap (λ o. 1 ∷ 42 ∷ o) e.value))
    (wildcard_name c.args.name.now e.is_name e.absolute e.is_wire c.requires)

pub returns : goal.returns
returns g c =
    c.has_equal_data.ensures
    ∙ ap (λ n. has_equal_data c.args.rtype c.args.octets.now n (g.Z.ZoneRecords.contents c.args.records.now))
    (wire_same c.name_of.result ((42 ∷ []) ∷ c.args.name.now)
    (sym c.name_of.ensures ∙ c.as_slice.ensures.value ∙ c.wildcard_octets-wildcard.ensures ∙ ap (λ o. 1 ∷ 42 ∷ o) c.octets_of.ensures.value))
