use Rattle.std.proofs.Common.{ℕ, Bool, List, [], ◌∷◌, sym, ap, ◌∙◌, arith}
use Rattle.std.specs.Prelude.{◌&&◌}
use Rattle.dns_wire.specs.Wire.{wire_length}
use Rattle.zone_rules.specs.Present.{has_records, is_existing}
use Rattle.zone_rules.proofs.Neighbours.{closest_short, closest_above, not_less_is}
use Rattle.zone_rules.proofs.present.gets_records_by_wildcard.Goals as goal

pub wildcard_has_records-requires : goal.wildcard_has_records-requires
wildcard_has_records-requires g c =
    closest_short (λ above. is_existing above (g.Z.ZoneRecords.contents c.args.records.now) c.args.refused.now) c.args.name.now c.in-Some.closest c.octets_of-octets.ensures.is_name (sym c.closest_existing.ensures ∙ c.in-Some.is)
    (omega (arith, c.if-len.true, c.len.ensures.value, c.len-in-Some.ensures.value))

pub returns-else-len : goal.returns-else-len
returns-else-len g c =
    let has : List (List ℕ) → Bool = λ above. has_records ((42 ∷ []) ∷ above) (g.Z.ZoneRecords.contents c.args.records.now) c.args.refused.now in
    not_less_is c.len.result c.len-in-Some.result c.if-len.false
    ∙ sym (ap (λ b. b && has c.in-Some.closest) (not_less_is (wire_length c.in-Some.closest) (wire_length c.args.name.now) (omega (arith, c.if-len.false, c.len.ensures.value, c.len-in-Some.ensures.value))))
    ∙ closest_above has (λ above. is_existing above (g.Z.ZoneRecords.contents c.args.records.now) c.args.refused.now) c.args.name.now c.in-Some.closest (sym c.closest_existing.ensures ∙ c.in-Some.is)
