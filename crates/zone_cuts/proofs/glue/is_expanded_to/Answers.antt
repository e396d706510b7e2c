use Rattle.std.proofs.Common.{ℕ, Bool, List, [], ◌∷◌, sym, ap, ◌∙◌, arith}
use Rattle.std.specs.Prelude.{◌&&◌}
use Rattle.dns_wire.specs.Wire.{wire_length}
use Rattle.zone_rules.specs.Zones.{has_owner_within}
use Rattle.zone_rules.proofs.Neighbours.{closest_short, closest_above, not_less_is}
use Rattle.zone_cuts.specs.Glue.{has_equal_data}
use Rattle.zone_cuts.proofs.glue.is_expanded_to.Goals as goal

pub wildcard_has_equal-requires : goal.wildcard_has_equal-requires
wildcard_has_equal-requires g c =
    closest_short (λ above. has_owner_within above (g.Z.ZoneRecords.contents c.args.records.now)) c.args.name.now c.in-Some.closest c.octets_of-octets.ensures.is_name (sym c.closest.ensures ∙ c.in-Some.is)
    (omega (arith, c.if-len.true, c.len.ensures.value, c.len-in-Some.ensures.value))

pub returns-else-len : goal.returns-else-len
returns-else-len g c =
    let has : List (List ℕ) → Bool = λ above. has_equal_data c.args.rtype c.args.octets.now ((42 ∷ []) ∷ above) (g.Z.ZoneRecords.contents c.args.records.now) in
    not_less_is c.len.result c.len-in-Some.result c.if-len.false
    ∙ sym (ap (λ b. b && has c.in-Some.closest) (not_less_is (wire_length c.in-Some.closest) (wire_length c.args.name.now) (omega (arith, c.if-len.false, c.len.ensures.value, c.len-in-Some.ensures.value))))
    ∙ closest_above has (λ above. has_owner_within above (g.Z.ZoneRecords.contents c.args.records.now)) c.args.name.now c.in-Some.closest (sym c.closest.ensures ∙ c.in-Some.is)
