use Rattle.std.proofs.Common.{◌++◌, length, map, ap, subst, sym, ◌∙◌, arith}
use Rattle.dns_octets.specs.Lowered.{lowered}
use Rattle.dns_wire.specs.Wire.{wire}
use Rattle.zone_record.specs.KeyNames.{key_name, AreKeyLabels}
use Rattle.zone_record.proofs.KeyNames.{name_read}
use Rattle.zone_contents.proofs.ZoneNames.{apex_is, key_labels, lower_wire_name, wire_name_short}
use Rattle.zone_contents.proofs.zone_key.Apex.of.Goals as goal

pub push_key_name-requires-clause-labels : goal.push_key_name-requires-clause-labels
push_key_name-requires-clause-labels g c =
    subst AreKeyLabels (sym (c.as_slice.ensures.value ∙ c.of-key.ensures)) (key_labels c.args.name.now c.octets_of-octets.ensures.is_wire)

pub push_key_name-requires-clause-room : goal.push_key_name-requires-clause-room
push_key_name-requires-clause-room g c =
    omega (
      arith,
      ap length c.new-octets.ensures,
      ap (λ k. length (wire (key_name k))) (c.as_slice.ensures.value ∙ c.of-key.ensures) ∙ ap (λ n. length (wire n)) (name_read c.args.name.now),
      wire_name_short (map lowered c.args.name.now) (lower_wire_name c.args.name.now c.octets_of-octets.ensures.is_wire),
    )

pub invariant_of-result : goal.invariant_of-result
invariant_of-result g c =
    apex_is c.args.name.now c.of-key.result c.push_key_name.new.name.items c.octets_of-octets.ensures.is_wire c.of-key.ensures
    (c.push_key_name.ensures ∙ (λ i. c.new-octets.ensures i ++ wire (key_name (c.as_slice.ensures.value i))))

pub returns : goal.returns
returns g c = ap key_name c.of-key.ensures ∙ name_read c.args.name.now
