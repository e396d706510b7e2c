use Rattle.std.proofs.Common.{◌∷◌, length, sym, ap, subst, ◌∙◌, arith}
use Rattle.dns_codec.specs.Base.{base32hex, encoded}
use Rattle.rdata_tokens.specs.NameSpelling.{IsWireName}
use Rattle.rdata_tokens.specs.Spelling.{AreOctetValues}
use Rattle.dns_wire.specs.Labelled.{wire_same}
use Rattle.dns_wire.proofs.Wires.{length_wire}
use Rattle.zone_dnssec.proofs.HashLabels.{label_length, label_name, label_octets}
use Rattle.zone_dnssec.proofs.nsec3_hash.name_below.Goals as goal

pub labelled_octets-octets-requires : goal.labelled_octets-octets-requires
labelled_octets-octets-requires c = omega (arith, ap length c.octets_of.ensures.value, length_wire c.args.origin.now, c.requires.apex)

pub name_over-requires : goal.name_over-requires
name_over-requires c =
    let text = encoded base32hex c.args.hash.now in
    let size = label_length c.args.hash.now c.requires.hash in
    let e = c.labelled_octets-octets.ensures ∙ label_octets c.hash_label-label.result _ c.args.hash.now c.args.origin.now c.requires.hash c.hash_label-label.ensures c.octets_of.ensures.value in
    subst IsWireName (sym e)
    (label_name text c.args.origin.now c.octets_of.ensures.is_name c.octets_of.ensures.absolute (omega (arith, size)) (omega (arith, size)) (omega (arith, size, c.requires.apex))
    (subst AreOctetValues e c.as_slice-octets.ensures.bytes))

pub returns : goal.returns
returns c =
    wire_same c.name_over.result (encoded base32hex c.args.hash.now ∷ c.args.origin.now)
    (sym c.name_over.ensures ∙ c.labelled_octets-octets.ensures
    ∙ label_octets c.hash_label-label.result _ c.args.hash.now c.args.origin.now c.requires.hash c.hash_label-label.ensures c.octets_of.ensures.value)
