use Rattle.std.proofs.Common.{ap, arith, ◌∙◌, Some}
use Rattle.zone_record.proofs.MailParts.{first_two, has_parts, two_octets}
use Rattle.zone_record.proofs.typed.preference_of.Goals as goal

pub bounds-octets-0 : goal.bounds-octets-0
bounds-octets-0 g c =
    let two = first_two c.args.mail.now c.in-Some.octets.now c.requires c.as_slice-octets.ensures.is_data c.in-Some.ensures in omega (arith, two.0)

pub bounds-octets-1 : goal.bounds-octets-1
bounds-octets-1 g c =
    let two = first_two c.args.mail.now c.in-Some.octets.now c.requires c.as_slice-octets.ensures.is_data c.in-Some.ensures in omega (arith, two.0)

pub unreachable-requires : goal.unreachable-requires
unreachable-requires g c = (has_parts c.args.mail.now c.requires c.as_slice-octets.ensures.is_data).0 c.in-None.ensures

pub returns : goal.returns
returns g c =
    let two = first_two c.args.mail.now c.in-Some.octets.now c.requires c.as_slice-octets.ensures.is_data c.in-Some.ensures in
    c.in-Some.ensures ∙ ap Some (two_octets c.in-Some.octets.now c.from_be_bytes.result two c.from_be_bytes.ensures)
