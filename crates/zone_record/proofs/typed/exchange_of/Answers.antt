use Rattle.zone_record.proofs.MailParts.{has_parts, second_name}
use Rattle.zone_record.proofs.typed.exchange_of.Goals as goal

pub unreachable-requires : goal.unreachable-requires
unreachable-requires g c = (has_parts c.args.mail.now c.requires c.as_slice-octets.ensures.is_data).1 c.in-None.ensures

pub returns-clause-name : goal.returns-clause-name
returns-clause-name g c = second_name c.args.mail.now c.in-Some.octets.now c.requires c.as_slice-octets.ensures.is_data c.in-Some.ensures
