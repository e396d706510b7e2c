use Rattle.std.specs.Option.{option_copied}
use Rattle.zone_record.proofs.TypeDatas.{refused_is_none, spelled_is_type_data}
use Rattle.zone_record.proofs.reading.data_of_tokens.Goals as goal

pub returns-in-Err-from_octets-clause-err : goal.returns-in-Err-from_octets-clause-err
returns-in-Err-from_octets-clause-err g c =
    let octets = g.B.Octets.AsOctets.octets c.in-Ok.octets in
    let origin = option_copied c.args.origin in
    λ held. absurd (refused_is_none c.args.rtype octets c.in-Err-from_octets.field-0 c.in-Err-from_octets.ensures.err
    (spelled_is_type_data origin c.args.rtype (g.S.TokenSource.left c.args.source.now) octets c.know_origin.ensures held c.in-Ok.ensures.ok.2 c.in-Ok.ensures.ok.1))
