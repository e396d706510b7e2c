use Rattle.std.proofs.lemmas.Result.{err_from_is_err_and}
use Rattle.std.specs.Option.{option_copied}
use Rattle.zone_reader.proofs.NamesTaken.{name_refused, name_is_made, taken_as}
use Rattle.zone_reader.proofs.state.parse_name.Goals as goal

pub returns-in_err-parse_field-clause-takes : goal.returns-in_err-parse_field-clause-takes
returns-in_err-parse_field-clause-takes g c =
    let p = err_from_is_err_and c.from_residual.result c.from_residual.ensures.1 in
    rw (p.1, p.2) (name_refused (option_copied c.args.origin) _ _ _ _ _ c.in_err-parse_field.field-0.0 c.new-octets.ensures c.in_err-parse_field.ensures.takes)

pub unreachable-requires : goal.unreachable-requires
unreachable-requires g c =
    name_is_made (option_copied c.args.origin) _ _ _ c.from_octets.result c.in-Err.field-0
    (taken_as (option_copied c.args.origin) (g.S.TokenSource.end c.args.source.now).at _ _ _ _ tt c.new-octets.ensures c.in_ok-parse_field.ensures.takes) c.from_octets.ensures c.in-Err.is
