use Rattle.std.specs.Option.{option_copied}
use Rattle.zone_reader.proofs.NamesTaken.{name_is_made, name_refused, taken_as}
use Rattle.zone_parts.proofs.Passes.{rejected_next}
use Rattle.zone_parts.proofs.pass.parse_owner.Goals as goal

pub unreachable-requires : goal.unreachable-requires
unreachable-requires g c =
    name_is_made (option_copied c.args.origin) _ _ _ c.from_octets.result c.in-Err-from_octets.field-0
    (taken_as (option_copied c.args.origin) (g.S.TokenSource.end c.args.source.now).at _ _ _ _ tt c.new-octets.ensures c.in-Ok.ensures.takes) c.from_octets.ensures c.in-Err-from_octets.is

pub returns-in-Err-clause-named : goal.returns-in-Err-clause-named
returns-in-Err-clause-named g c =
    rejected_next (option_copied c.args.origin) (g.S.TokenSource.end c.args.source.now).at _ _ c.in-Err.field-0
    (name_refused (option_copied c.args.origin) (g.S.TokenSource.end c.args.source.now).at _ _ _ _ c.in-Err.field-0 c.new-octets.ensures c.in-Err.ensures.takes)
