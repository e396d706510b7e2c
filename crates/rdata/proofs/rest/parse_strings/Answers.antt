use Rattle.std.specs.Option.{option_copied}
use Rattle.rdata.proofs.Strings.{strings_taken}
use Rattle.rdata.proofs.rest.parse_strings.Goals as goal

pub returns-clause-takes : goal.returns-clause-takes
returns-clause-takes g c = strings_taken (option_copied c.args.origin) g.B.OctetsBuilder.room _ _ _ c.parse_each.result _ _ c.parse_each.ensures.left c.parse_each.ensures.takes
