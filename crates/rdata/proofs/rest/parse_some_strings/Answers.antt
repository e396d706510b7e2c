use Rattle.std.proofs.Common.{ap, length}
use Rattle.std.specs.Option.{option_copied}
use Rattle.rdata_fields.proofs.Refused.{all_once}
use Rattle.rdata.specs.RestKinds.{strings_form}
use Rattle.rdata.proofs.Somes.{some_taken}
use Rattle.rdata.proofs.rest.parse_some_strings.Goals as goal

pub returns-clause-takes : goal.returns-clause-takes
returns-clause-takes g c =
    let origin = option_copied c.args.origin in
    some_taken (strings_form origin) g.B.OctetsBuilder.room _ _ _ c.want_more.result _ _ _ _ (λ a b h k. all_once origin _ _ a b h k) (ap (λ e. e.at) c.parse_strings.ensures.end) (ap length c.as_slice-length.ensures.value) c.in_ok-parse_strings.ensures.takes
    c.want_more.ensures
