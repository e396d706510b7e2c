use Rattle.std.proofs.Common.{ap, length}
use Rattle.rdata.specs.Digits.{digits_form}
use Rattle.rdata.proofs.Joinings.{joined_once}
use Rattle.rdata.proofs.Somes.{some_taken}
use Rattle.rdata.proofs.rest.parse_some_digits.Goals as goal

pub returns-clause-takes : goal.returns-clause-takes
returns-clause-takes g c =
    some_taken (digits_form c.args.kind) g.B.OctetsBuilder.room _ _ _ c.want_more.result _ _ _ _ (joined_once c.args.kind _) (ap (λ e. e.at) c.parse_digits.ensures.end) (ap length c.as_slice-length.ensures.value) c.in_ok-parse_digits.ensures.takes
    c.want_more.ensures
