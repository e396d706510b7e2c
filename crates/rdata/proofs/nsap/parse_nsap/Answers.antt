use Rattle.std.proofs.Common.{ap}
use Rattle.rdata.specs.NsapRest.{nsap_word_form}
use Rattle.rdata.proofs.OneTokenLaws.{one_refused, one_taken}
use Rattle.rdata.proofs.nsap.parse_nsap.Goals as goal

pub returns-in-Err-clause-takes : goal.returns-in-Err-clause-takes
returns-in-Err-clause-takes g c = one_refused nsap_word_form g.B.OctetsBuilder.room _ _ _ c.in-Err.error _ _ c.in-Err.ensures.takes

pub returns-clause-takes : goal.returns-clause-takes
returns-clause-takes g c =
    one_taken nsap_word_form g.B.OctetsBuilder.room _ _ _ c.parse_nothing.result _ _ _ _ (ap (λ e. e.at) c.parse_nsap_word.ensures.end) c.in_default.ensures.takes c.parse_nothing.ensures.takes
