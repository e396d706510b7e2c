use Rattle.std.proofs.Common.{◌≡◌, length}
use Rattle.std.specs.List.{list_all}
use Rattle.mail_texts.specs.Parts.{parts_between}
use Rattle.record_rules.specs.CaaValues.{is_caa_label}
use Rattle.record_rules.proofs.caa_values.is_issuer_name.Given as goal

abbrev pub invariant-loop-label : goal.invariant-loop-label
invariant-loop-label l = list_all is_caa_label (parts_between 46 l.rest) ≡ list_all is_caa_label (parts_between 46 l.fn.word)

abbrev pub decreases-loop-label : goal.decreases-loop-label
decreases-loop-label l = length l.rest
