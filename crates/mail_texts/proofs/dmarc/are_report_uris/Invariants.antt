use Rattle.std.proofs.Common.{◌≡◌, length}
use Rattle.std.specs.List.{list_all}
use Rattle.mail_texts.specs.Parts.{parts_between}
use Rattle.mail_texts.specs.Dmarc.{is_report_uri}
use Rattle.mail_texts.proofs.dmarc.are_report_uris.Given as goal

abbrev pub invariant-loop-part : goal.invariant-loop-part
invariant-loop-part l = list_all is_report_uri (parts_between 44 l.rest) ≡ list_all is_report_uri (parts_between 44 l.fn.value)

abbrev pub decreases-loop-part : goal.decreases-loop-part
decreases-loop-part l = length l.rest
