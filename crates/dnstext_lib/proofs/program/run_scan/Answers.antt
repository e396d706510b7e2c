use Rattle.std.proofs.Common.{map, sym, refl, inl, inr}
use Rattle.std.specs.Prelude.{codes}
use Rattle.std.proofs.lemmas.Iterator.{YieldsList-from_slice}
use Rattle.std.proofs.lemmas.Iterator.Consumers.{YieldsList-from_copied}
use Rattle.dnstext_lib.specs.Program.{cause_text}
use Rattle.dns_scan.specs.StrError.{str_cause}
use Rattle.dnstext_lib.proofs.Printing.{reads_names}
use Rattle.dns_iter.proofs.Roads.{texts_from}
use Rattle.dnstext_lib.proofs.program.run_scan.Goals as goal

pub print_values-requires-clause-stands : goal.print_values-requires-clause-stands
print_values-requires-clause-stands g c =
    let at_words = YieldsList-from_slice {s = c.iter.result} c.args.tokens.now c.iter.ensures.rest in
    let road = YieldsList-from_copied {s = c.copied.result} (rw (sym c.copied.ensures.source) at at_words) in
    c.new-scanner.ensures.stands (map (λ w. w.now) c.args.tokens.now) (texts_from road)

pub print_values-requires-clause-names : goal.print_values-requires-clause-names
print_values-requires-clause-names g c = reads_names str_cause

pub returns-in-Err-Refused-clause-silent : goal.returns-in-Err-Refused-clause-silent
returns-in-Err-Refused-clause-silent g c = λ is.
    let lines = rw c.in-Err-Refused.field-0-is at c.in-Err-Refused.ensures in
    (cause_text (str_cause c.in-Err-Refused.error), inl (lines.0, str_cause c.in-Err-Refused.error, lines.1, lines.2, refl))

pub returns-in-Err-WriteFailed-clause-refused : goal.returns-in-Err-WriteFailed-clause-refused
returns-in-Err-WriteFailed-clause-refused g c = λ is. (
  codes "write failed",
  inr (rw c.in-Err-WriteFailed.field-0-is at c.in-Err-WriteFailed.ensures, refl),
  c.refuse-in-Err-WriteFailed.ensures.wrote is,
)

pub returns-in-Err-WriteFailed-clause-silent : goal.returns-in-Err-WriteFailed-clause-silent
returns-in-Err-WriteFailed-clause-silent g c = λ is. (codes "write failed", inr (rw c.in-Err-WriteFailed.field-0-is at c.in-Err-WriteFailed.ensures, refl))
