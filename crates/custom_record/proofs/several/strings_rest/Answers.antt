use Rattle.std.proofs.Common.{ap, length}
use Rattle.std.proofs.lemmas.Result.{err_from_is_err_and}
use Rattle.custom_record.proofs.OnlySpelled.{strings_only}
use Rattle.custom_record.proofs.StringsBack.{strings_given, strings_lack, strings_read}
use Rattle.custom_record.proofs.several.strings_rest.Goals as goal

pub returns-clause-back : goal.returns-clause-back
returns-clause-back g c = λ strings past tokens is texts stands.
    strings_given g.S.Scanner.next_token g.S.Error.ScannerError.cause g.S.OctetsBuilder.OctetsBuilder.room strings past tokens _ c.in_ok-strings_rest.field-0 c.some_strings.result is.0 is.1 texts
    (c.in_ok-strings_rest.ensures.whole tokens strings stands) (c.in_ok-strings_rest.ensures.rest tokens stands) c.some_strings.ensures.some

pub returns-in_err-strings_rest-clause-back : goal.returns-in_err-strings_rest-clause-back
returns-in_err-strings_rest-clause-back g c = λ strings past tokens is texts stands.
    let p = err_from_is_err_and c.from_residual.result c.from_residual.ensures.1 in
    rw (p.1, p.2) (strings_lack g.S.Scanner.next_token g.S.Error.ScannerError.cause g.S.OctetsBuilder.OctetsBuilder.room strings past tokens _ c.in_err-strings_rest.field-0.0 is.0 is.1 texts
    (c.in_err-strings_rest.ensures.whole tokens strings stands))

pub returns-clause-only : goal.returns-clause-only
returns-clause-only g c = λ tokens stands.
    let only = c.in_ok-strings_rest.ensures.only tokens stands in
    strings_only g.S.Scanner.next_token g.S.Error.ScannerError.cause tokens _ c.in_ok-strings_rest.field-0 c.some_strings.result only.0 only.1
    (c.in_ok-strings_rest.ensures.rest tokens stands) c.some_strings.ensures.some c.some_strings.ensures.none

pub returns-clause-none : goal.returns-clause-none
returns-clause-none g c = λ stands. c.some_strings.ensures.none (ap length (c.in_ok-strings_rest.ensures.none stands))

pub returns-in_err-strings_rest-clause-none : goal.returns-in_err-strings_rest-clause-none
returns-in_err-strings_rest-clause-none g c = λ stands. absurd (c.in_err-strings_rest.ensures.none stands)

pub returns-clause-reads : goal.returns-clause-reads
returns-clause-reads g c = λ tokens stands some.
    let read = c.in_ok-strings_rest.ensures.reads tokens stands in
    (read.0, strings_read g.S.OctetsBuilder.OctetsBuilder.room g.S.Error.ScannerError.cause tokens read.0 c.in_ok-strings_rest.field-0.items c.some_strings.result some read.1 c.some_strings.ensures.some, read.2)

pub returns-in_err-strings_rest-clause-reads : goal.returns-in_err-strings_rest-clause-reads
returns-in_err-strings_rest-clause-reads g c = λ tokens stands some.
    let p = err_from_is_err_and c.from_residual.result c.from_residual.ensures.1 in
    rw (p.1, p.2) (c.in_err-strings_rest.ensures.reads tokens stands)
