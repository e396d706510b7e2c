use Rattle.std.proofs.Common.{refl, ap, inl, inr, Err, map}
use Rattle.std.specs.Prelude.{codes}
use Rattle.dns_zone.specs.EntryFields.{contents_of}
use Rattle.dns_zone.specs.EntryErrors.{entry_error_text}
use Rattle.dnstext_lib.specs.EntryLine.{asked_of}
use Rattle.dnstext_lib.specs.Program.{cause_text, bytes_of_words}
use Rattle.dns_scan.specs.StrError.{str_cause}
use Rattle.dnstext_lib.proofs.Fielding.{held_begin}
use Rattle.dnstext_lib.proofs.line.run_line.Goals as goal

pub returns-in-Err-NoMemory-clause-refused : goal.returns-in-Err-NoMemory-clause-refused
returns-in-Err-NoMemory-clause-refused g c = λ is.
    let begins = c.in-Err-NoMemory.ensures.memory (ap (λ e. Err e) c.in-Err-NoMemory.field-0-is) in
    (codes "short buffer", inr (inr (inr (begins, refl, refl))), c.refuse.ensures.wrote is)

pub returns-in-Err-NoMemory-clause-silent : goal.returns-in-Err-NoMemory-clause-silent
returns-in-Err-NoMemory-clause-silent g c = λ is.
    let begins = c.in-Err-NoMemory.ensures.memory (ap (λ e. Err e) c.in-Err-NoMemory.field-0-is) in
    inr (codes "short buffer", inr (inr (inr (begins, refl, refl))))

pub returns-in-Err-Refused-clause-silent : goal.returns-in-Err-Refused-clause-silent
returns-in-Err-Refused-clause-silent g c = λ is.
    let asked = map asked_of c.in-Ok.found.items in
    let stopped = rw (c.deref.ensures.value, c.in-Err-Refused.field-0-is) at c.in-Err-Refused.ensures in
    inr (cause_text (str_cause c.in-Err-Refused.error), inl (asked, stopped.0, str_cause c.in-Err-Refused.error, c.in-Ok.ensures.found, stopped.1, refl, refl))

pub returns-in-Err-NoMemory-make_fields-clause-refused : goal.returns-in-Err-NoMemory-make_fields-clause-refused
returns-in-Err-NoMemory-make_fields-clause-refused g c = λ is.
    let asked = map asked_of c.in-Ok.found.items in
    let some = rw (c.deref.ensures.value, c.in-Err-NoMemory-make_fields.field-0-is) at c.in-Err-NoMemory-make_fields.ensures in
    let begins = held_begin (bytes_of_words c.args.words.now) asked c.in-Ok.ensures.found some in
    (codes "short buffer", inr (inr (inr (begins, refl, refl))), c.refuse-in-Err-NoMemory-make_fields.ensures.wrote is)

pub returns-in-Err-NoMemory-make_fields-clause-silent : goal.returns-in-Err-NoMemory-make_fields-clause-silent
returns-in-Err-NoMemory-make_fields-clause-silent g c = λ is.
    let asked = map asked_of c.in-Ok.found.items in
    let some = rw (c.deref.ensures.value, c.in-Err-NoMemory-make_fields.field-0-is) at c.in-Err-NoMemory-make_fields.ensures in
    let begins = held_begin (bytes_of_words c.args.words.now) asked c.in-Ok.ensures.found some in
    inr (codes "short buffer", inr (inr (inr (begins, refl, refl))))

pub returns-in-Ok-new-clause-refused : goal.returns-in-Ok-new-clause-refused
returns-in-Ok-new-clause-refused g c = λ is.
    let asked = map asked_of c.in-Ok.found.items in
    let fields = contents_of c.in-Ok-make_fields.fields.items in
    let run = rw c.deref.ensures.value at c.in-Ok-make_fields.ensures in
    (codes "write failed", inr (inr (inl (asked, fields, c.in-Ok.ensures.found, run, c.in-Ok-new.ensures.accepts.0 refl, refl))), c.refuse-in-Err-write.ensures.wrote is)

pub returns-in-Ok-new-clause-silent : goal.returns-in-Ok-new-clause-silent
returns-in-Ok-new-clause-silent g c = λ is.
    let asked = map asked_of c.in-Ok.found.items in
    let fields = contents_of c.in-Ok-make_fields.fields.items in
    let run = rw c.deref.ensures.value at c.in-Ok-make_fields.ensures in
    inr (codes "write failed", inr (inr (inl (asked, fields, c.in-Ok.ensures.found, run, c.in-Ok-new.ensures.accepts.0 refl, refl))))

pub returns-clause-refused : goal.returns-clause-refused
returns-clause-refused g c = λ is.
    let asked = map asked_of c.in-Ok.found.items in
    let fields = contents_of c.in-Ok-make_fields.fields.items in
    let run = rw c.deref.ensures.value at c.in-Ok-make_fields.ensures in
    (entry_error_text c.in-Err.refusal.0, inr (inl (asked, fields, c.in-Err.refusal.0, c.in-Ok.ensures.found, run, c.in-Err.ensures.err, refl, refl)), c.refuse-in-Err.ensures.wrote is)

pub returns-clause-silent : goal.returns-clause-silent
returns-clause-silent g c = λ is.
    let asked = map asked_of c.in-Ok.found.items in
    let fields = contents_of c.in-Ok-make_fields.fields.items in
    let run = rw c.deref.ensures.value at c.in-Ok-make_fields.ensures in
    inr (entry_error_text c.in-Err.refusal.0, inr (inl (asked, fields, c.in-Err.refusal.0, c.in-Ok.ensures.found, run, c.in-Err.ensures.err, refl, refl)))
