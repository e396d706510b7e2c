use Rattle.std.proofs.Common.{ap, ◌∙◌, Err}
use Rattle.c_calls.specs.DataText.{in_data, on_next_line}
use Rattle.c_calls.proofs.ReadTexts.{behind_fault, behind_none, behind_token}
use Rattle.c_calls.proofs.reading.end_text.Goals as goal

pub returns-in-Ok-None : goal.returns-in-Ok-None
returns-in-Ok-None c = λ octets. behind_none c.args.rtype octets c.args.source.now c.begin.new.self c.requires (rw c.in-Ok-None.field-0-is at (rw c.in-Ok-None.is at c.begin.ensures))

pub returns-in-Ok-Some : goal.returns-in-Ok-Some
returns-in-Ok-Some c = λ octets.
    let token = behind_token c.args.rtype octets c.args.source.now c.begin.new.self c.requires _ c.place.result (rw c.in-Ok-Some.field-0-is at (rw c.in-Ok-Some.is at c.begin.ensures)) c.place.ensures in
    ap (λ e. Err (on_next_line e)) c.trailing_token.ensures ∙ token

pub returns-in-Err : goal.returns-in-Err
returns-in-Err c = λ octets. ap (λ e. Err (in_data e)) c.from.ensures ∙ behind_fault c.args.rtype octets c.args.source.now c.begin.new.self c.requires c.in-Err.fault (rw c.in-Err.is at c.begin.ensures)
