use Rattle.std.proofs.Common.{Err, Ok, ◌∙◌}
use Rattle.std.specs.Option.{option_copied}
use Rattle.c_calls.specs.DataText.{lacks_of}
use Rattle.c_calls.proofs.CutOff.{fits_if, tokens_in}
use Rattle.c_calls.proofs.ReadTexts.{faulted, read_ended, refused_ended}
use Rattle.c_calls.proofs.reading.read_open.Goals as goal

pub returns-in-Err : goal.returns-in-Err
returns-in-Err g c =
    let read = c.read_tokens-read in
    tokens_in g.row.N c.read_lacks-lacks.result c.args.rtype (option_copied c.args.origin) c.args.source.now _ read.result _ read.new.target.items (fits_if read.result c.read_lacks-lacks.result c.read_lacks-lacks.ensures)
    (rw c.requires.none at read.ensures.reads)
    (faulted c.args.rtype read.result read.new.target.items c.args.source.now read.new.source c.finish.new.self c.requires.opened read.ensures.end c.in-Err.fault (rw c.in-Err.is at c.finish.ensures) c.from-error.result c.from-error.ensures)

pub returns-in-Ok : goal.returns-in-Ok
returns-in-Ok g c =
    let items = c.read_tokens-read.new.target.items in
    tokens_in g.row.N (lacks_of c.end_text.result) c.args.rtype (option_copied c.args.origin) c.args.source.now _ (Ok _) _ items (λ no r e k. let never = e in cc)
    (rw c.requires.none at (rw c.in-Ok.is at c.read_tokens-read.ensures.reads))
    (c.end_text.ensures items ∙ read_ended c.args.rtype _ items c.args.source.now c.read_tokens-read.new.source c.finish.new.self c.requires.opened c.read_tokens-read.ensures.end c.in_default.field-0 c.in_default.ensures)

pub returns-in-Err-read : goal.returns-in-Err-read
returns-in-Err-read g c =
    let read = c.read_tokens-read in
    tokens_in g.row.N c.read_lacks-lacks.result c.args.rtype (option_copied c.args.origin) c.args.source.now _ (Err c.in-Err-read.error) _ read.new.target.items
    (fits_if (Err c.in-Err-read.error) c.read_lacks-lacks.result (rw c.in-Err-read.is at c.read_lacks-lacks.ensures))
    (rw c.requires.none at (rw c.in-Err-read.is at c.read_tokens-read.ensures.reads))
    (refused_ended c.args.rtype c.in-Err-read.error read.new.target.items c.args.source.now read.new.source c.finish.new.self c.requires.opened c.read_tokens-read.ensures.end c.in_default.field-0 c.in_default.ensures)
