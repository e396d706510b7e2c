use Rattle.std.proofs.Common.{◌∙◌, Err, Ok, false}
use Rattle.std.specs.Option.{option_copied}
use Rattle.zone_reader.proofs.TextParts.{closed_left}
use Rattle.c_calls.proofs.CutOff.{fits_if, tokens_in}
use Rattle.c_calls.proofs.ReadTexts.{nothing_after}
use Rattle.c_calls.proofs.reading.read_nothing.Goals as goal

pub returns-in-Ok : goal.returns-in-Ok
returns-in-Ok g c =
    let items = c.read_tokens-read.new.target.items in
    tokens_in g.row.N false c.args.rtype (option_copied c.args.origin) c.args.source.now _ (Ok _) _ items (λ no r e k. let never = e in cc)
    (rw c.requires.none at (rw c.in-Ok.is at c.read_tokens-read.ensures.reads))
    (nothing_after c.args.rtype (Ok _) items _ (closed_left c.args.source.now c.requires.closed ∙ c.requires.nothing))

pub returns-in-Err : goal.returns-in-Err
returns-in-Err g c =
    let items = c.read_tokens-read.new.target.items in
    tokens_in g.row.N c.read_lacks-lacks.result c.args.rtype (option_copied c.args.origin) c.args.source.now _ (Err c.in-Err.error) _ items
    (fits_if (Err c.in-Err.error) c.read_lacks-lacks.result (rw c.in-Err.is at c.read_lacks-lacks.ensures))
    (rw c.requires.none at (rw c.in-Err.is at c.read_tokens-read.ensures.reads))
    (nothing_after c.args.rtype (Err c.in-Err.error) items _ (closed_left c.args.source.now c.requires.closed ∙ c.requires.nothing))
