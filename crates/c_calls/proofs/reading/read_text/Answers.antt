use Rattle.std.proofs.Common.{false}
use Rattle.std.specs.Option.{option_copied}
use Rattle.c_calls.specs.DataText.{lacks_of, text_answered}
use Rattle.c_calls.proofs.CutOff.{always, text_cut, text_in}
use Rattle.c_calls.proofs.reading.read_text.Goals as goal

pub returns-in-Ok-Some : goal.returns-in-Ok-Some
returns-in-Ok-Some g c =
    let source = c.of_octets-source in
    text_in g.row.N (lacks_of c.read_open.result) c.args.rtype (option_copied c.args.origin) c.args.text.now (text_answered c.read_open.result c.read_open.new.target.items) source.result c.begin.new.self _ source.ensures.parts source.ensures.closed source.ensures.began
    (rw c.in-Ok-Some.is at c.begin.ensures) c.read_open.ensures

pub returns-in-Ok-None : goal.returns-in-Ok-None
returns-in-Ok-None g c =
    let source = c.of_octets-source in
    text_in g.row.N (lacks_of c.read_nothing.result) c.args.rtype (option_copied c.args.origin) c.args.text.now (text_answered c.read_nothing.result c.read_nothing.new.target.items) source.result c.begin.new.self _ source.ensures.parts source.ensures.closed source.ensures.began
    (rw c.in-Ok-None.is at c.begin.ensures) c.read_nothing.ensures

pub returns-in-Err : goal.returns-in-Err
returns-in-Err g c =
    let source = c.of_octets-source in
    always g.row.N false _ (text_cut c.args.rtype (option_copied c.args.origin) c.args.text.now source.result c.begin.new.self c.in-Err.fault c.from.result source.ensures.parts source.ensures.closed source.ensures.began (rw c.in-Err.is at c.begin.ensures) c.from.ensures)
