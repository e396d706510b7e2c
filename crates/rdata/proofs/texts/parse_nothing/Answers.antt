use Rattle.std.proofs.Common.{◌∙◌, sym}
use Rattle.rdata_fields.proofs.Tokens.{none_left}
use Rattle.rdata.proofs.texts.parse_nothing.Goals as goal

pub returns-clause-takes : goal.returns-clause-takes
returns-clause-takes g c =
    let none = none_left c.current.result (g.S.TokenSource.left c.args.source.now) c.current.ensures (sym c.is_some.ensures ∙ c.if-is_some.false) in
    (none, none)
