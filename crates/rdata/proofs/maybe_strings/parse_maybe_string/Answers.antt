use Rattle.std.proofs.Common.{◌∙◌, sym, ap}
use Rattle.std.specs.Option.{option_copied}
use Rattle.rdata_fields.proofs.Tokens.{none_left}
use Rattle.rdata.proofs.MaybeStringLaws.{no_string_taken, string_refused, string_taken}
use Rattle.rdata.proofs.Sources.{some_left}
use Rattle.rdata.proofs.maybe_strings.parse_maybe_string.Goals as goal

pub returns-in-Err-clause-takes : goal.returns-in-Err-clause-takes
returns-in-Err-clause-takes g c =
    let some = some_left c.current.result (g.S.TokenSource.left c.args.source.now) c.current.ensures (sym c.is_some.ensures ∙ c.if-is_some.true) in
    string_refused (option_copied c.args.origin) g.B.OctetsBuilder.room _ _ _ c.in-Err.error _ _ some c.in-Err.ensures.takes

pub returns-then-is_some-clause-takes : goal.returns-then-is_some-clause-takes
returns-then-is_some-clause-takes g c =
    string_taken (option_copied c.args.origin) g.B.OctetsBuilder.room _ _ _ c.parse_nothing.result _ _ _ _ (ap (λ e. e.at) c.parse_one.ensures.end) c.in_default.ensures.takes c.parse_nothing.ensures.takes

pub returns-clause-takes : goal.returns-clause-takes
returns-clause-takes g c =
    no_string_taken g.B.OctetsBuilder.room (g.S.TokenSource.end c.args.source.now).at _ _ (none_left c.current.result (g.S.TokenSource.left c.args.source.now) c.current.ensures (sym c.is_some.ensures ∙ c.if-is_some.false))
