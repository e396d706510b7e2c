use Rattle.std.proofs.Common.{◌≡◌, false, Some, ap, sym, ◌∙◌}
use Rattle.dns_lexer.specs.EntryTokens.{token_seen}
use Rattle.zone_reader.proofs.Refusals.{directive_refused}
use Rattle.zone_reader.proofs.directive.parse_directive.Goals as goal

pub returns-in-Some-Err-clause-takes : goal.returns-in-Some-Err-clause-takes
returns-in-Some-Err-clause-takes g c =
    let plain : c.args.begins_blank ≡ false = search in
    rw c.at.ensures (directive_refused _ (token_seen c.in-Some.token) _ c.in-Some-Err.why c.args.begins_blank (g.S.TokenSource.left c.args.source.now) plain c.in-Some.ensures c.place-at.ensures (sym c.in-Some-Err.ensures ∙ ap Some c.in-Some-Err.field-0-is))
