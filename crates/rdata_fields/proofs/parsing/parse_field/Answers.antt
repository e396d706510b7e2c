use Rattle.std.proofs.Common.{◌∷◌, ◌∙◌, ap, sym}
use Rattle.dns_lexer.specs.EntryTokens.{token_seen}
use Rattle.rdata_fields.proofs.Takings.{refused_first}
use Rattle.rdata_fields.proofs.Tokens.{first_taken}
use Rattle.rdata_fields.proofs.parsing.parse_field.Goals as goal

pub returns-clause-takes : goal.returns-clause-takes
returns-clause-takes g c =
    let t = token_seen c.in-Some.token in
    (t, first_taken t (g.S.TokenSource.left c.args.source.now) c.in-Some.ensures ∙ ap (λ left. t ∷ left) (sym c.advance.ensures.left), c.in_default-append_field.ensures.gains)

pub returns-in-Err-clause-takes : goal.returns-in-Err-clause-takes
returns-in-Err-clause-takes g c =
    rw c.at-in-Err.ensures (refused_first _ g.B.OctetsBuilder.room c.args.field _ (token_seen c.in-Some.token) (g.S.TokenSource.left c.args.source.now) _ _ _ c.in-Err.why c.in-Some.ensures c.place-at.ensures c.in-Err.ensures.refused c.in-Err.ensures.extends)
