use Rattle.std.proofs.Common.{◌∷◌, ◌∙◌, ap, arith}
use Rattle.std.specs.Prelude.{Ok}
use Rattle.dns_lexer.specs.EntryTokens.{answer_seen, token_seen}
use Rattle.zone_generate.proofs.TokenFills.{fills_all, fills_enough, fills_to_end}
use Rattle.zone_generate.proofs.tokens.fill.Goals as goal

pub tokens-preserved : goal.tokens-preserved
tokens-preserved c =
    let l = c.tokens in
    let new = c.next_token.new.self in
    let ok = c.in-Some-Ok-Token.field-0-is in
    let token = c.in-Some-Ok-Token.field-0-0-is in
    fills_enough c.of_octets-source.result l.source new l.tokens l.count l.invariant (token_seen c.in-Some-Ok-Token.token) c.in-Some-Ok-Token.field-0-0-1 (omega (arith, c.if-count-lt-DIRECTIVE_TOKENS.false))
    (c.in-Some-Ok-Token.ensures.takes ∙ ap (λ r. answer_seen r ∷ new) (ok ∙ ap Ok token))

pub returns-in-Some-Ok-End-clause-value : goal.returns-in-Some-Ok-End-clause-value
returns-in-Some-Ok-End-clause-value c =
    let l = c.tokens in
    let new = c.next_token.new.self in
    let ok = c.in-Some-Ok-End.field-0-is in
    let end = c.in-Some-Ok-End.field-0-0-is in
    fills_to_end c.of_octets-source.result l.source new l.tokens l.count l.invariant c.args.octets.now c.in-Some-Ok-End.field-0-0-0 c.of_octets-source.ensures
    (c.in-Some-Ok-End.ensures.takes ∙ ap (λ r. answer_seen r ∷ new) (ok ∙ ap Ok end))

pub returns-in-None-clause-value : goal.returns-in-None-clause-value
returns-in-None-clause-value c =
    let l = c.tokens in
    fills_all c.of_octets-source.result l.source c.next_token.new.self l.tokens l.count l.invariant c.args.octets.now c.of_octets-source.ensures c.in-None.ensures.takes.0
