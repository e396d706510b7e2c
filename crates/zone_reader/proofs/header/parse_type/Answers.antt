use Rattle.dns_lexer.specs.EntryTokens.{token_seen}
use Rattle.zone_reader.proofs.Refusals.{type_refused}
use Rattle.zone_reader.proofs.header.parse_type.Goals as goal

pub returns-in_default-type_word-clause-takes : goal.returns-in_default-type_word-clause-takes
returns-in_default-type_word-clause-takes g c =
    rw c.at-in_default-type_word.ensures (type_refused _ (token_seen c.in-Some.token) _ c.type_refusal-why.result c.args.may_be_ttl (g.S.TokenSource.left c.args.source.now) c.in-Some.ensures c.place-at.ensures (c.type_refusal-why.ensures, c.in_default-type_word.ensures))
