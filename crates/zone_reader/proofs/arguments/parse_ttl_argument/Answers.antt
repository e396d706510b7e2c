use Rattle.dns_lexer.specs.EntryTokens.{token_seen}
use Rattle.zone_reader.proofs.Refusals.{ttl_refused}
use Rattle.zone_reader.proofs.arguments.parse_ttl_argument.Goals as goal

pub returns-in_default-ttl_word-clause-takes : goal.returns-in_default-ttl_word-clause-takes
returns-in_default-ttl_word-clause-takes g c =
    rw c.at-in_default-ttl_word.ensures (ttl_refused _ (token_seen c.in-Some.token) _ c.ttl_refusal-why.result (g.S.TokenSource.left c.args.source.now) c.in-Some.ensures c.place-at.ensures (c.ttl_refusal-why.ensures, c.in_default-ttl_word.ensures))
