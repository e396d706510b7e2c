use Rattle.dns_lexer.specs.EntryTokens.{token_seen}
use Rattle.zone_reader.specs.HeaderWords.{TokenIsTtl}
use Rattle.zone_parts.proofs.Passes.{next_found}
use Rattle.zone_parts.proofs.pass.next_ttl.Goals as goal

pub returns-in-Some : goal.returns-in-Some
returns-in-Some g c = next_found TokenIsTtl (g.S.TokenSource.left c.args.source.now) (token_seen c.in-Some.token) c.ttl_word.result c.in-Some.ensures c.ttl_word.ensures
