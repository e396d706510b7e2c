use Rattle.dns_lexer.specs.EntryTokens.{token_seen}
use Rattle.zone_check.proofs.WordSteps.{is_not_found, long_decided}
use Rattle.zone_check.proofs.entry_words.is_long_ttl.Goals as goal

pub returns-then-token : goal.returns-then-token
returns-then-token c = is_not_found (λ p. let other = p.0 in cc)

pub returns-in-Ok : goal.returns-in-Ok
returns-in-Ok c = long_decided (token_seen c.args.token.now) c.in-Ok.seconds c.if-token.false c.in-Ok.ensures c.ttls_are_read_back.ensures.interval

pub returns-in-Err : goal.returns-in-Err
returns-in-Err c = is_not_found (λ p. c.in-Err.ensures.1 p.1.0 p.1.1)
