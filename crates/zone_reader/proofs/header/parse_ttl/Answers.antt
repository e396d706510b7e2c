use Rattle.std.proofs.Common.{refl, subst, sym}
use Rattle.rdata_fields.proofs.Tokens.{first_taken}
use Rattle.dns_lexer.specs.EntryTokens.{token_seen}
use Rattle.zone_reader.specs.HeaderWords.{TokenIsTtl}
use Rattle.zone_reader.specs.Headers.{NoneNext, ParsesOptional}
use Rattle.zone_reader.proofs.header.parse_ttl.Goals as goal

pub returns-in_err-ttl-clause-takes : goal.returns-in_err-ttl-clause-takes
returns-in_err-ttl-clause-takes g c =
    let tokens = g.S.TokenSource.left c.args.source.now in
    let first = first_taken (token_seen c.in_ok-token.token) tokens c.in_ok-token.ensures in
    subst (λ r. ParsesOptional TokenIsTtl tokens r tokens) (sym c.from_residual-in_err-ttl.ensures) (refl, subst (NoneNext TokenIsTtl) (sym first) c.in_err-ttl.ensures)
