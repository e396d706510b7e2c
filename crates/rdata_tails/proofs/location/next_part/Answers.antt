use Rattle.dns_lexer.specs.EntryTokens.{token_seen}
use Rattle.rdata_fields.proofs.Tokens.{first_taken}
use Rattle.rdata_tails.proofs.LocationLemmas.{finds_next}
use Rattle.rdata_tails.proofs.location.next_part.Goals as goal

pub returns : goal.returns
returns g c =
    let t = token_seen c.in_ok-token.token in
    finds_next c.args.part t (g.S.TokenSource.left c.args.source.now) c.part_from_text.result (first_taken t (g.S.TokenSource.left c.args.source.now) c.in_ok-token.ensures) c.if-token.false c.part_from_text.ensures
