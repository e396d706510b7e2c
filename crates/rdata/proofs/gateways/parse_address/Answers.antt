use Rattle.std.proofs.Common.{[], true≢false, sym, refl, ◌∙◌, append-nil, inl}
use Rattle.dns_lexer.specs.EntryTokens.{token_seen}
use Rattle.rdata_fields.proofs.Tokens.{first_taken}
use Rattle.rdata_values.specs.declared.error.ErrorKind.TheVariants.{ShortBuf}
use Rattle.rdata.specs.GatewayKeys.{SpellsAddress, AddressReason}
use Rattle.rdata.proofs.GatewayLaws.{address_exceeds}
use Rattle.rdata.proofs.TokenRests.{next_refused}
use Rattle.rdata.proofs.gateways.parse_address.Goals as goal

pub returns-in-Err-compose-clause-takes : goal.returns-in-Err-compose-clause-takes
returns-in-Err-compose-clause-takes g c =
    let t = token_seen c.in-Some.token in
    let old = g.B.AsOctets.octets c.args.target.now in
    let is = first_taken t (g.S.TokenSource.left c.args.source.now) c.in-Some.ensures in
    let exceeds = address_exceeds g.B.OctetsBuilder.room c.args.number t old c.in-Ok.gateway c.if-token.false c.in-Ok.ensures (λ enough. true≢false (sym (c.in-Err-compose.ensures.fits enough))) in
    rw (c.at-in-Err-compose.ensures, c.from.ensures) (next_refused (SpellsAddress c.args.number) (SpellsAddress c.args.number) AddressReason g.B.OctetsBuilder.room _ c.place-at.result _ t _ old _ ShortBuf is c.place-at.ensures (inl (refl, exceeds)) ([], c.in-Err-compose.ensures.err ∙ sym (append-nil old)))
