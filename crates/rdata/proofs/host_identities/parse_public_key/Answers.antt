use Rattle.std.proofs.Common.{drop}
use Rattle.dns_lexer.specs.EntryTokens.{token_seen}
use Rattle.rdata_fields.proofs.Tokens.{first_taken}
use Rattle.rdata.specs.HostIdentities.{public_key_form}
use Rattle.rdata.proofs.HostLaws.{host_refused}
use Rattle.rdata.proofs.TokenRests.{next_refused}
use Rattle.rdata.proofs.host_identities.parse_public_key.Goals as goal

pub returns-in-Err-clause-takes : goal.returns-in-Err-clause-takes
returns-in-Err-clause-takes g c =
    let t = token_seen c.in-Some.token in
    let form = public_key_form c.args.algorithm c.args.hit.now in
    let is = first_taken t (g.S.TokenSource.left c.args.source.now) c.in-Some.ensures in
    let why = host_refused g.B.OctetsBuilder.room c.args.algorithm c.args.hit.now t (drop 1 (g.S.TokenSource.left c.args.source.now)) (g.B.AsOctets.octets c.args.target.now) c.in-Err.why c.if-token.false c.in-Err.ensures.err in
    rw c.at-in-Err.ensures (next_refused form.begins form.spells form.reason g.B.OctetsBuilder.room _ c.place-at.result _ t _ _ _ c.in-Err.why is c.place-at.ensures why c.in-Err.ensures.extends)
