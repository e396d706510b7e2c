use Rattle.std.proofs.Common.{drop}
use Rattle.dns_lexer.specs.EntryTokens.{token_seen}
use Rattle.rdata_fields.proofs.Tokens.{first_taken}
use Rattle.rdata.specs.NsapRest.{nsap_word_form}
use Rattle.rdata.proofs.NsapRestLaws.{word_refused}
use Rattle.rdata.proofs.TokenRests.{next_refused}
use Rattle.rdata.proofs.nsap.parse_nsap_word.Goals as goal

pub returns-in-Err-clause-takes : goal.returns-in-Err-clause-takes
returns-in-Err-clause-takes g c =
    let t = token_seen c.in-Some.token in
    let is = first_taken t (g.S.TokenSource.left c.args.source.now) c.in-Some.ensures in
    let why = word_refused g.B.OctetsBuilder.room t (drop 1 (g.S.TokenSource.left c.args.source.now)) (g.B.AsOctets.octets c.args.target.now) c.in-Err.why c.if-token.false c.in-Err.ensures.why in
    rw c.at-in-Err.ensures (next_refused nsap_word_form.begins nsap_word_form.spells nsap_word_form.reason g.B.OctetsBuilder.room _ c.place-at.result _ t _ _ _ c.in-Err.why is c.place-at.ensures why c.in-Err.ensures.extends)
