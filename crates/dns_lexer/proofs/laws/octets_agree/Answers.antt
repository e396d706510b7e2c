use Rattle.dns_lexer.proofs.Agree.{small_scalars, octets_have_pieces, octets_are_bad}
use Rattle.dns_lexer.proofs.OctetFaults.{given_alike, octets_fault, octets_opener}
use Rattle.dns_lexer.proofs.OctetsOnce.{are_octets}
use Rattle.dns_lexer.proofs.laws.octets_agree.Goals as goal

pub returns-clause-given : goal.returns-clause-given
returns-clause-given c = given_alike c.args.text.now c.utf8.text (are_octets c.args.text.now (λ k. (c.type_inv.text k).fits))

pub returns-clause-pieces : goal.returns-clause-pieces
returns-clause-pieces c = octets_have_pieces c.args.text.now (small_scalars c.args.text.now (λ k. (c.type_inv.text k).fits))

pub returns-clause-bad : goal.returns-clause-bad
returns-clause-bad c = octets_are_bad c.args.text.now c.utf8.text (small_scalars c.args.text.now (λ k. (c.type_inv.text k).fits))

pub returns-clause-fault : goal.returns-clause-fault
returns-clause-fault c = octets_fault c.args.text.now c.utf8.text (small_scalars c.args.text.now (λ k. (c.type_inv.text k).fits))

pub returns-clause-opener : goal.returns-clause-opener
returns-clause-opener c = octets_opener c.args.text.now c.utf8.text (small_scalars c.args.text.now (λ k. (c.type_inv.text k).fits))
