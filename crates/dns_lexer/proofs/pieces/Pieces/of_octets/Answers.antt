use Rattle.std.proofs.Common.{sym, subst, length}
use Rattle.dns_lexer.specs.Pieces.{ReadsOctets, EachWithin}
use Rattle.dns_lexer.specs.Run.{first_blank}
use Rattle.dns_lexer.proofs.Agree.{small_scalars}
use Rattle.dns_lexer.proofs.PieceMoved.{reads_octets}
use Rattle.dns_lexer.proofs.PieceParts.{each_within}
use Rattle.dns_lexer.proofs.pieces.Pieces.of_octets.Goals as goal

pub returns-clause-reads : goal.returns-clause-reads
returns-clause-reads c = subst (ReadsOctets c.args.octets.now) (sym c.beginning.ensures) (reads_octets c.args.octets.now (small_scalars c.args.octets.now (λ k. (c.type_inv.octets k).fits)))

pub returns-clause-within : goal.returns-clause-within
returns-clause-within c = subst (EachWithin (length c.args.octets.now)) (sym c.beginning.ensures) (each_within c.args.octets.now (first_blank c.args.octets.now))
