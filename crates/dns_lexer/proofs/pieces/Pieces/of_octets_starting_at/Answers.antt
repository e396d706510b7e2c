use Rattle.std.proofs.Common.{sym, ap, ◌∙◌, subst, length, take, drop}
use Rattle.std.proofs.lemmas.List.{take-append-drop}
use lib.Utf8.{scalars}
use Rattle.dns_lexer.specs.Pieces.{ReadsOctetsFrom, EachWithin}
use Rattle.dns_lexer.proofs.Agree.{small_scalars}
use Rattle.dns_lexer.proofs.Steps.{scalars_rest}
use Rattle.dns_lexer.proofs.PieceMoved.{reads_octets_from}
use Rattle.dns_lexer.proofs.PieceParts.{within_from}
use Rattle.dns_lexer.proofs.pieces.Pieces.of_octets_starting_at.Goals as goal

pub returns-clause-reads : goal.returns-clause-reads
returns-clause-reads c =
    let all = small_scalars c.args.octets.now (λ k. (c.type_inv.octets k).fits) in
    subst (ReadsOctetsFrom c.args.octets.now c.args.at) (sym c.beginning.ensures)
    (reads_octets_from c.args.octets.now c.args.at (scalars_rest (take c.args.at c.args.octets.now) (drop c.args.at c.args.octets.now)
    (ap scalars (take-append-drop c.args.at c.args.octets.now) ∙ all)))

pub returns-clause-within : goal.returns-clause-within
returns-clause-within c = subst (EachWithin (length c.args.octets.now)) (sym c.beginning.ensures) (within_from c.args.octets.now c.args.at c.requires)
