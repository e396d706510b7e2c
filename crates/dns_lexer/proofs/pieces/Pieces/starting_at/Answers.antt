use Rattle.std.proofs.Common.{sym, ap, ◌∙◌, subst, drop}
use Rattle.std.proofs.lemmas.Str.{IsUtf8-drop}
use Rattle.dns_lexer.specs.declared.reader.Mode.TheVariants.{Outside}
use Rattle.dns_lexer.specs.Pieces.{ReadsFrom, EachIsPart}
use Rattle.dns_lexer.specs.Run.{first_blank, run}
use Rattle.dns_lexer.proofs.PieceMoved.{reads_from}
use Rattle.dns_lexer.proofs.PieceParts.{each_is_part}
use Rattle.dns_lexer.proofs.pieces.Pieces.starting_at.Goals as goal

pub returns-clause-reads : goal.returns-clause-reads
returns-clause-reads c = subst (ReadsFrom c.args.text.now c.args.at)
    (sym (c.beginning.ensures ∙ ap (λ l. run Outside 0 c.args.at c.args.at (first_blank (drop c.args.at l)) (drop c.args.at l)) c.as_bytes.ensures.value))
    (reads_from c.args.text.now c.args.at (IsUtf8-drop c.args.text.now c.args.at c.utf8.text c.requires))

pub returns-clause-parts : goal.returns-clause-parts
returns-clause-parts c = subst (EachIsPart c.args.text.now) (sym
    (c.beginning.ensures ∙ ap (λ l. run Outside 0 c.args.at c.args.at (first_blank (drop c.args.at l)) (drop c.args.at l)) c.as_bytes.ensures.value))
    (each_is_part c.args.text.now c.args.at c.utf8.text c.requires)
