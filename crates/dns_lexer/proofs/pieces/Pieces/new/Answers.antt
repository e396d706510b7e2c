use Rattle.std.proofs.Common.{sym, ap, ◌∙◌, subst}
use Rattle.dns_lexer.specs.declared.reader.Mode.TheVariants.{Outside}
use Rattle.dns_lexer.specs.Pieces.{Reads, EachFits}
use Rattle.dns_lexer.specs.Run.{first_blank, run}
use Rattle.dns_lexer.proofs.PieceFaults.{reads}
use Rattle.dns_lexer.proofs.PieceParts.{each_fits}
use Rattle.dns_lexer.proofs.pieces.Pieces.new.Goals as goal

pub returns-clause-reads : goal.returns-clause-reads
returns-clause-reads c = subst (Reads c.args.text.now) (sym (c.beginning.ensures ∙ ap (λ l. run Outside 0 0 0 (first_blank l) l) c.as_bytes.ensures.value)) (reads c.args.text.now c.utf8.text)

pub returns-clause-fits : goal.returns-clause-fits
returns-clause-fits c = subst (EachFits c.args.text.now) (sym (c.beginning.ensures ∙ ap (λ l. run Outside 0 0 0 (first_blank l) l) c.as_bytes.ensures.value))
    (each_fits c.args.text.now c.utf8.text (reads c.args.text.now c.utf8.text))
