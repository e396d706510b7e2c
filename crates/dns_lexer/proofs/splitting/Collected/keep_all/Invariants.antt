use Rattle.std.proofs.Common.{◌≡◌, true}
use Rattle.std.specs.List.{list_any}
use Rattle.dns_lexer.specs.Answer.{is_stored, texts}
use Rattle.dns_lexer.proofs.Collecting.{glue}
use Rattle.dns_lexer.specs.Pieces.{EachFits}
use Rattle.dns_lexer.proofs.PieceSplit.{answer, closes, is_none}
use Rattle.dns_lexer.proofs.splitting.Collected.keep_all.Given as goal

abbrev pub invariant-loop-piece : goal.invariant-loop-piece
invariant-loop-piece g l = record {
  fits : EachFits l.text l.piece-iterator;
  kept : glue l.self (answer l.text l.piece-iterator) ≡ answer l.text l.initial.piece-iterator;
  stored : list_any is_stored l.piece-iterator ≡ true → list_any is_stored l.initial.piece-iterator ≡ true;
  closed : closes (is_none (texts l.self.entry.items)) l.piece-iterator ≡ true;
}
