use Rattle.dns_lexer.proofs.Whole.{first_token}
use Rattle.dns_lexer.proofs.token.is_first_piece.Goals as goal

pub returns : goal.returns
returns c = first_token c.args.text.now c.new.result _ c.next.result _ c.new.ensures.reads c.next.ensures.steps c.spans_all.ensures
