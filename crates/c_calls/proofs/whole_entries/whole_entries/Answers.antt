use Rattle.std.proofs.Common.{◌∷◌, ap, ◌∙◌}
use Rattle.c_calls.proofs.Wholes.{all_read, fault_read, piece_read}
use Rattle.c_calls.proofs.whole_entries.whole_entries.Goals as goal

pub pieces-preserved : goal.pieces-preserved
pieces-preserved c =
    piece_read c.args.text.now c.args.at c.pieces.whole c.pieces.ended c.end_of-ended.result c.in-Ok.piece c.pieces.pieces c.next.new.self c.pieces.invariant (c.in-Some.ensures.steps ∙ ap (λ x. x ∷ c.next.new.self) c.in-Ok.is)
    c.end_of-ended.ensures

pub returns-in-Err-clause-reads : goal.returns-in-Err-clause-reads
returns-in-Err-clause-reads c =
    (fault_read c.args.text.now c.args.at c.pieces.whole c.pieces.ended c.in-Err.fault c.pieces.pieces c.next.new.self c.pieces.invariant (c.in-Some.ensures.steps ∙ ap (λ x. x ∷ c.next.new.self) c.in-Err.is)).0

pub returns-in-Err-clause-later : goal.returns-in-Err-clause-later
returns-in-Err-clause-later c =
    (fault_read c.args.text.now c.args.at c.pieces.whole c.pieces.ended c.in-Err.fault c.pieces.pieces c.next.new.self c.pieces.invariant (c.in-Some.ensures.steps ∙ ap (λ x. x ∷ c.next.new.self) c.in-Err.is)).1

pub returns-clause-reads : goal.returns-clause-reads
returns-clause-reads c = all_read c.args.text.now c.args.at c.pieces.whole c.pieces.ended c.pieces.pieces c.pieces.invariant c.in_default.ensures.steps.0
