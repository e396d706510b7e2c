use Rattle.std.proofs.Common.{◌≡◌, ◌∷◌, sym, ap, ◌∙◌, subst, inl, inr, refl}
use Rattle.std.specs.Prelude.{Ok, Err}
use Rattle.dns_lexer.specs.declared.pieces.Piece.TheVariants.{Word as WordAt, Quote as QuoteAt, Comment as CommentAt, End as EndAt}
use Rattle.dns_lexer.specs.Pieces.{AreItemsOf}
use Rattle.dns_lexer.proofs.OctetsOnce.{are_octets}
use Rattle.zonetext_lib.proofs.Passing.{all_parted, ends_within, none_parted, parted_bad, parted_here, parted_on}
use Rattle.zonetext_lib.proofs.writer.until_fault.Goals as goal

pub loop-piece-init : goal.loop-piece-init
loop-piece-init c = none_parted c.into_iter-piece-iterator.result

pub loop-piece-preserved-in-Ok-End : goal.loop-piece-preserved-in-Ok-End
loop-piece-preserved-in-Ok-End c =
    let rest = c.next.new.self in
    let end = c.in-Ok-End.end in
    let now : c.loop-piece.piece-iterator ≡ Ok (EndAt end) ∷ rest = c.in-Some.ensures.steps ∙ ap (λ x. x ∷ rest) c.in-Ok-End.is ∙ ap (λ x. Ok x ∷ rest) (rw c.in-Ok-End.is at c.in-Ok-End.field-0-is) in
    parted_here c.into_iter-piece-iterator.result rest c.loop-piece.piece-iterator c.loop-piece.last end.at end.begins_blank now c.loop-piece.invariant

pub loop-piece-preserved-in-Ok-Word : goal.loop-piece-preserved-in-Ok-Word
loop-piece-preserved-in-Ok-Word c =
    let rest = c.next.new.self in
    let p = c.in-Ok-Word.field-0-0 in
    let now : c.loop-piece.piece-iterator ≡ Ok (WordAt p) ∷ rest = c.in-Some.ensures.steps ∙ ap (λ x. x ∷ rest) c.in-Ok-Word.is
    ∙ ap (λ x. Ok x ∷ rest) (rw c.in-Ok-Word.is at c.in-Ok-Word.field-0-is) in
    parted_on c.into_iter-piece-iterator.result rest c.loop-piece.piece-iterator (WordAt p) c.loop-piece.last now refl c.loop-piece.invariant

pub loop-piece-preserved-in-Ok-Quote : goal.loop-piece-preserved-in-Ok-Quote
loop-piece-preserved-in-Ok-Quote c =
    let rest = c.next.new.self in
    let p = c.in-Ok-Quote.field-0-0 in
    let now : c.loop-piece.piece-iterator ≡ Ok (QuoteAt p) ∷ rest = c.in-Some.ensures.steps ∙ ap (λ x. x ∷ rest) c.in-Ok-Quote.is
    ∙ ap (λ x. Ok x ∷ rest) (rw c.in-Ok-Quote.is at c.in-Ok-Quote.field-0-is) in
    parted_on c.into_iter-piece-iterator.result rest c.loop-piece.piece-iterator (QuoteAt p) c.loop-piece.last now refl c.loop-piece.invariant

pub loop-piece-preserved : goal.loop-piece-preserved
loop-piece-preserved c =
    let rest = c.next.new.self in
    let p = c.in-Ok-Comment.field-0-0 in
    let now : c.loop-piece.piece-iterator ≡ Ok (CommentAt p) ∷ rest = c.in-Some.ensures.steps ∙ ap (λ x. x ∷ rest) c.in-Ok-Comment.is
    ∙ ap (λ x. Ok x ∷ rest) (rw c.in-Ok-Comment.is at c.in-Ok-Comment.field-0-is) in
    parted_on c.into_iter-piece-iterator.result rest c.loop-piece.piece-iterator (CommentAt p) c.loop-piece.last now refl c.loop-piece.invariant

pub returns-in-Err-clause-octets : goal.returns-in-Err-clause-octets
returns-in-Err-clause-octets c = are_octets c.args.octets.now (λ k. (c.type_inv.octets k).fits)

pub returns-in-Err-clause-within : goal.returns-in-Err-clause-within
returns-in-Err-clause-within c =
    let given = c.into_iter-piece-iterator.result in
    let all = subst (AreItemsOf c.args.octets.now) (sym c.into_iter-piece-iterator.ensures.into_iter_gives) (c.of_octets-piece-items.ensures.reads, c.of_octets-piece-items.ensures.within) in
    let now : c.loop-piece.piece-iterator ≡ Err c.in-Err.field-0 ∷ c.next.new.self = c.in-Some.ensures.steps ∙ ap (λ x. x ∷ c.next.new.self) c.in-Err.is in
    ends_within c.args.octets.now c.loop-piece.last (parted_bad c.args.octets.now given c.next.new.self c.loop-piece.piece-iterator c.in-Err.field-0 c.loop-piece.last all now c.loop-piece.invariant)

pub returns-in-Err-clause-until : goal.returns-in-Err-clause-until
returns-in-Err-clause-until c =
    let given = c.into_iter-piece-iterator.result in
    let all = subst (AreItemsOf c.args.octets.now) (sym c.into_iter-piece-iterator.ensures.into_iter_gives) (c.of_octets-piece-items.ensures.reads, c.of_octets-piece-items.ensures.within) in
    let now : c.loop-piece.piece-iterator ≡ Err c.in-Err.field-0 ∷ c.next.new.self = c.in-Some.ensures.steps ∙ ap (λ x. x ∷ c.next.new.self) c.in-Err.is in
    inr (parted_bad c.args.octets.now given c.next.new.self c.loop-piece.piece-iterator c.in-Err.field-0 c.loop-piece.last all now c.loop-piece.invariant)

pub returns-clause-octets : goal.returns-clause-octets
returns-clause-octets c = are_octets c.args.octets.now (λ k. (c.type_inv.octets k).fits)

pub returns-clause-until : goal.returns-clause-until
returns-clause-until c =
    let given = c.into_iter-piece-iterator.result in
    let all = subst (AreItemsOf c.args.octets.now) (sym c.into_iter-piece-iterator.ensures.into_iter_gives) (c.of_octets-piece-items.ensures.reads, c.of_octets-piece-items.ensures.within) in
    inl (all_parted c.args.octets.now given c.loop-piece.piece-iterator c.loop-piece.last all c.in-None.ensures.steps.0 c.loop-piece.invariant)
