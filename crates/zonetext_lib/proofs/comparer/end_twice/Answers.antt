use Rattle.std.proofs.Common.{◌≡◌, ◌+◌, ◌<◌, ◌∷◌, length, Bool, true, false, refl, sym, ap, ◌∙◌, subst, arith}
use Rattle.std.specs.Prelude.{Ok}
use mir.Val.{bool_byte}
use Rattle.dns_lexer.specs.declared.pieces.Piece.TheVariants.{Word as WordAt, Quote as QuoteAt, Comment as CommentAt, End as EndAt}
use Rattle.dns_lexer.specs.Pieces.{AreItemsOf}
use Rattle.dns_lexer.proofs.OctetsOnce.{are_octets}
use Rattle.zonetext_lib.proofs.Counted.{Counted, end_counted, end_two, none_counted, none_ends, not_twice, not_twice_before, one_if, piece_counted}
use Rattle.zonetext_lib.proofs.comparer.end_twice.Goals as goal

byte_is : (b : Bool) → bool_byte b ≡ one_if b
byte_is true = refl
byte_is false = refl

pub loop-piece-init : goal.loop-piece-init
loop-piece-init c = none_counted c.args.octets.now c.into_iter-piece-iterator.result

pub returns-then-count-ge2 : goal.returns-then-count-ge2
returns-then-count-ge2 c =
    let given = c.into_iter-piece-iterator.result in
    let left = c.loop-piece.piece-iterator in
    let octets = c.args.octets.now in
    let all = subst (AreItemsOf octets) (sym c.into_iter-piece-iterator.ensures.into_iter_gives) (c.of_octets-piece-items.ensures.reads, c.of_octets-piece-items.ensures.within) in
    let now : left ≡ c.in-Some.piece ∷ c.next.new.self = c.in-Some.ensures.steps in
    let some : 0 < length left = subst (λ l. 0 < length l) (sym now) (omega arith) in
    (λ _. end_two octets given left c.loop-piece.count c.loop-piece.has_tokens (are_octets octets (λ k. (c.type_inv.octets k).fits)) all some c.if-count-ge2.true c.loop-piece.invariant, λ _. refl)

pub returns-in-Err : goal.returns-in-Err
returns-in-Err c =
    let given = c.into_iter-piece-iterator.result in
    let rest = c.next.new.self in
    let octets = c.args.octets.now in
    let all = subst (AreItemsOf octets) (sym c.into_iter-piece-iterator.ensures.into_iter_gives) (c.of_octets-piece-items.ensures.reads, c.of_octets-piece-items.ensures.within) in
    let bad = c.in-Some.ensures.steps ∙ ap (λ x. x ∷ rest) c.in-Err.is in
    (λ e. cc, λ t. absurd (not_twice_before octets given c.loop-piece.piece-iterator rest c.in-Err.field-0 c.loop-piece.count c.loop-piece.has_tokens (are_octets octets (λ k. (c.type_inv.octets k).fits)) all bad (omega arith) c.loop-piece.invariant t))

pub returns : goal.returns
returns c =
    let given = c.into_iter-piece-iterator.result in
    let octets = c.args.octets.now in
    let all = subst (AreItemsOf octets) (sym c.into_iter-piece-iterator.ensures.into_iter_gives) (c.of_octets-piece-items.ensures.reads, c.of_octets-piece-items.ensures.within) in
    (λ e. cc, λ t. absurd (not_twice octets given c.loop-piece.piece-iterator c.loop-piece.count c.loop-piece.has_tokens (are_octets octets (λ k. (c.type_inv.octets k).fits)) all c.in-None.ensures.steps.0 c.loop-piece.invariant t))

pub loop-piece-preserved-in-Ok-Word : goal.loop-piece-preserved-in-Ok-Word
loop-piece-preserved-in-Ok-Word c =
    let rest = c.next.new.self in
    let p = c.in-Ok-Word.field-0-0 in
    let now : c.loop-piece.piece-iterator ≡ Ok (WordAt p) ∷ rest = c.in-Some.ensures.steps ∙ ap (λ x. x ∷ rest) c.in-Ok-Word.is ∙ ap (λ x. Ok x ∷ rest) (rw c.in-Ok-Word.is at c.in-Ok-Word.field-0-is) in
    piece_counted c.args.octets.now c.into_iter-piece-iterator.result c.loop-piece.piece-iterator rest c.loop-piece.count c.loop-piece.has_tokens true (WordAt p) now (λ e. refl) (λ e h. refl)
    (omega arith) c.loop-piece.invariant

pub loop-piece-preserved-in-Ok-Quote : goal.loop-piece-preserved-in-Ok-Quote
loop-piece-preserved-in-Ok-Quote c =
    let rest = c.next.new.self in
    let p = c.in-Ok-Quote.field-0-0 in
    let now : c.loop-piece.piece-iterator ≡ Ok (QuoteAt p) ∷ rest = c.in-Some.ensures.steps ∙ ap (λ x. x ∷ rest) c.in-Ok-Quote.is ∙ ap (λ x. Ok x ∷ rest) (rw c.in-Ok-Quote.is at c.in-Ok-Quote.field-0-is) in
    piece_counted c.args.octets.now c.into_iter-piece-iterator.result c.loop-piece.piece-iterator rest c.loop-piece.count c.loop-piece.has_tokens true (QuoteAt p) now (λ e. refl) (λ e h. refl)
    (omega arith) c.loop-piece.invariant

pub loop-piece-preserved-in-Ok-Comment : goal.loop-piece-preserved-in-Ok-Comment
loop-piece-preserved-in-Ok-Comment c =
    let rest = c.next.new.self in
    let p = c.in-Ok-Comment.field-0-0 in
    let now : c.loop-piece.piece-iterator ≡ Ok (CommentAt p) ∷ rest = c.in-Some.ensures.steps ∙ ap (λ x. x ∷ rest) c.in-Ok-Comment.is ∙ ap (λ x. Ok x ∷ rest) (rw c.in-Ok-Comment.is at c.in-Ok-Comment.field-0-is) in
    piece_counted c.args.octets.now c.into_iter-piece-iterator.result c.loop-piece.piece-iterator rest c.loop-piece.count c.loop-piece.has_tokens c.loop-piece.has_tokens (CommentAt p) now
    (none_ends c.args.octets.now p.start p.end) (λ e h. h) (omega arith) c.loop-piece.invariant

pub loop-piece-preserved : goal.loop-piece-preserved
loop-piece-preserved c =
    let rest = c.next.new.self in
    let p = c.in-Ok-End.field-0-0 in
    let now : c.loop-piece.piece-iterator ≡ Ok (EndAt p) ∷ rest = c.in-Some.ensures.steps ∙ ap (λ x. x ∷ rest) c.in-Ok-End.is ∙ ap (λ x. Ok x ∷ rest) (rw c.in-Ok-End.is at c.in-Ok-End.field-0-is) in
    let counted : c.from-count.result ≡ one_if c.loop-piece.has_tokens = c.from-count.ensures ∙ byte_is c.loop-piece.has_tokens in
    subst (λ n. Counted c.args.octets.now c.into_iter-piece-iterator.result rest (c.loop-piece.count + n) false) (sym counted)
    (end_counted c.args.octets.now c.into_iter-piece-iterator.result c.loop-piece.piece-iterator rest c.loop-piece.count c.loop-piece.has_tokens p now (omega arith) c.loop-piece.invariant)
