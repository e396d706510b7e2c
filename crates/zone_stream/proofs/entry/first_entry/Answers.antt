use Rattle.std.proofs.Common.{◌≡◌, ◌∷◌, length, ap, ◌∙◌, sym, subst, inl, inr}
use Rattle.std.specs.Prelude.{Ok, Err}
use Rattle.dns_lexer.specs.Pieces.{AreItemsOf}
use Rattle.dns_lexer.specs.declared.pieces.Piece.TheVariants.{Word as WordAt, Quote as QuoteAt, Comment as CommentAt}
use Rattle.zone_stream.proofs.Stops.{before_end, fails_here, never_ends, none_open, open_on, passed_first}
use Rattle.zone_stream.proofs.entry.first_entry.Goals as goal

pub loop-piece-init : goal.loop-piece-init
loop-piece-init c = record { stands = none_open c.pass_line.new.self }

pub loop-piece-preserved-in-Ok-Word : goal.loop-piece-preserved-in-Ok-Word
loop-piece-preserved-in-Ok-Word c =
    let rest = c.next.new.self in
    let p = c.in-Ok-Word.field-0-0 in
    let now : c.loop-piece.pieces ≡ Ok (WordAt p) ∷ rest = c.in-Some-next.ensures.steps ∙ ap (λ x. x ∷ rest) c.in-Ok-Word.is ∙ ap (λ x. Ok x ∷ rest) (rw c.in-Ok-Word.is at c.in-Ok-Word.field-0-is) in
    record { stands = open_on c.pass_line.new.self rest c.loop-piece.pieces (WordAt p) now tt c.loop-piece.invariant.stands }

pub loop-piece-preserved-in-Ok-Quote : goal.loop-piece-preserved-in-Ok-Quote
loop-piece-preserved-in-Ok-Quote c =
    let rest = c.next.new.self in
    let p = c.in-Ok-Quote.field-0-0 in
    let now : c.loop-piece.pieces ≡ Ok (QuoteAt p) ∷ rest = c.in-Some-next.ensures.steps ∙ ap (λ x. x ∷ rest) c.in-Ok-Quote.is ∙ ap (λ x. Ok x ∷ rest) (rw c.in-Ok-Quote.is at c.in-Ok-Quote.field-0-is) in
    record { stands = open_on c.pass_line.new.self rest c.loop-piece.pieces (QuoteAt p) now tt c.loop-piece.invariant.stands }

pub loop-piece-preserved : goal.loop-piece-preserved
loop-piece-preserved c =
    let rest = c.next.new.self in
    let p = c.in-Ok-Comment.field-0-0 in
    let now : c.loop-piece.pieces ≡ Ok (CommentAt p) ∷ rest = c.in-Some-next.ensures.steps ∙ ap (λ x. x ∷ rest) c.in-Ok-Comment.is ∙ ap (λ x. Ok x ∷ rest) (rw c.in-Ok-Comment.is at c.in-Ok-Comment.field-0-is) in
    record { stands = open_on c.pass_line.new.self rest c.loop-piece.pieces (CommentAt p) now tt c.loop-piece.invariant.stands }

pub returns-then-is_last-2 : goal.returns-then-is_last-2
returns-then-is_last-2 c =
    let given = c.pass_line.new.self in
    let now : c.loop-piece.pieces ≡ Err c.in-Err.fault ∷ c.next.new.self = c.in-Some-next.ensures.steps ∙ ap (λ x. x ∷ c.next.new.self) c.in-Err.is in
    (fails_here c.args.octets.now given c.next.new.self c.loop-piece.pieces c.in-Err.fault now (subst (λ x. AreItemsOf c.args.octets.now x) (sym c.in_default.ensures.passes) (c.of_octets-pieces.ensures.reads, c.of_octets-pieces.ensures.within)) c.loop-piece.invariant.stands, inr c.if-is_last-2.true)

pub returns-then-needs_more : goal.returns-then-needs_more
returns-then-needs_more c =
    let given = c.pass_line.new.self in
    let now : c.loop-piece.pieces ≡ Err c.in-Err.fault ∷ c.next.new.self = c.in-Some-next.ensures.steps ∙ ap (λ x. x ∷ c.next.new.self) c.in-Err.is in
    let fails = fails_here c.args.octets.now given c.next.new.self c.loop-piece.pieces c.in-Err.fault now (subst (λ x. AreItemsOf c.args.octets.now x) (sym c.in_default.ensures.passes) (c.of_octets-pieces.ensures.reads, c.of_octets-pieces.ensures.within)) c.loop-piece.invariant.stands in
    (c.if-is_last-2.false, inr (c.in-Err.fault, fails, c.needs_more.ensures.place.0 c.if-needs_more.true))

pub returns-else-needs_more : goal.returns-else-needs_more
returns-else-needs_more c =
    let given = c.pass_line.new.self in
    let now : c.loop-piece.pieces ≡ Err c.in-Err.fault ∷ c.next.new.self = c.in-Some-next.ensures.steps ∙ ap (λ x. x ∷ c.next.new.self) c.in-Err.is in
    let fails = fails_here c.args.octets.now given c.next.new.self c.loop-piece.pieces c.in-Err.fault now (subst (λ x. AreItemsOf c.args.octets.now x) (sym c.in_default.ensures.passes) (c.of_octets-pieces.ensures.reads, c.of_octets-pieces.ensures.within)) c.loop-piece.invariant.stands in
    (fails, inl (before_end c.in-Err.fault.at (length c.args.octets.now) c.needs_more.result c.needs_more.ensures.place c.if-needs_more.false))

pub returns : goal.returns
returns c = absurd (never_ends c.args.octets.now c.pass_line.new.self c.loop-piece.pieces c.in_default-next.ensures.steps.0 (subst (λ x. AreItemsOf c.args.octets.now x) (sym c.in_default.ensures.passes) (c.of_octets-pieces.ensures.reads, c.of_octets-pieces.ensures.within)) c.loop-piece.invariant.stands)

pub returns-in-Some : goal.returns-in-Some
returns-in-Some c =
    passed_first c.args.octets.now c.args.is_last c.of_octets-pieces.result c.pass_line.new.self c.in-Some.end (c.of_octets-pieces.ensures.reads, c.of_octets-pieces.ensures.within) c.in-Some.ensures.passes
