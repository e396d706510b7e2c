use Rattle.std.proofs.Common.{◌≡◌, ◌∷◌, [], ap, ◌∙◌, sym, subst, refl, arith}
use Rattle.std.specs.Prelude.{Err, Ok, Some}
use Rattle.dns_lexer.specs.declared.pieces.Piece.TheVariants.{Word as WordAt, Quote as QuoteAt, Comment as CommentAt, End as EndAt}
use Rattle.zone_reader.specs.Tape.{IsSpanIn, span_token}
use Rattle.zone_reader.specs.declared.tape.TheConstants.{TAPE_CAPACITY}
use Rattle.zone_reader.proofs.Filling.{comment, ends, first_wide, first_within, word}
use Rattle.zone_reader.proofs.Unfilled.{unfilled_end, unfilled_fault, unfilled_token}
use Rattle.zone_reader.proofs.tape.fill.Goals as goal

pub returns-in-Ok-End-clause-some : goal.returns-in-Ok-End-clause-some
returns-in-Ok-End-clause-some c =
    let rest = c.next.new.self in
    let now : c.pieces.pieces ≡ Ok (EndAt c.in-Ok-End.end) ∷ rest = c.in-Some.ensures.steps ∙ ap (λ x. x ∷ rest) c.in-Ok-End.is ∙ ap (λ x. Ok x ∷ rest) (rw c.in-Ok-End.is at c.in-Ok-End.field-0-is) in
    ends c.args.octets.now c.of_octets-pieces.result rest c.pieces.pieces c.pieces.ended c.pieces.tape.items c.pieces.invariant.fills c.in-Ok-End.end now (c.of_octets-pieces.ensures.reads, c.of_octets-pieces.ensures.within)

pub quote_span-requires : goal.quote_span-requires
quote_span-requires c =
    let rest = c.next.new.self in
    let p = c.in-Ok-Quote.span in
    let now : c.pieces.pieces ≡ Ok (QuoteAt p) ∷ rest = c.in-Some.ensures.steps ∙ ap (λ x. x ∷ rest) c.in-Ok-Quote.is ∙ ap (λ x. Ok x ∷ rest) (rw c.in-Ok-Quote.is at c.in-Ok-Quote.field-0-is) in
    first_wide c.args.octets.now c.of_octets-pieces.result rest c.pieces.pieces c.pieces.ended c.pieces.tape.items (Ok (QuoteAt p)) c.pieces.invariant.fills now (c.of_octets-pieces.ensures.reads, c.of_octets-pieces.ensures.within)

pub pieces-preserved-in-Ok-Word : goal.pieces-preserved-in-Ok-Word
pieces-preserved-in-Ok-Word c =
    let rest = c.next.new.self in
    let octets = c.args.octets.now in
    let p = c.in-Ok-Word.span in
    let now : c.pieces.pieces ≡ Ok (WordAt p) ∷ rest = c.in-Some.ensures.steps ∙ ap (λ x. x ∷ rest) c.in-Ok-Word.is ∙ ap (λ x. Ok x ∷ rest) (rw c.in-Ok-Word.is at c.in-Ok-Word.field-0-is) in
    let w = first_within octets c.of_octets-pieces.result rest c.pieces.pieces c.pieces.ended c.pieces.tape.items (Ok (WordAt p)) c.pieces.invariant.fills now c.of_octets-pieces.ensures.within in
    record {
      fills = word octets c.of_octets-pieces.result rest c.pieces.pieces c.pieces.ended c.pieces.tape.items c.pieces.invariant.fills (WordAt p) c.word_span.result c.push.new.tape.items (Some p.end) now tt
          (ap (λ s. span_token octets s ∷ []) (sym c.word_span.ensures)) (subst (IsSpanIn octets) (sym c.word_span.ensures) (omega arith, w.0, w.1)) c.if-not-push.ensures refl;
    }

pub pieces-preserved-in-Ok-Quote : goal.pieces-preserved-in-Ok-Quote
pieces-preserved-in-Ok-Quote c =
    let rest = c.next.new.self in
    let octets = c.args.octets.now in
    let p = c.in-Ok-Quote.span in
    let now : c.pieces.pieces ≡ Ok (QuoteAt p) ∷ rest = c.in-Some.ensures.steps ∙ ap (λ x. x ∷ rest) c.in-Ok-Quote.is ∙ ap (λ x. Ok x ∷ rest) (rw c.in-Ok-Quote.is at c.in-Ok-Quote.field-0-is) in
    let w = first_within octets c.of_octets-pieces.result rest c.pieces.pieces c.pieces.ended c.pieces.tape.items (Ok (QuoteAt p)) c.pieces.invariant.fills now c.of_octets-pieces.ensures.within in
    let wide = first_wide octets c.of_octets-pieces.result rest c.pieces.pieces c.pieces.ended c.pieces.tape.items (Ok (QuoteAt p)) c.pieces.invariant.fills now (c.of_octets-pieces.ensures.reads, c.of_octets-pieces.ensures.within) in
    record {
      fills = word octets c.of_octets-pieces.result rest c.pieces.pieces c.pieces.ended c.pieces.tape.items c.pieces.invariant.fills (QuoteAt p) c.quote_span.result c.push-in-Ok-Quote.new.tape.items (Some p.end) now tt
          (ap (λ s. span_token octets s ∷ []) (sym c.quote_span.ensures))
          (subst (IsSpanIn octets) (sym c.quote_span.ensures) (omega arith, omega (arith, wide), omega (arith, w.1))) c.if-not-push-2.ensures refl;
    }

pub pieces-preserved : goal.pieces-preserved
pieces-preserved c =
    let rest = c.next.new.self in
    let octets = c.args.octets.now in
    let p = c.in-Ok-Comment.field-0-0 in
    let now : c.pieces.pieces ≡ Ok (CommentAt p) ∷ rest = c.in-Some.ensures.steps ∙ ap (λ x. x ∷ rest) c.in-Ok-Comment.is ∙ ap (λ x. Ok x ∷ rest) (rw c.in-Ok-Comment.is at c.in-Ok-Comment.field-0-is) in
    record { fills = comment octets c.of_octets-pieces.result rest c.pieces.pieces c.pieces.ended c.pieces.tape.items c.pieces.invariant.fills (CommentAt p) now tt refl refl }

pub returns-then-not-push-clause-none : goal.returns-then-not-push-clause-none
returns-then-not-push-clause-none c =
    let rest = c.next.new.self in
    let p = c.in-Ok-Word.span in
    let now : c.pieces.pieces ≡ Ok (WordAt p) ∷ rest = c.in-Some.ensures.steps ∙ ap (λ x. x ∷ rest) c.in-Ok-Word.is ∙ ap (λ x. Ok x ∷ rest) (rw c.in-Ok-Word.is at c.in-Ok-Word.field-0-is) in
    λ none. unfilled_token TAPE_CAPACITY c.args.octets.now c.of_octets-pieces.result c.pieces.pieces c.pieces.ended c.pieces.tape.items c.pieces.invariant.fills (c.of_octets-pieces.ensures.reads, c.of_octets-pieces.ensures.within) (WordAt p) rest now tt c.if-not-push.ensures.0

pub returns-then-not-push-2-clause-none : goal.returns-then-not-push-2-clause-none
returns-then-not-push-2-clause-none c =
    let rest = c.next.new.self in
    let p = c.in-Ok-Quote.span in
    let now : c.pieces.pieces ≡ Ok (QuoteAt p) ∷ rest = c.in-Some.ensures.steps ∙ ap (λ x. x ∷ rest) c.in-Ok-Quote.is ∙ ap (λ x. Ok x ∷ rest) (rw c.in-Ok-Quote.is at c.in-Ok-Quote.field-0-is) in
    λ none. unfilled_token TAPE_CAPACITY c.args.octets.now c.of_octets-pieces.result c.pieces.pieces c.pieces.ended c.pieces.tape.items c.pieces.invariant.fills (c.of_octets-pieces.ensures.reads, c.of_octets-pieces.ensures.within) (QuoteAt p) rest now tt c.if-not-push-2.ensures.0

pub returns-in-Err-clause-none : goal.returns-in-Err-clause-none
returns-in-Err-clause-none c =
    let rest = c.next.new.self in
    let now : c.pieces.pieces ≡ Err c.in-Err.field-0 ∷ rest = c.in-Some.ensures.steps ∙ ap (λ x. x ∷ rest) c.in-Err.is in
    λ none. unfilled_fault TAPE_CAPACITY c.args.octets.now c.of_octets-pieces.result c.pieces.pieces c.pieces.ended c.pieces.tape.items c.pieces.invariant.fills (c.of_octets-pieces.ensures.reads, c.of_octets-pieces.ensures.within) c.in-Err.field-0 rest now

pub returns-clause-none : goal.returns-clause-none
returns-clause-none c =
    λ none. unfilled_end TAPE_CAPACITY c.args.octets.now c.of_octets-pieces.result c.pieces.pieces c.pieces.ended c.pieces.tape.items c.pieces.invariant.fills (c.of_octets-pieces.ensures.reads, c.of_octets-pieces.ensures.within) c.in_default.ensures.steps.0
