use Rattle.std.proofs.Common.{◌≡◌, ◌++◌, ◌∷◌, [], List, length, not, ◌&&◌, refl, sym, ap, ◌∙◌, subst, arith, append-nil, append_assoc, ◌<◌}
use Rattle.std.specs.Prelude.{Ok, Some}
use Rattle.dns_lexer.specs.declared.pieces.Piece.{Piece}
use Rattle.dns_lexer.specs.declared.pieces.Piece.TheVariants.{Word as WordAt, Quote as QuoteAt, Comment as CommentAt, End as EndAt}
use Rattle.dns_lexer.specs.Pieces.{EachWithin}
use Rattle.dns_lexer.proofs.OctetsOnce.{are_octets}
use Rattle.zonetext_lib.specs.Entries.{Token, begins_glued, parts_after}
use Rattle.zonetext_lib.specs.Layout.{gap_if}
use Rattle.zonetext_lib.proofs.Settling.{comment_laid, left_within, marked, marked_before, starts, stays, token_laid, turns}
use Rattle.zonetext_lib.proofs.layout.lay_out_settled.Goals as goal

pub loop-piece-init : goal.loop-piece-init
loop-piece-init g c = record { stands = starts c.args.gap c.args.octets.now c.args.out.now.items c.of_octets-pieces.result c.len-kept.result (omega (arith, c.len-kept.ensures, c.args.out.now.ok)) (c.of_octets-pieces.ensures.reads, c.of_octets-pieces.ensures.within) }

pub of_octets-requires-clause-ordered : goal.of_octets-requires-clause-ordered
of_octets-requires-clause-ordered g c =
    let x = c.loop-piece.invariant.stands in
    let rest = c.next.new.self in
    let now : c.loop-piece.pieces ≡ Ok (WordAt c.in-Ok-Word.span) ∷ rest = c.in-Some.ensures.steps ∙ ap (λ x. x ∷ rest) c.in-Ok-Word.is ∙ ap (λ x. Ok x ∷ rest) (rw c.in-Ok-Word.is at c.in-Ok-Word.field-0-is) in
    let w = subst (EachWithin (length c.args.octets.now)) now (left_within (length c.args.octets.now) _ c.loop-piece.pieces x.laid.passed x.laid.is x.given_is.1) in
    w.0.0

pub of_octets-requires-clause-within : goal.of_octets-requires-clause-within
of_octets-requires-clause-within g c =
    let x = c.loop-piece.invariant.stands in
    let rest = c.next.new.self in
    let now : c.loop-piece.pieces ≡ Ok (WordAt c.in-Ok-Word.span) ∷ rest = c.in-Some.ensures.steps ∙ ap (λ x. x ∷ rest) c.in-Ok-Word.is ∙ ap (λ x. Ok x ∷ rest) (rw c.in-Ok-Word.is at c.in-Ok-Word.field-0-is) in
    let w = subst (EachWithin (length c.args.octets.now)) now (left_within (length c.args.octets.now) _ c.loop-piece.pieces x.laid.passed x.laid.is x.given_is.1) in
    w.0.1

pub loop-piece-preserved-in-Ok-Word : goal.loop-piece-preserved-in-Ok-Word
loop-piece-preserved-in-Ok-Word g c =
    let x = c.loop-piece.invariant.stands in
    let octets = c.args.octets.now in
    let span = c.in-Ok-Word.span in
    let rest = c.next.new.self in
    let now : c.loop-piece.pieces ≡ Ok (WordAt span) ∷ rest = c.in-Some.ensures.steps ∙ ap (λ x. x ∷ rest) c.in-Ok-Word.is ∙ ap (λ x. Ok x ∷ rest) (rw c.in-Ok-Word.is at c.in-Ok-Word.field-0-is) in
    let out = c.loop-piece.out.items in
    let token = c.of_octets.result.now in
    let lead = c.owes_gap-apart.result in
    let glued = begins_glued c.loop-piece.ended span.start in
    let pushed = c.in_ok-push_token-in-Ok-Word.ensures ∙ ap (λ l. l ++ gap_if c.args.gap lead ++ token) (append-nil out) in
    let shown = λ (ps : List Piece). ap (λ t. Token glued t ∷ parts_after octets (Some span.end) ps) (sym c.of_octets.ensures) in
    let laid = token_laid c.args.gap octets c.args.out.now.items c.of_octets-pieces.result rest c.loop-piece.pieces out c.push_token.new.out.items token glued _ _ c.loop-piece.ended span.end (WordAt span) now shown (λ ps. refl)
    c.begins_blank-leads.ensures c.owes_gap-apart.ensures pushed x.laid in
    record {
      stands = stays c.args.gap octets c.args.out.now.items c.of_octets-pieces.result rest c.loop-piece.pieces out c.push_token.new.out.items (gap_if c.args.gap lead ++ token) c.loop-piece.ended (Some span.end) _ _ _ _ _
          (WordAt span) now (pushed ∙ append_assoc out (gap_if c.args.gap lead) token) laid x;
    }

pub of_octets-requires-in-Ok-Quote-clause-ordered : goal.of_octets-requires-in-Ok-Quote-clause-ordered
of_octets-requires-in-Ok-Quote-clause-ordered g c =
    let x = c.loop-piece.invariant.stands in
    let rest = c.next.new.self in
    let now : c.loop-piece.pieces ≡ Ok (QuoteAt c.in-Ok-Quote.span) ∷ rest = c.in-Some.ensures.steps ∙ ap (λ x. x ∷ rest) c.in-Ok-Quote.is ∙ ap (λ x. Ok x ∷ rest) (rw c.in-Ok-Quote.is at c.in-Ok-Quote.field-0-is) in
    let w = subst (EachWithin (length c.args.octets.now)) now (left_within (length c.args.octets.now) _ c.loop-piece.pieces x.laid.passed x.laid.is x.given_is.1) in
    w.0.0

pub of_octets-requires-in-Ok-Quote-clause-within : goal.of_octets-requires-in-Ok-Quote-clause-within
of_octets-requires-in-Ok-Quote-clause-within g c =
    let x = c.loop-piece.invariant.stands in
    let rest = c.next.new.self in
    let now : c.loop-piece.pieces ≡ Ok (QuoteAt c.in-Ok-Quote.span) ∷ rest = c.in-Some.ensures.steps ∙ ap (λ x. x ∷ rest) c.in-Ok-Quote.is ∙ ap (λ x. Ok x ∷ rest) (rw c.in-Ok-Quote.is at c.in-Ok-Quote.field-0-is) in
    let w = subst (EachWithin (length c.args.octets.now)) now (left_within (length c.args.octets.now) _ c.loop-piece.pieces x.laid.passed x.laid.is x.given_is.1) in
    w.0.1

pub loop-piece-preserved-in-Ok-Quote : goal.loop-piece-preserved-in-Ok-Quote
loop-piece-preserved-in-Ok-Quote g c =
    let x = c.loop-piece.invariant.stands in
    let octets = c.args.octets.now in
    let span = c.in-Ok-Quote.span in
    let rest = c.next.new.self in
    let now : c.loop-piece.pieces ≡ Ok (QuoteAt span) ∷ rest = c.in-Some.ensures.steps ∙ ap (λ x. x ∷ rest) c.in-Ok-Quote.is ∙ ap (λ x. Ok x ∷ rest) (rw c.in-Ok-Quote.is at c.in-Ok-Quote.field-0-is) in
    let out = c.loop-piece.out.items in
    let token = c.of_octets-in-Ok-Quote.result.now in
    let lead = c.owes_gap-apart-in-Ok-Quote.result in
    let glued = begins_glued c.loop-piece.ended span.start in
    let pushed = c.in_ok-push_token-in-Ok-Quote.ensures ∙ ap (λ l. l ++ gap_if c.args.gap lead ++ token) (append-nil out) in
    let shown = λ (ps : List Piece). ap (λ t. Token glued t ∷ parts_after octets (Some span.end) ps) (sym c.of_octets-in-Ok-Quote.ensures) in
    let laid = token_laid c.args.gap octets c.args.out.now.items c.of_octets-pieces.result rest c.loop-piece.pieces out c.push_token-in-Ok-Quote.new.out.items token glued _ _ c.loop-piece.ended span.end (QuoteAt span) now shown (λ ps. refl)
    c.begins_blank-leads-in-Ok-Quote.ensures c.owes_gap-apart-in-Ok-Quote.ensures pushed x.laid in
    record {
      stands = stays c.args.gap octets c.args.out.now.items c.of_octets-pieces.result rest c.loop-piece.pieces out c.push_token-in-Ok-Quote.new.out.items (gap_if c.args.gap lead ++ token) c.loop-piece.ended (Some span.end) _ _ _ _ _
          (QuoteAt span) now (pushed ∙ append_assoc out (gap_if c.args.gap lead) token) laid x;
    }

pub loop-piece-preserved-in-Ok-Comment : goal.loop-piece-preserved-in-Ok-Comment
loop-piece-preserved-in-Ok-Comment g c =
    let x = c.loop-piece.invariant.stands in
    let rest = c.next.new.self in
    let p = c.in-Ok-Comment.field-0-0 in
    let now : c.loop-piece.pieces ≡ Ok (CommentAt p) ∷ rest = c.in-Some.ensures.steps ∙ ap (λ x. x ∷ rest) c.in-Ok-Comment.is ∙ ap (λ x. Ok x ∷ rest) (rw c.in-Ok-Comment.is at c.in-Ok-Comment.field-0-is) in
    let out = c.loop-piece.out.items in
    let laid = comment_laid c.args.gap c.args.octets.now c.args.out.now.items c.of_octets-pieces.result rest c.loop-piece.pieces out c.loop-piece.ended (CommentAt p) now (λ ps. refl) (λ ps. refl) x.laid in
    record { stands = stays c.args.gap c.args.octets.now c.args.out.now.items c.of_octets-pieces.result rest c.loop-piece.pieces out out [] c.loop-piece.ended c.loop-piece.ended _ _ _ _ _ (CommentAt p) now (sym (append-nil out)) laid x }

pub loop-piece-preserved : goal.loop-piece-preserved
loop-piece-preserved g c =
    let x = c.loop-piece.invariant.stands in
    let rest = c.next.new.self in
    let p = c.in-Ok-End.end in
    let now : c.loop-piece.pieces ≡ Ok (EndAt p) ∷ rest = c.in-Some.ensures.steps ∙ ap (λ x. x ∷ rest) c.in-Ok-End.is ∙ ap (λ x. Ok x ∷ rest) (rw c.in-Ok-End.is at c.in-Ok-End.field-0-is) in
    let pushed = subst (λ b. c.push_end.new.out.items ≡ c.loop-piece.out.items ++ gap_if c.args.gap (not b && p.begins_blank) ++ 10 ∷ []) c.is_some.ensures c.in_ok-push_end-in-Ok-End.ensures in
    record {
      stands = turns c.args.gap c.args.octets.now c.args.out.now.items c.of_octets-pieces.result rest c.loop-piece.pieces c.loop-piece.out.items c.push_end.new.out.items c.loop-piece.ended _ _ _ _ _ _ p
          (omega (arith, c.len-made.ensures, c.push_end.new.out.ok)) now pushed x;
    }

pub returns-then-needs_more : goal.returns-then-needs_more
returns-then-needs_more g c =
    let x = c.loop-piece.invariant.stands in
    let some : 0 < length c.loop-piece.pieces = subst (λ l. 0 < length l) (sym c.in-Some.ensures.steps) (omega arith) in
    let m = marked c.args.gap c.args.octets.now c.args.out.now.items c.of_octets-pieces.result c.loop-piece.pieces c.loop-piece.last _ (are_octets c.args.octets.now (λ k. (c.type_inv.octets k).fits))
    x.given_is some x.last_mark in
    (m.0, (m.1.0, c.truncate.ensures.items ∙ m.1.1, m.1.2))

pub returns : goal.returns
returns g c =
    let x = c.loop-piece.invariant.stands in
    let m = marked_before c.args.gap c.args.octets.now c.args.out.now.items c.of_octets-pieces.result c.loop-piece.pieces c.loop-piece.before _ (are_octets c.args.octets.now (λ k. (c.type_inv.octets k).fits))
    x.given_is x.before_mark_is in
    (m.0, (m.1.0, c.truncate-2.ensures.items ∙ m.1.1, m.1.2))
