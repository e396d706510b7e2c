use Rattle.std.proofs.Common.{List, ◌≡◌, ◌++◌, ◌∷◌, [], refl, sym, ap, ◌∙◌, append-nil}
use Rattle.std.specs.Prelude.{Some, None, Ok, Err}
use Rattle.std.specs.Option.{is_some}
use Rattle.dns_lexer.specs.declared.pieces.Piece.{Piece}
use Rattle.dns_lexer.specs.declared.pieces.Piece.TheVariants.{Word as WordAt, Quote as QuoteAt}
use Rattle.zonetext_lib.specs.Entries.{Token, begins_glued, parts, parts_after}
use Rattle.zone_format.proofs.Givens.{first_fault, pieces_in, whole_of}
use Rattle.zonetext_lib.proofs.Givens.{fault_of}
use Rattle.zonetext_lib.proofs.Lines.{left, left_none, token_turn, octets_close}
use Rattle.zonetext_lib.proofs.layout.lay_out.Goals as goal

pub loop-piece-init : goal.loop-piece-init
loop-piece-init g c = record {
  fault = refl;
  within = c.of_octets-pieces.ensures.within;
  closed = octets_close c.args.octets.now c.of_octets-pieces.result c.of_octets-pieces.ensures.reads;
  out = λ none. refl;
}

pub loop-piece-preserved-in-Ok-Word : goal.loop-piece-preserved-in-Ok-Word
loop-piece-preserved-in-Ok-Word g c =
    let inv = c.loop-piece.invariant in
    let at = c.in-Ok-Word.span in
    let rest = c.next.new.self in
    let now : c.loop-piece.pieces ≡ Ok (WordAt at) ∷ rest = c.in-Some.ensures.steps ∙ ap (λ x. x ∷ rest) c.in-Ok-Word.is ∙ ap (λ x. Ok x ∷ rest) (rw c.in-Ok-Word.is at c.in-Ok-Word.field-0-is) in
    let glued = begins_glued c.loop-piece.ended at.start in
    let shown = λ (ps : List Piece). ap (λ t. Token glued t ∷ parts_after c.args.octets.now (Some at.end) ps) (sym c.of_octets-word.ensures) in
    let turn =
    token_turn c.args.gap c.args.octets.now _ c.loop-piece.out.items _ _ c.loop-piece.owes_feed glued _ _ c.loop-piece.ended (Some at.end) (WordAt at) c.of_octets-pieces.result _ rest
    now shown refl inv.fault inv.within inv.closed inv.out c.begins_blank-leads.ensures c.owes_gap-apart.ensures c.in_ok-push_token-in-Ok-Word.ensures in
    record { fault = turn.0; within = turn.1; closed = turn.2; out = turn.3 }

pub loop-piece-preserved-in-Ok-Quote : goal.loop-piece-preserved-in-Ok-Quote
loop-piece-preserved-in-Ok-Quote g c =
    let inv = c.loop-piece.invariant in
    let at = c.in-Ok-Quote.span in
    let rest = c.next.new.self in
    let now : c.loop-piece.pieces ≡ Ok (QuoteAt at) ∷ rest = c.in-Some.ensures.steps ∙ ap (λ x. x ∷ rest) c.in-Ok-Quote.is ∙ ap (λ x. Ok x ∷ rest) (rw c.in-Ok-Quote.is at c.in-Ok-Quote.field-0-is) in
    let glued = begins_glued c.loop-piece.ended at.start in
    let shown = λ (ps : List Piece). ap (λ t. Token glued t ∷ parts_after c.args.octets.now (Some at.end) ps) (sym c.of_octets-quote.ensures) in
    let turn =
    token_turn c.args.gap c.args.octets.now _ c.loop-piece.out.items _ _ c.loop-piece.owes_feed glued _ _ c.loop-piece.ended (Some at.end) (QuoteAt at) c.of_octets-pieces.result _ rest
    now shown refl inv.fault inv.within inv.closed inv.out c.begins_blank-begins.ensures c.owes_gap-apart-in-Ok-Quote.ensures c.in_ok-push_token-in-Ok-Quote.ensures in
    record { fault = turn.0; within = turn.1; closed = turn.2; out = turn.3 }

pub locate-requires-clause-fault : goal.locate-requires-clause-fault
locate-requires-clause-fault g c =
    let inv = c.loop-piece.invariant in
    let given = c.of_octets-pieces in
    let now : c.loop-piece.pieces ≡ Err c.in-Err.fault ∷ c.next.new.self = c.in-Some.ensures.steps ∙ ap (λ x. x ∷ c.next.new.self) c.in-Err.is in
    let first : first_fault given.result ≡ Some c.in-Err.fault = sym inv.fault ∙ ap first_fault now in
    fault_of c.args.octets.now given.result c.in-Err.fault given.ensures.reads given.ensures.within first

pub returns-clause-lines : goal.returns-clause-lines
returns-clause-lines g c =
    let inv = c.loop-piece.invariant in
    let octets = c.args.octets.now in
    let given = c.of_octets-pieces.result in
    let over : c.loop-piece.pieces ≡ [] = c.in_default.ensures.steps.0 in
    let none : first_fault given ≡ None = sym inv.fault ∙ ap first_fault over in
    let nothing : left c.args.gap c.loop-piece.owes_feed (is_some c.loop-piece.ended) (parts_after octets c.loop-piece.ended (pieces_in c.loop-piece.pieces)) ≡ [] =
    ap (λ l. left c.args.gap c.loop-piece.owes_feed (is_some c.loop-piece.ended) (parts_after octets c.loop-piece.ended (pieces_in l))) over ∙ left_none c.args.gap c.loop-piece.owes_feed (is_some c.loop-piece.ended) in (
      parts octets (pieces_in given),
      (pieces_in given, whole_of octets given c.of_octets-pieces.ensures.reads none, refl),
      sym (append-nil c.loop-piece.out.items) ∙ ap (λ l. c.loop-piece.out.items ++ l) (sym nothing) ∙ inv.out none,
    )
