use Rattle.std.proofs.Common.{◌++◌, ◌+◌, ◌∷◌, drop, slice_index_or, refl, sym, ap, ◌∙◌}
use Rattle.std.specs.Prelude.{map}
use Rattle.dns_lexer.specs.declared.pieces.Span.{Span}
use Rattle.zone_edit.specs.Tokens.{no_text, spans_of, texts_of}
use Rattle.zone_edit.proofs.Opening.{rest_of}
use Rattle.zone_edit.proofs.Pushing.{continues_next, spans_next, texts_next}
use Rattle.zone_edit.proofs.tokens.push_deletions.Goals as goal

pub loop-span-preserved : goal.loop-span-preserved
loop-span-preserved g c =
    let spans = c.args.spans.now in
    let i = c.loop-span.span-index in
    let none : Span = record { start = 0; end = 0 } in
    let s = slice_index_or spans i none in
    let more = drop (i + 1) spans in
    let next = rest_of spans i s none c.loop-span-test.true refl in
    let text = c.new.result.items in
    let old = c.loop-span.edits.items in
    let new = c.push_edit.new.edits.items in
    let first = c.args.edits.now.items in
    let p = c.in_ok-push_edit.ensures.ok in
    record {
      spans = spans_next s text old new p more (drop i spans) (spans_of first ++ spans) next c.loop-span.invariant.spans;
      texts = texts_next s text old new p (map no_text more) (map no_text (drop i spans)) (texts_of first ++ map no_text spans)
          (ap (map no_text) next ∙ ap (λ t. t ∷ map no_text more) (sym c.new.ensures.items)) c.loop-span.invariant.texts;
      continues = continues_next s text old new p first c.loop-span.invariant.continues;
    }
