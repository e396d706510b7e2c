use Rattle.std.proofs.Common.{◌≡◌, ◌∷◌, sym, ap, ◌∙◌, subst}
use Rattle.std.specs.Prelude.{Ok}
use Rattle.std.specs.List.{list_any}
use Rattle.dns_lexer.specs.Answer.{is_stored, texts}
use Rattle.dns_lexer.proofs.Collecting.{glue, nothing_yet, stored_first, stored_later}
use Rattle.dns_lexer.specs.Pieces.{EachFits, Reads}
use Rattle.dns_lexer.proofs.PieceSplit.{answer, closes, is_none, given_close, answered, done_glue, kept_on, closes_on}
use Rattle.dns_lexer.proofs.splitting.Collected.keep_all.Goals as goal

pub loop-piece-init : goal.loop-piece-init
loop-piece-init g c =
    let same = c.into_iter-piece-iterator.ensures.into_iter_gives in
    record {
      fits = subst (EachFits c.args.text.now) (sym same) c.new-piece-items.ensures.fits;
      kept = nothing_yet (answer c.args.text.now c.into_iter-piece-iterator.result) c.args.self.now c.requires.found c.requires.entry;
      stored = λ s. s;
      closed = ap (λ l. closes (is_none (texts l)) c.into_iter-piece-iterator.result) c.requires.entry
          ∙ given_close c.args.text.now c.into_iter-piece-iterator.result (subst (Reads c.args.text.now) (sym same) c.new-piece-items.ensures.reads);
    }

pub loop-piece-preserved : goal.loop-piece-preserved
loop-piece-preserved g c =
    let inv = c.loop-piece.invariant in
    let text = c.args.text.now in
    let left = c.next.new.self in
    let h : c.loop-piece.piece-iterator ≡ Ok c.in-Ok.piece ∷ left = c.in-Some.ensures.steps ∙ ap (λ x. x ∷ left) c.in-Ok.is in
    record {
      fits = (subst (EachFits text) h inv.fits).1;
      kept = kept_on text c.in-Ok.piece c.loop-piece.self c.keep.new.self left c.in-Ok-keep.ensures.keeps ∙ ap (λ l. glue c.loop-piece.self (answer text l)) (sym h) ∙ inv.kept;
      stored = λ s. inv.stored (ap (list_any is_stored) h ∙ stored_later (Ok c.in-Ok.piece) left s);
      closed = closes_on text c.in-Ok.piece c.loop-piece.self c.keep.new.self left c.in-Ok-keep.ensures.keeps
          ∙ ap (closes (is_none (texts c.loop-piece.self.entry.items))) (sym h) ∙ inv.closed;
    }

pub returns : goal.returns
returns g c =
    let inv = c.loop-piece.invariant in
    let over = c.in-None.ensures.steps.0 in
    let same = c.into_iter-piece-iterator.ensures.into_iter_gives in
    let closed = ap (closes (is_none (texts c.loop-piece.self.entry.items))) (sym over) ∙ inv.closed in
    answered c.args.text.now c.into_iter-piece-iterator.result _ (subst (Reads c.args.text.now) (sym same) c.new-piece-items.ensures.reads)
    (sym inv.kept ∙ ap (λ l. glue c.loop-piece.self (answer c.args.text.now l)) over ∙ done_glue c.loop-piece.self closed)

pub returns-in-Err-keep : goal.returns-in-Err-keep
returns-in-Err-keep g c =
    let same = c.into_iter-piece-iterator.ensures.into_iter_gives in
    let h : c.loop-piece.piece-iterator ≡ Ok c.in-Ok.piece ∷ c.next.new.self = c.in-Some.ensures.steps ∙ ap (λ x. x ∷ c.next.new.self) c.in-Ok.is in (
      c.into_iter-piece-iterator.result,
      subst (Reads c.args.text.now) (sym same) c.new-piece-items.ensures.reads,
      c.loop-piece.invariant.stored (ap (list_any is_stored) h ∙ stored_first (Ok c.in-Ok.piece) c.next.new.self c.in-Err-keep.ensures.stores),
    )
