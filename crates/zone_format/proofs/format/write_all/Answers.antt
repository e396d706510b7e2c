use Rattle.std.proofs.Common.{◌≡◌, ◌++◌, [], ◌∷◌, false, length, refl, sym, ap, ◌∙◌, subst}
use Rattle.std.specs.Prelude.{List, Some, None, Ok, Err}
use Rattle.std.proofs.lemmas.Result.{err_from_is_err_and}
use Rattle.dns_lexer.specs.Pieces.{ReadsOctets, EachWithin, AreItemsOf}
use Rattle.dns_lexer.specs.declared.pieces.Piece.TheVariants.{Word as WordAt, Quote as QuoteAt, Comment as CommentAt, End as EndAt}
use Rattle.dns_lexer.specs.CursorStates.{blank_at}
use Rattle.zone_format.specs.Blocks.{resting}
use Rattle.zone_format.specs.Marks.{Mark, lead, marks}
use Rattle.zone_format.specs.Writing.{accepts_from, state_after, written_from}
use Rattle.zone_format.proofs.Follow.{follow}
use Rattle.zone_format.proofs.Givens.{all_ok, first_fault, pieces_in, whole_of}
use Rattle.zone_format.proofs.Turning.{first_fits, first_goes, first_reaches, stays_word, stays_quote, stays_note, stays_end}
use Rattle.zone_format.proofs.Unfit.{first_unfit_quote, first_unfit_word, first_wrong}
use Rattle.zone_format.proofs.format.write_all.Goals as goal

pub loop-piece-init : goal.loop-piece-init
loop-piece-init g c =
    let same = c.into_iter-piece-iterator.ensures.into_iter_gives in
    let given = c.of_octets-piece-items.ensures in
    let octets = c.args.octets.now in
    let within = subst (EachWithin (length octets)) (sym same) given.within in
    record {
      fault = refl;
      within = within;
      order = follow octets c.into_iter-piece-iterator.result (subst (ReadsOctets octets) (sym same) given.reads) within;
      found = [];
      split = refl;
      done = [];
      marked = λ more. refl;
      done_accepted = refl;
      done_state = refl;
      fits = first_fits c.args.out.now.items c.blank_at.result (blank_at octets 0) c.led_if.result c.line_state.result c.args.seam c.line_state.ensures c.led_if.ensures c.blank_at.ensures;
      reaches = first_reaches octets c.blank_at.result (blank_at octets 0) c.led_if.result c.line_state.result c.args.seam c.line_state.ensures c.led_if.ensures c.blank_at.ensures;
      line_state = refl;
      out = refl;
      accepted = refl;
    }

pub loop-piece-preserved-in-Ok-Word : goal.loop-piece-preserved-in-Ok-Word
loop-piece-preserved-in-Ok-Word g c =
    let step : c.loop-piece.piece-iterator ≡ Ok (WordAt c.in-Ok-Word.span) ∷ c.next.new.self = c.in-Some.ensures.steps ∙ ap (λ x. x ∷ c.next.new.self) (c.in-Ok-Word.is ∙ ap Ok (rw c.in-Ok-Word.is at c.in-Ok-Word.field-0-is)) in
    stays_word _ _ _ _ _ _ _ _ _ _ (rw step at c.loop-piece.invariant) c.in_ok-progress-in-Ok-Word.ensures.well

pub loop-piece-preserved-in-Ok-Quote : goal.loop-piece-preserved-in-Ok-Quote
loop-piece-preserved-in-Ok-Quote g c =
    let step : c.loop-piece.piece-iterator ≡ Ok (QuoteAt c.in-Ok-Quote.span) ∷ c.next.new.self = c.in-Some.ensures.steps ∙ ap (λ x. x ∷ c.next.new.self) (c.in-Ok-Quote.is ∙ ap Ok (rw c.in-Ok-Quote.is at c.in-Ok-Quote.field-0-is)) in
    stays_quote _ _ _ _ _ _ _ _ _ _ (rw step at c.loop-piece.invariant) c.in_ok-progress-in-Ok-Quote.ensures.well

pub loop-piece-preserved-in-Ok-Comment : goal.loop-piece-preserved-in-Ok-Comment
loop-piece-preserved-in-Ok-Comment g c =
    let step : c.loop-piece.piece-iterator ≡ Ok (CommentAt c.in-Ok-Comment.span) ∷ c.next.new.self = c.in-Some.ensures.steps ∙ ap (λ x. x ∷ c.next.new.self) (c.in-Ok-Comment.is ∙ ap Ok (rw c.in-Ok-Comment.is at c.in-Ok-Comment.field-0-is)) in
    stays_note _ _ _ _ _ _ _ _ _ _ (rw step at c.loop-piece.invariant) c.in_ok-progress-in-Ok-Comment.ensures

pub loop-piece-preserved : goal.loop-piece-preserved
loop-piece-preserved g c =
    let step : c.loop-piece.piece-iterator ≡ Ok (EndAt c.in-Ok-End.end) ∷ c.next.new.self = c.in-Some.ensures.steps ∙ ap (λ x. x ∷ c.next.new.self) (c.in-Ok-End.is ∙ ap Ok (rw c.in-Ok-End.is at c.in-Ok-End.field-0-is)) in
    stays_end _ _ _ _ _ _ _ _ _ _ (rw step at c.loop-piece.invariant) c.in_ok-progress-in-Ok-End.ensures

pub returns-in_err-progress-in-Ok-Word-clause-bad : goal.returns-in_err-progress-in-Ok-Word-clause-bad
returns-in_err-progress-in-Ok-Word-clause-bad g c =
    let octets = c.args.octets.now in
    let same = c.into_iter-piece-iterator.ensures.into_iter_gives in
    let given : AreItemsOf octets c.into_iter-piece-iterator.result = (subst (ReadsOctets octets) (sym same) c.of_octets-piece-items.ensures.reads, subst (EachWithin (length octets)) (sym same) c.of_octets-piece-items.ensures.within) in
    let x = c.in-Ok-Word.span in
    let step : c.loop-piece.piece-iterator ≡ Ok (WordAt x) ∷ c.next.new.self = c.in-Some.ensures.steps ∙ ap (λ x. x ∷ c.next.new.self) (c.in-Ok-Word.is ∙ ap Ok (rw c.in-Ok-Word.is at c.in-Ok-Word.field-0-is)) in
    let inv = rw step at c.loop-piece.invariant in
    let p = err_from_is_err_and c.from_residual.result c.from_residual.ensures.1 in
    let goes : (ms : List Mark) → accepts_from c.led_if.result ms ≡ accepts_from (resting c.args.seam) (lead (blank_at octets 0) ++ ms) = λ ms. first_goes accepts_from (λ s m. refl) c.blank_at.result (blank_at octets 0) c.led_if.result c.line_state.result (resting c.args.seam) ms c.line_state.ensures c.led_if.ensures c.blank_at.ensures in
    rw (p.1, p.2) (first_unfit_word octets c.args.seam c.led_if.result goes _ _ _ _ _ inv given x c.next.new.self refl inv.within.0.0 inv.within.0.1 c.in_err-progress-in-Ok-Word.field-0.0 c.in_err-progress-in-Ok-Word.ensures.bad)

pub returns-in_err-progress-in-Ok-Quote-clause-bad : goal.returns-in_err-progress-in-Ok-Quote-clause-bad
returns-in_err-progress-in-Ok-Quote-clause-bad g c =
    let octets = c.args.octets.now in
    let same = c.into_iter-piece-iterator.ensures.into_iter_gives in
    let given : AreItemsOf octets c.into_iter-piece-iterator.result = (subst (ReadsOctets octets) (sym same) c.of_octets-piece-items.ensures.reads, subst (EachWithin (length octets)) (sym same) c.of_octets-piece-items.ensures.within) in
    let x = c.in-Ok-Quote.span in
    let step : c.loop-piece.piece-iterator ≡ Ok (QuoteAt x) ∷ c.next.new.self = c.in-Some.ensures.steps ∙ ap (λ x. x ∷ c.next.new.self) (c.in-Ok-Quote.is ∙ ap Ok (rw c.in-Ok-Quote.is at c.in-Ok-Quote.field-0-is)) in
    let inv = rw step at c.loop-piece.invariant in
    let p = err_from_is_err_and c.from_residual-in_err-progress-in-Ok-Quote.result c.from_residual-in_err-progress-in-Ok-Quote.ensures.1 in
    let goes : (ms : List Mark) → accepts_from c.led_if.result ms ≡ accepts_from (resting c.args.seam) (lead (blank_at octets 0) ++ ms) = λ ms. first_goes accepts_from (λ s m. refl) c.blank_at.result (blank_at octets 0) c.led_if.result c.line_state.result (resting c.args.seam) ms c.line_state.ensures c.led_if.ensures c.blank_at.ensures in
    rw (p.1, p.2) (first_unfit_quote octets c.args.seam c.led_if.result goes _ _ _ _ _ inv given x c.next.new.self refl inv.within.0.0 inv.within.0.1 c.in_err-progress-in-Ok-Quote.field-0.0 c.in_err-progress-in-Ok-Quote.ensures.bad)

pub returns-in-Err-clause-bad : goal.returns-in-Err-clause-bad
returns-in-Err-clause-bad g c =
    let octets = c.args.octets.now in
    let same = c.into_iter-piece-iterator.ensures.into_iter_gives in
    let given : AreItemsOf octets c.into_iter-piece-iterator.result = (subst (ReadsOctets octets) (sym same) c.of_octets-piece-items.ensures.reads, subst (EachWithin (length octets)) (sym same) c.of_octets-piece-items.ensures.within) in
    let step : c.loop-piece.piece-iterator ≡ Err c.in-Err.fault ∷ c.next.new.self = c.in-Some.ensures.steps ∙ ap (λ x. x ∷ c.next.new.self) c.in-Err.is in
    let inv = c.loop-piece.invariant in
    let first : first_fault c.into_iter-piece-iterator.result ≡ Some c.in-Err.fault = sym inv.fault ∙ ap first_fault step in
    let goes : (ms : List Mark) → accepts_from c.led_if.result ms ≡ accepts_from (resting c.args.seam) (lead (blank_at octets 0) ++ ms) = λ ms. first_goes accepts_from (λ s m. refl) c.blank_at.result (blank_at octets 0) c.led_if.result c.line_state.result (resting c.args.seam) ms c.line_state.ensures c.led_if.ensures c.blank_at.ensures in
    first_wrong octets c.args.seam c.led_if.result goes _ _ _ _ _ inv given c.in-Err.fault c.next.new.self step first

pub returns-clause-well : goal.returns-clause-well
returns-clause-well g c =
    let same = c.into_iter-piece-iterator.ensures.into_iter_gives in
    let octets = c.args.octets.now in
    let inv = c.loop-piece.invariant in
    let over = c.in-None.ensures.steps.0 in
    let none : first_fault c.into_iter-piece-iterator.result ≡ None = sym inv.fault ∙ ap first_fault over in
    let found = pieces_in c.into_iter-piece-iterator.result in
    let ms = marks octets false 0 found in
    let b = blank_at octets 0 in
    let z = resting c.args.seam in
    let p = c.loop-piece.progress in
    let last = marks octets p.is_token p.at in
    let ended : written_from p.line_state (last (pieces_in c.loop-piece.piece-iterator)) ≡ _ = ap (λ l. written_from p.line_state (last (pieces_in l))) over in
    let taken : accepts_from p.line_state (last (pieces_in c.loop-piece.piece-iterator)) ≡ _ = ap (λ l. accepts_from p.line_state (last (pieces_in l))) over in
    let stood : state_after p.line_state (last (pieces_in c.loop-piece.piece-iterator)) ≡ _ = ap (λ l. state_after p.line_state (last (pieces_in l))) over in
    record {
      marks = lead b ++ ms;
      read = (found, whole_of octets c.into_iter-piece-iterator.result (subst (ReadsOctets octets) (sym same) c.of_octets-piece-items.ensures.reads) none, subst (λ l. EachWithin (length octets) l) (all_ok c.into_iter-piece-iterator.result none) (subst (EachWithin (length octets)) (sym same) c.of_octets-piece-items.ensures.within), refl);
      accepted = sym (first_goes accepts_from (λ s m. refl) c.blank_at.result b c.led_if.result c.line_state.result z ms c.line_state.ensures c.led_if.ensures c.blank_at.ensures) ∙ sym inv.accepted ∙ taken;
      out = ap (λ l. c.loop-piece.out.items ++ l) (sym ended) ∙ inv.out
          ∙ ap (λ l. c.args.out.now.items ++ l) (first_goes written_from (λ s m. refl) c.blank_at.result b c.led_if.result c.line_state.result z ms c.line_state.ensures c.led_if.ensures c.blank_at.ensures);
      line_state = sym stood ∙ inv.line_state ∙ first_goes state_after (λ s m. refl) c.blank_at.result b c.led_if.result c.line_state.result z ms c.line_state.ensures c.led_if.ensures c.blank_at.ensures;
    }
