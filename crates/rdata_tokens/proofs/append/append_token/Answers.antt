use Rattle.std.proofs.Common.{◌∙◌, [], List, ℕ, ap, subst}
use Rattle.std.proofs.lemmas.Result.{err_from_is_err_and}
use Rattle.rdata_tokens.specs.Spelled.{SpellsDigits, base_of, unfinished}
use Rattle.rdata_tokens.specs.Tokens.{DigitsContinue}
use Rattle.rdata_tokens.specs.declared.kind.DigitsKind.{DigitsKind}
use Rattle.rdata_tokens.proofs.Pieces.{reads_on, reads_goes_on}
use Rattle.rdata_tokens.proofs.TokenLemmas.{token_refused, token_unfinished, match_ok, match_err}
use Rattle.rdata_tokens.proofs.append.append_token.Goals as goal

pub returns-in_err-push-clause-err : goal.returns-in_err-push-clause-err
returns-in_err-push-clause-err g c =
    let p = err_from_is_err_and c.from_residual.result c.from_residual.ensures.1 in
    rw (p.1, p.2) (token_refused g.B.OctetsBuilder.room c.new-reader.result c.args.text.now (g.B.AsOctets.octets c.args.target.now) c.in_err-push.field-0.0 c.new-reader.ensures.read c.in_err-push.ensures.err
    c.args.kind c.new-reader.ensures.kind)

pub returns-clause-ok : goal.returns-clause-ok
returns-clause-ok g c =
    let text : List ℕ = c.args.text.now in
    let push = c.in_ok-push.ensures.ok in
    let kept = push.1.kept ∙ c.new-reader.ensures.kind in
    let read = reads_on c.new-reader.result c.push.new.self [] [] text push.0 c.new-reader.ensures.read push.1 in
    match_ok c.finish.result _ _ _ (c.finish.ensures.whole text push.0 read)
    (λ x spelled. (push.0, subst (λ (k : DigitsKind). SpellsDigits (base_of k) text push.0) kept spelled, push.2))

pub returns-clause-err : goal.returns-clause-err
returns-clause-err g c =
    let text : List ℕ = c.args.text.now in
    let old : List ℕ = g.B.AsOctets.octets c.args.target.now in
    let push = c.in_ok-push.ensures.ok in
    let kept = push.1.kept ∙ c.new-reader.ensures.kind in
    let read = reads_on c.new-reader.result c.push.new.self [] [] text push.0 c.new-reader.ensures.read push.1 in
    let on = reads_goes_on c.push.new.self text push.0 read in
    match_err c.finish.result _ _ _ _ _ c.finish.ensures.begun (c.finish.ensures.whole text push.0 read)
    (λ e is never. token_unfinished c.args.kind g.B.OctetsBuilder.room text old e (is.1 ∙ ap unfinished kept) (subst (λ (k : DigitsKind). DigitsContinue k text) kept (on.0, _, on.2))
    (subst (λ (k : DigitsKind). (v : List ℕ) → SpellsDigits (base_of k) text v → ⊥) kept never))
