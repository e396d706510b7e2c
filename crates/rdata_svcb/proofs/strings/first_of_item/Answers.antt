use Rattle.std.proofs.Common.{◌∷◌, [], refl, subst, inl, inr}
use Rattle.std.proofs.lemmas.Result.{err_from_is_err_and}
use Rattle.rdata_tokens.specs.Spelling.{SpellsBeginning}
use Rattle.rdata_svcb.specs.ListItems.{BeginsBadItem}
use Rattle.rdata_svcb.proofs.ListTexts.{escaped_front, plain_front}
use Rattle.rdata_svcb.proofs.ListRefusals.{none_listed, behind_bad}
use Rattle.rdata_svcb.proofs.strings.first_of_item.Goals as goal

pub returns-then-first-eq92 : goal.returns-then-first-eq92
returns-then-first-eq92 c =
    let first = c.in_ok-first.first in let escaped = c.in_ok-escaped in
    record { ok = escaped_front c.args.text.now first.rest.now escaped.escaped.rest.now first.octet escaped.escaped.octet c.in_ok-first.ensures c.if-first-eq92.true escaped.ensures.ok.0 escaped.ensures.ok.1; err = tt }

pub returns : goal.returns
returns c =
    let first = c.in_ok-first.first in
    record { ok = plain_front c.args.text.now first.rest.now first.octet c.in_ok-first.ensures c.if-first-eq44.false c.if-first-eq92.false; err = tt }

pub returns-in_err-first-clause-err : goal.returns-in_err-first-clause-err
returns-in_err-first-clause-err c =
    let p = err_from_is_err_and c.from_residual.result c.from_residual.ensures.1 in
    let bad = c.in_err-first.ensures in
    rw (p.1, p.2, bad.0) (inl (refl, bad.1), none_listed c.args.text.now BeginsBadItem bad.1)

pub returns-in_err-escaped-clause-err : goal.returns-in_err-escaped-clause-err
returns-in_err-escaped-clause-err c =
    let p = err_from_is_err_and c.from_residual-in_err-escaped.result c.from_residual-in_err-escaped.ensures.1 in
    let first = c.in_ok-first.first in let err = c.in_err-escaped.ensures.err in
    rw (p.1, p.2) (inr (first.rest.now, subst (λ o. SpellsBeginning c.args.text.now (o ∷ []) first.rest.now) c.if-first-eq92.true c.in_ok-first.ensures, err.0), behind_bad c.args.text.now first.rest.now first.octet c.in_ok-first.ensures c.if-first-eq92.true err.1)
