use Rattle.std.proofs.Common.{◌≡◌, false, arith, refl, sym, ◌∙◌, length, inl, inr}
use Rattle.std.proofs.lemmas.Bool.{eqb-true}
use Rattle.std.proofs.lemmas.Result.{err_from_is_err_and}
use Rattle.std.proofs.lemmas.Grind.{common_steps}
use Rattle.rdata_svcb.specs.Texts.{is_special}
use Rattle.rdata_svcb.specs.ListItems.{BeginsUnspecial}
use Rattle.rdata_svcb.proofs.ShownItems.{no_octets}
use Rattle.rdata_svcb.proofs.ListRefusals.{empty_unspecial, none_listed, other_unspecial}
use Rattle.rdata_svcb.proofs.strings.octet_after_backslash.Goals as goal

pub returns-then-is_empty-clause-err : goal.returns-then-is_empty-clause-err
returns-then-is_empty-clause-err c =
    let text = c.args.text.now in let none = no_octets text (eqb-true (length text) 0 (sym c.is_empty.ensures ∙ c.if-is_empty.true)) in (inr (refl, inl none), empty_unspecial text none)

pub returns-in_err-second-clause-err : goal.returns-in_err-second-clause-err
returns-in_err-second-clause-err c =
    let p = err_from_is_err_and c.from_residual.result c.from_residual.ensures.1 in
    let bad = c.in_err-second.ensures in
    rw (p.1, p.2, bad.0) (inl (refl, bad.1), none_listed c.args.text.now BeginsUnspecial bad.1)

pub returns-then-not-is_escaped-clause-err : goal.returns-then-not-is_escaped-clause-err
returns-then-not-is_escaped-clause-err c =
    let second = c.in_ok-second.second in
    let plain : is_special second.octet ≡ false = grind (arith, common_steps, c.is_escaped.ensures, c.if-not-is_escaped.true) in
    (inr (refl, inr (second.octet, second.rest.now, c.in_ok-second.ensures, plain)), other_unspecial c.args.text.now second.rest.now second.octet c.in_ok-second.ensures plain)
