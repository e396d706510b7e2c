use Rattle.std.proofs.Common.{length, sym, arith}
use Rattle.std.proofs.lemmas.Bool.{eqb-true, eqb-false}
use Rattle.rdata_svcb.proofs.WireItems.{no_octet, ends_empty, plain_split, escape_split}
use Rattle.rdata_svcb.proofs.Reading.{no_rest}
use Rattle.rdata_svcb.proofs.texts.first_octet.Goals as goal

pub returns-then-is_empty : goal.returns-then-is_empty
returns-then-is_empty c = ends_empty c.args.text.now (no_rest c.args.text.now (eqb-true (length c.args.text.now) 0 (sym c.if-is_empty.ensures)))

pub returns-then-not-is_escaped : goal.returns-then-not-is_escaped
returns-then-not-is_escaped c =
    plain_split c.args.text.now (omega (arith, eqb-false (length c.args.text.now) 0 (sym c.if-is_empty.ensures))) (sym c.if-not-is_escaped.ensures)

pub returns-then-octet-eq44 : goal.returns-then-octet-eq44
returns-then-octet-eq44 c = no_octet c.args.text.now (λ l. sym c.if-not-is_escaped.ensures) (λ l e. absurd (omega (arith, c.if-octet-eq44.true)))

pub returns-then-text-lt2 : goal.returns-then-text-lt2
returns-then-text-lt2 c = no_octet c.args.text.now (λ l. sym c.if-not-is_escaped.ensures) (λ l e. absurd (omega (arith, c.if-text-lt2.true)))

pub returns-then-not-is_escaped-2 : goal.returns-then-not-is_escaped-2
returns-then-not-is_escaped-2 c = no_octet c.args.text.now (λ l. sym c.if-not-is_escaped.ensures) (λ l e. sym c.if-not-is_escaped-2.ensures)

pub returns : goal.returns
returns c = escape_split c.args.text.now (omega arith) (sym c.if-not-is_escaped.ensures) c.if-octet-eq44.false (sym c.if-not-is_escaped-2.ensures)
