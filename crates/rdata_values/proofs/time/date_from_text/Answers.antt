use Rattle.std.proofs.Common.{rules, subst, sym, refl}
use Rattle.rdata_values.specs.Time.{IsDate}
use Rattle.rdata_values.proofs.TimeTexts.{date_is}
use Rattle.rdata_values.proofs.time.date_from_text.Goals as goal

pub returns-then-is_valid : goal.returns-then-is_valid
returns-then-is_valid c =
    let is = date_is c.args.text.now _ _ _ _ _ _ c.number_of.ensures.value c.two_at.ensures c.two_at-2.ensures c.two_at-3.ensures c.two_at-4.ensures c.two_at-5.ensures in
    let e = c.if-is_valid.ensures in
    ((c.if-text-ne14.false, search rules, subst IsDate is (e.0 refl)), is)

pub returns-else-is_valid : goal.returns-else-is_valid
returns-else-is_valid c =
    let is = date_is c.args.text.now _ _ _ _ _ _ c.number_of.ensures.value c.two_at.ensures c.two_at-2.ensures c.two_at-3.ensures c.two_at-4.ensures c.two_at-5.ensures in
    let e = c.if-is_valid.ensures in
    λ h. let wrong = e.1 (subst IsDate (sym is) h.2) in cc
