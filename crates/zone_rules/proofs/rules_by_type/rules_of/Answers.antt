use Rattle.std.proofs.Common.{refl, sym, ◌∙◌}
use Rattle.rdata_values.specs.Rtype as Rtype
use Rattle.zone_rules.proofs.ByType.{has_rules, is_code, any_rules, cname_rules, ds_rules, mx_rules, ns_rules, srv_rules, txt_rules}
use Rattle.zone_rules.proofs.rules_by_type.rules_of.Goals as goal

pub returns-then-eq : goal.returns-then-eq
returns-then-eq c = has_rules c.args.rtype Rtype.a any_rules (is_code c.args.rtype Rtype.a (sym c.eq.ensures ∙ c.if-eq.true)) refl

pub returns-then-eq-2 : goal.returns-then-eq-2
returns-then-eq-2 c = has_rules c.args.rtype Rtype.ns ns_rules (is_code c.args.rtype Rtype.ns (sym c.eq-2.ensures ∙ c.if-eq-2.true)) refl

pub returns-then-eq-3 : goal.returns-then-eq-3
returns-then-eq-3 c = has_rules c.args.rtype Rtype.aaaa any_rules (is_code c.args.rtype Rtype.aaaa (sym c.eq-3.ensures ∙ c.if-eq-3.true)) refl

pub returns-then-eq-4 : goal.returns-then-eq-4
returns-then-eq-4 c = has_rules c.args.rtype Rtype.rrsig any_rules (is_code c.args.rtype Rtype.rrsig (sym c.eq-4.ensures ∙ c.if-eq-4.true)) refl

pub returns-then-eq-5 : goal.returns-then-eq-5
returns-then-eq-5 c = has_rules c.args.rtype Rtype.cname cname_rules (is_code c.args.rtype Rtype.cname (sym c.eq-5.ensures ∙ c.if-eq-5.true)) refl

pub returns-then-eq-6 : goal.returns-then-eq-6
returns-then-eq-6 c = has_rules c.args.rtype Rtype.txt txt_rules (is_code c.args.rtype Rtype.txt (sym c.eq-6.ensures ∙ c.if-eq-6.true)) refl

pub returns-then-eq-7 : goal.returns-then-eq-7
returns-then-eq-7 c = has_rules c.args.rtype Rtype.mx mx_rules (is_code c.args.rtype Rtype.mx (sym c.eq-7.ensures ∙ c.if-eq-7.true)) refl

pub returns-then-eq-8 : goal.returns-then-eq-8
returns-then-eq-8 c = has_rules c.args.rtype Rtype.ds ds_rules (is_code c.args.rtype Rtype.ds (sym c.eq-8.ensures ∙ c.if-eq-8.true)) refl

pub returns-then-eq-9 : goal.returns-then-eq-9
returns-then-eq-9 c = has_rules c.args.rtype Rtype.ptr any_rules (is_code c.args.rtype Rtype.ptr (sym c.eq-9.ensures ∙ c.if-eq-9.true)) refl

pub returns-then-eq-10 : goal.returns-then-eq-10
returns-then-eq-10 c = has_rules c.args.rtype Rtype.nsec any_rules (is_code c.args.rtype Rtype.nsec (sym c.eq-10.ensures ∙ c.if-eq-10.true)) refl

pub returns-then-eq-11 : goal.returns-then-eq-11
returns-then-eq-11 c = has_rules c.args.rtype Rtype.srv srv_rules (is_code c.args.rtype Rtype.srv (sym c.eq-11.ensures ∙ c.if-eq-11.true)) refl
