use Rattle.std.proofs.Common.{◌≡◌, ◌∙◌, sym, ap, refl, Bool, true, false}
use Rattle.std.specs.Prelude.{if◌then◌else◌}
use Rattle.zone_store.specs.Parts.{begins_parts, first_parts}
use Rattle.zone_store.specs.Stored.{absent_parts}
use Rattle.zone_store.proofs.entries.first_type_or_absent.Goals as goal

not_true : (b : Bool) → (b ≡ true → false ≡ true) → b ≡ false
not_true true h = sym (h refl)
not_true false h = refl

pub returns-in-Some-clause-class : goal.returns-in-Some-clause-class
returns-in-Some-clause-class c =
    c.in-Some.ensures.class ∙ sym (ap (λ b. (if b then first_parts c.args.octets.now else absent_parts).class) (c.in-Some.ensures.some.0 refl))

pub returns-in-Some-clause-rtype : goal.returns-in-Some-clause-rtype
returns-in-Some-clause-rtype c =
    c.in-Some.ensures.rtype ∙ sym (ap (λ b. (if b then first_parts c.args.octets.now else absent_parts).code) (c.in-Some.ensures.some.0 refl))

pub returns-in-None-clause-class : goal.returns-in-None-clause-class
returns-in-None-clause-class c =
    ap (λ p. p.class) c.absent-header.ensures ∙ sym (ap (λ b. (if b then first_parts c.args.octets.now else absent_parts).class) (not_true (begins_parts c.args.octets.now) c.in-None.ensures.some.1))

pub returns-in-None-clause-rtype : goal.returns-in-None-clause-rtype
returns-in-None-clause-rtype c =
    ap (λ p. p.code) c.absent-header.ensures ∙ sym (ap (λ b. (if b then first_parts c.args.octets.now else absent_parts).code) (not_true (begins_parts c.args.octets.now) c.in-None.ensures.some.1))
