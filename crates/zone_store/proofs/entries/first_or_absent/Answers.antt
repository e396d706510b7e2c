use Rattle.std.proofs.Common.{◌≡◌, ◌∙◌, sym, ap, refl, Bool, true, false}
use Rattle.std.specs.Prelude.{if◌then◌else◌}
use Rattle.zone_store.specs.Parts.{begins_parts, first_parts}
use Rattle.zone_store.specs.Stored.{absent_parts}
use Rattle.zone_store.proofs.entries.first_or_absent.Goals as goal

not_true : (b : Bool) → (b ≡ true → false ≡ true) → b ≡ false
not_true true h = sym (h refl)
not_true false h = refl

pub returns-in-Some : goal.returns-in-Some
returns-in-Some c =
    c.in-Some.ensures.value ∙ sym (ap (λ b. if b then first_parts c.args.octets.now else absent_parts) (c.in-Some.ensures.some.0 refl))

pub returns-in-None : goal.returns-in-None
returns-in-None c =
    c.absent.ensures ∙ sym (ap (λ b. if b then first_parts c.args.octets.now else absent_parts) (not_true (begins_parts c.args.octets.now) c.in-None.ensures.some.1))
