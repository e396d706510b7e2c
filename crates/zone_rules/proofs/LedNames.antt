-- CNAMEs that lead from a name, by the index of the first of them.
use Rattle.std.proofs.Common.{ℕ, zero, suc, ◌≡◌, ◌-◌, Bool, true, false, Option, Some, None, List, refl, sym, ap, subst, ◌∙◌, arith}
use Rattle.std.specs.Prelude.{◌==◌, ◌&&◌, ◌||◌, not, option_and_then, slice_get}
use Rattle.std.specs.Option.{option_map, option_map_or}
use Rattle.rdata_values.specs.Rtype as Rtype
use Rattle.zone_record.specs.declared.record.Record.{Record}
use Rattle.dns_wire.specs.Order.{same_name}
use Rattle.zone_rules.specs.Rules.{alias_target, is_alias_loop, leads_to, name_after}
use Rattle.zone_rules.specs.Subjects.{IsFirstAlias, IsLedFrom, IsRecordAt}
use Rattle.zone_rules.specs.Zones.{as_listed, type_of}

target_listed : {N O : Type 0} (R S : Type 0) (o : Option (Record N O)) → option_and_then (alias_target {N = R} {O = S}) (option_map as_listed o) ≡ option_and_then alias_target o
target_listed R S None = refl
target_listed R S (Some r) = refl

module _ {N O : Type 0} (records : List (Record N O)) (goal : List (List ℕ)) where
  abbrev step : ℕ → Option (List (List ℕ)) → Bool
  step count after = option_map_or (λ next. same_name next goal || leads_to count records goal next) after false

  pub led_none : (count : ℕ) → IsLedFrom count records goal None false
  led_none zero name first = refl
  led_none (suc count) name first = ap (λ o. step count (option_and_then alias_target o)) first

  pub led_zero : (place : Option ℕ) → IsLedFrom 0 records goal place false
  led_zero place name first = refl

  module _ {R S : Type 0} (place : ℕ) (one : Record R S) (is : IsRecordAt records place one) where
    after_is : (name : List (List ℕ)) → IsFirstAlias name records (Some place) → alias_target one ≡ name_after records name
    after_is name first =
        ap (option_and_then alias_target) is ∙ target_listed R S (slice_get records place) ∙ ap (option_and_then alias_target) first

    led_step : (count : ℕ) (after : Option (List (List ℕ))) → alias_target one ≡ after → (led : Bool) → led ≡ step count after → IsLedFrom (suc count) records goal (Some place) led
    led_step count after e led h name first = h ∙ ap (step count) (sym e ∙ after_is name first)

    pub led_nowhere : (count : ℕ) → alias_target one ≡ None → IsLedFrom (suc count) records goal (Some place) false
    led_nowhere count e = led_step count None e false refl

    pub led_there : (count : ℕ) (next : List (List ℕ)) → alias_target one ≡ Some next → same_name next goal ≡ true → IsLedFrom (suc count) records goal (Some place) true
    led_there count next e same = led_step count (Some next) e true (sym (ap (λ b. b || leads_to count records goal next) same))

    pub led_on : (count : ℕ) (next : List (List ℕ)) (led : Bool) → alias_target one ≡ Some next → same_name next goal ≡ false → led ≡ leads_to count records goal next → IsLedFrom (suc count) records goal (Some place) led
    led_on count next led e same h = led_step count (Some next) e led (h ∙ sym (ap (λ b. b || leads_to count records goal next) same))

-- a CNAME that leads back to its owner
pub led_back : {N O M P : Type 0} (records : List (Record N O)) (r : Record M P) (goal : List (List ℕ)) (place : Option ℕ) (led : Bool)
    → goal ≡ r.owner → IsFirstAlias r.owner records place → IsLedFrom 16 records goal place led → (type_of r == Rtype.cname) ≡ true
    → led ≡ is_alias_loop records r
led_back records r goal place led same first is t =
    is r.owner first ∙ ap (λ n. leads_to 16 records n r.owner) same ∙ sym (ap (λ b. b && leads_to 16 records r.owner r.owner) t)

pub not_false : (b : Bool) → not b ≡ false → b ≡ true
not_false true h = refl
not_false false h = cc

back_on : (count : ℕ) → (count ≡ 0 → ⊥) → suc (count - 1) ≡ count
back_on zero some = absurd (some refl)
back_on (suc count) some = omega arith

module _ {N O : Type 0} (records : List (Record N O)) (goal : List (List ℕ)) (count : ℕ) (place : Option ℕ) (led : Bool) where
  -- the same of a count that is not 0, and of the index of a CNAME
  pub led_from : (at : ℕ) → place ≡ Some at → (count ≡ 0 → ⊥) → IsLedFrom (suc (count - 1)) records goal (Some at) led → IsLedFrom count records goal place led
  led_from at e some h = subst (λ n. IsLedFrom n records goal place led) (back_on count some) (subst (λ p. IsLedFrom (suc (count - 1)) records goal p led) (sym e) h)
