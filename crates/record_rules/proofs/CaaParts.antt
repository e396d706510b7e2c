-- Parts of the values of CAA.
use Rattle.std.proofs.Common.{ℕ, ◌≡◌, Bool, true, false, cond, List, [], ◌∷◌, refl, ap, ◌∙◌}
use Rattle.std.specs.Prelude.{◌==◌, ◌&&◌, ◌||◌}
use Rattle.std.specs.List.{list_all, onto_first, slice_split}
use Rattle.std.specs.Option.{option_map_or}
use Rattle.mail_texts.specs.Parts.{parts_between, IsSplitAt, IsUnsplit}
use Rattle.mail_texts.proofs.Splits.{and_true}
use Rattle.record_rules.specs.CaaValues.{are_parameters, is_issue_value, is_issuer, is_no_part, is_parameter, is_wsp}

-- ---- all parts

or_false : (b : Bool) → (b || false) ≡ b
or_false true = refl
or_false false = refl

some_part : (p : ℕ → Bool) (octets : List ℕ) → is_no_part (slice_split p octets) ≡ false
some_part p [] = refl
some_part p (o ∷ octets) = by (p o) (slice_split p octets)
  where
    by : (b : Bool) (parts : List (List ℕ)) → is_no_part (cond b ([] ∷ parts) (onto_first o parts)) ≡ false
    by true parts = refl
    by false [] = refl
    by false (part ∷ parts) = refl

pub parameters_step : (octets before after : List ℕ) → IsSplitAt 59 octets before after → are_parameters (parts_between 59 octets) ≡ (is_parameter before && are_parameters (parts_between 59 after))
parameters_step octets before after h =
    ap are_parameters h.parts
    ∙ ap (λ b. (is_parameter before || (b && list_all is_wsp before)) && are_parameters (parts_between 59 after)) (some_part (λ o. o == 59) after)
    ∙ ap (λ b. b && are_parameters (parts_between 59 after)) (or_false (is_parameter before))

pub parameters_stop : (octets before after : List ℕ) → IsSplitAt 59 octets before after → is_parameter before ≡ false → are_parameters (parts_between 59 octets) ≡ false
parameters_stop octets before after h e = parameters_step octets before after h ∙ ap (λ b. b && are_parameters (parts_between 59 after)) e

pub parameters_last : (octets : List ℕ) → IsUnsplit 59 octets → are_parameters (parts_between 59 octets) ≡ (is_parameter octets || list_all is_wsp octets)
parameters_last octets h = ap are_parameters h.parts ∙ and_true (is_parameter octets || list_all is_wsp octets)

-- ---- two parts

pub issue_split : (octets before after : List ℕ) → IsSplitAt 59 octets before after → is_issue_value octets ≡ (is_issuer before && are_parameters (parts_between 59 after))
issue_split octets before after h = λ i. is_issuer (h.is_before i) && option_map_or (λ rest. are_parameters (parts_between 59 rest)) (h.is_after i) true

pub issue_unsplit : (octets : List ℕ) → IsUnsplit 59 octets → is_issue_value octets ≡ is_issuer octets
issue_unsplit octets h =
    (λ i. is_issuer (h.is_before i) && option_map_or (λ rest. are_parameters (parts_between 59 rest)) (h.is_after i) true) ∙ and_true (is_issuer octets)
