-- Steps over the terms of SPF records.
use Rattle.std.proofs.Common.{ℕ, ◌≡◌, Bool, true, false, cond, List, refl, ap, ◌∙◌}
use Rattle.std.specs.Prelude.{◌&&◌, ◌||◌}
use Rattle.mail_texts.specs.Parts.{parts_between, IsSplitAt, IsUnsplit}
use Rattle.mail_texts.specs.SpfTerms.{has_mechanism_after_all, has_term, has_two_terms, is_all_term, passes_term}
use Rattle.mail_texts.specs.declared.spf_use.TermTest.{TermTest}
use Rattle.mail_texts.specs.declared.spf_use.TermTest.TheVariants.{Directive}
use Rattle.mail_texts.proofs.Splits.{and_false}

or_false : (b : Bool) → (b || false) ≡ b
or_false true = refl
or_false false = refl

pub two_step : (test : TermTest) (octets before after : List ℕ) → IsSplitAt 32 octets before after
    → has_two_terms test (parts_between 32 octets) ≡ ((passes_term test before && has_term test (parts_between 32 after)) || has_two_terms test (parts_between 32 after))
two_step test octets before after h = ap (has_two_terms test) h.parts

pub two_last : (test : TermTest) (octets : List ℕ) → IsUnsplit 32 octets → has_two_terms test (parts_between 32 octets) ≡ false
two_last test octets h = ap (has_two_terms test) h.parts ∙ or_false (passes_term test octets && false) ∙ and_false (passes_term test octets)

pub after_all_step : (octets before after : List ℕ) → IsSplitAt 32 octets before after
    → has_mechanism_after_all (parts_between 32 octets) ≡ cond (is_all_term before) (has_term Directive (parts_between 32 after)) (has_mechanism_after_all (parts_between 32 after))
after_all_step octets before after h = ap has_mechanism_after_all h.parts

same_false : (b : Bool) → cond b false false ≡ false
same_false true = refl
same_false false = refl

pub after_all_last : (octets : List ℕ) → IsUnsplit 32 octets → has_mechanism_after_all (parts_between 32 octets) ≡ false
after_all_last octets h = ap has_mechanism_after_all h.parts ∙ same_false (is_all_term octets)
