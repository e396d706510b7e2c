-- A converter's result, from the text of its error.
use Rattle.std.proofs.Common.{◌≡◌, ℕ, List, refl, sym, ap, ◌∙◌, subst, Option, Some, None, Ok, Err}
use Rattle.std.specs.Borrow.{Bor}
use Rattle.dns_symbol.specs.Cause.{Cause, custom_text}
use Rattle.dns_symbol.specs.Convert.{IsAnswer}
use Rattle.dns_codec.specs.Converting.{Becomes, Conversion, ConverterState, Makes, error_or_octets}

pub made_so : {E : Type 0} (cause : E → Cause) (s : Conversion) (text : Option (Bor (List ℕ))) (after : ConverterState) → Becomes s text after → text ≡ None → Makes cause s (Ok after.lends) after
made_so cause s text after h is = record {
  answers = subst (IsAnswer cause (Ok after.lends)) (sym (ap (λ t. error_or_octets t after.lends) is) ∙ h.answers) refl;
  group = h.group;
  failed = h.failed;
  lends = h.lends;
}

pub refused_so : {E : Type 0} (cause : E → Cause) (s : Conversion) (text : Option (Bor (List ℕ))) (t : Bor (List ℕ)) (e : E) (after : ConverterState) → Becomes s text after → text ≡ Some t
    → cause e ≡ custom_text t.now → Makes cause s (Err e) after
refused_so cause s text t e after h is known = record {
  answers = subst (IsAnswer cause (Err e)) (sym (ap (λ t. error_or_octets t after.lends) is) ∙ h.answers) known;
  group = h.group;
  failed = h.failed;
  lends = h.lends;
}
