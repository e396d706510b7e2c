-- The severity of a finding by what is excepted.
use Rattle.std.proofs.Common.{◌≡◌, ◌⊎◌, inl, inr, Bool, true, false, not, Option, Some, None, Contains, refl}
use Rattle.std.proofs.lemmas.Bool.{and_cases, and_parts, both_ways, not-false, not-true}
use Rattle.finding_codes.specs.Code.{default_severity, is_text_fault}
use Rattle.finding_codes.specs.declared.code.Code.{Code}
use Rattle.finding_codes.specs.declared.code.Severity.{Severity}
use Rattle.finding_codes.specs.declared.code.Severity.TheVariants.{Error}
use Rattle.finding_codes.specs.declared.policy.Policy.{Policy}
use Rattle.findings.specs.Shown.{IsSeverity, can_be_excepted}

module _ (p : Policy) (code : Code) (is_refused is_excepted : Bool) where
  pub excepted_severity : can_be_excepted code is_refused ≡ true → is_excepted ≡ true → IsSeverity p code is_refused is_excepted None
  excepted_severity can ex = record {
    always = λ e. absurd (both_ways (can_be_excepted code is_refused) e can);
    excepted = λ _ _. refl;
    allowed = λ _ _. refl;
    denied = λ _ e _ _. absurd (both_ways is_excepted e ex);
    other = λ _ e _ _ _. absurd (both_ways is_excepted e ex);
  }

  pub counted_severity : (r : Option Severity) → (can_be_excepted code is_refused ≡ true → is_excepted ≡ false)
      → (is_text_fault code ≡ true → r ≡ Some Error) → (is_refused ≡ true → r ≡ Some Error)
      → (is_refused ≡ false → is_text_fault code ≡ false → Contains p.allowed.now code → r ≡ None)
      → (is_text_fault code ≡ false → ¬ (Contains p.allowed.now code) → Contains p.denied.now code ⊎ (p.is_strict ≡ true) → r ≡ Some Error)
      → (is_refused ≡ false → is_text_fault code ≡ false → ¬ (Contains p.allowed.now code) → ¬ (Contains p.denied.now code) → p.is_strict ≡ false → r ≡ Some (default_severity code))
      → IsSeverity p code is_refused is_excepted r
  counted_severity r counts text refused allowed denied other = record {
    always = λ e. elim (and_cases (not is_refused) (not (is_text_fault code)) e) [ inl a ↦ refused (not-false is_refused a) | inr b ↦ text (not-false (is_text_fault code) b) ];
    excepted = λ can ex. absurd (both_ways is_excepted (counts can) ex);
    allowed = λ can h.
        let parts = and_parts (not is_refused) (not (is_text_fault code)) can in
        allowed (not-true is_refused parts.0) (not-true (is_text_fault code) parts.1) h;
    denied = λ can _ na d.
        let parts = and_parts (not is_refused) (not (is_text_fault code)) can in
        denied (not-true (is_text_fault code) parts.1) na d;
    other = λ can _ na nd lax.
        let parts = and_parts (not is_refused) (not (is_text_fault code)) can in
        other (not-true is_refused parts.0) (not-true (is_text_fault code) parts.1) na nd lax;
  }
