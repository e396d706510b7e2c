-- Sets of a pattern, range by range.
use Rattle.std.proofs.Common.{ℕ, ◌-◌, ◌≡◌, ◌<◌, ◌≤◌, ◌+◌, ◌==◌, Bool, true, false, not, ◌&&◌, List, [], ◌∷◌, length, refl, sym, ap, ◌∙◌, arith, get_or, take, drop, ◌⊎◌, inl, inr}
use Rattle.std.proofs.Math.Bool.{and-false}
use Rattle.std.proofs.lemmas.Bool.{false≢true, ne_eqb}
use Rattle.std.proofs.lemmas.List.{drop-drop, length-drop, take_rest}
use Rattle.std.specs.Prelude.{zero, suc, if◌then◌else◌, ◌||◌, Some}
use Rattle.server_config.specs.PathPatterns.{is_negated, range_has, range_more, set_end, set_has, set_text}
use Rattle.server_config.proofs.PathSteps.{rest_cons}

pub more_within : (text : List ℕ) → range_more text ≤ length text
more_within [] = omega arith
more_within (_ ∷ []) = omega arith
more_within (hyphen ∷ high ∷ text) = fits ((hyphen == 45) && not (high == 93))
  where
    fits : (b : Bool) → (if b then 2 else 0) ≤ length (hyphen ∷ high ∷ text)
    fits true = omega arith
    fits false = omega arith

pub is_behind : (at more : ℕ) → ((at + (1 + more)) == 0) ≡ false
is_behind at more = ne_eqb (at + (1 + more)) 0 (λ h. omega (arith, h))

-- a bracket that is the first octet of a set doesn't end it
pub not_ended : (c at : ℕ) → (c ≡ 93 × at ≤ 0) ⊎ (c ≡ 93 → ⊥) → ((c == 93) && not (at == 0)) ≡ false
not_ended c at (inl (is, le)) = ap (λ n. (c == 93) && not (n == 0)) {x = at} {y = 0} (omega (arith, le)) ∙ and-false (c == 93)
not_ended c at (inr differs) = ap (λ b. b && not (at == 0)) (ne_eqb c 93 differs)

-- octets of a range are passed
end_skips : (at more : ℕ) (text : List ℕ) → more ≤ length text → set_end at more false text ≡ set_end (at + more) 0 false (drop more text)
end_skips at zero text le = ap (λ a. set_end a 0 false text) {x = at} {y = at + 0} (omega arith)
end_skips at (suc more) [] le = absurd (omega arith)
end_skips at (suc more) (c ∷ text) le =
    end_skips (at + 1) more text (omega arith) ∙ ap (λ a. set_end a 0 false (drop more text)) {x = at + 1 + more} {y = at + suc more} (omega arith)

has_skips : (octet more : ℕ) (text : List ℕ) → more ≤ length text → set_has octet more false text ≡ set_has octet 0 false (drop more text)
has_skips octet zero text le = refl
has_skips octet (suc more) [] le = absurd (omega arith)
has_skips octet (suc more) (_ ∷ text) le = has_skips octet more text (omega arith)

more_in : (text : List ℕ) (at more : ℕ) → more ≡ range_more (take (length text - (at + 1)) (drop (at + 1) text)) → more ≡ range_more (drop (at + 1) text)
more_in text at more is = is ∙ ap range_more (take_rest text (at + 1))

-- a range is in the text
pub passed_within : (text : List ℕ) (at more : ℕ) → at < length text → more ≡ range_more (take (length text - (at + 1)) (drop (at + 1) text))
    → at + (1 + more) ≤ length text
passed_within text at more lt is = omega (arith, lt, more_in text at more is, more_within (drop (at + 1) text), length-drop (at + 1) text)

module _ (text : List ℕ) (at more : ℕ) (lt : at < length text) (is : more ≡ range_more (take (length text - (at + 1)) (drop (at + 1) text))) where
  fits : range_more (drop (at + 1) text) ≤ length (drop (at + 1) text)
  fits = more_within (drop (at + 1) text)

  behind : drop (range_more (drop (at + 1) text)) (drop (at + 1) text) ≡ drop (at + (1 + more)) text
  behind = drop-drop (range_more (drop (at + 1) text)) (at + 1) text
      ∙ ap (λ n. drop n text) {x = at + 1 + range_more (drop (at + 1) text)} {y = at + (1 + more)} (omega (arith, more_in text at more is))

  pub end_passed : ((get_or text at 0 == 93) && not (at == 0)) ≡ false → set_end at 0 (at == 0) (drop at text) ≡ set_end 0 0 true text
      → set_end (at + (1 + more)) 0 ((at + (1 + more)) == 0) (drop (at + (1 + more)) text) ≡ set_end 0 0 true text
  end_passed stays so =
      let rest = drop (at + 1) text in
      let next = at + (1 + more) in
      ap (λ f. set_end next 0 f (drop next text)) (is_behind at more)
      ∙ ap (λ t. set_end next 0 false t) (sym behind)
      ∙ ap (λ n. set_end n 0 false (drop (range_more rest) rest)) {x = next} {y = at + 1 + range_more rest} (omega (arith, more_in text at more is))
      ∙ sym (end_skips (at + 1) (range_more rest) rest fits)
      ∙ sym (ap (λ b. if b then Some (at + 1) else set_end (at + 1) (range_more rest) false rest) stays)
      ∙ sym (ap (set_end at 0 (at == 0)) (rest_cons text at lt))
      ∙ so

  pub has_passed : (octet : ℕ) → ((get_or text at 0 == 93) && not (at == 0)) ≡ false
      → range_has octet (get_or text at 0) (drop (at + 1) text) ≡ false
      → set_has octet 0 (at == 0) (drop at text) ≡ set_has octet 0 true text
      → set_has octet 0 ((at + (1 + more)) == 0) (drop (at + (1 + more)) text) ≡ set_has octet 0 true text
  has_passed octet stays lacks so =
      let rest = drop (at + 1) text in
      let next = at + (1 + more) in
      let low = get_or text at 0 in
      let others = set_has octet (range_more rest) false rest in
      ap (λ f. set_has octet 0 f (drop next text)) (is_behind at more)
      ∙ ap (set_has octet 0 false) (sym behind)
      ∙ sym (has_skips octet (range_more rest) rest fits)
      ∙ sym (ap (λ b. b || others) lacks)
      ∙ sym (ap (λ b. if b then false else (range_has octet low rest || others)) stays)
      ∙ sym (ap (set_has octet 0 (at == 0)) (rest_cons text at lt))
      ∙ so

pub lacking : (text : List ℕ) (at octet : ℕ) (r : Bool) → r ≡ range_has octet (get_or text at 0) (take (length text - (at + 1)) (drop (at + 1) text)) → r ≡ false
    → range_has octet (get_or text at 0) (drop (at + 1) text) ≡ false
lacking text at octet r is lacks = sym (ap (range_has octet (get_or text at 0)) (take_rest text (at + 1))) ∙ sym is ∙ lacks

-- a set without its mark of negation
pub negated_shorter : (text : List ℕ) → is_negated text ≡ true → length (set_text text) + 1 ≡ length text
negated_shorter [] is = absurd (false≢true is)
negated_shorter (c ∷ text) is = ap (λ b. length (if b then text else c ∷ text) + 1) is ∙ omega arith

pub set_within : (text : List ℕ) → length (set_text text) ≤ length text
set_within [] = omega arith
set_within (c ∷ text) = shorter (is_negated (c ∷ text))
  where
    shorter : (b : Bool) → length (if b then text else c ∷ text) ≤ length (c ∷ text)
    shorter true = omega arith
    shorter false = omega arith
