-- Templates, part by part.
use Rattle.std.proofs.Common.{◌≡◌, ℕ, ◌+◌, ◌-◌, ◌<◌, ◌≤◌, ◌==◌, ◌&&◌, ◌||◌, Bool, true, false, List, [], ◌∷◌, length, take, drop, get_or, refl, sym, ap, subst, ◌∙◌, arith, Option, Some, None}
use Rattle.std.specs.Prelude.{if◌then◌else◌}
use Rattle.std.specs.List.{list_all, list_any, position_or_len}
use Rattle.std.specs.Option.{option_map_or}
use Rattle.std.proofs.lemmas.List.{take_rest, drop_more, drop_all}
use Rattle.std.proofs.lemmas.List.Sums.{position_or_len_is}
use Rattle.rdata_svcb.specs.Params.{params_of, IsParams}
use Rattle.rdata_svcb.specs.ParamsFaults.{IsFirstWrongParam, HasValueFault, IsParamsFault, value_fault}
use Rattle.rdata_values.specs.declared.error.ErrorKind.{ErrorKind}
use Rattle.rdata_values.specs.declared.error.ErrorKind.TheVariants.{ParamValue, MissingParam}
use Rattle.rdata_svcb.specs.Values.{first_missing}
use Rattle.rdata_svcb.specs.Template.{is_variable_octet, begins_escape, are_variable_octets, is_modifier_mark}

-- ---- parts that pass a test

module _ (test : List ℕ → Bool) (parts later : List (List ℕ)) (part : List ℕ) (all : Bool) (split : parts ≡ part ∷ later) where
  pub all_more : list_all test parts ≡ all → test part ≡ true → list_all test later ≡ all
  all_more h t = ap (λ b. b && list_all test later) (sym t) ∙ ap (list_all test) (sym split) ∙ h

  pub all_fails : list_all test parts ≡ all → test part ≡ false → false ≡ all
  all_fails h t = ap (λ b. b && list_all test later) (sym t) ∙ ap (list_all test) (sym split) ∙ h

  pub any_more : list_any test parts ≡ all → test part ≡ false → list_any test later ≡ all
  any_more h t = ap (λ b. b || list_any test later) (sym t) ∙ ap (list_any test) (sym split) ∙ h

  pub any_found : list_any test parts ≡ all → test part ≡ true → true ≡ all
  any_found h t = ap (λ b. b || list_any test later) (sym t) ∙ ap (list_any test) (sym split) ∙ h

-- each part passes one test, and one has passed another, or is still to come
abbrev pub both_tests : (List ℕ → Bool) → (List ℕ → Bool) → Bool → List (List ℕ) → Bool
both_tests test other passed parts = list_all test parts && (passed || list_any other parts)

module _ (test other : List ℕ → Bool) (parts later : List (List ℕ)) (part : List ℕ) (passed all : Bool) (split : parts ≡ part ∷ later) (h : both_tests test other passed parts ≡ all) where
  both_fails_by : (a b p : Bool) (x y : Bool) → a ≡ false → ((a && x) && (p || (b || y))) ≡ all → false ≡ all
  both_fails_by false b p x y e k = k
  both_fails_by true b p x y e k = cc

  pub both_fails : test part ≡ false → false ≡ all
  both_fails t = both_fails_by (test part) (other part) passed (list_all test later) (list_any other later) t (ap (both_tests test other passed) (sym split) ∙ h)

  both_more_by : (a b p : Bool) (x y : Bool) → a ≡ true → b ≡ false → ((a && x) && (p || (b || y))) ≡ all → (x && (p || y)) ≡ all
  both_more_by true false p x y e f k = k
  both_more_by true true p x y e f k = cc
  both_more_by false b p x y e f k = cc

  pub both_more : test part ≡ true → other part ≡ false → both_tests test other passed later ≡ all
  both_more t f = both_more_by (test part) (other part) passed (list_all test later) (list_any other later) t f (ap (both_tests test other passed) (sym split) ∙ h)

  both_found_by : (a b p : Bool) (x y : Bool) → a ≡ true → b ≡ true → ((a && x) && (p || (b || y))) ≡ all → (x && (true || y)) ≡ all
  both_found_by true true true x y e f k = k
  both_found_by true true false x y e f k = k
  both_found_by true false p x y e f k = cc
  both_found_by false b p x y e f k = cc

  pub both_found : test part ≡ true → other part ≡ true → both_tests test other true later ≡ all
  both_found t f = both_found_by (test part) (other part) passed (list_all test later) (list_any other later) t f (ap (both_tests test other passed) (sym split) ∙ h)

-- octets from an index on pass a test
module _ (test : ℕ → Bool) (text : List ℕ) (i : ℕ) (all : Bool) (h : list_all test (drop i text) ≡ all) where
  pub octet_passes : i < length text → test (get_or text i 0) ≡ true → list_all test (drop (i + 1) text) ≡ all
  octet_passes l t = ap (λ b. b && list_all test (drop (i + 1) text)) (sym t) ∙ ap (list_all test) (sym (drop_more text i 0 l)) ∙ h

  pub octet_fails : i < length text → test (get_or text i 0) ≡ false → false ≡ all
  octet_fails l t = ap (λ b. b && list_all test (drop (i + 1) text)) (sym t) ∙ ap (list_all test) (sym (drop_more text i 0 l)) ∙ h

  pub none_fails : length text ≤ i → true ≡ all
  none_fails l = ap (list_all test) (sym (drop_all i text l)) ∙ h

-- the index of the first mark
pub mark_place : (text : List ℕ) (i : ℕ) → i < length text → ((k : ℕ) → k < i → is_modifier_mark (get_or text k 0) ≡ false) → is_modifier_mark (get_or text i 0) ≡ true
    → i ≡ position_or_len is_modifier_mark text
mark_place text i l before here = sym (position_or_len_is is_modifier_mark text i 0 (omega (arith, l)) before (λ m. here))

pub no_mark_place : (text : List ℕ) (n : ℕ) → length text ≤ n → ((k : ℕ) → k < n → is_modifier_mark (get_or text k 0) ≡ false) → length text ≡ position_or_len is_modifier_mark text
no_mark_place text n end before = sym (position_or_len_is is_modifier_mark text (length text) 0 (omega arith) (λ k l. before k (omega (arith, l, end))) (λ m. absurd (omega (arith, m))))

-- ---- the name of a variable

plain_first : (x : ℕ) (xs : List ℕ) → is_variable_octet x ≡ true → are_variable_octets xs ≡ are_variable_octets (x ∷ xs)
unfolding are_variable_octets
plain_first x [] h = sym h
plain_first x (y ∷ []) h = ap (λ b. b && is_variable_octet y) (sym h)
plain_first x (y ∷ z ∷ zs) h = ap (λ b. if b then are_variable_octets (y ∷ z ∷ zs) else (begins_escape (x ∷ y ∷ z ∷ zs) && are_variable_octets zs)) (sym h)

pub plain_octet : (xs : List ℕ) → 0 < length xs → is_variable_octet (get_or xs 0 0) ≡ true → are_variable_octets (take (length xs - 1) (drop 1 xs)) ≡ are_variable_octets xs
plain_octet [] some h = absurd (omega (arith, some))
plain_octet (x ∷ xs) some h = ap are_variable_octets (take_rest (x ∷ xs) 1) ∙ plain_first x xs h

pub escaped_octet : (xs : List ℕ) → 0 < length xs → is_variable_octet (get_or xs 0 0) ≡ false → begins_escape xs ≡ true → are_variable_octets (take (length xs - 3) (drop 3 xs)) ≡ are_variable_octets xs
unfolding are_variable_octets
escaped_octet [] some h e = absurd (omega (arith, some))
escaped_octet (x ∷ []) some h e = cc
escaped_octet (x ∷ y ∷ []) some h e = cc
escaped_octet (x ∷ y ∷ z ∷ zs) some h e =
    ap are_variable_octets (take_rest (x ∷ y ∷ z ∷ zs) 3) ∙ ap (λ b. b && are_variable_octets zs) (sym e)
    ∙ ap (λ b. if b then are_variable_octets (y ∷ z ∷ zs) else (begins_escape (x ∷ y ∷ z ∷ zs) && are_variable_octets zs)) (sym h)

pub no_octet : (xs : List ℕ) → 0 < length xs → is_variable_octet (get_or xs 0 0) ≡ false → begins_escape xs ≡ false → false ≡ are_variable_octets xs
unfolding are_variable_octets
no_octet [] some h e = absurd (omega (arith, some))
no_octet (x ∷ []) some h e = sym h
no_octet (x ∷ y ∷ []) some h e = ap (λ b. b && is_variable_octet y) (sym h)
no_octet (x ∷ y ∷ z ∷ zs) some h e =
    ap (λ b. b && are_variable_octets zs) (sym e) ∙ ap (λ b. if b then are_variable_octets (y ∷ z ∷ zs) else (begins_escape (x ∷ y ∷ z ∷ zs) && are_variable_octets zs)) (sym h)

pub no_octets_left : (xs : List ℕ) → length xs ≡ 0 → true ≡ are_variable_octets xs
unfolding are_variable_octets
no_octets_left [] none = refl
no_octets_left (x ∷ xs) none = absurd (omega (arith, none))

-- ---- faults

-- what is wrong with a value is that a key is missing, or anything else
value_wrong : (octets : List ℕ) (fault : ErrorKind) (key : ℕ) (b : Bool) (m : Option ℕ) → HasValueFault fault octets
    → fault ≡ (if b then option_map_or (λ missing. MissingParam missing) m (ParamValue 0) else ParamValue key) → IsParamsFault fault octets
value_wrong octets fault key true (Some n) h e = subst (λ f. IsParamsFault f octets) (sym e) (subst (λ f. HasValueFault f octets) e h)
value_wrong octets fault key true None h e = subst (λ f. IsParamsFault f octets) (sym e) (subst (λ f. HasValueFault f octets) e h)
value_wrong octets fault key false m h e = subst (λ f. IsParamsFault f octets) (sym e) (subst (λ f. HasValueFault f octets) e h)

pub has_fault : (octets : List ℕ) (key : ℕ) (value : List ℕ) (fault : ErrorKind) → IsParams octets → IsFirstWrongParam key value (params_of octets)
    → fault ≡ value_fault (params_of octets) key value → IsParamsFault fault octets
has_fault octets key value fault is wrong e = value_wrong octets fault key (key == 0) (first_missing (params_of octets) value) (is, (key, value, wrong, e)) e
