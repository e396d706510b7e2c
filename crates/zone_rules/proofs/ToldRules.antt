-- A finding names a record and a rule if and only if the record breaks the rule.
use Rattle.std.proofs.Common.{ℕ, zero, suc, ◌≡◌, ◌<◌, ◌⊎◌, ⊎_elim, inl, inr, Bool, true, false, Option, Some, None, List, [], ◌∷◌, length, get_or, refl, sym, ap, subst, ◌∙◌, arith}
use Rattle.std.specs.Prelude.{not}
use Rattle.std.specs.List.{Contains, flat_map, range_with_len}
use Rattle.std.proofs.lemmas.List.Elements.{Contains-append_left, Contains-append_right, Contains-append_cases}
use Rattle.std.proofs.lemmas.List.FromFn.{length-range_with_len, get_or-range_with_len}
use Rattle.finding_codes.specs.Rule.{coded_rule}
use Rattle.finding_codes.specs.declared.code.Code.TheVariants.{NoSoa, NoNs}
use Rattle.finding_codes.specs.declared.rule.Rule.{Rule}
use Rattle.rdata_values.specs.Rtype as Rtype
use Rattle.zone_record.specs.declared.record.Record.{Record}
use Rattle.zone_rules.specs.Findings.{found_if, found_at_apex, record_rules, breaks_at, found_of, found_at, found_in_zone, ReportsBrokenRules}
use Rattle.zone_rules.specs.Present.{is_present}
use Rattle.zone_rules.specs.declared.refused.RrsetName.{RrsetName}
use Rattle.zone_rules.specs.declared.rule.Finding.{Finding}

-- ---- elements of lists that are put together

in_nothing : {X : Type 0} (x : X) → Contains [] x → ⊥
in_nothing x h = let lt = h.1 in omega arith

in_tail : {X : Type 0} (y : X) (xs : List X) (x : X) → Contains xs x → Contains (y ∷ xs) x
in_tail y xs x h = let lt = h.1 in (suc h.0, omega arith, h.2)

in_cons : {X : Type 0} (y : X) (xs : List X) (x : X) (k : ℕ) → k < length (y ∷ xs) → get_or (y ∷ xs) k x ≡ x → (y ≡ x) ⊎ Contains xs x
in_cons y xs x zero lt h = inl h
in_cons y xs x (suc k) lt h = inr (k, omega arith, h)

in_flat : {X A : Type 0} (f : X → List A) (xs : List X) (x : X) (a : A) → Contains xs x → Contains (f x) a → Contains (flat_map f xs) a
in_flat f [] x a h k = absurd (in_nothing x h)
in_flat f (y ∷ xs) x a h k =
    ⊎_elim
    (λ e. Contains-append_left (f y) (flat_map f xs) a (subst (λ z. Contains (f z) a) (sym e) k))
    (λ t. Contains-append_right (f y) (flat_map f xs) a (in_flat f xs x a t k))
    (in_cons y xs x h.0 h.1 h.2)

from_flat : {X A : Type 0} (f : X → List A) (xs : List X) (a : A) → Contains (flat_map f xs) a → (x : X) × Contains xs x × Contains (f x) a
from_flat f [] a h = absurd (in_nothing a h)
from_flat f (y ∷ xs) a h =
    ⊎_elim
    (λ here. (y, (0, omega arith, refl), here))
    (λ there. let more = from_flat f xs a there in (more.0, in_tail y xs more.0 more.1, more.2))
    (Contains-append_cases (f y) (flat_map f xs) a h)

in_range : (n i : ℕ) → i < n → Contains (range_with_len 0 n) i
in_range n i lt = let e = get_or-range_with_len 0 n i i lt in (i, omega (arith, length-range_with_len 0 n), e ∙ (omega arith))

from_range : (n i : ℕ) → Contains (range_with_len 0 n) i → i < n
from_range n i h =
    let within : h.0 < n = (let lt = h.1 in omega (arith, length-range_with_len 0 n)) in
    let e = get_or-range_with_len 0 n h.0 i within in
    let is = h.2 in omega (arith, e, is)

-- ---- findings

in_found : (b : Bool) (rule : Rule) (place : Option ℕ) → b ≡ true → Contains (found_if b rule place) (record { rule = rule; «record» = place })
in_found true rule place e = (0, omega arith, refl)
in_found false rule place e = cc

from_found : (b : Bool) (rule : Rule) (place : Option ℕ) (f : Finding) → Contains (found_if b rule place) f → (b ≡ true) × (rule ≡ f.rule) × (place ≡ f.«record»)
from_found true rule place f h =
    ⊎_elim (λ e. (refl, ap (λ g. g.rule) e, ap (λ g. g.«record») e)) (λ t. absurd (in_nothing f t)) (in_cons (record { rule = rule; «record» = place }) [] f h.0 h.1 h.2)
from_found false rule place f h = absurd (in_nothing f h)

none_is : (place : ℕ) → None ≡ Some place → ⊥
none_is place e = cc

some_is : (i place : ℕ) → Some i ≡ Some place → i ≡ place
some_is i place e = cc

module _ {N O : Type 0} (origin : List (List ℕ)) (records : List (Record N O)) (refused : List RrsetName) where
  not_at_apex : (rule : Rule) (place : ℕ) → Contains (found_at_apex origin records refused) (record { rule = rule; «record» = Some place }) → ⊥
  not_at_apex rule place h =
      let told : Finding = record { rule = rule; «record» = Some place } in
      ⊎_elim
      (λ a. none_is place (from_found (not (is_present Rtype.soa origin records refused)) (coded_rule NoSoa 0) None told a).2)
      (λ a. none_is place (from_found (not (is_present Rtype.ns origin records refused)) (coded_rule NoNs 0) None told a).2)
      (Contains-append_cases (found_if (not (is_present Rtype.soa origin records refused)) (coded_rule NoSoa 0) None) (found_if (not (is_present Rtype.ns origin records refused)) (coded_rule NoNs 0) None) told h)

  told_is_broken : (rule : Rule) (place : ℕ) → Contains (found_in_zone origin records refused) (record { rule = rule; «record» = Some place })
      → Contains record_rules rule × (place < length records) × (breaks_at origin records refused place rule ≡ true)
  told_is_broken rule place h =
      let told : Finding = record { rule = rule; «record» = Some place } in
      ⊎_elim
      (λ a. absurd (not_at_apex rule place a))
      (λ a.
      let at = from_flat (found_at origin records refused) (range_with_len 0 (length records)) told a in
      let by = from_flat (found_of origin records refused at.0) record_rules told at.2 in
      let is = from_found (breaks_at origin records refused at.0 by.0) by.0 (Some at.0) told by.2 in
      let same = some_is at.0 place is.2 in (
        subst (Contains record_rules) is.1 by.1,
        subst (λ i. i < length records) same (from_range (length records) at.0 at.1),
        subst (λ i. breaks_at origin records refused i rule ≡ true) same (subst (λ r. breaks_at origin records refused at.0 r ≡ true) is.1 is.0),
      ))
      (Contains-append_cases (found_at_apex origin records refused) (flat_map (found_at origin records refused) (range_with_len 0 (length records))) told h)

  broken_is_told : (rule : Rule) (place : ℕ) → Contains record_rules rule × (place < length records) × (breaks_at origin records refused place rule ≡ true)
      → Contains (found_in_zone origin records refused) (record { rule = rule; «record» = Some place })
  broken_is_told rule place h =
      let told : Finding = record { rule = rule; «record» = Some place } in
      Contains-append_right (found_at_apex origin records refused) (flat_map (found_at origin records refused) (range_with_len 0 (length records))) told
      (in_flat (found_at origin records refused) (range_with_len 0 (length records)) place told (in_range (length records) place h.1)
      (in_flat (found_of origin records refused place) record_rules rule told h.0 (in_found (breaks_at origin records refused place rule) rule (Some place) h.2)))

  pub broken_rules_are_reported : ReportsBrokenRules origin records refused (found_in_zone origin records refused)
  broken_rules_are_reported rule place = (told_is_broken rule place, broken_is_told rule place)
