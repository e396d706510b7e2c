-- Findings about octets, one after another.
use Rattle.std.proofs.Common.{◌≡◌, ℕ, ◌+◌, ◌<◌, ◌≤◌, ◌&&◌, ◌||◌, not, Bool, true, false, cond, List, [], ◌∷◌, ◌++◌, Option, map, length, drop, get_or, option_to_list, if◌then◌else◌, refl, sym, ap, ◌∙◌, append_assoc, drop_of_length-le}
use Rattle.std.proofs.lemmas.List.{drop_more}
use Rattle.std.specs.List.{filter}
use Rattle.zone_check.specs.declared.lint.Remark.{Remark}
use Rattle.zone_check.specs.declared.finding.EntryFinding.{EntryFinding}
use Rattle.zone_check.specs.declared.octet_findings.ReportedOctets.{ReportedOctets}
use Rattle.zone_check.specs.OctetFindings.{finding_if, is_control_octet, is_control_z, is_reported, octet_finding, octet_findings, other_remarks, reports, until_control_z}

-- those of remarks after Ctrl-Z, or before it
abbrev pub selected : (after_control_z : Bool) → List Remark → List Remark
selected true remarks = other_remarks remarks
selected false remarks = until_control_z remarks

later : (k : Bool) (r : Remark) (rest : List Remark) → map octet_finding (cond (not k) (r ∷ other_remarks rest) (other_remarks rest)) ≡ option_to_list (finding_if (not k) r) ++ map octet_finding (other_remarks rest)
later true r rest = refl
later false r rest = refl

first : (z : Bool) (r : Remark) (rest : List Remark) → map octet_finding (if z then r ∷ other_remarks rest else r ∷ until_control_z rest) ≡ octet_finding r ∷ map octet_finding (selected z rest)
first true r rest = refl
first false r rest = refl

step : (a p : Bool) (r : Remark) (rest : List Remark)
    → map octet_finding (selected a (cond p (r ∷ rest) rest))
    ≡ option_to_list (finding_if (p && not (a && is_control_octet r.code)) r) ++ map octet_finding (selected (a || ((p && not (a && is_control_octet r.code)) && is_control_z r.code)) rest)
step true true r rest = later (is_control_octet r.code) r rest
step true false r rest = refl
step false true r rest = first (is_control_z r.code) r rest
step false false r rest = refl

module _ (o : ReportedOctets) (remarks : List Remark) where
  -- the findings from the remark with an index on
  abbrev pub rest_octets : (after_control_z : Bool) → ℕ → List EntryFinding
  rest_octets a i = map octet_finding (selected a (filter (λ r. reports o r.code) (drop i remarks)))

  pub from_first : rest_octets false 0 ≡ octet_findings o remarks
  from_first = refl

  pub none_left : (a : Bool) (i : ℕ) → length remarks ≤ i → rest_octets a i ≡ []
  none_left true i end = ap (λ l. map octet_finding (selected true (filter (λ r. reports o r.code) l))) (drop_of_length-le remarks end)
  none_left false i end = ap (λ l. map octet_finding (selected false (filter (λ r. reports o r.code) l))) (drop_of_length-le remarks end)

  pub next_remark : (i : ℕ) (d : Remark) → i < length remarks → (a a2 is_it : Bool) (f : Option EntryFinding) (found new all : List EntryFinding)
      → is_it ≡ is_reported o a (get_or remarks i d).code → f ≡ finding_if is_it (get_or remarks i d) → new ≡ found ++ option_to_list f → a2 ≡ (a || (is_it && is_control_z (get_or remarks i d).code))
      → found ++ rest_octets a i ≡ all → new ++ rest_octets a2 (i + 1) ≡ all
  next_remark i d lt a a2 is_it f found new all it is pushed reached before =
      let r : Remark = get_or remarks i d in
      let passes : Bool = is_reported o a r.code in
      let rest : Bool → List EntryFinding = λ b. rest_octets b (i + 1) in
      let told : Bool = a || (passes && is_control_z r.code) in
      let here : rest_octets a i ≡ option_to_list (finding_if passes r) ++ rest told
      = ap (λ l. map octet_finding (selected a (filter (λ x. reports o x.code) l))) (drop_more remarks i d lt) ∙ step a (reports o r.code) r (filter (λ x. reports o x.code) (drop (i + 1) remarks)) in
      ap (λ l. l ++ rest a2) pushed
      ∙ ap (λ b. (found ++ option_to_list f) ++ rest b) (reached ∙ ap (λ b. a || (b && is_control_z r.code)) it)
      ∙ ap (λ x. (found ++ option_to_list x) ++ rest told) (is ∙ ap (λ b. finding_if b r) it)
      ∙ append_assoc found (option_to_list (finding_if passes r)) (rest told) ∙ ap (λ l. found ++ l) (sym here) ∙ before
