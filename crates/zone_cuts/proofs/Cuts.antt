-- The closest delegation at or above a name.
use Rattle.std.proofs.Common.{ℕ, ◌≡◌, ◌<◌, Bool, true, false, cond, Option, Some, None, List, [], ◌∷◌, length, refl, sym, ap, ◌∙◌, arith}
use Rattle.std.specs.Prelude.{not}
use Rattle.std.specs.List.{find}
use Rattle.std.specs.Option.{option_map_or}
use Rattle.zone_record.specs.declared.record.Record.{Record}
use Rattle.zone_rules.specs.Above.{names_above, parent_of}
use Rattle.zone_rules.specs.Rules.{is_below_zone_cut, is_zone_cut}
use Rattle.zone_cuts.specs.Glue.{closest_cut, is_at_served_cut}

same_some : {X : Type 0} {x y : X} → Some x ≡ Some y → x ≡ y
same_some f = cc

pub parent_fewer : (name above : List (List ℕ)) → parent_of name ≡ Some above → length above < length name
parent_fewer [] above e = cc
parent_fewer (l ∷ []) above e = cc
parent_fewer (l ∷ n ∷ o) above e = let is : n ∷ o ≡ above = same_some e in omega (arith, ap length is)

module _ {N O : Type 0} (origin : List (List ℕ)) (records : List (Record N O)) where
  abbrev served : Option (List (List ℕ)) → Bool
  served cut = option_map_or (λ c. not (is_below_zone_cut origin records c)) cut false

  pub cut_here : (name : List (List ℕ)) → is_zone_cut origin records name ≡ true → not (is_below_zone_cut origin records name) ≡ is_at_served_cut origin records name
  cut_here name h = sym (ap (λ b. served (cond b (Some name) (find (is_zone_cut origin records) (names_above name)))) h)

  pub cut_above : (name above : List (List ℕ)) → parent_of name ≡ Some above → is_zone_cut origin records name ≡ false → is_at_served_cut origin records above ≡ is_at_served_cut origin records name
  cut_above [] above e h = cc
  cut_above (l ∷ []) above e h = cc
  cut_above (l ∷ n ∷ o) above e h =
      let is : n ∷ o ≡ above = same_some e in
      sym (ap (is_at_served_cut origin records) is)
      ∙ sym (ap (λ b. served (cond b (Some (l ∷ n ∷ o)) (find (is_zone_cut origin records) (names_above (l ∷ n ∷ o))))) h)

  pub cut_nowhere : (name : List (List ℕ)) → parent_of name ≡ None → is_zone_cut origin records name ≡ false → false ≡ is_at_served_cut origin records name
  cut_nowhere [] e h = sym (ap (λ b. served (cond b (Some []) None)) h)
  cut_nowhere (l ∷ []) e h = sym (ap (λ b. served (cond b (Some (l ∷ [])) None)) h)
  cut_nowhere (l ∷ n ∷ o) e h = cc
