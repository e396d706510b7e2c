-- Names at and below an apex.
use Rattle.std.proofs.Common.{ℕ, ◌≡◌, true, false, ◌||◌, List, [], ◌∷◌, ◌++◌, sym, ap, subst, ◌∙◌}
use Rattle.dns_wire.specs.Wire.{EndsInRoot}
use Rattle.zone_contents.specs.Hashed.{is_apex, is_in_zone}

no_apex : (front : List (List ℕ)) → is_apex (front ++ [] ∷ []) [] ≡ true → ⊥
no_apex [] h = cc
no_apex (label ∷ front) h = cc

-- a name that is the apex is in the zone
pub apex_found : (apex name : List (List ℕ)) → EndsInRoot apex → is_apex apex name ≡ true → is_in_zone apex name ≡ true
apex_found apex [] root h = absurd (no_apex root.0 (subst (λ a. is_apex a [] ≡ true) root.1 h))
apex_found apex (label ∷ above) root h = ap (λ b. b || is_in_zone apex above) h

-- a name that is not the apex is in the zone if its parent is
pub apex_above : (apex : List (List ℕ)) (label : List ℕ) (above : List (List ℕ)) → is_apex apex (label ∷ above) ≡ false → is_in_zone apex (label ∷ above) ≡ is_in_zone apex above
apex_above apex label above h = ap (λ b. b || is_in_zone apex above) h

-- no name so far was the apex, and this one is not either
pub apex_next : (apex name above after : List (List ℕ)) (label : List ℕ) → is_in_zone apex above ≡ is_in_zone apex name → above ≡ label ∷ after → is_apex apex above ≡ false
    → is_in_zone apex after ≡ is_in_zone apex name
apex_next apex name above after label so_far e other = sym (apex_above apex label after (subst (λ l. is_apex apex l ≡ false) e other)) ∙ ap (is_in_zone apex) (sym e) ∙ so_far

-- the name has no parent left
pub apex_end : (apex name above : List (List ℕ)) → is_in_zone apex above ≡ is_in_zone apex name → above ≡ [] → false ≡ is_in_zone apex name
apex_end apex name above so_far none = ap (is_in_zone apex) (sym none) ∙ so_far
