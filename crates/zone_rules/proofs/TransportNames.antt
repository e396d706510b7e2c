-- The name after the label of a transport.
use Rattle.std.proofs.Common.{ℕ, ◌≡◌, true, false, Some, None, List, [], ◌∷◌, refl, ap, ◌∙◌}
use Rattle.std.specs.Prelude.{if◌then◌else◌}
use Rattle.zone_rules.specs.Above.{first_label_of, parent_of}
use Rattle.zone_rules.specs.Rules.{is_transport, name_after_transport}

pub after_none : (name : List (List ℕ)) → parent_of name ≡ None → name_after_transport name ≡ None
after_none [] e = refl
after_none (label ∷ []) e = refl
after_none (label ∷ next ∷ others) e = cc

pub after_here : (name above : List (List ℕ)) → parent_of name ≡ Some above → is_transport (first_label_of name) ≡ true → name_after_transport name ≡ Some above
after_here [] above e h = cc
after_here (label ∷ []) above e h = cc
after_here (label ∷ next ∷ others) above e h = ap (λ b. if b then Some (next ∷ others) else name_after_transport (next ∷ others)) h ∙ e

pub after_there : (name above : List (List ℕ)) → parent_of name ≡ Some above → is_transport (first_label_of name) ≡ false → name_after_transport name ≡ name_after_transport above
after_there [] above e h = cc
after_there (label ∷ []) above e h = cc
after_there (label ∷ next ∷ others) above e h =
    let is : next ∷ others ≡ above = cc in
    ap (λ b. if b then Some (next ∷ others) else name_after_transport (next ∷ others)) h ∙ ap name_after_transport is
