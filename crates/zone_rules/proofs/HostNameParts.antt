-- Host names, label by label.
use Rattle.std.proofs.Common.{ℕ, ◌≡◌, Bool, true, false, Some, None, List, [], ◌∷◌, refl, ap, ◌∙◌}
use Rattle.std.specs.Prelude.{nat_eq, ◌&&◌, ◌||◌, codes}
use Rattle.std.specs.Cmp.Lexicographic.{pointwise}
use Rattle.std.specs.List.{list_all}
use Rattle.std.specs.Option.{option_map_or}
use Rattle.dns_octets.specs.Lowered.{same_lowered}
use Rattle.zone_rules.specs.Above.{first_label_of, parent_of}
use Rattle.zone_rules.specs.HostNames.{is_catalog_name, is_graphic, is_host_label, is_host_name, is_host_owner, is_mailbox_name}

and_true : (b : Bool) → (b && true) ≡ b
and_true true = refl
and_true false = refl

pub host_none : (name : List (List ℕ)) → parent_of name ≡ None → is_host_name name ≡ is_host_label (first_label_of name)
host_none [] e = refl
host_none (label ∷ []) e = and_true (is_host_label label)
host_none (label ∷ next ∷ others) e = cc

pub host_some : (name parent : List (List ℕ)) → parent_of name ≡ Some parent → is_host_name name ≡ (is_host_label (first_label_of name) && is_host_name parent)
host_some [] parent e = cc
host_some (label ∷ []) parent e = cc
host_some (label ∷ next ∷ others) parent e =
    let is : next ∷ others ≡ parent = cc in ap (λ p. is_host_label label && is_host_name p) is

pub owner_step : (name : List (List ℕ)) → is_host_owner name ≡ ((pointwise nat_eq (first_label_of name) (42 ∷ []) || is_host_label (first_label_of name)) && option_map_or is_host_name (parent_of name) true)
owner_step [] = refl
owner_step (label ∷ []) = refl
owner_step (label ∷ next ∷ others) = refl

pub mailbox_step : (name : List (List ℕ)) → is_mailbox_name name ≡ (list_all is_graphic (first_label_of name) && option_map_or is_host_name (parent_of name) true)
mailbox_step [] = refl
mailbox_step (label ∷ []) = refl
mailbox_step (label ∷ next ∷ others) = refl

pub catalog_none : (name : List (List ℕ)) → parent_of name ≡ None → is_catalog_name name ≡ false
catalog_none [] e = refl
catalog_none (a ∷ []) e = refl
catalog_none (a ∷ b ∷ labels) e = cc

pub catalog_short : (name parent : List (List ℕ)) → parent_of name ≡ Some parent → parent_of parent ≡ None → is_catalog_name name ≡ false
catalog_short [] parent e h = cc
catalog_short (a ∷ []) parent e h = cc
catalog_short (a ∷ b ∷ []) parent e h = refl
catalog_short (a ∷ b ∷ c ∷ labels) parent e h =
    let is : b ∷ c ∷ labels ≡ parent = cc in let next = ap parent_of is ∙ h in cc

pub catalog_is : (name parent domain : List (List ℕ)) → parent_of name ≡ Some parent → parent_of parent ≡ Some domain
    → is_catalog_name name ≡ (same_lowered (first_label_of name) (codes "gc") && (same_lowered (first_label_of parent) (codes "_msdcs") && is_host_name domain))
catalog_is [] parent domain e h = cc
catalog_is (a ∷ []) parent domain e h = cc
catalog_is (a ∷ b ∷ []) parent domain e h =
    let is : b ∷ [] ≡ parent = cc in let next = ap parent_of is ∙ h in cc
catalog_is (a ∷ b ∷ c ∷ labels) parent domain e h =
    let is : b ∷ c ∷ labels ≡ parent = cc in
    let next : Some (c ∷ labels) ≡ Some domain = ap parent_of is ∙ h in
    let same : c ∷ labels ≡ domain = cc in
    λ i. same_lowered a (codes "gc") && (same_lowered (first_label_of (is i)) (codes "_msdcs") && is_host_name (same i))
