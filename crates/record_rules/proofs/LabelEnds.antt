-- The last two labels of a name.
use Rattle.std.proofs.Common.{ℕ, zero, suc, ◌≡◌, Bool, true, false, cond, Option, Some, None, List, [], ◌∷◌, drop, refl, sym, ap, ◌∙◌}
use Rattle.std.proofs.Math.Bool.{and-false, or-false}
use Rattle.std.specs.Cmp.{first_so}
use Rattle.std.specs.Cmp.Lexicographic.{pointwise, bytes_decides}
use Rattle.std.specs.Option.{option_map_or}
use Rattle.std.specs.Prelude.{◌&&◌, ◌||◌, not, nat_eq, codes}
use Rattle.dns_octets.specs.Lowered.{lowered, same_lowered}
use Rattle.dns_wire.specs.Order.{same_name}
use Rattle.record_rules.specs.Labels.{beyond_passing, ends_in_name, is_nibble_label, last_two, name_labels, HasFirstLabel, IsEndBelow}
use Rattle.record_rules.specs.LoneRules.{in_addr_top, ip6_top, is_address_name, is_bad_reverse}

-- ---- a name, by those that begin at its second and at its third label

just_left : (labels : List (List ℕ)) → drop 1 (drop 1 labels) ≡ [] → last_two labels ≡ labels
just_left [] e = refl
just_left (a ∷ []) e = refl
just_left (a ∷ b ∷ []) e = refl
just_left (a ∷ b ∷ c ∷ labels) e = cc

two_left : (labels : List (List ℕ)) (c : List ℕ) (rest : List (List ℕ)) → drop 1 (drop 1 labels) ≡ c ∷ rest → last_two (drop 1 labels) ≡ last_two labels
two_left [] c rest e = cc
two_left (a ∷ []) c rest e = cc
two_left (a ∷ b ∷ []) c rest e = cc
two_left (a ∷ b ∷ d ∷ labels) c rest e = refl

pub just_two : (last next rest : List ℕ) → name_labels next ≡ drop 1 (name_labels last) → name_labels rest ≡ drop 1 (name_labels next) → name_labels rest ≡ []
    → last_two (name_labels last) ≡ name_labels last
just_two last next rest n r e = just_left (name_labels last) (sym (r ∙ ap (drop 1) n) ∙ e)

pub next_two : (last next rest label after : List ℕ) → name_labels next ≡ drop 1 (name_labels last) → name_labels rest ≡ drop 1 (name_labels next)
    → HasFirstLabel rest label after → last_two (name_labels next) ≡ last_two (name_labels last)
next_two last next rest label after n r h =
    ap last_two n ∙ two_left (name_labels last) label (name_labels after) (sym (r ∙ ap (drop 1) n) ∙ h.labels)

-- ---- a name ends in two labels if they are its last two

one_differs : (a x y : List ℕ) → same_name (a ∷ []) (x ∷ y ∷ []) ≡ false
one_differs a x y = and-false (same_lowered a x)

three_differ : (a b c x y : List ℕ) (labels : List (List ℕ)) → same_name (a ∷ b ∷ c ∷ labels) (x ∷ y ∷ []) ≡ false
three_differ a b c x y labels = ap (λ s. same_lowered a x && s) (and-false (same_lowered b y)) ∙ and-false (same_lowered a x)

pub ends_in_two : (labels : List (List ℕ)) (x y : List ℕ) → ends_in_name labels (x ∷ y ∷ []) ≡ same_name (last_two labels) (x ∷ y ∷ [])
ends_in_two [] x y = refl
ends_in_two (a ∷ []) x y = or-false (same_name (a ∷ []) (x ∷ y ∷ []))
ends_in_two (a ∷ b ∷ []) x y =
    let same = same_name (a ∷ b ∷ []) (x ∷ y ∷ []) in
    ap (λ s. same || s) (or-false (same_name (b ∷ []) (x ∷ y ∷ [])) ∙ one_differs b x y) ∙ or-false same
ends_in_two (a ∷ b ∷ c ∷ labels) x y =
    ap (λ s. s || ends_in_name (b ∷ c ∷ labels) (x ∷ y ∷ [])) (three_differ a b c x y labels) ∙ ends_in_two (b ∷ c ∷ labels) x y

-- the end of a name below a top of two labels
pub end_of_two : (top end labels : List (List ℕ)) (x y : List ℕ) → top ≡ x ∷ y ∷ [] → end ≡ last_two (drop 1 labels) → IsEndBelow top end labels
end_of_two top end labels x y is e =
    ap (ends_in_name (drop 1 labels)) is ∙ ends_in_two (drop 1 labels) x y ∙ (λ i. same_name (sym e i) (sym is i))

-- ---- the name of an IPv6 address is not in the tree of IPv4 addresses

passed : (b : Bool) (x : Option (List (List ℕ))) (y : List (List ℕ)) → cond b x None ≡ Some y → x ≡ Some y
passed true x y e = e
passed false x y e = cc

one_more : (label : List ℕ) (labels : List (List ℕ)) (a b : List ℕ) → last_two labels ≡ a ∷ b ∷ [] → last_two (label ∷ labels) ≡ a ∷ b ∷ []
one_more label [] a b e = cc
one_more label (x ∷ []) a b e = cc
one_more label (x ∷ y ∷ labels) a b e = e

end_after : (p : List ℕ → Bool) (n : ℕ) (labels : List (List ℕ)) (a b : List ℕ) → beyond_passing p n labels ≡ Some (a ∷ b ∷ []) → last_two labels ≡ a ∷ b ∷ []
end_after p zero labels a b e = let is : labels ≡ a ∷ b ∷ [] = cc in ap last_two is
end_after p (suc n) [] a b e = cc
end_after p (suc n) (label ∷ labels) a b e = one_more label labels a b (end_after p n labels a b (passed (p label) (beyond_passing p n labels) _ e))

end_after_first : (p : List ℕ → Bool) (n : ℕ) (labels : List (List ℕ)) (a b : List ℕ) → beyond_passing p (suc n) labels ≡ Some (a ∷ b ∷ [])
    → last_two (drop 1 labels) ≡ a ∷ b ∷ []
end_after_first p n [] a b e = cc
end_after_first p n (label ∷ labels) a b e = end_after p n labels a b (passed (p label) (beyond_passing p n labels) _ e)

other_top : (a b : List ℕ) → same_name (a ∷ b ∷ []) ip6_top ≡ true → same_name (a ∷ b ∷ []) in_addr_top ≡ false
other_top a b e =
    let is : lowered a ≡ lowered (codes "ip6") = (bytes_decides (lowered a) (lowered (codes "ip6"))).0 (first_so (same_lowered a (codes "ip6")) _ e) in
    ap (λ l. pointwise nat_eq l (lowered (codes "in-addr")) && same_name (b ∷ []) (codes "arpa" ∷ [])) is

no_other_top : (p : List ℕ → Bool) (n : ℕ) (labels rest : List (List ℕ)) → beyond_passing p (suc n) labels ≡ Some rest → same_name rest ip6_top ≡ true
    → same_name (last_two (drop 1 labels)) in_addr_top ≡ false
no_other_top p n labels [] e same = cc
no_other_top p n labels (a ∷ []) e same = let differs = one_differs a (codes "ip6") (codes "arpa") in cc
no_other_top p n labels (a ∷ b ∷ []) e same = ap (λ l. same_name l in_addr_top) (end_after_first p n labels a b e) ∙ other_top a b same
no_other_top p n labels (a ∷ b ∷ c ∷ rest) e same = let differs = three_differ a b c (codes "ip6") (codes "arpa") rest in cc

no_other_tree : (p : List ℕ → Bool) (n : ℕ) (labels : List (List ℕ)) (o : Option (List (List ℕ))) → beyond_passing p (suc n) labels ≡ o
    → option_map_or (λ rest. same_name rest ip6_top) o false ≡ true → same_name (last_two (drop 1 labels)) in_addr_top ≡ false
no_other_tree p n labels None e same = cc
no_other_tree p n labels (Some rest) e same = no_other_top p n labels rest e same

not_bad : (a b d e f : Bool) → a ≡ false → e ≡ true → ((a && b) || (d && (not e && f))) ≡ false
not_bad a b d e f outside address = (λ i. (outside i && b) || (d && (not (address i) && f))) ∙ and-false d

pub address_is_not_bad : (labels : List (List ℕ)) → is_address_name is_nibble_label 32 ip6_top labels ≡ true → is_bad_reverse labels ≡ false
address_is_not_bad labels e =
    let elsewhere = no_other_tree is_nibble_label 31 labels (beyond_passing is_nibble_label 32 labels) refl e in
    not_bad (ends_in_name (drop 1 labels) in_addr_top) _ _ _ _ (ends_in_two (drop 1 labels) (codes "in-addr") (codes "arpa") ∙ elsewhere) e
