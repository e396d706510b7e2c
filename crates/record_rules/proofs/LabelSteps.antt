-- Names label by label.
use Rattle.std.proofs.Common.{ℕ, zero, suc, ◌≡◌, ◌≤◌, ◌-◌, Bool, true, false, cond, Some, None, List, [], ◌∷◌, length, take, drop, refl, sym, subst, ap, ◌∙◌, arith, length-drop}
use Rattle.std.specs.Prelude.{◌&&◌, ◌||◌, not, codes}
use Rattle.std.specs.List.{list_any}
use Rattle.dns_octets.specs.Lowered.{same_lowered}
use Rattle.dns_wire.specs.Order.{same_name}
use Rattle.dns_wire.specs.Wire.{wire}
use Rattle.record_rules.specs.Labels.{beyond_labels, beyond_name, beyond_passing, beyond_string, ends_in_name, has_at_sign, has_slash_or_hyphen, is_asterisk, is_divided_below, labels_within, leading_string, name_labels, HasFirstLabel, IsRootBefore}
use Rattle.record_rules.specs.LoneRules.{in_addr_top, ip6_top, is_free_in_tree, is_nil_list, is_one_mail_label}

-- ---- more steps than octets change nothing

labels_same : (n m : ℕ) (octets : List ℕ) → length octets ≤ n → length octets ≤ m → labels_within n octets ≡ labels_within m octets
labels_same zero zero octets a b = refl
labels_same zero (suc m) [] a b = refl
labels_same zero (suc m) (count ∷ octets) a b = absurd (omega arith)
labels_same (suc n) zero [] a b = refl
labels_same (suc n) zero (count ∷ octets) a b = absurd (omega arith)
labels_same (suc n) (suc m) [] a b = refl
labels_same (suc n) (suc m) (zero ∷ octets) a b = refl
labels_same (suc n) (suc m) (suc count ∷ octets) a b =
    ap (λ l. take (suc count) octets ∷ l)
    (labels_same n m (drop (suc count) octets) (omega (arith, length-drop (suc count) octets)) (omega (arith, length-drop (suc count) octets)))

beyond_same : (n m : ℕ) (octets : List ℕ) → length octets ≤ n → length octets ≤ m → beyond_labels n octets ≡ beyond_labels m octets
beyond_same zero zero octets a b = refl
beyond_same zero (suc m) [] a b = refl
beyond_same zero (suc m) (count ∷ octets) a b = absurd (omega arith)
beyond_same (suc n) zero [] a b = refl
beyond_same (suc n) zero (count ∷ octets) a b = absurd (omega arith)
beyond_same (suc n) (suc m) [] a b = refl
beyond_same (suc n) (suc m) (zero ∷ octets) a b = refl
beyond_same (suc n) (suc m) (suc count ∷ octets) a b =
    beyond_same n m (drop (suc count) octets) (omega (arith, length-drop (suc count) octets)) (omega (arith, length-drop (suc count) octets))

-- ---- one label

pub no_octets : (name : List ℕ) → length name ≡ 0 → IsRootBefore name name
unfolding name_labels beyond_name
no_octets [] e = record { labels = refl; after = refl }
no_octets (count ∷ rest) e = absurd (omega (arith, e))

pub root_label : (name : List ℕ) (count : ℕ) (rest : List ℕ) → name ≡ count ∷ rest → count ≡ 0 → IsRootBefore name rest
unfolding name_labels beyond_name
root_label name count rest e zero_count =
    let is : name ≡ 0 ∷ rest = e ∙ ap (λ n. n ∷ rest) zero_count in record { labels = ap name_labels is; after = ap beyond_name is }

some_label : (count : ℕ) (rest : List ℕ) → HasFirstLabel (suc count ∷ rest) (take (suc count) rest) (drop (suc count) rest)
unfolding name_labels beyond_name
some_label count rest =
    let less : length (drop (suc count) rest) ≤ length rest = omega (arith, length-drop (suc count) rest) in record {
      labels = ap (λ l. take (suc count) rest ∷ l) (labels_same (length rest) (length (drop (suc count) rest)) (drop (suc count) rest) less (omega arith));
      after = beyond_same (length rest) (length (drop (suc count) rest)) (drop (suc count) rest) less (omega arith);
      fewer = omega (arith, length-drop (suc count) rest);
    }

pub first_parts : (name : List ℕ) (count : ℕ) (rest : List ℕ) → name ≡ count ∷ rest → (count ≡ 0 → ⊥) → HasFirstLabel name (leading_string name) (beyond_string name)
first_parts [] count rest e some = cc
first_parts (zero ∷ octets) count rest e some = absurd (some cc)
first_parts (suc n ∷ octets) count rest e some = some_label n octets

pub one_octet : (name : List ℕ) (count : ℕ) (rest : List ℕ) (octet : ℕ) (after : List ℕ) → name ≡ count ∷ rest → count ≡ 1 → rest ≡ octet ∷ after
    → HasFirstLabel name (octet ∷ []) after
one_octet name count rest octet after e one is =
    subst (λ n. HasFirstLabel n (octet ∷ []) after) (sym (e ∙ (λ i. one i ∷ is i))) (some_label 0 (octet ∷ after))

-- ---- definitions by labels, at a label and at the root

pub any_label_step : (p : List ℕ → Bool) (name label rest : List ℕ) → HasFirstLabel name label rest → list_any p (name_labels name) ≡ (p label || list_any p (name_labels rest))
any_label_step p name label rest h = ap (list_any p) h.labels

pub any_label_none : (p : List ℕ → Bool) (name : List ℕ) → name_labels name ≡ [] → list_any p (name_labels name) ≡ false
any_label_none p name e = ap (list_any p) e

pub nil_label : (name label rest : List ℕ) → HasFirstLabel name label rest → is_nil_list (name_labels name) ≡ false
nil_label name label rest h = ap is_nil_list h.labels

pub nil_none : (name : List ℕ) → name_labels name ≡ [] → is_nil_list (name_labels name) ≡ true
nil_none name e = ap is_nil_list e

pub parent_label : (name label rest : List ℕ) → HasFirstLabel name label rest → name_labels rest ≡ drop 1 (name_labels name)
parent_label name label rest h = sym (ap (drop 1) h.labels)

pub parent_none : (name : List ℕ) → name_labels name ≡ [] → name_labels name ≡ drop 1 (name_labels name)
parent_none name e = e ∙ sym (ap (drop 1) e)

passing_cons : (p : List ℕ → Bool) (n : ℕ) (label : List ℕ) (labels : List (List ℕ)) → (n ≡ 0 → ⊥)
    → beyond_passing p n (label ∷ labels) ≡ cond (p label) (beyond_passing p (n - 1) labels) None
passing_cons p zero label labels some = absurd (some refl)
passing_cons p (suc n) label labels some =
    let e : suc n - 1 ≡ n = omega arith in ap (λ k. cond (p label) (beyond_passing p k labels) None) (sym e)

passing_nil : (p : List ℕ → Bool) (n : ℕ) → (n ≡ 0 → ⊥) → beyond_passing p n [] ≡ None
passing_nil p zero some = absurd (some refl)
passing_nil p (suc n) some = refl

pub passing_label : (p : List ℕ → Bool) (n : ℕ) (name label rest : List ℕ) → HasFirstLabel name label rest → (n ≡ 0 → ⊥)
    → beyond_passing p n (name_labels name) ≡ cond (p label) (beyond_passing p (n - 1) (name_labels rest)) None
passing_label p n name label rest h some = ap (beyond_passing p n) h.labels ∙ passing_cons p n label (name_labels rest) some

pub passing_none : (p : List ℕ → Bool) (n : ℕ) (name : List ℕ) → name_labels name ≡ [] → (n ≡ 0 → ⊥) → beyond_passing p n (name_labels name) ≡ None
passing_none p n name e some = ap (beyond_passing p n) e ∙ passing_nil p n some

pub passing_all : (p : List ℕ → Bool) (n : ℕ) (labels : List (List ℕ)) → n ≡ 0 → beyond_passing p n labels ≡ Some labels
passing_all p n labels e = ap (λ k. beyond_passing p k labels) e

nil_same : (labels : List (List ℕ)) → same_name [] labels ≡ is_nil_list labels
nil_same [] = refl
nil_same (label ∷ labels) = refl

pub same_label : (left right label rest other others : List ℕ) → HasFirstLabel left label rest → HasFirstLabel right other others
    → same_name (name_labels left) (name_labels right) ≡ (same_lowered label other && same_name (name_labels rest) (name_labels others))
same_label left right label rest other others h k = λ i. same_name (h.labels i) (k.labels i)

pub same_none : (left right : List ℕ) → name_labels left ≡ [] → same_name (name_labels left) (name_labels right) ≡ is_nil_list (name_labels right)
same_none left right e = ap (λ l. same_name l (name_labels right)) e ∙ nil_same (name_labels right)

pub same_longer : (left right label rest : List ℕ) → HasFirstLabel left label rest → name_labels right ≡ [] → same_name (name_labels left) (name_labels right) ≡ false
same_longer left right label rest h e = λ i. same_name (h.labels i) (e i)

pub within_label : (name label rest : List ℕ) (top : List (List ℕ)) → HasFirstLabel name label rest
    → ends_in_name (name_labels name) top ≡ (same_name (name_labels name) top || ends_in_name (name_labels rest) top)
within_label name label rest top h =
    ap (λ l. ends_in_name l top) h.labels ∙ ap (λ l. same_name l top || ends_in_name (name_labels rest) top) (sym h.labels)

pub within_none : (name : List ℕ) (top : List (List ℕ)) → name_labels name ≡ [] → ends_in_name (name_labels name) top ≡ is_nil_list top
within_none name top e = ap (λ l. ends_in_name l top) e ∙ nil_same top

pub divided_label : (name label rest : List ℕ) (top : List (List ℕ)) → HasFirstLabel name label rest
    → is_divided_below (name_labels name) top ≡ (not (same_name (name_labels name) top) && (has_slash_or_hyphen label || is_divided_below (name_labels rest) top))
divided_label name label rest top h =
    ap (λ l. is_divided_below l top) h.labels ∙ ap (λ l. not (same_name l top) && (has_slash_or_hyphen label || is_divided_below (name_labels rest) top)) (sym h.labels)

pub divided_none : (name : List ℕ) (top : List (List ℕ)) → name_labels name ≡ [] → is_divided_below (name_labels name) top ≡ false
divided_none name top e = ap (λ l. is_divided_below l top) e

pub free_label : (top : List (List ℕ)) (name label rest : List ℕ) → HasFirstLabel name label rest
    → is_free_in_tree top (name_labels name) ≡ (is_asterisk label || is_divided_below (name_labels rest) top)
free_label top name label rest h = ap (is_free_in_tree top) h.labels

pub free_none : (top : List (List ℕ)) (name : List ℕ) → name_labels name ≡ [] → is_free_in_tree top (name_labels name) ≡ false
free_none top name e = ap (is_free_in_tree top) e

one_cons : (label : List ℕ) (labels : List (List ℕ)) → is_one_mail_label (label ∷ labels) ≡ (is_nil_list labels && (not (has_at_sign label) && not (same_lowered label (codes "invalid"))))
one_cons label [] = refl
one_cons label (next ∷ labels) = refl

pub one_label : (name label rest : List ℕ) → HasFirstLabel name label rest
    → is_one_mail_label (name_labels name) ≡ (is_nil_list (name_labels rest) && (not (has_at_sign label) && not (same_lowered label (codes "invalid"))))
one_label name label rest h = ap is_one_mail_label h.labels ∙ one_cons label (name_labels rest)

pub one_none : (name : List ℕ) → name_labels name ≡ [] → is_one_mail_label (name_labels name) ≡ false
one_none name e = ap is_one_mail_label e

-- ---- the tops of trees

pub in_addr_labels : name_labels (wire (codes "in-addr" ∷ codes "arpa" ∷ [] ∷ [])) ≡ in_addr_top
unfolding name_labels
in_addr_labels = refl

pub ip6_labels : name_labels (wire (codes "ip6" ∷ codes "arpa" ∷ [] ∷ [])) ≡ ip6_top
unfolding name_labels
ip6_labels = refl

pub arpa_labels : name_labels (wire (codes "arpa" ∷ [] ∷ [])) ≡ codes "arpa" ∷ []
unfolding name_labels
arpa_labels = refl
