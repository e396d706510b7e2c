-- Names without an octet of an asterisk have no label that is one.
use Rattle.std.proofs.Common.{ℕ, zero, suc, ◌≡◌, Bool, true, false, List, [], ◌∷◌, length, take, drop, refl, ap}
use Rattle.std.specs.Prelude.{◌==◌, ◌&&◌, ◌||◌}
use Rattle.std.specs.List.{list_any}
use Rattle.record_rules.specs.Labels.{is_asterisk, labels_within, name_labels}
use Rattle.record_rules.specs.LoneRules.{has_inner_asterisk}

abbrev has_star : List ℕ → Bool
has_star octets = list_any (λ o. o == 42) octets

first_not : (a b : Bool) → (a || b) ≡ false → a ≡ false
first_not true b e = e
first_not false b e = refl

second_not : (a b : Bool) → (a || b) ≡ false → b ≡ false
second_not true b e = cc
second_not false b e = e

neither : (a b : Bool) → a ≡ false → b ≡ false → (a || b) ≡ false
neither a b e f = λ i. e i || f i

none_in_take : (n : ℕ) (octets : List ℕ) → has_star octets ≡ false → has_star (take n octets) ≡ false
none_in_take zero octets e = refl
none_in_take (suc n) [] e = refl
none_in_take (suc n) (o ∷ octets) e = neither (o == 42) (has_star (take n octets)) (first_not _ _ e) (none_in_take n octets (second_not (o == 42) _ e))

none_in_drop : (n : ℕ) (octets : List ℕ) → has_star octets ≡ false → has_star (drop n octets) ≡ false
none_in_drop zero octets e = e
none_in_drop (suc n) [] e = refl
none_in_drop (suc n) (o ∷ octets) e = none_in_drop n octets (second_not (o == 42) _ e)

plain_label : (label : List ℕ) → has_star label ≡ false → is_asterisk label ≡ false
plain_label [] e = refl
plain_label (o ∷ []) e = ap (λ b. b && true) (first_not (o == 42) false e)
plain_label (o ∷ next ∷ label) e = ap (λ b. b && false) (first_not (o == 42) _ e)

plain_labels : (n : ℕ) (octets : List ℕ) → has_star octets ≡ false → list_any is_asterisk (labels_within n octets) ≡ false
plain_labels zero octets e = refl
plain_labels (suc n) [] e = refl
plain_labels (suc n) (zero ∷ octets) e = refl
plain_labels (suc n) (suc count ∷ octets) e =
    let rest : has_star octets ≡ false = second_not (suc count == 42) _ e in
    neither (is_asterisk (take (suc count) octets)) (list_any is_asterisk (labels_within n (drop (suc count) octets)))
    (plain_label (take (suc count) octets) (none_in_take (suc count) octets rest))
    (plain_labels n (drop (suc count) octets) (none_in_drop (suc count) octets rest))

none_after : (p : List ℕ → Bool) (labels : List (List ℕ)) → list_any p labels ≡ false → list_any p (drop 1 labels) ≡ false
none_after p [] e = refl
none_after p (label ∷ labels) e = second_not (p label) _ e

pub no_asterisk : (name : List ℕ) → list_any (λ o. o == 42) name ≡ false → has_inner_asterisk (name_labels name) ≡ false
unfolding name_labels
no_asterisk name e = none_after is_asterisk (name_labels name) (plain_labels (length name) name e)
