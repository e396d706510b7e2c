-- Names compared by their octets.
use Rattle.std.proofs.Common.{◌≡◌, ℕ, ◌<◌, ◌≤◌, Bool, true, false, List, [], ◌∷◌, ◌++◌, length, map, All, refl, sym, ap, ◌∙◌, arith}
use Rattle.std.specs.Char.{to_ascii_lowercase}
use Rattle.std.specs.Cmp.Lexicographic.{pointwise_decides, bytes_decides}
use Rattle.std.proofs.lemmas.List.{map-append}
use Rattle.std.proofs.lemmas.List.Elements.{All-head, All-tail}
use Rattle.std.proofs.lemmas.Str.Ascii.{lowercase_is}
use Rattle.dns_wire.specs.Wire.{wire, wire_label}
use Rattle.dns_wire.specs.Labelled.{wire_same}
use Rattle.dns_octets.specs.Lowered.{lowered, same_lowered}
use Rattle.dns_wire.specs.Order.{lowered_wire, same_name}
use Rattle.dns_wire.proofs.Wires.{IsShort}

length-lowered : (label : List ℕ) → length (lowered label) ≡ length label
length-lowered [] = refl
length-lowered (o ∷ os) = omega (arith, length-lowered os)

-- the length octet of a label isn't a letter, so lowering doesn't change it
lowered_label_is : (label : List ℕ) → length label ≤ 63 → lowered (wire_label label) ≡ wire_label (lowered label)
lowered_label_is label h =
    let low : length label < 65 = omega arith in
    ap (λ n. n ∷ lowered label) ((lowercase_is (length label)).1 low ∙ sym (length-lowered label))

pub lowered_wire_is : (labels : List (List ℕ)) → All IsShort labels → lowered (wire labels) ≡ lowered_wire labels
lowered_wire_is [] h = refl
lowered_wire_is (l ∷ ls) h =
    map-append to_ascii_lowercase (wire_label l) (wire ls)
    ∙ (λ i. lowered_label_is l (All-head IsShort l ls h) i ++ lowered_wire_is ls (All-tail IsShort l ls h) i)

-- two tests that imply each other are equal
same_test : (b c : Bool) → (b ≡ true → c ≡ true) → (c ≡ true → b ≡ true) → b ≡ c
same_test true true f g = refl
same_test true false f g = sym (f refl)
same_test false true f g = g refl
same_test false false f g = refl

-- octets that agree but for the case of letters are those of labels that do
pub same_octets : (a b : List (List ℕ)) (x y : List ℕ) (r : Bool) → All IsShort a → All IsShort b → x ≡ wire a → y ≡ wire b
    → r ≡ same_lowered x y → r ≡ same_name a b
same_octets a b x y r p q is js test =
    same_test r (same_name a b)
    (λ h. (pointwise_decides bytes_decides (map lowered a) (map lowered b)).1
    (wire_same (map lowered a) (map lowered b) (sym (left p) ∙ (bytes_decides (lowered x) (lowered y)).0 (sym test ∙ h) ∙ right q)))
    (λ h. test ∙ (bytes_decides (lowered x) (lowered y)).1 (left p ∙ ap wire ((pointwise_decides bytes_decides (map lowered a) (map lowered b)).0 h) ∙ sym (right q)))
  where
    left : All IsShort a → lowered x ≡ lowered_wire a
    left p = ap lowered is ∙ lowered_wire_is a p

    right : All IsShort b → lowered y ≡ lowered_wire b
    right q = ap lowered js ∙ lowered_wire_is b q
