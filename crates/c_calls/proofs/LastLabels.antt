-- A name whose last labels are compared with those of another.
use Rattle.std.proofs.Common.{ℕ, suc, ◌≡◌, ◌-◌, ◌<◌, ◌≤◌, Bool, true, false, List, ◌∷◌, length, take, drop, sym, ap, subst, ◌∙◌, arith, length-append, ⊎_elim}
use Rattle.std.specs.Prelude.{All, map, is_some, Option, Some, None}
use Rattle.std.specs.Cmp.Lexicographic.{pointwise_decides, bytes_decides}
use Rattle.std.proofs.lemmas.Bool.{cases_lt, false_from_ne_true}
use Rattle.std.proofs.lemmas.List.{length-map, length-take-le, take-append-drop}
use Rattle.std.proofs.lemmas.List.Elements.{All-drop, All-tail}
use Rattle.dns_octets.specs.Lowered.{lowered, same_lowered}
use Rattle.dns_wire.specs.Label.{label_octets}
use Rattle.dns_wire.specs.LabelCalls.{YieldsFirstLabel}
use Rattle.dns_wire.specs.Order.{lowered_wire, same_name}
use Rattle.dns_wire.specs.Wire.{IsName, wire}
use Rattle.dns_wire.specs.declared.label.Label.{Label}
use Rattle.dns_wire.proofs.Comparing.{lowered_wire_is, same_octets}
use Rattle.dns_wire.proofs.Wires.{IsShort, count_le, length_wire, wire_append}
use Rattle.zone_record.proofs.LoweredNames.{length_lowered}
use Rattle.c_calls.specs.NameForms.{ends_with_name}

abbrev pub AreShort : List (List ℕ) → Type 0
AreShort = All IsShort

lowered_long : (labels : List (List ℕ)) → AreShort labels → length (wire labels) ≡ length (lowered_wire labels)
lowered_long labels short = sym (length_lowered (wire labels)) ∙ ap length (lowered_wire_is labels short)

same_lowers : (a b : List (List ℕ)) → same_name a b ≡ true → map lowered a ≡ map lowered b
same_lowers a b = (pointwise_decides bytes_decides (map lowered a) (map lowered b)).0

same_long : (a b : List (List ℕ)) → AreShort a → AreShort b → same_name a b ≡ true → length (wire a) ≡ length (wire b)
same_long a b p q h = lowered_long a p ∙ ap (λ l. length (wire l)) (same_lowers a b h) ∙ sym (lowered_long b q)

same_count : (a b : List (List ℕ)) → same_name a b ≡ true → length a ≡ length b
same_count a b h = sym (length-map a lowered) ∙ ap length (same_lowers a b h) ∙ length-map b lowered

other_count : (a b : List (List ℕ)) → (length a ≡ length b → ⊥) → same_name a b ≡ false
other_count a b differ = false_from_ne_true (same_name a b) (λ h. differ (same_count a b h))

other_long : (a b : List (List ℕ)) → AreShort a → AreShort b → (length (wire a) ≡ length (wire b) → ⊥) → same_name a b ≡ false
other_long a b p q differ = false_from_ne_true (same_name a b) (λ h. differ (same_long a b p q h))

dropped : (n m : ℕ) (name zone : List (List ℕ)) → n ≡ m → same_name (drop n name) zone ≡ same_name (drop m name) zone
dropped n m name zone = ap (λ k. same_name (drop k name) zone)

-- a label of a name with more octets than the zone is passed
pub label_passed : (l : List ℕ) (ls zone : List (List ℕ)) → AreShort (l ∷ ls) → AreShort zone → length (wire zone) < length (wire (l ∷ ls)) → ends_with_name (l ∷ ls) zone ≡ ends_with_name ls zone
label_passed l ls zone p q more =
    ⊎_elim
    (λ (fewer : length ls < length zone).
    dropped (length (l ∷ ls) - length zone) 0 (l ∷ ls) zone (omega (arith, fewer)) ∙ other_long (l ∷ ls) zone p q (λ same. absurd (omega (arith, same, more)))
    ∙ sym (dropped (length ls - length zone) 0 ls zone (omega (arith, fewer)) ∙ other_count ls zone (λ same. absurd (omega (arith, same, fewer)))))
    (λ (most : length zone ≤ length ls). dropped (length (l ∷ ls) - length zone) (suc (length ls - length zone)) (l ∷ ls) zone (omega (arith, most)))
    (cases_lt (length ls) (length zone))

some_dropped : (k : ℕ) (labels : List (List ℕ)) → 0 < k → k ≤ length labels → length (wire (drop k labels)) < length (wire labels)
some_dropped k labels some within =
    let all = ap (λ l. length (wire l)) (sym (take-append-drop k labels)) ∙ ap length (wire_append (take k labels) (drop k labels)) ∙ length-append (wire (take k labels)) (wire (drop k labels)) in
    omega (arith, all, count_le (take k labels), length_wire (take k labels), length-take-le k labels within, some)

-- a name with as many octets as the zone, or fewer, is compared
pub labels_compared : (rest zone : List (List ℕ)) → AreShort rest → AreShort zone → length (wire rest) ≤ length (wire zone) → same_name rest zone ≡ ends_with_name rest zone
labels_compared rest zone p q few =
    ⊎_elim
    (λ (more : length zone < length rest).
    let k : ℕ = length rest - length zone in
    other_count rest zone (λ same. absurd (omega (arith, same, more)))
    ∙ sym (other_long (drop k rest) zone (All-drop IsShort k rest p) q (λ same. absurd (omega (arith, same, few, some_dropped k rest (omega (arith, more)) (omega (arith, more)))))))
    (λ (most : length rest ≤ length zone). sym (dropped (length rest - length zone) 0 rest zone (omega (arith, most))))
    (cases_lt (length zone) (length rest))

-- labels that are left of a name, and end with a zone as the name does
pub record LeavesLast (name zone rest : List (List ℕ)) : Type 0 where
  pub short : AreShort rest
  pub same : ends_with_name name zone ≡ ends_with_name rest zone

pub all_left : (name zone rest : List (List ℕ)) → IsName name → rest ≡ name → LeavesLast name zone rest
all_left name zone rest is same = record { short = subst AreShort (sym same) is.short; same = ap (λ l. ends_with_name l zone) (sym same) }

-- one label is passed of a name that has more octets left than the zone
pub one_left : (name zone rest after : List (List ℕ)) (found : Option Label) (octets last : List ℕ) → IsName zone → LeavesLast name zone rest → YieldsFirstLabel rest found after → is_some found ≡ true → octets ≡ wire rest → last ≡ wire zone
    → length last < length octets → LeavesLast name zone after
one_left name zone rest after None octets last is left next some is_rest is_zone more = cc
one_left name zone rest after (Some label) octets last is left next some is_rest is_zone more =
    let l = label_octets label in
    let short = subst AreShort next left.short in record {
      short = All-tail IsShort l after short;
      same = left.same ∙ ap (λ k. ends_with_name k zone) next ∙ label_passed l after zone short is.short (omega (arith, more, ap length is_rest, ap length is_zone, ap (λ k. length (wire k)) next));
    }

pub ends_compared : (name zone rest : List (List ℕ)) (octets last : List ℕ) (result : Bool) → IsName zone → LeavesLast name zone rest → octets ≡ wire rest → last ≡ wire zone → length octets ≤ length last → result ≡ same_lowered octets last
    → result ≡ ends_with_name name zone
ends_compared name zone rest octets last result is left is_rest is_zone few test =
    same_octets rest zone octets last result left.short is.short is_rest is_zone test ∙ labels_compared rest zone left.short is.short (omega (arith, few, ap length is_rest, ap length is_zone)) ∙ sym left.same
