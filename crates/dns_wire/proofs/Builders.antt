-- A name in a builder, and its octets.
use Rattle.std.proofs.Common.{◌≡◌, ℕ, ◌+◌, ◌≤◌, ◌<◌, List, [], ◌∷◌, ◌++◌, length, sym, ap, ◌∙◌, arith, append-nil, Result, refl, ◌-◌, append_assoc, length-append}
use Rattle.std.proofs.lemmas.Grind.{common_steps}
use Rattle.std.specs.Prelude.{All, slice_set}
use Rattle.std.proofs.Math.Seq.{set-append_seam}
use Rattle.dns_octets.specs.Room.{Room}
use Rattle.dns_wire.specs.Wire.{wire, wire_label, wire_length, IsPlain, IsName, HasNoRoot, EndsInRoot}
use Rattle.dns_wire.proofs.Wires.{IsName-plain, IsName-absolute, wire_append, length_wire, wire_length_append}
use Rattle.std.proofs.lemmas.List.{get_or_append_left}
use Rattle.std.proofs.lemmas.List.Elements.{All-push}
use Rattle.dns_wire.specs.Building.{closed, needed_for_octet, grown, Naming, AnswersGrowth, all_labels, with_octet, with_label}
use Rattle.dns_wire.specs.declared.error.PushError.{PushError}
use Rattle.dns_wire.specs.Opened.{Opened, opened_same}

pub opened_is : (octets : List ℕ) (count : ℕ) (p : Opened octets count) (labels : List (List ℕ)) (current : List ℕ)
    → octets ≡ wire (labels ++ closed current) → length current ≡ count → p.0 ≡ (labels, current)
opened_is octets count p labels current is n = opened_same octets count p ((labels, current), (is, n))

-- the labels and the open one, by their names
abbrev pub as_naming : List (List ℕ) × List ℕ → Naming
as_naming s = record { labels = s.0; current = s.1 }

abbrev pub IsBuilt : List (List ℕ) × List ℕ → Type 0
IsBuilt s = All IsPlain (s.0 ++ closed s.1) × (wire_length (s.0 ++ closed s.1) ≤ 254)

pub built_none : IsBuilt ([], [])
built_none = ((λ k d h. absurd (omega arith)), omega arith)

pub built_closed : (labels : List (List ℕ)) (current : List ℕ) → IsBuilt (labels, current) → IsBuilt (labels ++ closed current, [])
built_closed labels current h = rw (append-nil (labels ++ closed current)) h

pub wire_closed : (octets : List ℕ) (labels : List (List ℕ)) (current : List ℕ) → octets ≡ wire (labels ++ closed current)
    → octets ≡ wire ((labels ++ closed current) ++ closed [])
wire_closed octets labels current h = rw (append-nil (labels ++ closed current)) h

pub built_name : (labels : List (List ℕ)) → All IsPlain labels × (wire_length labels ≤ 254)
    → IsName labels × HasNoRoot labels × (wire_length labels ≤ 254)
built_name labels h = (IsName-plain labels h.0 (omega (arith, h.1)), (λ k d lt. (h.0 k d lt).0), h.1)

-- the octets with the open label made longer by one are those of the longer label
pub lengthened : (octets : List ℕ) (labels : List (List ℕ)) (current : List ℕ) (octet : ℕ) → octets ≡ wire (labels ++ current ∷ [])
    → slice_set (octets ++ octet ∷ []) (length octets - length current - 1) (length current + 1) ≡ wire (labels ++ (current ++ octet ∷ []) ∷ [])
lengthened octets labels current octet is =
    let e : octets ≡ wire labels ++ (length current ∷ current) =
    is ∙ wire_append labels (current ∷ []) ∙ ap (λ x. wire labels ++ (length current ∷ x)) (append-nil current) in
    let n : length octets - length current - 1 ≡ length (wire labels) =
    omega (arith, ap length e, length-append (wire labels) (length current ∷ current)) in
    let f : wire (labels ++ (current ++ octet ∷ []) ∷ []) ≡ wire labels ++ (length (current ++ octet ∷ []) ∷ (current ++ octet ∷ [])) =
    wire_append labels ((current ++ octet ∷ []) ∷ []) ∙ ap (λ x. wire labels ++ (length (current ++ octet ∷ []) ∷ x)) (append-nil (current ++ octet ∷ [])) in
    let m : length (current ++ octet ∷ []) ≡ length current + 1 = grind (arith, common_steps) in
    rw (n, f, m, e) (ap (λ x. slice_set x (length (wire labels)) (length current + 1)) (append_assoc (wire labels) (length current ∷ current) (octet ∷ []))
    ∙ set-append_seam (wire labels) (length current) (current ++ octet ∷ []) (length current + 1))

-- the open label with one more octet, closed
closed_more : (current : List ℕ) (octet : ℕ) → closed (current ++ octet ∷ []) ≡ (current ++ octet ∷ []) ∷ []
closed_more [] octet = refl
closed_more (c ∷ current) octet = refl

pub length_more : (current : List ℕ) (octet : ℕ) → length (current ++ octet ∷ []) ≡ length current + 1
length_more current octet = grind (arith, common_steps)

pub more_length : (octets : List ℕ) (labels : List (List ℕ)) (current : List ℕ) (octet : ℕ) → octets ≡ wire (labels ++ closed current)
    → wire_length (labels ++ closed (current ++ octet ∷ [])) ≡ length octets + needed_for_octet (length current)
more_length octets labels [] octet is =
    omega (arith, ap length is, length_wire (labels ++ []), ap wire_length (append-nil labels), wire_length_append labels ((octet ∷ []) ∷ []))
more_length octets labels (c ∷ current) octet is =
    omega (
      arith,
      ap length is,
      length_wire (labels ++ (c ∷ current) ∷ []),
      wire_length_append labels ((c ∷ current) ∷ []),
      wire_length_append labels ((c ∷ current ++ octet ∷ []) ∷ []),
      length_more current octet,
    )

pub grown_is : (octets : List ℕ) (labels : List (List ℕ)) (current : List ℕ) (octet count : ℕ) → octets ≡ wire (labels ++ closed current)
    → length current ≡ count → grown octets count octet ≡ wire (labels ++ closed (current ++ octet ∷ []))
grown_is octets labels [] octet count is n =
    rw (← n) (ap (λ x. x ++ 1 ∷ octet ∷ []) (is ∙ ap wire (append-nil labels)) ∙ sym (wire_append labels ((octet ∷ []) ∷ [])))
grown_is octets labels (c ∷ current) octet count is n = rw (← n) (lengthened octets labels (c ∷ current) octet is)

pub built_more : (labels : List (List ℕ)) (current : List ℕ) (octet : ℕ) → IsBuilt (labels, current)
    → wire_length (labels ++ closed (current ++ octet ∷ [])) ≤ 254 → length current + 1 ≤ 63 → IsBuilt (labels, current ++ octet ∷ [])
built_more labels current octet h fits short =
    let plain : All IsPlain labels = λ k d lt. rw (← get_or_append_left labels (closed current) d k lt) (h.0 k d (omega (arith, length-append labels (closed current)))) in
    let n = length_more current octet in
    (rw closed_more (All-push IsPlain labels (current ++ octet ∷ []) plain (omega arith, omega arith)), fits)

pub growth_of : (b : Naming) (octets : List ℕ) (count octet : ℕ) (room : Room) (r : Result (Unit {0}) PushError)
    → octets ≡ wire (all_labels b) → length b.current ≡ count
    → AnswersGrowth (length octets + needed_for_octet count) (count + 1) room r
    → AnswersGrowth (wire_length (all_labels (with_octet b octet))) (length b.current + 1) room r
growth_of b octets count octet room r is n h = rw (more_length octets b.labels b.current octet is, n) h

-- a whole label after the others
pub whole_length : (octets : List ℕ) (labels : List (List ℕ)) (label : List ℕ) → octets ≡ wire labels
    → wire_length (labels ++ label ∷ []) ≡ length octets + (length label + 1)
whole_length octets labels label is =
    omega (arith, ap length is, length_wire labels, wire_length_append labels (label ∷ []))

pub whole_of : (b : Naming) (octets label : List ℕ) (room : Room) (r : Result (Unit {0}) PushError) → octets ≡ wire (all_labels b)
    → AnswersGrowth (length octets + (length label + 1)) (length label) room r
    → AnswersGrowth (wire_length (all_labels (with_label b label))) (length label) room r
whole_of b octets label room r is h =
    rw (append-nil (all_labels b ++ label ∷ []), whole_length octets (all_labels b) label is) h

pub wire_whole : (octets : List ℕ) (labels : List (List ℕ)) (label : List ℕ) → octets ≡ wire labels
    → octets ++ wire_label label ≡ wire ((labels ++ label ∷ []) ++ [])
wire_whole octets labels label is =
    ap (λ x. x ++ wire_label label) is ∙ ap (λ x. wire labels ++ (length label ∷ x)) (sym (append-nil label))
    ∙ sym (wire_append labels (label ∷ [])) ∙ ap wire (sym (append-nil (labels ++ label ∷ [])))

pub built_whole : (labels : List (List ℕ)) (label : List ℕ) → All IsPlain labels → 0 < length label → length label ≤ 63
    → wire_length ((labels ++ label ∷ []) ++ []) ≤ 254 → IsBuilt (labels ++ label ∷ [], [])
built_whole labels label plain some short fits =
    (rw (append-nil (labels ++ label ∷ [])) (All-push IsPlain labels label plain (some, short)), fits)

-- the root after the labels
pub wire_rooted : (octets : List ℕ) (labels : List (List ℕ)) → octets ≡ wire labels → octets ++ 0 ∷ [] ≡ wire (labels ++ [] ∷ [])
wire_rooted octets labels is = ap (λ x. x ++ 0 ∷ []) is ∙ sym (wire_append labels ([] ∷ []))

pub rooted_built : (labels : List (List ℕ)) → All IsPlain labels × (wire_length labels ≤ 254) → IsName (labels ++ [] ∷ []) × EndsInRoot (labels ++ [] ∷ [])
rooted_built labels h = (IsName-absolute labels h.0 h.1, (labels, refl))

pub rooted_plain : (labels : List (List ℕ)) → IsName labels × HasNoRoot labels × (wire_length labels ≤ 254)
    → IsName (labels ++ [] ∷ []) × EndsInRoot (labels ++ [] ∷ [])
rooted_plain labels h = rooted_built labels ((λ k d lt. (h.1 k d lt, h.0.short k d lt)), h.2)
