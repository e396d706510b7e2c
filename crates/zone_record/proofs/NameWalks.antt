-- Names walked label by label.
use Rattle.std.proofs.Common.{ℕ, ◌≡◌, ◌+◌, ◌<◌, ◌≤◌, List, [], ◌∷◌, ◌++◌, length, drop, refl, sym, ap, ◌∙◌, arith, length-append, length-drop}
use Rattle.std.proofs.lemmas.List.{drop_more}
use Rattle.std.specs.Ordering.{ordering_then}
use Rattle.std.specs.declared.cmp.Ordering.{Ordering}
use Rattle.dns_octets.specs.Lowered.{lowered_order}
use Rattle.dns_wire.specs.Labelled.{label_same, wire_same}
use Rattle.dns_wire.specs.Wire.{wire, wire_label}
use Rattle.dns_wire.proofs.Wires.{count_le, length_wire}
use Rattle.rdata_tokens.specs.NameSpelling.{IsWireName}
use Rattle.zone_record.specs.Names.{name_order}
use Rattle.zone_record.specs.Walks.{BeginsWithLabel, HasLabels, AreLevel, IsLevelOrder}
use Rattle.zone_record.proofs.NameOrders.{then_assoc, order_more}

-- the label that octets of labels begin with is the first of them
pub first_label : (labels : List (List ℕ)) (label rest : List ℕ) → wire labels ≡ wire_label label ++ rest → (more : List (List ℕ)) × (labels ≡ label ∷ more) × (rest ≡ wire more)
first_label [] label rest h = absurd (omega (arith, ap length h))
first_label (l ∷ ls) label rest h = let same = label_same l label (wire ls) rest h in (ls, ap (λ x. x ∷ ls) same.0, sym same.1)

-- after the first of labels there are labels
pub rest_labels : (octets label rest : List ℕ) → HasLabels 0 octets → octets ≡ wire_label label ++ rest → HasLabels 0 rest
rest_labels octets label rest h e = let first = first_label h.0 label rest (sym h.1 ∙ e) in (first.0, first.2, omega arith)

begins : (labels : List (List ℕ)) (rest : List ℕ) → rest ≡ wire labels → 0 < length labels → BeginsWithLabel rest
begins [] rest h some = absurd (omega arith)
begins (l ∷ ls) rest h some = (l, wire ls, h)

some_labels : (labels : List (List ℕ)) (rest : List ℕ) → rest ≡ wire labels → 0 < length rest → 0 < length labels
some_labels [] rest h some = absurd (omega (arith, ap length h))
some_labels (l ∷ ls) rest h some = omega arith

no_labels : (labels : List (List ℕ)) (rest : List ℕ) → rest ≡ wire labels → length rest ≡ 0 → length labels ≡ 0
no_labels [] rest h none = refl
no_labels (l ∷ ls) rest h none = absurd (omega (arith, ap length h, length-append l (wire ls)))

-- the octets after the first `count` labels
pub record Walked (octets rest : List ℕ) (count : ℕ) : Type 0 where
  pub labels : List (List ℕ)
  pub whole : octets ≡ wire labels
  pub left : rest ≡ wire (drop count labels)
  pub within : count ≤ length labels

pub walked_none : (octets : List ℕ) (count : ℕ) → HasLabels count octets → Walked octets octets 0
walked_none octets count h = record { labels = h.0; whole = h.1; left = h.1; within = omega arith }

pub walked_more : (octets rest : List ℕ) (count : ℕ) (label after : List ℕ) → Walked octets rest count → rest ≡ wire_label label ++ after → Walked octets after (count + 1)
walked_more octets rest count label after w h =
    let first = first_label (drop count w.labels) label after (sym w.left ∙ h) in
    let lt : count < length w.labels = omega (arith, ap length first.1, length-drop count w.labels) in
    let more = drop_more w.labels count [] lt in
    let same : first.0 ≡ drop (count + 1) w.labels = (let p = first.1 in cc) in
    record { labels = w.labels; whole = w.whole; left = first.2 ∙ ap wire same; within = omega arith }

pub walked_begins : (octets rest : List ℕ) (count : ℕ) → Walked octets rest count → 0 < length rest → BeginsWithLabel rest
walked_begins octets rest count w some = begins (drop count w.labels) rest w.left (some_labels (drop count w.labels) rest w.left some)

-- there are fewer labels than octets
pub walked_few : (octets rest : List ℕ) (count : ℕ) → Walked octets rest count → 0 < length rest → count + 1 ≤ length octets
walked_few octets rest count w some =
    omega (arith, some_labels (drop count w.labels) rest w.left some, length-drop count w.labels, count_le w.labels, length_wire w.labels, ap length w.whole)

pub walked_within : (octets rest : List ℕ) (place count : ℕ) → Walked octets rest place → HasLabels count octets → place < count → BeginsWithLabel rest
walked_within octets rest place count w h lt =
    begins (drop place w.labels) rest w.left (omega (arith, lt, h.2, ap length (wire_same h.0 w.labels (sym h.1 ∙ w.whole)), length-drop place w.labels))

-- at the end all labels are walked
pub walked_all : (octets rest : List ℕ) (count : ℕ) → Walked octets rest count → length rest ≡ 0 → (labels : List (List ℕ)) → octets ≡ wire labels → count ≡ length labels
walked_all octets rest count w none labels h =
    omega (arith, no_labels (drop count w.labels) rest w.left none, length-drop count w.labels, w.within, ap length (wire_same labels w.labels (sym h ∙ w.whole)))

pub walked_behind : (octets rest : List ℕ) (count : ℕ) → Walked octets rest count → (labels : List (List ℕ)) → octets ≡ wire labels → rest ≡ wire (drop count labels)
walked_behind octets rest count w labels h = w.left ∙ ap (λ l. wire (drop count l)) (wire_same w.labels labels (sym w.whole ∙ h))

-- names with the same number of labels, of which the last are left, with the order of those before
pub record LevelWalk (left right : List ℕ) (otherwise : Ordering) (left_rest right_rest : List ℕ) (order : Ordering) : Type 0 where
  pub a : List (List ℕ)
  pub b : List (List ℕ)
  pub left_is : left_rest ≡ wire a
  pub right_is : right_rest ≡ wire b
  pub level : length a ≡ length b
  pub same : (c d : List (List ℕ)) → left ≡ wire c → right ≡ wire d → ordering_then (name_order a b) order ≡ ordering_then (name_order c d) otherwise

pub level_none : (left right : List ℕ) (otherwise : Ordering) → AreLevel left right → LevelWalk left right otherwise left right otherwise
level_none left right otherwise h = record {
  a = h.0;
  b = h.1;
  left_is = h.2;
  right_is = h.3;
  level = h.4;
  same = λ c d p q. let e = wire_same h.0 c (sym h.2 ∙ p) in let f = wire_same h.1 d (sym h.3 ∙ q) in λ i. ordering_then (name_order (e i) (f i)) otherwise;
}

pub level_left : (left right : List ℕ) (otherwise : Ordering) (left_rest right_rest : List ℕ) (order : Ordering) → LevelWalk left right otherwise left_rest right_rest order
    → 0 < length left_rest → BeginsWithLabel left_rest
level_left left right otherwise left_rest right_rest order w some = begins w.a left_rest w.left_is (some_labels w.a left_rest w.left_is some)

pub level_right : (left right : List ℕ) (otherwise : Ordering) (left_rest right_rest : List ℕ) (order : Ordering) → LevelWalk left right otherwise left_rest right_rest order
    → 0 < length left_rest → BeginsWithLabel right_rest
level_right left right otherwise left_rest right_rest order w some =
    begins w.b right_rest w.right_is (omega (arith, some_labels w.a left_rest w.left_is some, w.level))

pub level_more : (left right : List ℕ) (otherwise : Ordering) (left_rest right_rest : List ℕ) (order : Ordering) (x after y behind : List ℕ) → LevelWalk left right otherwise left_rest right_rest order
    → left_rest ≡ wire_label x ++ after → right_rest ≡ wire_label y ++ behind → LevelWalk left right otherwise after behind (ordering_then (lowered_order x y) order)
level_more left right otherwise left_rest right_rest order x after y behind w p q =
    let first = first_label w.a x after (sym w.left_is ∙ p) in
    let second = first_label w.b y behind (sym w.right_is ∙ q) in
    let level : length first.0 ≡ length second.0 = omega (arith, w.level, ap length first.1, ap length second.1) in record {
      a = first.0;
      b = second.0;
      left_is = first.2;
      right_is = second.2;
      level = level;
      same = λ c d g h. sym (then_assoc (name_order first.0 second.0) (lowered_order x y) order)
          ∙ ap (λ o. ordering_then o order) (sym (order_more x y first.0 second.0 level))
          ∙ (λ i. ordering_then (name_order (sym first.1 i) (sym second.1 i)) order) ∙ w.same c d g h;
    }

pub level_end : (left right : List ℕ) (otherwise : Ordering) (left_rest right_rest : List ℕ) (order : Ordering) → LevelWalk left right otherwise left_rest right_rest order
    → length left_rest ≡ 0 → IsLevelOrder left right otherwise order
level_end left right otherwise left_rest right_rest order w none c d p q =
    by w.a w.b (no_labels w.a left_rest w.left_is none) w.level (w.same c d p q)
  where
    by : (a b : List (List ℕ)) → length a ≡ 0 → length a ≡ length b → ordering_then (name_order a b) order ≡ ordering_then (name_order c d) otherwise → order ≡ ordering_then (name_order c d) otherwise
    by [] [] h k same = same
    by [] (y ∷ b) h k same = absurd (omega arith)
    by (x ∷ a) b h k same = absurd (omega arith)

pub wire_name_labels : (octets : List ℕ) → IsWireName octets → HasLabels 0 octets
wire_name_labels octets name = (name.labels, name.whole, omega arith)
