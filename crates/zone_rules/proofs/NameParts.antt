-- Names, their octets and their ancestors.
use Rattle.std.proofs.Common.{ℕ, ◌≡◌, ◌+◌, ◌-◌, ◌<◌, ◌≤◌, Bool, true, false, cond, List, [], ◌∷◌, ◌++◌, length, take, drop, get_or, refl, sym, ap, ◌∙◌, arith, length-append, length-drop, Some, None}
use Rattle.std.specs.Prelude.{◌||◌}
use Rattle.std.specs.List.{find, list_any}
use Rattle.std.specs.Option.{option_map_or}
use Rattle.std.proofs.Math.Seq.{take-append_seam}
use Rattle.std.proofs.lemmas.List.{take_all, drop_at}
use Rattle.std.proofs.lemmas.List.Elements.{All-append, All-cons, All-drop, All-nil, All-tail}
use Rattle.dns_wire.specs.Labelled.{wire_same}
use Rattle.dns_wire.specs.Wire.{wire, wire_label, wire_length, IsName, EndsInRoot}
use Rattle.dns_wire.proofs.Wires.{is_nil}
use Rattle.rdata_tokens.specs.Spelling.{AreOctetValues}
use Rattle.rdata_tokens.specs.NameSpelling.{IsWireName}
use Rattle.rdata_tokens.proofs.LabelParts.{wire_length_cons}
use Rattle.zone_rules.specs.Above.{first_label_of, parent_of, names_above}
use Rattle.zone_rules.specs.Zones.{but_root}

-- ---- the parent of a name

-- the root has no parent, and names no host
pub root_left_out : (labels : List (List ℕ)) → parent_of labels ≡ None → but_root labels ≡ None
root_left_out [] e = refl
root_left_out (label ∷ []) e = refl
root_left_out (label ∷ next ∷ others) e = cc

pub other_kept : (labels above : List (List ℕ)) → parent_of labels ≡ Some above → but_root labels ≡ Some labels
other_kept [] above e = cc
other_kept (label ∷ []) above e = cc
other_kept (label ∷ next ∷ others) above e = refl

pub tail_name : (label : List ℕ) (labels : List (List ℕ)) → IsName (label ∷ labels) → IsName labels
tail_name label labels n = record {
  short = All-tail (λ l. length l ≤ 63) label labels n.short;
  root_last = λ front back e. n.root_last (label ∷ front) back (ap (λ ls. label ∷ ls) e);
  fits = omega (arith, n.fits, wire_length_cons label labels);
}

tail_absolute : (label next : List ℕ) (labels front : List (List ℕ)) → label ∷ next ∷ labels ≡ front ++ [] ∷ [] → EndsInRoot (next ∷ labels)
tail_absolute label next labels [] e = absurd (let l = ap length e in omega arith)
tail_absolute label next labels (x ∷ front) e = (front, cc)

-- a name has a parent, whose octets are these
pub record HasParent (labels : List (List ℕ)) (rest : List ℕ) : Type 0 where
  pub above : List (List ℕ)
  pub is : parent_of labels ≡ Some above
  pub whole : rest ≡ wire above
  pub name : IsWireName rest

-- the other labels come after the first one
behind_label : (label after octets : List ℕ) → octets ≡ wire_label label ++ after → (get_or octets 0 0 ≡ length label) × (drop (1 + get_or octets 0 0) octets ≡ after)
behind_label label after octets e =
    let count : get_or octets 0 0 ≡ length label = ap (λ o. get_or o 0 0) e in
    let long : length (wire_label label) ≡ 1 + get_or octets 0 0 = omega (arith, count) in
    (count, ap (drop (1 + get_or octets 0 0)) e ∙ drop_at (wire_label label) after (1 + get_or octets 0 0) long)

wire_more : (label : List ℕ) (labels : List (List ℕ)) → wire (label ∷ labels) ≡ wire_label label ++ wire labels
wire_more label labels = refl

-- the last label of a name is the root
only_root : (label front : List ℕ) (fronts : List (List ℕ)) → label ∷ [] ≡ front ∷ (fronts ++ [] ∷ []) → ⊥
only_root label front fronts e = let l = ap length e in omega (arith, length-append fronts ([] ∷ []))

pub one_label : (label : List ℕ) (fronts : List (List ℕ)) → label ∷ [] ≡ fronts ++ [] ∷ [] → label ≡ []
one_label label [] e = cc
one_label label (front ∷ fronts) e = absurd (only_root label front fronts e)

pub parent_cut : (labels : List (List ℕ)) (octets : List ℕ) → IsName labels → EndsInRoot labels → AreOctetValues octets → octets ≡ wire labels → (get_or octets 0 0 ≡ 0 → ⊥)
    → HasParent labels (drop (1 + get_or octets 0 0) octets)
parent_cut [] octets n a v whole some = absurd (let l = ap length a.1 in omega (arith, length-append a.0 ([] ∷ [])))
parent_cut (label ∷ []) octets n a v whole some =
    let first = (behind_label label [] octets (whole ∙ wire_more label [])).0 in
    absurd (some (first ∙ ap length (one_label label a.0 a.1)))
parent_cut (label ∷ next ∷ others) octets n a v whole some =
    let cut = behind_label label (wire (next ∷ others)) octets (whole ∙ wire_more label (next ∷ others)) in record {
      above = next ∷ others;
      is = refl;
      whole = cut.1;
      name = record {
        labels = next ∷ others;
        is_name = tail_name label (next ∷ others) n;
        absolute = tail_absolute label next others a.0 a.1;
        values = All-drop (λ o. o < 256) (1 + get_or octets 0 0) octets v;
        whole = cut.1;
      };
    }

-- the root has no parent
pub no_parent : (labels : List (List ℕ)) (octets : List ℕ) → IsName labels → octets ≡ wire labels → get_or octets 0 0 ≡ 0 → parent_of labels ≡ None
no_parent [] octets n whole none = refl
no_parent (label ∷ []) octets n whole none = refl
no_parent (label ∷ next ∷ others) octets n whole none =
    let first = (behind_label label (wire (next ∷ others)) octets (whole ∙ wire_more label (next ∷ others))).0 in
    let empty : label ≡ [] = is_nil label (omega (arith, first, none)) in
    absurd (let last = ap length (n.root_last [] (next ∷ others) (ap (λ l. l ∷ next ∷ others) empty)) in omega arith)

-- the slice after the first label
pub parent_slice : (octets : List ℕ) (count : ℕ) → drop (1 + count) octets ≡ take (length octets - (1 + count)) (drop (1 + count) octets)
parent_slice octets count =
    sym (take_all (length octets - (1 + count)) (drop (1 + count) octets) (omega (arith, length-drop (1 + count) octets)))

pub parent_same : (labels rest : List (List ℕ)) (octets : List ℕ) → HasParent labels octets → octets ≡ wire rest → Some rest ≡ parent_of labels
parent_same labels rest octets h e = ap (λ l. Some l) (wire_same rest h.above (sym e ∙ h.whole)) ∙ sym h.is

-- ---- walks up to the root

pub above_none : (f : List (List ℕ) → Bool) (name : List (List ℕ)) → parent_of name ≡ None → list_any f (names_above name) ≡ false
above_none f [] e = refl
above_none f (label ∷ []) e = refl
above_none f (label ∷ next ∷ others) e = cc

pub above_some : (f : List (List ℕ) → Bool) (name parent : List (List ℕ)) → parent_of name ≡ Some parent → list_any f (names_above name) ≡ (f parent || list_any f (names_above parent))
above_some f [] parent e = cc
above_some f (label ∷ []) parent e = cc
above_some f (label ∷ next ∷ others) parent e =
    let is : next ∷ others ≡ parent = cc in ap (λ p. f p || list_any f (names_above p)) is

pub above_fewer : (name parent : List (List ℕ)) → parent_of name ≡ Some parent → length parent < length name
above_fewer [] parent e = cc
above_fewer (label ∷ []) parent e = cc
above_fewer (label ∷ next ∷ others) parent e =
    let is : next ∷ others ≡ parent = cc in omega (arith, ap length is)

-- the closest ancestor that passes a test
module _ (f g : List (List ℕ) → Bool) where
  pub closest_none : (name : List (List ℕ)) → parent_of name ≡ None → option_map_or f (find g (names_above name)) false ≡ false
  closest_none [] e = refl
  closest_none (label ∷ []) e = refl
  closest_none (label ∷ next ∷ others) e = cc

  pub closest_is : (name parent : List (List ℕ)) → parent_of name ≡ Some parent → g parent ≡ true → option_map_or f (find g (names_above name)) false ≡ f parent
  closest_is [] parent e h = cc
  closest_is (label ∷ []) parent e h = cc
  closest_is (label ∷ next ∷ others) parent e h =
      let is : next ∷ others ≡ parent = cc in
      ap (λ b. option_map_or f (cond b (Some (next ∷ others)) (find g (names_above (next ∷ others)))) false) (ap g is ∙ h) ∙ ap f is

  pub closest_above : (name parent : List (List ℕ)) → parent_of name ≡ Some parent → g parent ≡ false → option_map_or f (find g (names_above name)) false ≡ option_map_or f (find g (names_above parent)) false
  closest_above [] parent e h = cc
  closest_above (label ∷ []) parent e h = cc
  closest_above (label ∷ next ∷ others) parent e h =
      let is : next ∷ others ≡ parent = cc in
      ap (λ b. option_map_or f (cond b (Some (next ∷ others)) (find g (names_above (next ∷ others)))) false) (ap g is ∙ h) ∙ ap (λ p. option_map_or f (find g (names_above p)) false) is

-- ---- first labels

pub ends_some : (labels : List (List ℕ)) → EndsInRoot labels → 0 < length labels
ends_some labels a = omega (arith, ap length a.1, length-append a.0 ([] ∷ []))

pub first_slice : (labels : List (List ℕ)) (octets : List ℕ) → EndsInRoot labels → octets ≡ wire labels → take (get_or octets 0 0) (drop 1 octets) ≡ first_label_of labels
first_slice [] octets a whole = absurd (let l = ap length a.1 in omega (arith, length-append a.0 ([] ∷ [])))
first_slice (label ∷ labels) octets a whole =
    let cut = behind_label label (wire labels) octets whole in
    (λ i. take (cut.0 i) (drop 1 (whole i))) ∙ take-append_seam label (wire labels)

-- ---- wildcards

-- the parent of a name is short enough for one more label of one octet
pub parent_short : (name parent : List (List ℕ)) → parent_of name ≡ Some parent → IsName name → wire_length parent ≤ 253
parent_short [] parent e n = cc
parent_short (label ∷ []) parent e n = cc
parent_short (label ∷ next ∷ others) parent e n =
    let is : next ∷ others ≡ parent = cc in
    omega (arith, some label n, n.fits, wire_length_cons label (next ∷ others), ap wire_length is)
  where
    some : (label : List ℕ) → IsName (label ∷ next ∷ others) → 0 < length label
    some [] n = absurd (let last = ap length (n.root_last [] (next ∷ others) refl) in omega arith)
    some (o ∷ os) n = omega arith

label_last : (label : List ℕ) (labels front back : List (List ℕ)) → 0 < length label → IsName labels → label ∷ labels ≡ front ++ [] ∷ back → back ≡ []
label_last label labels [] back some n e = absurd (omega (arith, some, ap (λ l. length (first_label_of l)) e))
label_last label labels (x ∷ front) back some n e = n.root_last front back cc

-- a label before a name makes a name
pub longer_is : (label : List ℕ) (labels : List (List ℕ)) → 0 < length label → length label ≤ 63 → IsName labels → wire_length labels + 1 + length label ≤ 255 → IsName (label ∷ labels)
longer_is label labels some few n short = record {
  short = All-cons (λ l. length l ≤ 63) label labels few n.short;
  root_last = λ front back e. label_last label labels front back some n e;
  fits = omega (arith, short, wire_length_cons label labels);
}

pub longer_name : (label : List ℕ) (labels : List (List ℕ)) → 0 < length label → length label ≤ 63 → AreOctetValues label → IsName labels → EndsInRoot labels → IsWireName (wire labels)
    → wire_length labels + 1 + length label ≤ 255 → IsWireName (wire (label ∷ labels))
longer_name label labels some few values n a w short = record {
  labels = label ∷ labels;
  is_name = longer_is label labels some few n short;
  absolute = (label ∷ a.0, ap (λ l. label ∷ l) a.1);
  values = All-cons (λ o. o < 256) (length label) (label ++ wire labels) (omega (arith, few)) (All-append (λ o. o < 256) label (wire labels) values w.values);
  whole = refl;
}

-- an asterisk before a name makes a name
pub wildcard_name : (labels : List (List ℕ)) → IsName labels → EndsInRoot labels → IsWireName (wire labels) → wire_length labels ≤ 253 → IsWireName (1 ∷ 42 ∷ wire labels)
wildcard_name labels n a w short =
    longer_name (42 ∷ []) labels (omega arith) (omega arith) (All-cons (λ o. o < 256) 42 [] (omega arith) (All-nil (λ o. o < 256))) n a w (omega (arith, short))
