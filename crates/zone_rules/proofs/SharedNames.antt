-- The names that two names are at or below.
use Rattle.std.proofs.Common.{ℕ, ◌≡◌, ◌+◌, ◌-◌, ◌<◌, ◌≤◌, Bool, true, false, cond, Option, Some, None, List, [], ◌∷◌, ◌++◌, length, map, take, drop, refl, sym, ap, subst, ◌∙◌, arith, length-append, length-drop, All}
use Rattle.std.specs.Prelude.{◌||◌}
use Rattle.std.specs.Char.{to_ascii_lowercase}
use Rattle.std.specs.Cmp.Lexicographic.{pointwise_decides, bytes_decides}
use Rattle.std.specs.List.{find}
use Rattle.std.specs.Option.{is_some, option_map}
use Rattle.std.proofs.lemmas.List.{length-map, take_all, drop_at}
use Rattle.std.proofs.lemmas.List.Elements.{All-drop, All-tail}
use Rattle.dns_octets.specs.Lowered.{lowered}
use Rattle.rdata_tokens.specs.Spelling.{AreOctetValues}
use Rattle.rdata_tokens.specs.NameSpelling.{IsWireName}
use Rattle.rdata_tokens.proofs.LabelParts.{wire_length_cons}
use Rattle.dns_wire.specs.Order.{same_name}
use Rattle.dns_wire.specs.LabelCalls.{YieldsFirstLabel}
use Rattle.dns_wire.specs.Wire.{wire, wire_length, IsName, EndsInRoot}
use Rattle.dns_wire.specs.declared.label.Label.{Label}
use Rattle.dns_wire.proofs.Wires.{length_wire, wire_append, wire_length_append}
use Rattle.zone_rules.specs.Above.{is_below, is_within, names_above}
use Rattle.zone_rules.proofs.NameParts.{ends_some, one_label, tail_name}

-- ---- equal names have equal lengths

wire_lowered : (a : List (List ℕ)) → wire_length (map lowered a) ≡ wire_length a
wire_lowered [] = refl
wire_lowered (l ∷ ls) = omega (arith, wire_length_cons (lowered l) (map lowered ls), wire_length_cons l ls, length-map l to_ascii_lowercase, wire_lowered ls)

same_long : (a b : List (List ℕ)) → same_name a b ≡ true → wire_length a ≡ wire_length b
same_long a b h = sym (wire_lowered a) ∙ ap wire_length ((pointwise_decides bytes_decides (map lowered a) (map lowered b)).0 h) ∙ wire_lowered b

pub not_same : (a b : List (List ℕ)) → (wire_length a ≡ wire_length b → ⊥) → same_name a b ≡ false
not_same a b h = by (same_name a b) refl
  where
    by : (t : Bool) → same_name a b ≡ t → t ≡ false
    by true e = absurd (h (same_long a b e))
    by false e = refl

-- ---- at or below, label by label

within_none : (top : List (List ℕ)) → 0 < length top → is_within [] top ≡ false
within_none [] h = absurd (omega (arith, h))
within_none (t ∷ ts) h = refl

pub within_cons : (label : List ℕ) (labels top : List (List ℕ)) → 0 < length top → is_within (label ∷ labels) top ≡ (same_name (label ∷ labels) top || is_within labels top)
within_cons label [] top h = ap (λ b. same_name (label ∷ []) top || b) (sym (within_none top h))
within_cons label (next ∷ others) top h = refl

pub within_here : (a top : List (List ℕ)) → same_name a top ≡ true → is_within a top ≡ true
within_here a top h = ap (λ b. b || is_below a top) h

pub within_long : (a top : List (List ℕ)) → wire_length a < wire_length top → 0 < length top → is_within a top ≡ false
within_long [] top lt some = within_none top some
within_long (l ∷ ls) top lt some =
    within_cons l ls top some
    ∙ (λ i. not_same (l ∷ ls) top (λ e. omega (arith, lt, e)) i || within_long ls top (omega (arith, lt, wire_length_cons l ls)) some i)

off_above : (a top : List (List ℕ)) → same_name a top ≡ false → wire_length a ≤ wire_length top → 0 < length top → is_within a top ≡ false
off_above [] top off le some = within_none top some
off_above (l ∷ ls) top off le some = within_cons l ls top some ∙ (λ i. off i || within_long ls top (omega (arith, le, wire_length_cons l ls)) some i)

-- ---- a walk over the labels of one name

-- the labels that are left, of a name that ends in the root
pub record IsEnd (labels : List (List ℕ)) : Type 0 where
  pub is_name : IsName labels
  pub absolute : EndsInRoot labels

pub takes_rest : (l : List ℕ) (ls left : List (List ℕ)) (r : Option Label) → YieldsFirstLabel (l ∷ ls) r left → left ≡ ls
takes_rest l ls left None h = let e = h.0 in cc
takes_rest l ls left (Some x) h = cc

-- after a label was taken, the labels that are left are within the same names, but for the one that was compared
pub within_next : (above left top labels : List (List ℕ)) (r : Option Label) → All (λ l. length l ≤ 63) above → is_within above top ≡ is_within labels top → same_name above top ≡ false → 0 < length top → YieldsFirstLabel above r left
    → All (λ l. length l ≤ 63) left × (is_within left top ≡ is_within labels top)
within_next [] left top labels None short is off some t =
    subst (λ a. All (λ l. length l ≤ 63) a × (is_within a top ≡ is_within labels top)) (sym t.1) (short, is)
within_next [] left top labels (Some x) short is off some t = cc
within_next (l ∷ ls) left top labels r short is off some t =
    subst (λ a. All (λ l. length l ≤ 63) a × (is_within a top ≡ is_within labels top)) (sym (takes_rest l ls left r t))
    (All-tail (λ l. length l ≤ 63) l ls short, sym (within_cons l ls top some ∙ ap (λ b. b || is_within ls top) off) ∙ is)

-- if no label was left, the name is not within the other
pub within_end : (above left top labels : List (List ℕ)) (r : Option Label) → is_within above top ≡ is_within labels top → 0 < length top → is_some r ≡ false → YieldsFirstLabel above r left → false ≡ is_within labels top
within_end above left top labels None is some none t = sym (ap (λ a. is_within a top) t.0 ∙ within_none top some) ∙ is
within_end above left top labels (Some x) is some none t = cc

-- ---- names that two names share

abbrev pub nearest : List (List ℕ) → List (List ℕ) → Option (List (List ℕ))
nearest name other = find (is_within other) (name ∷ names_above name)

pub record Nearing (name other above rest : List (List ℕ)) : Type 0 where
  pub above_end : IsEnd above
  pub rest_end : IsEnd rest
  pub same : nearest above rest ≡ nearest name other

tail_end : (label next : List ℕ) (labels : List (List ℕ)) → IsEnd (label ∷ next ∷ labels) → IsEnd (next ∷ labels)
tail_end label next labels h = record { is_name = tail_name label (next ∷ labels) h.is_name; absolute = by h.absolute.0 h.absolute.1 }
  where
    by : (front : List (List ℕ)) → label ∷ next ∷ labels ≡ front ++ [] ∷ [] → EndsInRoot (next ∷ labels)
    by [] e = absurd (let l = ap length e in omega arith)
    by (x ∷ front) e = (front, cc)

no_end : IsEnd [] → ⊥
no_end h = let some = ends_some [] h.absolute in omega (arith, some)

-- a name that is not longer than the root is the root
lone : (labels : List (List ℕ)) → IsEnd labels → wire_length labels ≤ 1 → labels ≡ [] ∷ []
lone [] h le = absurd (no_end h)
lone (l ∷ []) h le = ap (λ x. x ∷ []) (one_label l h.absolute.0 h.absolute.1)
lone (l ∷ n ∷ o) h le = absurd (omega (arith, le, wire_length_cons l (n ∷ o), wire_length_cons n o))

root_long : (l : List ℕ) → IsEnd (l ∷ []) → l ∷ [] ≡ [] ∷ []
root_long l h = ap (λ x. x ∷ []) (one_label l h.absolute.0 h.absolute.1)

same_roots : (a b : List (List ℕ)) → a ≡ [] ∷ [] → b ≡ [] ∷ [] → same_name a b ≡ true
same_roots a b e f = λ i. same_name (e i) (f i)

clash : (b : Bool) → b ≡ true → b ≡ false → ⊥
clash true h k = cc
clash false h k = cc

shared_left : (label next : List ℕ) (others rest : List (List ℕ)) → is_within rest (label ∷ next ∷ others) ≡ false → nearest (label ∷ next ∷ others) rest ≡ nearest (next ∷ others) rest
shared_left label next others rest h = ap (λ b. cond b (Some (label ∷ next ∷ others)) (nearest (next ∷ others) rest)) h

off_rest : (label : List ℕ) (labels top : List (List ℕ)) → wire_length top < wire_length (label ∷ labels) → 0 < length top → is_within (label ∷ labels) top ≡ is_within labels top
off_rest label labels top lt some = within_cons label labels top some ∙ ap (λ b. b || is_within labels top) (not_same (label ∷ labels) top (λ e. omega (arith, lt, e)))

shared_right : (label : List ℕ) (labels a : List (List ℕ)) → wire_length a < wire_length (label ∷ labels) → 0 < length a → nearest a (label ∷ labels) ≡ nearest a labels
shared_right label labels [] lt some = absurd (omega (arith, some))
shared_right label labels (x ∷ []) lt some = ap (λ b. cond b (Some (x ∷ [])) None) (off_rest label labels (x ∷ []) lt (omega arith))
shared_right label labels (x ∷ n ∷ o) lt some =
    λ i. cond (off_rest label labels (x ∷ n ∷ o) lt (omega arith) i) (Some (x ∷ n ∷ o)) (shared_right label labels (n ∷ o) (omega (arith, lt, wire_length_cons x (n ∷ o))) (omega arith) i)

pub nearing_none : (name other : List (List ℕ)) → IsEnd name → IsEnd other → Nearing name other name other
nearing_none name other a b = record { above_end = a; rest_end = b; same = refl }

pub nearing_above : (name other above rest left : List (List ℕ)) (r : Option Label) → Nearing name other above rest → same_name rest above ≡ false → wire_length rest ≤ wire_length above → YieldsFirstLabel above r left
    → Nearing name other left rest × (length left < length above)
nearing_above name other [] rest left r w off le t = absurd (no_end w.above_end)
nearing_above name other (l ∷ []) rest left r w off le t =
    let root = root_long l w.above_end in
    absurd (clash (same_name rest (l ∷ [])) (same_roots rest (l ∷ []) (lone rest w.rest_end (omega (arith, le, ap wire_length root))) root) off)
nearing_above name other (l ∷ n ∷ o) rest left r w off le t =
    let is : left ≡ n ∷ o = takes_rest l (n ∷ o) left r t in
    subst (λ a. Nearing name other a rest × (length a < length (l ∷ n ∷ o))) (sym is) (
      record {
        above_end = tail_end l n o w.above_end;
        rest_end = w.rest_end;
        same = sym (shared_left l n o rest (off_above rest (l ∷ n ∷ o) off le (omega arith))) ∙ w.same;
      },
      omega arith,
    )

pub nearing_rest : (name other above rest left : List (List ℕ)) (r : Option Label) → Nearing name other above rest → wire_length above < wire_length rest → YieldsFirstLabel rest r left
    → Nearing name other above left × (length left < length rest)
nearing_rest name other above [] left r w lt t = absurd (no_end w.rest_end)
nearing_rest name other above (l ∷ []) left r w lt t =
    absurd (empty above w.above_end (omega (arith, lt, ap wire_length (root_long l w.rest_end))))
  where
    empty : (a : List (List ℕ)) → IsEnd a → wire_length a < 1 → ⊥
    empty [] h k = no_end h
    empty (x ∷ xs) h k = omega (arith, k, wire_length_cons x xs)
nearing_rest name other above (l ∷ n ∷ o) left r w lt t =
    let is : left ≡ n ∷ o = takes_rest l (n ∷ o) left r t in
    subst (λ b. Nearing name other above b × (length b < length (l ∷ n ∷ o))) (sym is) (
      record {
        above_end = w.above_end;
        rest_end = tail_end l n o w.rest_end;
        same = sym (shared_right l (n ∷ o) above lt (ends_some above w.above_end.absolute)) ∙ w.same;
      },
      omega arith,
    )

pub nearing_end : (name other above rest : List (List ℕ)) → Nearing name other above rest → same_name rest above ≡ true → nearest name other ≡ Some above
nearing_end name other above rest w h = sym w.same ∙ ap (λ b. cond b (Some above) (find (is_within rest) (names_above above))) (within_here rest above h)

-- ---- what is found is the end of the name

none_some : {X : Type 0} (x : X) → None ≡ Some x → ⊥
none_some x e = cc

some_is : {X : Type 0} (x y : X) → Some x ≡ Some y → x ≡ y
some_is x y e = cc

pub record IsSuffix (name end : List (List ℕ)) : Type 0 where
  pub front : List (List ℕ)
  pub is : name ≡ front ++ end
  pub some : 0 < length end

pub found_end : (p : List (List ℕ) → Bool) (name end : List (List ℕ)) → 0 < length name → find p (name ∷ names_above name) ≡ Some end → IsSuffix name end
found_end p [] end some h = absurd (omega (arith, some))
found_end p (l ∷ []) end some h = by (p (l ∷ [])) h
  where
    by : (b : Bool) → cond b (Some (l ∷ [])) None ≡ Some end → IsSuffix (l ∷ []) end
    by true e = let is : l ∷ [] ≡ end = some_is (l ∷ []) end e in record { front = []; is = is; some = omega (arith, ap length is) }
    by false e = absurd (none_some end e)
found_end p (l ∷ n ∷ o) end some h = by (p (l ∷ n ∷ o)) (found_end p (n ∷ o) end (omega arith)) h
  where
    by : (b : Bool) → (find p ((n ∷ o) ∷ names_above (n ∷ o)) ≡ Some end → IsSuffix (n ∷ o) end) → cond b (Some (l ∷ n ∷ o)) (find p ((n ∷ o) ∷ names_above (n ∷ o))) ≡ Some end → IsSuffix (l ∷ n ∷ o) end
    by true more e = let is : l ∷ n ∷ o ≡ end = some_is (l ∷ n ∷ o) end e in record { front = []; is = is; some = omega (arith, ap length is) }
    by false more e = let s = more e in record { front = l ∷ s.front; is = ap (λ x. l ∷ x) s.is; some = s.some }

tail_root : (x : List ℕ) (labels front : List (List ℕ)) → 0 < length labels → x ∷ labels ≡ front ++ [] ∷ [] → EndsInRoot labels
tail_root x labels [] some e = absurd (let l = ap length e in omega (arith, some, l))
tail_root x labels (y ∷ ys) some e = (ys, cc)

suffix_end : (front end : List (List ℕ)) → 0 < length end → IsEnd (front ++ end) → IsEnd end
suffix_end [] end some h = h
suffix_end (x ∷ xs) end some h =
    suffix_end xs end some
    (record {
      is_name = tail_name x (xs ++ end) h.is_name;
      absolute = tail_root x (xs ++ end) h.absolute.0 (omega (arith, some, length-append xs end)) h.absolute.1;
    })

-- the last octets of a name are those of the ancestor that is found
pub record IsCut (p : List (List ℕ) → Bool) (name : List (List ℕ)) (octets : List ℕ) (count : ℕ) : Type 0 where
  pub end : List (List ℕ)
  pub found : find p (name ∷ names_above name) ≡ Some end
  pub whole : take (length octets - (length octets - count)) (drop (length octets - count) octets) ≡ wire end
  pub name_of_end : IsWireName (wire end)
  pub fits : count ≤ length octets

measured : (o : Option (List (List ℕ))) (count : ℕ) → option_map wire_length o ≡ Some count → (end : List (List ℕ)) × (o ≡ Some end) × (wire_length end ≡ count)
measured None count h = absurd (none_some count h)
measured (Some end) count h = (end, refl, some_is (wire_length end) count h)

pub shared_cut : (p : List (List ℕ) → Bool) (name : List (List ℕ)) (octets : List ℕ) (count : ℕ) → IsName name → EndsInRoot name → IsWireName (wire name) → octets ≡ wire name
    → option_map wire_length (find p (name ∷ names_above name)) ≡ Some count → IsCut p name octets count
shared_cut p name octets count n a w whole h =
    let m = measured (find p (name ∷ names_above name)) count h in
    let s = found_end p name m.0 (ends_some name a) m.1 in
    let parts : octets ≡ wire s.front ++ wire m.0 = whole ∙ ap wire s.is ∙ wire_append s.front m.0 in
    let long : length octets ≡ wire_length s.front + wire_length m.0 = omega (arith, ap length whole, length_wire name, ap wire_length s.is, wire_length_append s.front m.0) in
    let before : length (wire s.front) ≡ length octets - count = omega (arith, long, m.2, length_wire s.front) in
    let rest : drop (length octets - count) octets ≡ wire m.0 = ap (drop (length octets - count)) parts ∙ drop_at (wire s.front) (wire m.0) (length octets - count) before in
    let end_is = suffix_end s.front m.0 s.some (subst IsEnd s.is (record { is_name = n; absolute = a })) in record {
      end = m.0;
      found = m.1;
      whole = take_all (length octets - (length octets - count)) (drop (length octets - count) octets) (omega (arith, length-drop (length octets - count) octets)) ∙ rest;
      name_of_end = record {
        labels = m.0;
        is_name = end_is.is_name;
        absolute = end_is.absolute;
        values = subst AreOctetValues rest (All-drop (λ o. o < 256) (length octets - count) octets (subst AreOctetValues (sym whole) w.values));
        whole = refl;
      };
      fits = omega (arith, long, m.2);
    }
