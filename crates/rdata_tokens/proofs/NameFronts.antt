-- Names at the start of octets.
use Rattle.std.proofs.Common.{ℕ, suc, ◌≡◌, ◌+◌, ◌-◌, ◌<◌, ◌≤◌, List, [], ◌∷◌, ◌++◌, length, take, drop, get_or, refl, sym, ap, subst, ◌∙◌, arith, append_assoc, length-append, Option, Some, None}
use Rattle.std.specs.Prelude.{All}
use Rattle.std.proofs.lemmas.List.{take_all, length-take-le, take-append-drop, take-append-le, length-drop}
use Rattle.std.proofs.lemmas.List.Elements.{All-cons, All-head, All-tail, All-push, All-take}
use Rattle.dns_wire.specs.Labelled.{label_same}
use Rattle.dns_wire.specs.Wire.{wire, wire_label, wire_length, IsPlain, IsName, EndsInRoot}
use Rattle.dns_wire.proofs.Wires.{wire_length_append, length_wire, IsName-absolute}
use Rattle.rdata_tokens.specs.Spelling.{AreOctetValues}
use Rattle.rdata_tokens.specs.Forms.{FindsWidth, AreSelfDelimiting}
use Rattle.rdata_tokens.specs.NameSpelling.{IsWireName}
use Rattle.rdata_tokens.proofs.LabelParts.{wire_push, wire_length_push, wire_length_cons}

-- octets begin with labels of `width` octets, and then comes the rest
pub record Counted (octets rest : List ℕ) (width : ℕ) : Type 0 where
  pub labels : List (List ℕ)
  pub plain : All IsPlain labels
  pub whole : octets ≡ wire labels ++ rest
  pub width_is : width ≡ wire_length labels
  pub fits : width ≤ 255

pub counted_none : (octets : List ℕ) → Counted octets octets 0
counted_none octets = record { labels = []; plain = λ k d lt. absurd (omega arith); whole = refl; width_is = refl; fits = omega arith }

-- the label after a length octet
front_split : (rest : List ℕ) (count : ℕ) → count ≡ get_or rest 0 0 → 1 + count ≤ length rest
    → (rest ≡ wire_label (take count (drop 1 rest)) ++ drop (1 + count) rest) × (length (take count (drop 1 rest)) ≡ count)
front_split [] count e h = absurd (omega arith)
front_split (x ∷ xs) count e h =
    let long : length (take count xs) ≡ count = length-take-le count xs (omega arith) in
    let one : 1 + count ≡ suc count = omega arith in
    let parts = take-append-drop count xs in
    (rw (one, long) (let d : count ≡ x = e in ap (λ y. y ∷ xs) (sym d) ∙ ap (λ r. count ∷ r) (sym parts)), long)

pub counted_more : (octets rest : List ℕ) (width count : ℕ) → Counted octets rest width → count ≡ get_or rest 0 0 → 1 + count ≤ length rest → 0 < count → count ≤ 63
    → width + 1 + count ≤ 255 → Counted octets (drop (1 + count) rest) (width + (1 + count))
counted_more octets rest width count h e long some short fits =
    let split = front_split rest count e long in
    let label = take count (drop 1 rest) in record {
      labels = h.labels ++ label ∷ [];
      plain = All-push IsPlain h.labels label h.plain (omega (arith, split.1), omega (arith, split.1));
      whole = h.whole ∙ ap (λ r. wire h.labels ++ r) split.0 ∙ sym (append_assoc (wire h.labels) (wire_label label) (drop (1 + count) rest))
          ∙ ap (λ t. t ++ drop (1 + count) rest) (sym (wire_push h.labels label));
      width_is = omega (arith, h.width_is, wire_length_push h.labels label, split.1);
      fits = omega arith;
    }

-- labels without a root are the first of a name that the same octets begin with
pub name_within : (labels name : List (List ℕ)) (rest after : List ℕ) → All IsPlain labels → EndsInRoot name → wire labels ++ rest ≡ wire name ++ after
    → (next : List ℕ) × (others : List (List ℕ)) × (name ≡ labels ++ next ∷ others) × (rest ≡ wire_label next ++ (wire others ++ after))
name_within [] [] rest after p q h = absurd (let l = ap length q.1 in omega (arith, l, length-append q.0 ([] ∷ [])))
name_within [] (n ∷ ns) rest after p q h = (n, ns, refl, h ∙ append_assoc (wire_label n) (wire ns) after)
name_within (l ∷ ls) [] rest after p q h = absurd (let l = ap length q.1 in omega (arith, l, length-append q.0 ([] ∷ [])))
name_within (l ∷ ls) (n ∷ ns) rest after p q h =
    let e = label_same l n (wire ls ++ rest) (wire ns ++ after) (sym (append_assoc (wire_label l) (wire ls) rest) ∙ h ∙ append_assoc (wire_label n) (wire ns) after) in
    let plain = All-head IsPlain l ls p in
    let more = name_within ls ns rest after (All-tail IsPlain l ls p) (root q.0 q.1 (let long = plain.0 in omega (arith, long, ap length e.0))) e.1 in
    (more.0, more.1, (let f = e.0 in let g = more.2 in cc), more.3)
  where
    root : (front : List (List ℕ)) → n ∷ ns ≡ front ++ [] ∷ [] → 0 < length n → EndsInRoot ns
    root [] e some = absurd (let f : n ≡ [] = cc in omega (arith, ap length f))
    root (x ∷ front) e some = (front, cc)

-- an element in the middle
at_middle : (P : List ℕ → Type 0) (a : List (List ℕ)) (x : List ℕ) (b : List (List ℕ)) → All P (a ++ x ∷ b) → P x
at_middle P [] x b h = All-head P x b h
at_middle P (y ∷ a) x b h = at_middle P a x b (All-tail P y (a ++ x ∷ b) h)

abbrev IsShortLabel : List ℕ → Type 0
IsShortLabel label = length label ≤ 63

-- the next label of a name that octets begin with
pub record NextOfName (rest : List ℕ) (width : ℕ) : Type 0 where
  pub some : 0 < length rest
  pub short : get_or rest 0 0 ≤ 63
  pub long : 1 + get_or rest 0 0 ≤ length rest
  pub fits : width + 1 + get_or rest 0 0 ≤ 255

pub next_of_name : (octets rest form after : List ℕ) (width : ℕ) → Counted octets rest width → IsWireName form → octets ≡ form ++ after → NextOfName rest width
next_of_name octets rest form after width h name e =
    let w = name_within h.labels name.labels rest after h.plain name.absolute (sym h.whole ∙ e ∙ ap (λ f. f ++ after) name.whole) in
    let first : get_or rest 0 0 ≡ length w.0 = ap (λ r. get_or r 0 0) w.3 in
    let long : length rest ≡ 1 + length w.0 + length (wire w.1 ++ after) = omega (arith, ap length w.3, length-append w.0 (wire w.1 ++ after)) in
    let short = at_middle IsShortLabel h.labels w.0 w.1 (subst (All IsShortLabel) w.2 name.is_name.short) in
    let all = name.is_name.fits in record {
      some = omega (arith, long);
      short = omega (arith, short, first);
      long = omega (arith, long, first);
      fits = omega (arith, all, ap wire_length w.2, wire_length_append h.labels (w.0 ∷ w.1), wire_length_cons w.0 w.1, h.width_is, first);
    }

-- labels that the root ends are a name
pub counted_name : (octets rest : List ℕ) (width : ℕ) → AreOctetValues octets → Counted octets rest width → 0 < length rest → get_or rest 0 0 ≡ 0 → width + 1 ≤ 255
    → (width + 1 ≤ length octets) × IsWireName (take (width + 1) octets)
counted_name octets [] width v h some zero_next fits = absurd (omega arith)
counted_name octets (x ∷ xs) width v h some zero_next fits =
    let name = h.labels ++ [] ∷ [] in
    let root : x ∷ xs ≡ (0 ∷ []) ++ xs = ap (λ y. y ∷ xs) zero_next in
    let whole : octets ≡ wire name ++ xs =
    h.whole ∙ ap (λ r. wire h.labels ++ r) root ∙ sym (append_assoc (wire h.labels) (0 ∷ []) xs) ∙ ap (λ t. t ++ xs) (sym (wire_push h.labels [])) in
    let long : length (wire name) ≡ width + 1 = omega (arith, length_wire name, wire_length_push h.labels [], h.width_is) in
    let cut : take (width + 1) octets ≡ wire name =
    ap (take (width + 1)) whole ∙ take-append-le (width + 1) (wire name) xs (omega (arith, long)) ∙ take_all (width + 1) (wire name) (omega (arith, long)) in (
      omega (arith, ap length whole, length-append (wire name) xs, long),
      record {
        labels = name;
        is_name = IsName-absolute h.labels h.plain (omega (arith, h.width_is));
        absolute = (h.labels, refl);
        values = All-take (λ o. o < 256) (width + 1) octets v;
        whole = cut;
      },
    )

-- the labels before the root are no root
front_plain : (front : List (List ℕ)) → All IsShortLabel (front ++ [] ∷ []) → ((before behind : List (List ℕ)) → front ++ [] ∷ [] ≡ before ++ [] ∷ behind → behind ≡ []) → All IsPlain front
front_plain [] short last = λ k d lt. absurd (omega arith)
front_plain (x ∷ xs) short last =
    All-cons IsPlain x xs (some x (λ e. last [] (xs ++ [] ∷ []) (ap (λ y. y ∷ (xs ++ [] ∷ [])) e)), All-head IsShortLabel x (xs ++ [] ∷ []) short)
    (front_plain xs (All-tail IsShortLabel x (xs ++ [] ∷ []) short) (λ before behind e. last (x ∷ before) behind (ap (λ l. x ∷ l) e)))
  where
    some : (x : List ℕ) → (x ≡ [] → xs ++ [] ∷ [] ≡ []) → 0 < length x
    some [] h = absurd (omega (arith, ap length (h refl), length-append xs ([] ∷ [])))
    some (y ∷ ys) h = omega arith

pub name_front_plain : (labels front : List (List ℕ)) → IsName labels → labels ≡ front ++ [] ∷ [] → All IsPlain front
name_front_plain labels front n e =
    front_plain front (subst (All IsShortLabel) e n.short) (λ before behind f. n.root_last before behind (e ∙ f))

no_octets : (label : List ℕ) → length label ≡ 0 → label ≡ []
no_octets [] h = refl
no_octets (x ∷ xs) h = absurd (omega arith)

-- octets begin with one name at most
pub names_same : (a b : List (List ℕ)) (x y : List ℕ) → IsName a → EndsInRoot a → IsName b → EndsInRoot b → wire a ++ x ≡ wire b ++ y → a ≡ b
names_same a b x y na ra nb rb h =
    let whole : wire ra.0 ++ ((0 ∷ []) ++ x) ≡ wire b ++ y =
    sym (append_assoc (wire ra.0) (0 ∷ []) x) ∙ ap (λ t. t ++ x) (sym (wire_push ra.0 [])) ∙ ap (λ l. wire l ++ x) (sym ra.1) ∙ h in
    let w = name_within ra.0 b ((0 ∷ []) ++ x) y (name_front_plain a ra.0 na ra.1) rb whole in
    let root = no_octets w.0 (let e = ap (λ r. get_or r 0 0) w.3 in omega (arith, e)) in
    let is : b ≡ ra.0 ++ [] ∷ w.1 = w.2 ∙ ap (λ l. ra.0 ++ l ∷ w.1) root in
    let last = nb.root_last ra.0 w.1 is in
    ra.1 ∙ ap (λ l. ra.0 ++ [] ∷ l) (sym last) ∙ sym is

name_at : (form rest : List ℕ) (found : Option ℕ) → IsWireName form → FindsWidth IsWireName (form ++ rest) found → found ≡ Some (length form)
name_at form rest None h k = absurd (k form rest h refl)
name_at form rest (Some width) h k =
    let cut = k.1.whole in
    let parts : wire k.1.labels ++ drop width (form ++ rest) ≡ wire h.labels ++ rest =
    ap (λ t. t ++ drop width (form ++ rest)) (sym cut) ∙ take-append-drop width (form ++ rest) ∙ ap (λ f. f ++ rest) h.whole in
    let same = names_same k.1.labels h.labels (drop width (form ++ rest)) rest k.1.is_name k.1.absolute h.is_name h.absolute parts in
    let long : length (take width (form ++ rest)) ≡ width = length-take-le width (form ++ rest) k.0 in
    let is : width ≡ length form = sym long ∙ ap length (cut ∙ ap wire same ∙ sym h.whole) in
    ap (λ n. Some n) is

pub names_in_front : AreSelfDelimiting IsWireName
names_in_front = record { width = name_at }

-- the rest of a slice after a label
pub counted_next : (octets rest : List ℕ) (width count left : ℕ) → Counted octets rest width → count ≡ get_or rest 0 0 → 1 + count ≤ length rest → (count ≡ 0 → ⊥) → count ≤ 63
    → width + 1 + count ≤ 255 → left ≡ length rest - (1 + count) → Counted octets (take left (drop (1 + count) rest)) (width + (1 + count))
counted_next octets rest width count left h e long some short fits l =
    let whole : take left (drop (1 + count) rest) ≡ drop (1 + count) rest = take_all left (drop (1 + count) rest) (omega (arith, l, length-drop (1 + count) rest)) in
    subst (λ r. Counted octets r (width + (1 + count))) (sym whole) (counted_more octets rest width count h e long (omega arith) short fits)
