-- A text that spells no list of strings has one reason.
use Rattle.std.proofs.Common.{ℕ, ◌≡◌, ◌≢◌, ◌<◌, ◌≤◌, Bool, true, false, List, [], ◌∷◌, ◌++◌, length, refl, sym, ap, subst, ◌∙◌, inl, inr, arith, append_assoc, append-nil, length-append}
use Rattle.std.specs.Prelude.{All}
use Rattle.std.proofs.lemmas.Bool.{both_ways}
use Rattle.std.proofs.lemmas.List.Elements.{All-head, All-tail}
use Rattle.rdata_tokens.specs.Spelling.{SpellsBeginning}
use Rattle.rdata_tokens.proofs.Spellings.{goes_on}
use Rattle.rdata_values.specs.declared.error.ErrorKind.{ErrorKind}
use Rattle.rdata_svcb.specs.ListItems.{EndsAtComma, FirstItemReason, ItemReason, OctetFault, SpecialFault, StringsReason}
use Rattle.rdata_svcb.specs.ParamValues.{SpellsStrings}
use Rattle.rdata_svcb.specs.Texts.{is_special, item_octet, item_text, later_text, leading_items_text, list_text, IsItem}
use Rattle.rdata_svcb.proofs.Beginnings.{bad_begins, either_front, empty_begins, first_once, front_once, nothing_between, split_front}
use Rattle.rdata_svcb.proofs.ListTexts.{special_octet, unspecial_octet}
use Rattle.rdata_svcb.proofs.WireItems.{ends_comma, later_ends, one_item, same_first}

-- ---- octets

-- a text that begins with an octet of an item has no fault there
fault_by : (b : Bool) (o : ℕ) (text more rest : List ℕ) (e : ErrorKind) → is_special o ≡ b → OctetFault text e → SpellsBeginning text (item_octet o ++ more) rest → ⊥
fault_by true o text more rest e is h k =
    let octets : SpellsBeginning text (92 ∷ o ∷ more) rest = subst (λ x. SpellsBeginning text (x ++ more) rest) (special_octet o is) k in
    by octets h
  where
    special : (middle : List ℕ) → SpecialFault middle e → SpellsBeginning middle (o ∷ more) rest → ⊥
    special middle (inl x) s = bad_begins middle more rest o x.1 s
    special middle (inr (x, inl none)) s = empty_begins middle more rest o none s
    special middle (inr (x, inr (p, r, front, plain))) s =
        let same = first_once middle [] more r rest p o front s in both_ways (is_special p) plain (ap is_special same ∙ is)

    by : SpellsBeginning text (92 ∷ o ∷ more) rest → OctetFault text e → ⊥
    by octets (inl x) = bad_begins text (o ∷ more) rest 92 x.1 octets
    by octets (inr (r, front, fault)) =
        let parts = split_front text (92 ∷ []) (o ∷ more) rest octets in
        let same = front_once text (92 ∷ []) r parts.0 front parts.1 in special parts.0 (subst (λ t. SpecialFault t e) same fault) parts.2
fault_by false o text more rest e is h k = by h
  where
    octets : SpellsBeginning text (o ∷ more) rest
    octets = subst (λ x. SpellsBeginning text (x ++ more) rest) (unspecial_octet o is) k

    by : OctetFault text e → ⊥
    by (inl x) = bad_begins text more rest o x.1 octets
    by (inr (r, front, fault)) = let same = first_once text [] more r rest 92 o front octets in both_ways (is_special o) is (ap is_special (sym same))

fault_or_octet : (o : ℕ) (text more rest : List ℕ) (e : ErrorKind) → OctetFault text e → SpellsBeginning text (item_octet o ++ more) rest → ⊥
fault_or_octet o text more rest e h k = fault_by (is_special o) o text more rest e refl h k

-- nor does an item end there
end_by : (b : Bool) (o : ℕ) (text more rest : List ℕ) → is_special o ≡ b → EndsAtComma text → SpellsBeginning text (item_octet o ++ more) rest → ⊥
end_by true o text more rest is h k = by h
  where
    octets : SpellsBeginning text (92 ∷ o ∷ more) rest
    octets = subst (λ x. SpellsBeginning text (x ++ more) rest) (special_octet o is) k

    by : EndsAtComma text → ⊥
    by (inl none) = empty_begins text (o ∷ more) rest 92 none octets
    by (inr comma) = omega (arith, first_once text [] (o ∷ more) comma.0 rest 44 92 comma.1 octets)
end_by false o text more rest is h k = by h
  where
    octets : SpellsBeginning text (o ∷ more) rest
    octets = subst (λ x. SpellsBeginning text (x ++ more) rest) (unspecial_octet o is) k

    by : EndsAtComma text → ⊥
    by (inl none) = empty_begins text more rest o none octets
    by (inr comma) = let same = first_once text [] more comma.0 rest 44 o comma.1 octets in both_ways (is_special o) is (ap is_special (sym same))

end_or_octet : (o : ℕ) (text more rest : List ℕ) → EndsAtComma text → SpellsBeginning text (item_octet o ++ more) rest → ⊥
end_or_octet o text more rest h k = end_by (is_special o) o text more rest refl h k

end_or_fault : (text : List ℕ) (e : ErrorKind) → EndsAtComma text → OctetFault text e → ⊥
end_or_fault text e (inl none) (inl x) = let bad = x.1 in omega (arith, bad.some, ap length none)
end_or_fault text e (inl none) (inr x) = empty_begins text [] x.0 92 none x.1
end_or_fault text e (inr comma) (inl x) = bad_begins text [] comma.0 44 x.1 comma.1
end_or_fault text e (inr comma) (inr x) = omega (arith, first_once text [] [] comma.0 x.0 44 92 comma.1 x.1)

special_once : (text : List ℕ) (a b : ErrorKind) → SpecialFault text a → SpecialFault text b → a ≡ b
special_once text a b (inl h) (inl k) = h.0 ∙ sym k.0
special_once text a b (inl h) (inr (k, inl none)) = let bad = h.1 in absurd (omega (arith, bad.some, ap length none))
special_once text a b (inl h) (inr (k, inr s)) = absurd (bad_begins text [] s.1 s.0 h.1 s.2)
special_once text a b (inr (h, inl none)) (inl k) = let bad = k.1 in absurd (omega (arith, bad.some, ap length none))
special_once text a b (inr (h, inr s)) (inl k) = absurd (bad_begins text [] s.1 s.0 k.1 s.2)
special_once text a b (inr h) (inr k) = h.0 ∙ sym k.0

fault_once : (text : List ℕ) (a b : ErrorKind) → OctetFault text a → OctetFault text b → a ≡ b
fault_once text a b (inl h) (inl k) = h.0 ∙ sym k.0
fault_once text a b (inl h) (inr k) = absurd (bad_begins text [] k.0 92 h.1 k.1)
fault_once text a b (inr h) (inl k) = absurd (bad_begins text [] h.0 92 k.1 h.1)
fault_once text a b (inr h) (inr k) = let same = front_once text (92 ∷ []) h.0 k.0 h.1 k.1 in special_once k.0 a b (subst (λ t. SpecialFault t a) same h.2) k.2

-- ---- one item

-- octets of an item that begin with those of another
items_on : (item longer more : List ℕ) → item_text longer ≡ item_text item ++ more → (later : List ℕ) × (longer ≡ item ++ later) × (more ≡ item_text later)
items_on [] longer more e = (longer, refl, sym e)
items_on (o ∷ item) [] more e = absurd (no_octet o (item_text item ++ more) (e ∙ append_assoc (item_octet o) (item_text item) more))
  where
    no_octet : (o : ℕ) (rest : List ℕ) → [] ≡ item_octet o ++ rest → ⊥
    no_octet o rest none = by (is_special o) refl
      where
        by : (b : Bool) → is_special o ≡ b → ⊥
        by true is = let j : [] ≡ 92 ∷ o ∷ rest = none ∙ ap (λ x. x ++ rest) (special_octet o is) in cc
        by false is = let j : [] ≡ o ∷ rest = none ∙ ap (λ x. x ++ rest) (unspecial_octet o is) in cc
items_on (o ∷ item) (p ∷ longer) more e =
    let same = same_first p o (item_text longer) (item_text item ++ more) (e ∙ append_assoc (item_octet o) (item_text item) more) in
    let rest = items_on item longer more same.1 in
    (rest.0, ap (λ x. x ∷ longer) same.0 ∙ ap (λ xs. o ∷ xs) rest.1, rest.2)

-- a reason after octets of an item comes at its end
reason_stops : (item later rest after : List ℕ) (o : ℕ) (e : ErrorKind) → length item < 256 → ItemReason item rest e → SpellsBeginning rest (item_text (o ∷ later)) after → ⊥
reason_stops item later rest after o e short (inl (x, inl h)) s = end_or_octet o rest (item_text later) after h.1 s
reason_stops item later rest after o e short (inl (x, inr long)) s = omega (arith, short, long)
reason_stops item later rest after o e short (inr h) s = fault_or_octet o rest (item_text later) after e h.1 s

reason_size : (item rest : List ℕ) (e : ErrorKind) → ItemReason item rest e → length item ≤ 256
reason_size item rest e (inl (x, inl h)) = omega (arith, ap length h.0)
reason_size item rest e (inl (x, inr long)) = omega (arith, long)
reason_size item rest e (inr h) = omega (arith, h.0)

item_reason_once : (item rest : List ℕ) (a b : ErrorKind) → ItemReason item rest a → ItemReason item rest b → a ≡ b
item_reason_once item rest a b (inl h) (inl k) = h.0 ∙ sym k.0
item_reason_once item rest a b (inl (x, inl h)) (inr k) = absurd (end_or_fault rest b h.1 k.1)
item_reason_once item rest a b (inl (x, inr long)) (inr k) = absurd (omega (arith, long, k.0))
item_reason_once item rest a b (inr h) (inl (x, inl k)) = absurd (end_or_fault rest a k.1 h.1)
item_reason_once item rest a b (inr h) (inl (x, inr long)) = absurd (omega (arith, long, h.0))
item_reason_once item rest a b (inr h) (inr k) = fault_once rest a b h.1 k.1

-- a reason is after all octets that an item begins with
longest : (item longer rest after more : List ℕ) (a b : ErrorKind) → ItemReason item rest a → ItemReason longer after b → SpellsBeginning rest more after → item_text longer ≡ item_text item ++ more → (item ≡ longer) × (rest ≡ after)
longest item longer rest after more a b h k s e = let on = items_on item longer more e in by on.0 on.1 on.2
  where
    by : (later : List ℕ) → longer ≡ item ++ later → more ≡ item_text later → (item ≡ longer) × (rest ≡ after)
    by [] is none = (sym (is ∙ append-nil item), nothing_between rest after (subst (λ x. SpellsBeginning rest x after) none s))
    by (o ∷ later) is some =
        absurd (reason_stops item later rest after o a (omega (arith, reason_size longer after b k, ap length is, length-append item (o ∷ later))) h (subst (λ x. SpellsBeginning rest x after) some s))

first_reason_once : (text : List ℕ) (a b : ErrorKind) → FirstItemReason text a → FirstItemReason text b → a ≡ b
first_reason_once text a b (item, rest, s, h) (other, after, t, k) = elim (either_front text (item_text item) (item_text other) rest after s t) [
  | inl m ↦ (let same = longest item other rest after m.0 a b h k m.1 m.2 in at same.0 same.1)
  | inr m ↦ (let same = longest other item after rest m.0 b a k h m.1 m.2 in at (sym same.0) (sym same.1))
]
  where
    at : item ≡ other → rest ≡ after → a ≡ b
    at is end = item_reason_once other after a b (subst (λ r. ItemReason other r a) end (subst (λ i. ItemReason i rest a) is h)) k

-- an item that ends at a comma or at the end has no reason
whole_item : (item rest : List ℕ) (e : ErrorKind) → IsItem item → EndsAtComma rest → ItemReason item rest e → ⊥
whole_item item rest e is ends (inl (x, inl h)) = omega (arith, is.0, ap length h.0)
whole_item item rest e is ends (inl (x, inr long)) = omega (arith, is.1, long)
whole_item item rest e is ends (inr h) = end_or_fault rest e ends h.1

item_or_reason : (text item rest : List ℕ) (e : ErrorKind) → IsItem item → SpellsBeginning text (item_text item) rest → EndsAtComma rest → FirstItemReason text e → ⊥
item_or_reason text item rest e is s ends (other, after, t, k) = elim (either_front text (item_text item) (item_text other) rest after s t) [
  | inl m ↦ (let on = items_on item other m.0 m.2 in longer on.0 on.1 (subst (λ x. SpellsBeginning rest x after) on.2 m.1))
  | inr m ↦ (let on = items_on other item m.0 m.2 in shorter on.0 on.1 (subst (λ x. SpellsBeginning after x rest) on.2 m.1))
]
  where
    same : item ≡ other → rest ≡ after → ⊥
    same i r = whole_item item rest e is ends (subst (λ x. ItemReason item x e) (sym r) (subst (λ x. ItemReason x after e) (sym i) k))

    longer : (later : List ℕ) → other ≡ item ++ later → SpellsBeginning rest (item_text later) after → ⊥
    longer [] i m = same (sym (i ∙ append-nil item)) (nothing_between rest after m)
    longer (o ∷ later) i m = end_or_octet o rest (item_text later) after ends m

    shorter : (later : List ℕ) → item ≡ other ++ later → SpellsBeginning after (item_text later) rest → ⊥
    shorter [] i m = same (i ∙ append-nil other) (sym (nothing_between after rest m))
    shorter (o ∷ later) i m = reason_stops other later after rest o e (omega (arith, is.1, ap length i, length-append other (o ∷ later))) k m

-- ---- items and their commas

-- an item and its comma
item_and_comma : (text item more rest : List ℕ) (e : ErrorKind) → IsItem item → SpellsBeginning text (item_text item ++ 44 ∷ more) rest → FirstItemReason text e → ⊥
item_and_comma text item more rest e is s h =
    let parts = split_front text (item_text item) (44 ∷ more) rest s in
    let comma = split_front parts.0 (44 ∷ []) more rest parts.2 in
    item_or_reason text item parts.0 e is parts.1 (inr (comma.0, comma.1)) h

leads_on : (front longer : List (List ℕ)) (more : List ℕ) → leading_items_text longer ≡ leading_items_text front ++ more → (later : List (List ℕ)) × (longer ≡ front ++ later) × (more ≡ leading_items_text later)
leads_on [] longer more e = (longer, refl, sym e)
leads_on (f ∷ front) [] more e = absurd (omega (
  arith,
  ap length e,
  length-append ((item_text f ++ 44 ∷ []) ++ leading_items_text front) more,
  length-append (item_text f ++ 44 ∷ []) (leading_items_text front),
  length-append (item_text f) (44 ∷ []),
))
leads_on (f ∷ front) (g ∷ longer) more e =
    let inner : item_text g ++ 44 ∷ leading_items_text longer ≡ item_text f ++ 44 ∷ (leading_items_text front ++ more) =
    sym (append_assoc (item_text g) (44 ∷ []) (leading_items_text longer)) ∙ e ∙ append_assoc (item_text f ++ 44 ∷ []) (leading_items_text front) more
    ∙ append_assoc (item_text f) (44 ∷ []) (leading_items_text front ++ more) in
    let one = one_item g f (44 ∷ leading_items_text longer) (44 ∷ (leading_items_text front ++ more)) inner (ends_comma (leading_items_text longer)) (ends_comma (leading_items_text front ++ more)) in
    let behind : leading_items_text longer ≡ leading_items_text front ++ more = tail 44 (leading_items_text longer) (leading_items_text front ++ more) one.1 in
    let rest = leads_on front longer more behind in
    (rest.0, ap (λ x. x ∷ longer) one.0 ∙ ap (λ xs. f ∷ xs) rest.1, rest.2)
  where
    tail : (c : ℕ) (xs ys : List ℕ) → c ∷ xs ≡ c ∷ ys → xs ≡ ys
    tail c xs ys e = cc

items_behind : (front later : List (List ℕ)) → All IsItem (front ++ later) → All IsItem later
items_behind [] later h = h
items_behind (f ∷ front) later h = items_behind front later (All-tail IsItem f (front ++ later) h)

-- a reason after items and their commas is in the first item that the text does not have whole
last_front : (text : List ℕ) (front longer : List (List ℕ)) (rest after more : List ℕ) (a : ErrorKind) → All IsItem longer → FirstItemReason rest a → SpellsBeginning rest more after
    → leading_items_text longer ≡ leading_items_text front ++ more → rest ≡ after
last_front text front longer rest after more a items h s e = let on = leads_on front longer more e in by on.0 on.1 on.2
  where
    by : (later : List (List ℕ)) → longer ≡ front ++ later → more ≡ leading_items_text later → rest ≡ after
    by [] is none = nothing_between rest after (subst (λ x. SpellsBeginning rest x after) none s)
    by (j ∷ later) is some =
        let item = All-head IsItem j later (items_behind front (j ∷ later) (subst (All IsItem) is items)) in
        let whole : more ≡ item_text j ++ 44 ∷ leading_items_text later = some ∙ append_assoc (item_text j) (44 ∷ []) (leading_items_text later) in
        absurd (item_and_comma rest j (leading_items_text later) after a item (subst (λ x. SpellsBeginning rest x after) whole s) h)

pub strings_reason_once : (text : List ℕ) (a b : ErrorKind) → StringsReason text a → StringsReason text b → a ≡ b
strings_reason_once text a b (front, rest, items, s, h) (others, after, more, t, k) = elim (either_front text (leading_items_text front) (leading_items_text others) rest after s t) [
  | inl m ↦ at (last_front text front others rest after m.0 a more h m.1 m.2)
  | inr m ↦ at (sym (last_front text others front after rest m.0 b items k m.1 m.2))
]
  where
    at : rest ≡ after → a ≡ b
    at same = first_reason_once after a b (subst (λ t. FirstItemReason t a) same h) k

-- after the first item and its comma a list continues with a comma
after_first : (f i : List ℕ) (front items : List (List ℕ)) (more : List ℕ) → leading_items_text (f ∷ front) ++ more ≡ list_text (i ∷ items) → 44 ∷ (leading_items_text front ++ more) ≡ later_text items
after_first f i front items more e =
    let inner : item_text f ++ 44 ∷ (leading_items_text front ++ more) ≡ item_text i ++ later_text items =
    sym (append_assoc (item_text f) (44 ∷ []) (leading_items_text front ++ more)) ∙ sym (append_assoc (item_text f ++ 44 ∷ []) (leading_items_text front) more) ∙ e in
    (one_item f i (44 ∷ (leading_items_text front ++ more)) (later_text items) inner (ends_comma (leading_items_text front ++ more)) (later_ends items)).1

-- a list continues after items and their commas with one more item
list_behind : (front items : List (List ℕ)) (more : List ℕ) → leading_items_text front ++ more ≡ list_text items → items ≢ [] → All IsItem items → (j : List ℕ) × (later : List (List ℕ)) × IsItem j × (more ≡ item_text j ++ later_text later)
list_behind [] [] more e some each = absurd (some refl)
list_behind [] (i ∷ items) more e some each = (i, items, All-head IsItem i items each, e)
list_behind (f ∷ front) [] more e some each = absurd (some refl)
list_behind (f ∷ front) (i ∷ []) more e some each = absurd (let j : 44 ∷ (leading_items_text front ++ more) ≡ [] = after_first f i front [] more e in cc)
list_behind (f ∷ front) (i ∷ k ∷ items) more e some each =
    let j : 44 ∷ (leading_items_text front ++ more) ≡ 44 ∷ list_text (k ∷ items) = after_first f i front (k ∷ items) more e in
    let behind : leading_items_text front ++ more ≡ list_text (k ∷ items) = cc in
    list_behind front (k ∷ items) more behind (λ none. (let n : k ∷ items ≡ [] = none in cc)) (All-tail IsItem i (k ∷ items) each)

later_end : (text : List ℕ) (later : List (List ℕ)) → SpellsBeginning text (later_text later) [] → EndsAtComma text
later_end text [] s = inl (nothing_between text [] s)
later_end text (k ∷ later) s = let comma = split_front text (44 ∷ []) (item_text k ++ later_text later) [] s in inr (comma.0, comma.1)

-- a text that spells a list has no reason
pub strings_apart : (text octets : List ℕ) (e : ErrorKind) → StringsReason text e → SpellsStrings text octets → ⊥
strings_apart text octets e (front, rest, items, s, h) k =
    let on = goes_on text (leading_items_text front) rest k.list s k.spelled in
    let next = list_behind front k.items on.0 (sym on.2 ∙ sym k.listed) k.is_list.some k.is_list.each in
    let parts = split_front rest (item_text next.0) (later_text next.1) [] (subst (λ x. SpellsBeginning rest x []) next.3 on.1) in
    item_or_reason rest next.0 parts.0 e next.2 parts.1 (later_end parts.0 next.1 parts.2) h
