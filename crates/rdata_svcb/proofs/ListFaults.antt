-- What the errors of rejected lists mean.
use Rattle.std.proofs.Common.{◌≡◌, ◌≢◌, ℕ, ◌+◌, ◌<◌, ◌≤◌, ◌⊎◌, List, [], ◌∷◌, ◌++◌, length, take, drop, get_or, All, refl, sym, ap, ◌∙◌, arith, subst, inl, inr, append_assoc, append-nil, ◌-◌, Result, Ok, Err, OnOk, OnErr, IfErr, IsOk}
use Rattle.std.proofs.lemmas.List.{take_at, drop_at, take-append-drop, length-append}
use Rattle.std.proofs.lemmas.Bool.{cases_lt}
use Rattle.std.proofs.lemmas.List.Concat.{flat_map-append}
use Rattle.std.proofs.lemmas.List.Elements.{All-head, All-tail, All-cons, All-nil}
use Rattle.dns_octets.specs.Room.{Room}
use Rattle.rdata_svcb.specs.Values.{AreWireStrings}
use Rattle.rdata_svcb.specs.Texts.{item_octet, item_text, later_text, list_text, leading_items_text, wire_strings, IsItem, IsList, EndsItem, SplitsItem, BeginsNoString}
use Rattle.rdata_svcb.specs.TextFaults.{IsItemFault, IsListFault, IsStringsFault, RefusesList, RefusesStrings}
use Rattle.rdata_values.specs.declared.error.ErrorKind.{ErrorKind}
use Rattle.rdata_values.specs.declared.error.ErrorKind.TheVariants.{ListString, ListEscape, ShortBuf}
use Rattle.rdata_svcb.proofs.WireItems.{one_item, same_first, later_ends, ends_comma, TakesList, TakesItem}
use Rattle.rdata_svcb.proofs.Printing.{PrintsList, text_more, pushed_text, longer_list, longer_split}

-- ---- texts

same_comma : (xs ys : List ℕ) → 44 ∷ xs ≡ 44 ∷ ys → xs ≡ ys
same_comma xs ys e = cc

record TellsFront (front items : List (List ℕ)) (rest : List ℕ) : Type 0 where
  pub later : List (List ℕ)
  pub is : items ≡ front ++ later
  pub list : IsList later
  pub text : rest ≡ list_text later

front_by : (f i : List ℕ) (front js : List (List ℕ)) (rest : List ℕ) → ((others : List (List ℕ)) → IsList others → leading_items_text front ++ rest ≡ list_text others → TellsFront front others rest)
    → All IsItem js → f ≡ i → 44 ∷ (leading_items_text front ++ rest) ≡ later_text js → TellsFront (f ∷ front) (i ∷ js) rest
front_by f i front [] rest tells each same text = absurd cc
front_by f i front (j ∷ js) rest tells each same text =
    let t = tells (j ∷ js) (record { some = λ z. absurd cc; each = each }) (same_comma (leading_items_text front ++ rest) (list_text (j ∷ js)) text) in
    record { later = t.later; is = ap (λ k. k ∷ j ∷ js) (sym same) ∙ ap (λ ks. f ∷ ks) t.is; list = t.list; text = t.text }

-- items with their commas are the first of a list
front_tells : (front items : List (List ℕ)) (rest : List ℕ) → IsList items → leading_items_text front ++ rest ≡ list_text items → TellsFront front items rest
front_tells [] items rest h e = record { later = items; is = refl; list = h; text = e }
front_tells (f ∷ front) [] rest h e = absurd (h.some refl)
front_tells (f ∷ front) (i ∷ items) rest h e =
    let split : item_text f ++ (44 ∷ (leading_items_text front ++ rest)) ≡ item_text i ++ later_text items =
    sym (append_assoc (item_text f) (44 ∷ []) (leading_items_text front ++ rest)) ∙ sym (append_assoc (item_text f ++ 44 ∷ []) (leading_items_text front) rest) ∙ e in
    let one = one_item f i (44 ∷ (leading_items_text front ++ rest)) (later_text items) split (ends_comma (leading_items_text front ++ rest)) (later_ends items) in
    front_by f i front items rest (λ others k text. front_tells front others rest k text) (All-tail IsItem i items h.each) one.0 one.1

-- the item that a list's text begins with is the list's first
first_tells : (later : List (List ℕ)) (rest item after : List ℕ) → IsList later → rest ≡ list_text later → SplitsItem rest item after
    → (ls : List (List ℕ)) × (later ≡ item ∷ ls) × IsItem item
first_tells [] rest item after h e s = absurd (h.some refl)
first_tells (l ∷ ls) rest item after h e s =
    let one = one_item l item (later_text ls) after (sym e ∙ s.0) (later_ends ls) s.1 in
    let P : List ℕ → Type 0 = IsItem in
    (ls, ap (λ k. k ∷ ls) one.0, subst P one.0 (All-head IsItem l ls h.each))

later_then : (js : List (List ℕ)) (rest : List ℕ) → EndsItem rest → EndsItem (later_text js ++ rest)
later_then [] rest ends = ends
later_then (j ∷ js) rest ends = ends_comma ((item_text j ++ later_text js) ++ rest)

later_tells : (is os : List (List ℕ)) (rest : List ℕ) → EndsItem rest → later_text is ++ rest ≡ later_text os → (later : List (List ℕ)) × (rest ≡ later_text later)
later_tells [] os rest ends e = (os, e)
later_tells (i ∷ is) [] rest ends e = absurd cc
later_tells (i ∷ is) (o ∷ os) rest ends e =
    let split : item_text i ++ (later_text is ++ rest) ≡ item_text o ++ later_text os =
    sym (append_assoc (item_text i) (later_text is) rest) ∙ same_comma ((item_text i ++ later_text is) ++ rest) (item_text o ++ later_text os) e in
    let one = one_item i o (later_text is ++ rest) (later_text os) split (later_then is rest ends) (later_ends os) in
    later_tells is os rest ends one.1

no_list_length : (front others : List (List ℕ)) (text rest item after : List ℕ) → text ≡ leading_items_text front ++ rest → SplitsItem rest item after → (IsItem item → ⊥) → IsList others → list_text others ≢ text
no_list_length front others text rest item after e s none h is =
    let t = front_tells front others rest h (sym (is ∙ e)) in
    none (first_tells t.later rest item after t.list t.text s).2

no_later_text : (later : List (List ℕ)) (rest : List ℕ) → rest ≢ [] → get_or rest 0 0 ≢ 44 → rest ≢ later_text later
no_later_text [] rest some n e = some e
no_later_text (l ∷ ls) rest some n e = n (ap (λ r. get_or r 0 0) e)

after_list : (items others : List (List ℕ)) (rest : List ℕ) → IsList items → IsList others → EndsItem rest → list_text items ++ rest ≡ list_text others → (later : List (List ℕ)) × (rest ≡ later_text later)
after_list [] others rest h k ends e = absurd (h.some refl)
after_list (i ∷ is) [] rest h k ends e = absurd (k.some refl)
after_list (i ∷ is) (o ∷ os) rest h k ends e =
    let one = one_item i o (later_text is ++ rest) (later_text os) (sym (append_assoc (item_text i) (later_text is) rest) ∙ e) (later_then is rest ends) (later_ends os) in
    later_tells is os rest ends one.1

no_list_escape : (items others : List (List ℕ)) (text rest : List ℕ) → IsList items → text ≡ list_text items ++ rest → EndsItem rest → rest ≢ [] → get_or rest 0 0 ≢ 44 → IsList others → list_text others ≢ text
no_list_escape items others text rest h e ends some n k is =
    let later = after_list items others rest h k ends (sym (is ∙ e)) in no_later_text later.0 rest some n later.1

-- a fault in a text means that it is not a list, or that the list does not surely fit
pub list_fault : (room : Room) (old text : List ℕ) (e : ErrorKind) → IsListFault room old text e → RefusesList room text old e
list_fault room old text ListString (front, rest, each, split, (item, after, s, none)) = inr (λ others h. no_list_length front others text rest item after split s none h)
list_fault room old text ShortBuf (front, rest, each, split, (item, after, s, is, l)) = inl (
  refl,
  (
    wire_strings front ++ (length item ∷ item),
    (front, rest, item, after, each, split, s, is, refl),
    omega (arith, l, length-append old (wire_strings front), length-append (wire_strings front) (length item ∷ item)),
  ),
)
list_fault room old text ListEscape (items, rest, h, split, ends, some, n) = inr (λ others k. no_list_escape items others text rest h split ends some n k)
list_fault room old text other h = absurd h

front_more : (x : List ℕ) (items : List (List ℕ)) (tail : List ℕ) → leading_items_text (x ∷ items) ++ tail ≡ item_text x ++ (44 ∷ (leading_items_text items ++ tail))
front_more x items tail = append_assoc (item_text x ++ 44 ∷ []) (leading_items_text items) tail ∙ append_assoc (item_text x) (44 ∷ []) (leading_items_text items ++ tail)

-- a list and a comma are items with commas
pub front_is : (items : List (List ℕ)) (tail : List ℕ) → items ≢ [] → leading_items_text items ++ tail ≡ list_text items ++ (44 ∷ tail)
front_is [] tail some = absurd (some refl)
front_is (x ∷ []) tail some = front_more x [] tail ∙ ap (λ y. y ++ (44 ∷ tail)) (sym (append-nil (item_text x)))
front_is (x ∷ y ∷ items) tail some =
    front_more x (y ∷ items) tail ∙ ap (λ r. item_text x ++ (44 ∷ r)) (front_is (y ∷ items) tail (λ z. absurd cc))
    ∙ sym (append_assoc (item_text x) (44 ∷ list_text (y ∷ items)) (44 ∷ tail))

-- a fault of the first item
pub fault_first : (room : Room) (old text : List ℕ) (e : ErrorKind) → IsItemFault room old text e → IsListFault room old text e
fault_first room old text ListString h =
    let P : List ℕ → Type 0 = λ o. IsItemFault room o text ListString in ([], text, All-nil IsItem, refl, subst P (sym (append-nil old)) h)
fault_first room old text ShortBuf h =
    let P : List ℕ → Type 0 = λ o. IsItemFault room o text ShortBuf in ([], text, All-nil IsItem, refl, subst P (sym (append-nil old)) h)
fault_first room old text other h = absurd h

-- a fault of a later item
pub fault_later : (room : Room) (old mid text rest tail : List ℕ) (e : ErrorKind) → TakesList text rest old mid → rest ≡ 44 ∷ tail → IsItemFault room mid tail e → IsListFault room old text e
fault_later room old mid text rest tail ListString t e h =
    let P : List ℕ → Type 0 = λ o. IsItemFault room o tail ListString in
    (t.items, tail, t.is_list.each, t.split ∙ ap (λ r. list_text t.items ++ r) e ∙ sym (front_is t.items tail t.is_list.some), subst P t.strings h)
fault_later room old mid text rest tail ShortBuf t e h =
    let P : List ℕ → Type 0 = λ o. IsItemFault room o tail ShortBuf in
    (t.items, tail, t.is_list.each, t.split ∙ ap (λ r. list_text t.items ++ r) e ∙ sym (front_is t.items tail t.is_list.some), subst P t.strings h)
fault_later room old mid text rest tail other t e h = absurd h

pub fault_escape : (room : Room) (old mid text rest : List ℕ) → TakesList text rest old mid → rest ≢ [] → get_or rest 0 0 ≢ 44 → IsListFault room old text ListEscape
fault_escape room old mid text rest t some n = (t.items, rest, t.is_list, t.split, t.ends, some, n)

-- an octet of an item does not fit after those before it
pub octet_lacks : (room : Room) (text front rest after old now : List ℕ) (o : ℕ) → TakesItem text front rest → rest ≡ item_octet o ++ after → now ≡ old ++ front
    → room.fits < length now + 1 → (item : List ℕ) → ((more : List ℕ) × SplitsItem text item more) → room.fits < length old + length item
octet_lacks room text front rest after old now o t e n l item (more, s) =
    let longer = beyond front item rest more (sym t.split ∙ s.0) (λ ends. ends o after e) s.1 in
    let size = ap length n ∙ length-append old front in omega arith
  where
    same_step : (x y : ℕ) (r s : List ℕ) → item_octet x ++ r ≡ item_octet y ++ s → r ≡ s
    same_step x y r s e = (same_first x y r s e).1

    beyond : (a b r s : List ℕ) → item_text a ++ r ≡ item_text b ++ s → (EndsItem r → ⊥) → EndsItem s → length a < length b
    beyond [] [] r s e goes ends = let P : List ℕ → Type 0 = EndsItem in absurd (goes (subst P (sym e) ends))
    beyond [] (y ∷ b) r s e goes ends = omega arith
    beyond (x ∷ a) [] r s e goes ends = absurd (ends x (item_text a ++ r) (sym e ∙ append_assoc (item_octet x) (item_text a) r))
    beyond (x ∷ a) (y ∷ b) r s e goes ends =
        let rest = same_step x y (item_text a ++ r) (item_text b ++ s) (sym (append_assoc (item_octet x) (item_text a) r) ∙ e ∙ append_assoc (item_octet y) (item_text b) s) in
        let l = beyond a b r s rest goes ends in omega arith

-- ---- octets

same_front : (xs ys us vs : List ℕ) → length xs ≡ length ys → xs ++ us ≡ ys ++ vs → (xs ≡ ys) × (us ≡ vs)
same_front xs ys us vs l e = (
  sym (take_at xs us (length xs) refl) ∙ ap (take (length xs)) e ∙ take_at ys vs (length xs) (sym l),
  sym (drop_at xs us (length xs) refl) ∙ ap (drop (length xs)) e ∙ drop_at ys vs (length xs) (sym l),
)

-- the strings that a list begins with are its first
strings_tell : (items others : List (List ℕ)) (rest : List ℕ) → wire_strings items ++ rest ≡ wire_strings others → (later : List (List ℕ)) × (others ≡ items ++ later) × (rest ≡ wire_strings later)
strings_tell [] others rest e = (others, refl, e)
strings_tell (i ∷ items) [] rest e = absurd cc
strings_tell (i ∷ items) (o ∷ others) rest e =
    let joined : length i ∷ (i ++ (wire_strings items ++ rest)) ≡ length o ∷ (o ++ wire_strings others) = ap (λ x. length i ∷ x) (sym (append_assoc i (wire_strings items) rest)) ∙ e in
    let long : length i ≡ length o = cc in
    let tails : i ++ (wire_strings items ++ rest) ≡ o ++ wire_strings others = cc in
    let one = same_front i o (wire_strings items ++ rest) (wire_strings others) long tails in
    let more = strings_tell items others rest one.1 in
    (more.0, ap (λ k. k ∷ others) (sym one.0) ∙ ap (λ ks. i ∷ ks) more.1, more.2)

no_strings_by : (later front : List (List ℕ)) (octets rest : List ℕ) → All IsItem later → rest ≡ wire_strings later → octets ≡ wire_strings front ++ rest → BeginsNoString rest → (rest ≡ [] → front ≡ []) → octets ≡ []
no_strings_by [] front octets rest each e split none first = split ∙ ap (λ r. wire_strings front ++ r) e ∙ append-nil (wire_strings front) ∙ ap wire_strings (first e)
no_strings_by (l ∷ ls) front octets rest each e split none first = absurd (none l (wire_strings ls) (All-head IsItem l ls each) e)

each_later : (front later : List (List ℕ)) → All IsItem (front ++ later) → All IsItem later
each_later [] later h = h
each_later (f ∷ front) later h = each_later front later (All-tail IsItem f (front ++ later) h)

no_strings : (front : List (List ℕ)) (octets rest : List ℕ) → octets ≡ wire_strings front ++ rest → BeginsNoString rest → (rest ≡ [] → front ≡ []) → AreWireStrings octets → octets ≡ []
no_strings front octets rest split none first (strings, each, is) =
    let t = strings_tell front strings rest (sym split ∙ is) in
    let P : List (List ℕ) → Type 0 = λ s. All IsItem s in
    no_strings_by t.0 front octets rest (each_later front t.0 (subst P t.1 each)) t.2 split none first

empty_or_not : (octets : List ℕ) → (AreWireStrings octets → octets ≡ []) → (octets ≡ []) ⊎ (AreWireStrings octets → ⊥)
empty_or_not [] h = inl refl
empty_or_not (x ∷ xs) h = inr (λ s. let e = h s in absurd cc)

-- a fault in octets means that they are not a list, or that its text does not surely fit
pub strings_fault : (room : Room) (old octets : List ℕ) (e : ErrorKind) → IsStringsFault room old octets e → RefusesStrings room octets old e
strings_fault room old octets ListString (front, rest, each, split, none, first) = inr (empty_or_not octets (no_strings front octets rest split none first))
strings_fault room old octets ShortBuf (items, rest, h, split, l) = inl (refl, (list_text items, (items, rest, h, split, refl), l))
strings_fault room old octets other h = absurd h

pub first_text_lacks : (room : Room) (old octets item rest : List ℕ) → IsItem item → octets ≡ length item ∷ item ++ rest → room.fits < length old + length (item_text item) → IsStringsFault room old octets ShortBuf
first_text_lacks room old octets item rest is e l = (
  item ∷ [],
  rest,
  record { some = λ z. absurd cc; each = All-cons IsItem item [] is (All-nil IsItem) },
  e ∙ ap (λ x. x ++ rest) (sym (append-nil (length item ∷ item))),
  (let n = ap length (append-nil (item_text item)) in omega arith),
)

pub later_text_lacks : (room : Room) (old mid octets rest after item : List ℕ) → PrintsList octets rest old mid → IsItem item → rest ≡ length item ∷ item ++ after
    → room.fits < length mid + length (44 ∷ item_text item) → IsStringsFault room old octets ShortBuf
later_text_lacks room old mid octets rest after item p is e l = (
  p.items ++ item ∷ [],
  after,
  longer_list p.items item p.is_list is,
  longer_split octets rest after item p.items p.split e,
  (let n = ap length (pushed_text p.items item p.is_list.some) ∙ length-append (list_text p.items) (44 ∷ item_text item) in
      let m = ap length p.text ∙ length-append old (list_text p.items) in omega arith),
)

-- ---- results

pub on_ok : {T E : Type 0} (r : Result T E) (P Q : Type 0) → (P → Q) → OnOk r P → OnOk r Q
on_ok (Ok x) P Q f h = f h
on_ok (Err e) P Q f h = h

-- a slice that was not appended didn't surely fit
pub on_lack : {T E : Type 0} (r : Result T E) (n fits old : ℕ) (Q : Type 0) → (n ≤ fits - old → IsOk r) → (fits < old + n → Q) → OnErr r Q
on_lack (Ok x) n fits old Q h f = tt
on_lack (Err e) n fits old Q h f = elim (cases_lt fits (old + n)) [
  | inl l ↦ f l
  | inr l ↦ (let ok = h (omega arith) in absurd cc)
]

pub if_err : {T E : Type 0} (r : Result T E) (P Q : E → Type 0) → ((e : E) → P e → Q e) → IfErr r P → IfErr r Q
if_err (Ok x) P Q f h = h
if_err (Err e) P Q f h = f e h

pub octet_room : (fits old : ℕ) (octets whole : List ℕ) → fits < old + length octets → whole ≡ octets → (some : List ℕ) → some ≡ whole → fits < old + length some
octet_room fits old octets whole l e some is = let n = ap length (is ∙ e) in omega arith

-- an octet whose text does not fit leaves no room for the item's
pub item_text_lacks : (fits : ℕ) (old now item : List ℕ) (i : ℕ) → i < length item → now ≡ old ++ item_text (take i item)
    → fits < length now + length (item_octet (get_or item i 0)) → (text : List ℕ) → text ≡ item_text item → fits < length old + length text
item_text_lacks fits old now item i l e h text is =
    let parts = ap length is ∙ ap (λ x. length (item_text x)) (sym (take-append-drop (i + 1) item)) ∙ ap length (flat_map-append item_octet (take (i + 1) item) (drop (i + 1) item))
    ∙ length-append (item_text (take (i + 1) item)) (item_text (drop (i + 1) item)) in
    let front = ap length (text_more item i 0 l) ∙ length-append (item_text (take i item)) (item_octet (get_or item i 0)) in
    let so_far = ap length e ∙ length-append old (item_text (take i item)) in omega arith

pub refused_room : {T E : Type 0} {e : E} (r : Result T E) (n fits old : ℕ) → r ≡ Err e → (n ≤ fits - old → IsOk r) → fits < old + n
refused_room r n fits old is h = elim (cases_lt fits (old + n)) [
  | inl l ↦ l
  | inr l ↦ (let ok = h (omega arith) in absurd cc)
]
