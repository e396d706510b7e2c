-- Texts that spell no list of strings.
use Rattle.std.proofs.Common.{ℕ, ◌≡◌, ◌≢◌, ◌<◌, ◌≤◌, ◌-◌, Bool, true, false, List, [], ◌∷◌, ◌++◌, length, map, refl, sym, subst, ap, ◌∙◌, arith, append_assoc, append-nil, inl, inr}
use Rattle.std.specs.Prelude.{All}
use Rattle.std.proofs.lemmas.Bool.{both_ways}
use Rattle.std.proofs.lemmas.List.{length-append}
use Rattle.std.proofs.lemmas.List.Concat.{flat_map-append}
use Rattle.std.proofs.lemmas.List.Elements.{All-head, All-nil, All-tail}
use Rattle.dns_octets.specs.Appending.{ExceedsRoom}
use Rattle.dns_octets.specs.Room.{Room}
use Rattle.rdata_tokens.specs.Spelling.{SpellsBeginning, SpellsOctetList, BeginsBadEscape}
use Rattle.std.specs.List.{flat_map}
use Rattle.dns_symbol.specs.Symbol.{spell}
use Rattle.dns_symbol.specs.declared.symbol.Symbol.{Symbol}
use Rattle.dns_symbol.specs.Escape.{octet_for}
use Rattle.rdata_tokens.proofs.Spellings.{AreSpellings, spellings_head, goes_on, none_spelled, front_join, front_none, spelled_once}
use Rattle.rdata_svcb.specs.Texts.{is_special, item_octet, item_text, leading_items_text, list_text, later_text, wire_strings, IsItem, IsList, EndsItem}
use Rattle.rdata_svcb.proofs.WireItems.{one_item, ends_empty, ends_comma, later_ends, same_first}
use Rattle.rdata_values.specs.declared.error.ErrorKind.{ErrorKind}
use Rattle.rdata_svcb.specs.ListItems.{BeginsStrings, EndsAtComma, BeginsUnspecial, BeginsBadItem, ContinuesToItem, BeginsItem, BeginsNoItem, EachList, RefusesItem, SpellsFirstItem, SpellsOneItem, StringsReason}
use Rattle.rdata_svcb.specs.ParamValues.{SpellsStrings}
use Rattle.rdata_svcb.specs.ParamRefusals.{RefusesSpelled}
use Rattle.rdata_svcb.proofs.ListFaults.{front_is}
use Rattle.rdata_svcb.proofs.ListTexts.{TakesStrings, special_octet, strings_first, strings_more, unspecial_octet}

-- a text with a bad escape spells no list
pub none_listed : (text : List ℕ) (P : List ℕ → Type 0) → BeginsBadEscape text → EachList text P
none_listed text P bad list h = absurd (none_spelled text [] text list (front_none text) bad h)

pub empty_unspecial : (text : List ℕ) → text ≡ [] → EachList text BeginsUnspecial
empty_unspecial text e list h o more s is =
    let nil : SpellsOctetList text [] = subst (λ r. SpellsBeginning text [] r) e (front_none text) in
    let same : [] ≡ o ∷ more = sym (spelled_once text list [] h nil) ∙ is in absurd cc

pub other_unspecial : (text rest : List ℕ) (a : ℕ) → SpellsBeginning text (a ∷ []) rest → is_special a ≡ false → EachList text BeginsUnspecial
other_unspecial text rest a front plain list h o more s is =
    let on = goes_on text (a ∷ []) rest list front h in
    let same : a ∷ on.0 ≡ o ∷ more = sym on.2 ∙ is in
    let first : a ≡ o = cc in both_ways (is_special a) plain (ap is_special first ∙ s)

pub behind_bad : (text rest : List ℕ) (a : ℕ) → SpellsBeginning text (a ∷ []) rest → a ≡ 92 → EachList rest BeginsUnspecial → EachList text BeginsBadItem
behind_bad text rest a front e bad list h =
    let on = goes_on text (a ∷ []) rest list front h in (on.0, on.2 ∙ ap (λ x. x ∷ on.0) e, bad on.0 on.1)

octet_by : (b : Bool) (o : ℕ) (rest more : List ℕ) → is_special o ≡ b → BeginsUnspecial rest → 92 ∷ rest ≡ item_octet o ++ more → ⊥
octet_by true o rest more s bad e = bad o more s (let j : 92 ∷ rest ≡ 92 ∷ o ∷ more = e ∙ ap (λ x. x ++ more) (special_octet o s) in cc)
octet_by false o rest more s bad e =
    let j : 92 ∷ rest ≡ o ∷ more = e ∙ ap (λ x. x ++ more) (unspecial_octet o s) in let is : 92 ≡ o = cc in both_ways (is_special o) s (ap is_special (sym is))

bad_ends : (list : List ℕ) → BeginsBadItem list → EndsItem list
bad_ends list bad o more e = octet_by (is_special o) o bad.0 more refl bad.2 (sym bad.1 ∙ e)

item_ends : (rest : List ℕ) → ContinuesToItem rest → EndsItem rest
item_ends rest (inl e) = ends_empty rest e
item_ends rest (inr m) = subst EndsItem (sym m.1) (ends_comma m.0)

heads : (a b : ℕ) (xs ys : List ℕ) → a ∷ xs ≡ b ∷ ys → a ≡ b
heads a b xs ys e = cc

bad_is_no_end : (list : List ℕ) → BeginsBadItem list → ContinuesToItem list → ⊥
bad_is_no_end list bad (inl e) = let j : 92 ∷ bad.0 ≡ [] = sym bad.1 ∙ e in absurd cc
bad_is_no_end list bad (inr m) = absurd (omega (arith, heads 92 44 bad.0 m.0 (sym bad.1 ∙ m.1)))

-- a wrong escape after the beginning of an item
pub no_item_bad : (text rest front : List ℕ) → SpellsBeginning text (item_text front) rest → EachList rest BeginsBadItem → EachList text BeginsNoItem
no_item_bad text rest front h bad list s item after b =
    let on = goes_on text (item_text front) rest list h s in
    let wrong = bad on.0 on.1 in
    let same = one_item front item on.0 after (sym on.2 ∙ b.2) (bad_ends on.0 wrong) (item_ends after b.1) in
    bad_is_no_end on.0 wrong (subst ContinuesToItem (sym same.1) b.1)

longer : (a b x y : List ℕ) → EndsItem y → item_text a ++ x ≡ item_text b ++ y → length a ≤ length b
longer [] b x y ends e = omega arith
longer (o ∷ a) [] x y ends e = absurd (ends o (item_text a ++ x) (sym e ∙ append_assoc (item_octet o) (item_text a) x))
longer (o ∷ a) (p ∷ b) x y ends e =
    let rest = same_first o p (item_text a ++ x) (item_text b ++ y) (sym (append_assoc (item_octet o) (item_text a) x) ∙ e ∙ append_assoc (item_octet p) (item_text b) y) in
    omega (arith, longer a b x y ends rest.1)

-- too many octets
pub no_item_long : (text rest after front : List ℕ) (o : ℕ) → SpellsBeginning text (item_text front) rest → SpellsBeginning rest (item_octet o) after → length front ≡ 255 → EachList text BeginsNoItem
no_item_long text rest after front o h k long list s item more b =
    let on = goes_on text (item_text front) rest list h s in
    let next = goes_on rest (item_octet o) after on.0 k on.1 in
    let whole : item_text (front ++ o ∷ []) ++ next.0 ≡ item_text item ++ more =
    ap (λ x. x ++ next.0) (flat_map-append item_octet front (o ∷ []) ∙ ap (λ x. item_text front ++ x) (append-nil (item_octet o)))
    ∙ append_assoc (item_text front) (item_octet o) next.0 ∙ ap (λ x. item_text front ++ x) (sym next.2) ∙ sym on.2 ∙ b.2 in
    omega (arith, longer (front ++ o ∷ []) item next.0 more (item_ends more b.1) whole, length-append front (o ∷ []), long, b.0.1)

-- what a text at a comma or its end spells
pub list_ends : (text : List ℕ) → EndsAtComma text → EachList text ContinuesToItem
list_ends text (inl e) list h = inl (spelled_once text list [] h (subst (λ r. SpellsBeginning text [] r) e (front_none text)))
list_ends text (inr k) list h = let on = goes_on text (44 ∷ []) k.0 list k.1 h in inr (on.0, on.2)

-- no octets
pub no_item_empty : (text rest front : List ℕ) → SpellsBeginning text (item_text front) rest → EndsAtComma rest → length front ≡ 0 → EachList text BeginsNoItem
no_item_empty text rest [] h ends none list s item more b =
    let on = goes_on text [] rest list h s in
    let same = one_item [] item on.0 more (sym on.2 ∙ b.2) (item_ends on.0 (list_ends rest ends on.0 on.1)) (item_ends more b.1) in
    omega (arith, b.0.0, ap length same.0)
no_item_empty text rest (o ∷ front) h ends none list s item more b = absurd (omega (arith, none))

-- no room for its length, or for its octets
pub length_exceeds : (room : Room) (text rest front old : List ℕ) → SpellsFirstItem text front rest → (1 ≤ room.fits - length old → ⊥) → ExceedsRoom room (SpellsOneItem text) old
length_exceeds room text rest front old h full = (length front ∷ front, (front, rest, h, refl), omega (arith, full))

pub octets_exceed : (room : Room) (text rest front old mid : List ℕ) → SpellsFirstItem text front rest → mid ≡ old ++ length front ∷ [] → (length front ≤ room.fits - length mid → ⊥) → ExceedsRoom room (SpellsOneItem text) old
octets_exceed room text rest front old mid h e full = (length front ∷ front, (front, rest, h, refl), omega (arith, full, ap length e, length-append old (length front ∷ [])))

later_goes : (items : List (List ℕ)) → ContinuesToItem (later_text items)
later_goes [] = inl refl
later_goes (i ∷ is) = inr (item_text i ++ later_text is, refl)

-- the first item is rejected
pub first_refused : (room : Room) (text old : List ℕ) (e : ErrorKind) → RefusesItem room text old e → RefusesSpelled (ExceedsRoom room (BeginsStrings text) old) (SpellsStrings text) (StringsReason text) e
first_refused room text old e (inl (short, (octets, (item, rest, first, is), over))) = inl (
  short,
  (let t = strings_first text rest old (old ++ (length item ∷ item)) item first.0 first.1 first.2 refl in
      (wire_strings t.items, (t.items, rest, t.is_list, t.spelled, t.ends, refl), omega (arith, over, ap length is, ap length t.gained, length-append old (length item ∷ item), length-append old (wire_strings t.items)))),
)
first_refused room text old e (inr none) = inr (([], text, All-nil IsItem, front_none text, none.0), λ octets h. by octets h.list h.items h.spelled h.is_list h.listed)
  where
    by : (octets list : List ℕ) (items : List (List ℕ)) → SpellsOctetList text list → IsList items → list_text items ≡ list → ⊥
    by octets list [] s is l = is.some refl
    by octets list (i ∷ items) s is l = none.1 list s i (later_text items) (All-head IsItem i items is.each, later_goes items, sym l)

tail : (a : ℕ) (xs ys : List ℕ) → a ∷ xs ≡ a ∷ ys → xs ≡ ys
tail a xs ys e = cc

front_ends : (items : List (List ℕ)) (more : List ℕ) → EndsItem (later_text items ++ 44 ∷ more)
front_ends [] more = ends_comma more
front_ends (i ∷ items) more = ends_comma ((item_text i ++ later_text items) ++ 44 ∷ more)

-- one more item follows items after commas
later_on : (items all : List (List ℕ)) (more : List ℕ) → later_text items ++ 44 ∷ more ≡ later_text all → All IsItem all
    → (j : List ℕ) × (js : List (List ℕ)) × (all ≡ items ++ j ∷ js) × IsItem j × (more ≡ item_text j ++ later_text js)
later_on [] [] more e k = absurd cc
later_on [] (j ∷ js) more e k = (j, js, refl, All-head IsItem j js k, tail 44 more (item_text j ++ later_text js) e)
later_on (i ∷ items) [] more e k = absurd cc
later_on (i ∷ items) (u ∷ all) more e k =
    let inner = sym (append_assoc (item_text i) (later_text items) (44 ∷ more)) ∙ tail 44 ((item_text i ++ later_text items) ++ 44 ∷ more) (item_text u ++ later_text all) e in
    let one = one_item i u (later_text items ++ 44 ∷ more) (later_text all) inner (front_ends items more) (later_ends all) in
    let rest = later_on items all more one.1 (All-tail IsItem u all k) in
    (rest.0, rest.1, ap (λ z. z ∷ all) (sym one.0) ∙ ap (λ zs. i ∷ zs) rest.2, rest.3, rest.4)

pub list_on : (items all : List (List ℕ)) (more : List ℕ) → items ≢ [] → list_text items ++ 44 ∷ more ≡ list_text all → IsList all
    → (j : List ℕ) × (js : List (List ℕ)) × (all ≡ items ++ j ∷ js) × IsItem j × (more ≡ item_text j ++ later_text js)
list_on [] all more some e k = absurd (some refl)
list_on (i ∷ items) [] more some e k = absurd (k.some refl)
list_on (i ∷ items) (u ∷ all) more some e k =
    let inner = sym (append_assoc (item_text i) (later_text items) (44 ∷ more)) ∙ e in
    let one = one_item i u (later_text items ++ 44 ∷ more) (later_text all) inner (front_ends items more) (later_ends all) in
    let rest = later_on items all more one.1 (All-tail IsItem u all k.each) in
    (rest.0, rest.1, ap (λ z. z ∷ all) (sym one.0) ∙ ap (λ zs. i ∷ zs) rest.2, rest.3, rest.4)

-- an item follows the comma in the list that a text spells
strings_on : (text rest tail_text old mid octets : List ℕ) (h : TakesStrings text rest old mid) → SpellsBeginning rest (44 ∷ []) tail_text → (s : SpellsStrings text octets)
    → (j : List ℕ) × (js : List (List ℕ)) × (s.items ≡ h.items ++ j ∷ js) × ((more : List ℕ) × SpellsOctetList tail_text more × BeginsItem more j (later_text js))
strings_on text rest tail_text old mid octets h comma s =
    let on = goes_on text (list_text h.items) rest s.list h.spelled s.spelled in
    let next = goes_on rest (44 ∷ []) tail_text on.0 comma on.1 in
    let found = list_on h.items s.items next.0 h.is_list.some (ap (λ x. list_text h.items ++ x) (sym next.2) ∙ sym on.2 ∙ sym s.listed) s.is_list in
    (found.0, found.1, found.2, (next.0, next.1, (found.3, later_goes found.1, found.4)))

-- items and a comma
commas_front : (text rest after old mid : List ℕ) (h : TakesStrings text rest old mid) → SpellsBeginning rest (44 ∷ []) after → SpellsBeginning text (leading_items_text h.items) after
commas_front text rest after old mid h comma =
    subst (λ octets. SpellsBeginning text octets after) (sym (front_is h.items [] h.is_list.some) ∙ append-nil (leading_items_text h.items)) (front_join text (list_text h.items) rest (44 ∷ []) after h.spelled comma)

-- a later item is rejected
pub later_refused : (room : Room) (text rest after old mid : List ℕ) (o : ℕ) (e : ErrorKind) → TakesStrings text rest old mid → 0 < length rest → SpellsBeginning rest (o ∷ []) after → o ≡ 44 → RefusesItem room after mid e
    → RefusesSpelled (ExceedsRoom room (BeginsStrings text) old) (SpellsStrings text) (StringsReason text) e
later_refused room text rest after old mid o e h some comma is (inl (short, (octets, (item, behind, first, one), over))) = inl (
  short,
  (let t = strings_more text rest after behind old mid (mid ++ (length item ∷ item)) item o h some comma first.0 first.1 first.2 refl in
      (wire_strings t.items, (t.items, behind, t.is_list, t.spelled, t.ends, refl), omega (arith, over, ap length one, ap length t.gained, length-append mid (length item ∷ item), length-append old (wire_strings t.items)))),
)
later_refused room text rest after old mid o e h some comma is (inr none) =
    let front = subst (λ c. SpellsBeginning rest (c ∷ []) after) is comma in
    inr ((h.items, after, h.is_list.each, commas_front text rest after old mid h front, none.0), λ octets s. (let on = strings_on text rest after old mid octets h front s in none.1 on.3.0 on.3.1 on.0 (later_text on.1) on.3.2))

-- the comma itself is always read
pub comma_refused : (rest : List ℕ) → EndsAtComma rest → 0 < length rest → BeginsBadEscape rest → ⊥
comma_refused rest (inl e) some bad = omega (arith, some, ap length e)
comma_refused rest (inr k) some bad = no_symbol k.1.symbols k.1.each k.1.whole k.1.octets_are
  where
    no_symbol : (symbols : List Symbol) → AreSpellings symbols → rest ≡ flat_map spell symbols ++ k.0 → 44 ∷ [] ≡ map octet_for symbols → ⊥
    no_symbol [] each w o = absurd cc
    no_symbol (s ∷ ss) each w o = bad.none s (flat_map spell ss ++ k.0) (spellings_head s ss each) (w ∙ append_assoc (spell s) (flat_map spell ss) k.0)
