-- A list's text after the escapes of a token are decoded.
use Rattle.std.proofs.Common.{ℕ, ◌≡◌, ◌≢◌, ◌<◌, Bool, true, false, cond, List, [], ◌∷◌, ◌++◌, length, map, refl, sym, subst, ap, ◌∙◌, arith, append_assoc, append-nil, inl, inr}
use Rattle.std.proofs.lemmas.Bool.{ne_eqb}
use Rattle.std.proofs.lemmas.List.Concat.{flat_map-append}
use Rattle.std.proofs.lemmas.List.Elements.{All-nil, All-cons, All-append}
use Rattle.dns_octets.specs.Appending.{Gains}
use Rattle.rdata_tokens.specs.Spelling.{SpellsBeginning}
use Rattle.std.specs.List.{flat_map}
use Rattle.dns_symbol.specs.Symbol.{spell}
use Rattle.dns_symbol.specs.declared.symbol.Symbol.{Symbol}
use Rattle.dns_symbol.specs.Escape.{octet_for}
use Rattle.dns_symbol.proofs.Spelled.{spell_same}
use Rattle.rdata_tokens.proofs.Spellings.{AreSpellings, front_join, spellings_head}
use Rattle.rdata_tokens.proofs.Fronts.{front_length}
use Rattle.rdata_svcb.specs.Texts.{is_special, item_octet, item_text, list_text, wire_strings, IsItem, IsList}
use Rattle.rdata_svcb.proofs.WireItems.{list_push, pushed_some}
use Rattle.rdata_svcb.specs.ListItems.{EndsAtComma}
use Rattle.rdata_svcb.specs.ParamValues.{SpellsStrings}

pub special_octet : (o : ℕ) → is_special o ≡ true → item_octet o ≡ 92 ∷ o ∷ []
unfolding item_octet
special_octet o e = ap (λ b. cond b (92 ∷ o ∷ []) (o ∷ [])) e

pub unspecial_octet : (o : ℕ) → is_special o ≡ false → item_octet o ≡ o ∷ []
unfolding item_octet
unspecial_octet o e = ap (λ b. cond b (92 ∷ o ∷ []) (o ∷ [])) e

pub is_plain : (o : ℕ) → o ≢ 44 → o ≢ 92 → is_special o ≡ false
is_plain o a b = rw (ne_eqb o 44 a, ne_eqb o 92 b) refl

plain_octet : (o : ℕ) → o ≢ 44 → o ≢ 92 → item_octet o ≡ o ∷ []
unfolding item_octet
plain_octet o a b = ap (λ t. cond t (92 ∷ o ∷ []) (o ∷ [])) (is_plain o a b)

-- an octet of an item after a backslash, and one without a backslash
pub escaped_front : (text mid rest : List ℕ) (a o : ℕ) → SpellsBeginning text (a ∷ []) mid → a ≡ 92 → SpellsBeginning mid (o ∷ []) rest → is_special o ≡ true → SpellsBeginning text (item_octet o) rest
escaped_front text mid rest a o h e k s =
    subst (λ octets. SpellsBeginning text octets rest) (ap (λ x. x ∷ o ∷ []) e ∙ sym (special_octet o s)) (front_join text (a ∷ []) mid (o ∷ []) rest h k)

pub plain_front : (text rest : List ℕ) (o : ℕ) → SpellsBeginning text (o ∷ []) rest → o ≢ 44 → o ≢ 92 → SpellsBeginning text (item_octet o) rest
plain_front text rest o h a b = subst (λ octets. SpellsBeginning text octets rest) (sym (plain_octet o a b)) h

pub item_more : (text mid rest item : List ℕ) (o : ℕ) → SpellsBeginning text (item_text item) mid → SpellsBeginning mid (item_octet o) rest → SpellsBeginning text (item_text (item ++ o ∷ [])) rest
item_more text mid rest item o h k =
    subst (λ octets. SpellsBeginning text octets rest) (ap (λ x. item_text item ++ x) (sym (append-nil (item_octet o))) ∙ sym (flat_map-append item_octet item (o ∷ [])))
    (front_join text (item_text item) mid (item_octet o) rest h k)

by_octet : (o : ℕ) (b : Bool) → 0 < length (cond b (92 ∷ o ∷ []) (o ∷ []))
by_octet o true = omega arith
by_octet o false = omega arith

some_octet : (o : ℕ) → 0 < length (item_octet o)
unfolding item_octet
some_octet o = by_octet o (is_special o)

pub item_smaller : (rest after : List ℕ) (o : ℕ) → SpellsBeginning rest (item_octet o) after → length after < length rest
item_smaller rest after o h = omega (arith, some_octet o, front_length rest (item_octet o) after h)

-- the list so far
pub record TakesStrings (text rest old new : List ℕ) : Type 0 where
  pub items : List (List ℕ)
  pub is_list : IsList items
  pub spelled : SpellsBeginning text (list_text items) rest
  pub ends : EndsAtComma rest
  pub gained : new ≡ old ++ wire_strings items

pub strings_first : (text rest old new item : List ℕ) → IsItem item → SpellsBeginning text (item_text item) rest → EndsAtComma rest → new ≡ old ++ (length item ∷ item) → TakesStrings text rest old new
strings_first text rest old new item is h ends e = record {
  items = item ∷ [];
  is_list = record { some = λ z. absurd cc; each = All-cons IsItem item [] is (All-nil IsItem) };
  spelled = subst (λ octets. SpellsBeginning text octets rest) (sym (append-nil (item_text item))) h;
  ends = ends;
  gained = e ∙ ap (λ x. old ++ x) (sym (append-nil (length item ∷ item)));
}

-- a text begins with one octet, spelled in one way
pub one_same : (text r s : List ℕ) (a b : ℕ) (xs ys : List Symbol) → AreSpellings xs → AreSpellings ys → text ≡ flat_map spell xs ++ r → text ≡ flat_map spell ys ++ s
    → a ∷ [] ≡ map octet_for xs → b ∷ [] ≡ map octet_for ys → (a ≡ b) × (r ≡ s)
one_same text r s a b [] ys p q e f i j = absurd cc
one_same text r s a b (x ∷ xs) [] p q e f i j = absurd cc
one_same text r s a b (x ∷ []) (y ∷ []) p q e f i j =
    let same = spell_same x y r s (spellings_head x [] p) (spellings_head y [] q) (sym (append_assoc (spell x) [] r) ∙ sym e ∙ f ∙ append_assoc (spell y) [] s) in
    let first : a ≡ octet_for x = cc in let second : b ≡ octet_for y = cc in
    (first ∙ ap octet_for same.0 ∙ sym second, same.1)
one_same text r s a b (x ∷ z ∷ xs) (y ∷ ys) p q e f i j = absurd cc
one_same text r s a b (x ∷ []) (y ∷ z ∷ ys) p q e f i j = absurd cc

-- a text that is at its end or spells a comma, and spells an octet, spells a comma
pub comma_is : (rest tail : List ℕ) (o : ℕ) → EndsAtComma rest → 0 < length rest → SpellsBeginning rest (o ∷ []) tail → o ≡ 44
comma_is rest tail o (inl e) some h = absurd (omega (arith, some, ap length e))
comma_is rest tail o (inr k) some h = (one_same rest tail k.0 o 44 h.symbols k.1.symbols h.each k.1.each h.whole k.1.whole h.octets_are k.1.octets_are).0

pub strings_more : (text rest tail after old mid new item : List ℕ) (o : ℕ) → TakesStrings text rest old mid → 0 < length rest → SpellsBeginning rest (o ∷ []) tail → IsItem item
    → SpellsBeginning tail (item_text item) after → EndsAtComma after → new ≡ mid ++ (length item ∷ item) → TakesStrings text after old new
strings_more text rest tail after old mid new item o h some comma is k ends n = record {
  items = h.items ++ item ∷ [];
  is_list = record { some = pushed_some h.items item; each = All-append IsItem h.items (item ∷ []) h.is_list.each (All-cons IsItem item [] is (All-nil IsItem)) };
  spelled =
      let is_comma = comma_is rest tail o h.ends some comma in
      let behind = front_join rest (o ∷ []) tail (item_text item) after comma k in
      let pushed = sym (append-nil (list_text (h.items ++ item ∷ []))) ∙ list_push h.items item [] h.is_list.some ∙ ap (λ x. list_text h.items ++ (44 ∷ x)) (append-nil (item_text item)) in
      subst (λ octets. SpellsBeginning text octets after) (ap (λ c. list_text h.items ++ (c ∷ item_text item)) is_comma ∙ sym pushed)
      (front_join text (list_text h.items) rest (o ∷ item_text item) after h.spelled behind);
  ends = ends;
  gained = n ∙ ap (λ x. x ++ (length item ∷ item)) h.gained ∙ append_assoc old (wire_strings h.items) (length item ∷ item)
      ∙ ap (λ x. old ++ (wire_strings h.items ++ x)) (sym (append-nil (length item ∷ item))) ∙ ap (λ x. old ++ x) (sym (flat_map-append (λ i. length i ∷ i) h.items (item ∷ [])));
}

pub strings_all : (text rest old new : List ℕ) → TakesStrings text rest old new → rest ≡ [] → Gains (SpellsStrings text) old new
strings_all text rest old new h e =
    (wire_strings h.items, record { list = list_text h.items; spelled = subst (λ r. SpellsBeginning text (list_text h.items) r) e h.spelled; items = h.items; is_list = h.is_list; listed = refl; whole = refl }, h.gained)
