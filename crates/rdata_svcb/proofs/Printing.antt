-- Strings that are printed as a list, one by one.
use Rattle.std.proofs.Common.{◌≡◌, ◌≢◌, ℕ, ◌+◌, ◌<◌, true, false, cond, List, [], ◌∷◌, ◌++◌, length, take, get_or, refl, sym, ap, ◌∙◌, arith, append_assoc, append-nil}
use Rattle.std.proofs.lemmas.List.{take_more}
use Rattle.std.proofs.lemmas.List.Concat.{flat_map-append}
use Rattle.std.proofs.lemmas.List.Elements.{All-cons, All-append}
use Rattle.dns_octets.specs.Appending.{Gains}
use Rattle.rdata_svcb.specs.Texts.{is_special, item_octet, item_text, list_text, wire_strings, IsItem, IsList, HasListText}
use Rattle.rdata_svcb.proofs.WireItems.{list_push, pushed_some}

pub escaped_special : (o : ℕ) → is_special o ≡ true → item_octet o ≡ 92 ∷ o ∷ []
unfolding item_octet
escaped_special o e = ap (λ b. cond b (92 ∷ o ∷ []) (o ∷ [])) e

pub escaped_plain : (o : ℕ) → is_special o ≡ false → item_octet o ≡ o ∷ []
unfolding item_octet
escaped_plain o e = ap (λ b. cond b (92 ∷ o ∷ []) (o ∷ [])) e

pub text_more : (item : List ℕ) (i d : ℕ) → i < length item → item_text (take (i + 1) item) ≡ item_text (take i item) ++ item_octet (get_or item i d)
text_more item i d l = ap item_text (take_more item i d l) ∙ flat_map-append item_octet (take i item) (get_or item i d ∷ []) ∙ ap (λ x. item_text (take i item) ++ x) (append-nil (item_octet (get_or item i d)))

-- the text so far
pub record PrintsList (octets rest old new : List ℕ) : Type 0 where
  pub items : List (List ℕ)
  pub is_list : IsList items
  pub split : octets ≡ wire_strings items ++ rest
  pub text : new ≡ old ++ list_text items

pub prints_first : (octets rest old new item : List ℕ) → IsItem item → octets ≡ length item ∷ item ++ rest → new ≡ old ++ item_text item → PrintsList octets rest old new
prints_first octets rest old new item is e n = record {
  items = item ∷ [];
  is_list = record { some = λ z. absurd cc; each = All-cons IsItem item [] is (λ k d l. absurd (omega arith)) };
  split = e ∙ ap (λ x. x ++ rest) (sym (append-nil (length item ∷ item)));
  text = n ∙ ap (λ x. old ++ x) (sym (append-nil (item_text item)));
}

pub pushed_text : (items : List (List ℕ)) (item : List ℕ) → items ≢ [] → list_text (items ++ item ∷ []) ≡ list_text items ++ (44 ∷ item_text item)
pushed_text items item some =
    sym (append-nil (list_text (items ++ item ∷ []))) ∙ list_push items item [] some ∙ ap (λ x. list_text items ++ (44 ∷ x)) (append-nil (item_text item))

pushed_strings : (items : List (List ℕ)) (item : List ℕ) → wire_strings (items ++ item ∷ []) ≡ wire_strings items ++ (length item ∷ item)
pushed_strings items item = flat_map-append (λ i. length i ∷ i) items (item ∷ []) ∙ ap (λ x. wire_strings items ++ x) (append-nil (length item ∷ item))

pub longer_list : (items : List (List ℕ)) (item : List ℕ) → IsList items → IsItem item → IsList (items ++ item ∷ [])
longer_list items item h is = record { some = pushed_some items item; each = All-append IsItem items (item ∷ []) h.each (All-cons IsItem item [] is (λ k d l. absurd (omega arith))) }

pub longer_split : (octets rest after item : List ℕ) (items : List (List ℕ)) → octets ≡ wire_strings items ++ rest → rest ≡ length item ∷ item ++ after
    → octets ≡ wire_strings (items ++ item ∷ []) ++ after
longer_split octets rest after item items split e =
    split ∙ ap (λ r. wire_strings items ++ r) e ∙ sym (append_assoc (wire_strings items) (length item ∷ item) after) ∙ ap (λ x. x ++ after) (sym (pushed_strings items item))

pub prints_more : (octets rest after old mid new item : List ℕ) → PrintsList octets rest old mid → IsItem item → rest ≡ length item ∷ item ++ after
    → new ≡ mid ++ (44 ∷ item_text item) → PrintsList octets after old new
prints_more octets rest after old mid new item h is e n = record {
  items = h.items ++ item ∷ [];
  is_list = longer_list h.items item h.is_list is;
  split = longer_split octets rest after item h.items h.split e;
  text = n ∙ ap (λ x. x ++ (44 ∷ item_text item)) h.text ∙ append_assoc old (list_text h.items) (44 ∷ item_text item) ∙ ap (λ x. old ++ x) (sym (pushed_text h.items item h.is_list.some));
}

-- all of the octets are read
pub text_whole : (octets rest old new : List ℕ) → PrintsList octets rest old new → length rest ≡ 0 → Gains (HasListText octets) old new
text_whole octets [] old new h none = (list_text h.items, (h.items, h.is_list, h.split ∙ append-nil (wire_strings h.items), refl), h.text)
text_whole octets (x ∷ rest) old new h none = absurd (omega (arith, none))
