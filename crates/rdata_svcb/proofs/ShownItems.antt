-- Items of values as they print.
use Rattle.std.proofs.Common.{ℕ, zero, suc, ◌≡◌, ◌<◌, ◌≤◌, ◌+◌, ◌-◌, List, [], ◌∷◌, ◌++◌, length, map, take, drop, get_or, refl, sym, ap, ◌∙◌, arith, append_assoc, append-nil}
use Rattle.std.specs.Prelude.{All, encode_utf8_all}
use Rattle.std.proofs.lemmas.Str.{encodes-IsAscii}
use Rattle.std.proofs.lemmas.List.{take_more, length-drop, take_all}
use Rattle.std.proofs.lemmas.List.Concat.{flat_map-append}
use Rattle.dns_symbol.specs.Printed.{text_of, is_unquoted_escape, symbol_of}
use Rattle.dns_symbol.specs.Symbol.{spell}
use Rattle.dns_symbol.proofs.PrintedForms.{printed_ascii}
use Rattle.rdata_svcb.specs.Texts.{item_text, item_octet}
use Rattle.rdata_svcb.specs.declared.keys.ValueKind.{ValueKind}
use Rattle.rdata_svcb.specs.declared.keys.ValueKind.TheVariants.{Keys, Strings, Nothing, Port, Ipv4, Digits, Ipv6, Octets}
use Rattle.rdata_svcb.specs.ShownParams.{item_width, first_items, value_items, value_item_text, after_commas, between_commas}

pub unquoted_bytes : (shown octets : List ℕ) → shown ≡ octets → All (λ o. o < 256) octets → encode_utf8_all (text_of is_unquoted_escape shown) ≡ text_of is_unquoted_escape octets
unquoted_bytes shown octets e h = ap (λ o. encode_utf8_all (text_of is_unquoted_escape o)) e ∙ encodes-IsAscii (text_of is_unquoted_escape octets) (printed_ascii is_unquoted_escape octets h)

one_symbol : ℕ → List ℕ
one_symbol o = spell (symbol_of is_unquoted_escape o)

pub string_more : (string : List ℕ) (i d : ℕ) → i < length string
    → text_of is_unquoted_escape (item_text (take (i + 1) string)) ≡ text_of is_unquoted_escape (item_text (take i string)) ++ text_of is_unquoted_escape (item_octet (get_or string i d))
string_more string i d here =
    ap (λ s. text_of is_unquoted_escape (item_text s)) (take_more string i d here)
    ∙ ap (text_of is_unquoted_escape) (flat_map-append item_octet (take i string) (get_or string i d ∷ []) ∙ ap (λ x. item_text (take i string) ++ x) (append-nil (item_octet (get_or string i d))))
    ∙ flat_map-append (λ o. spell (symbol_of is_unquoted_escape o)) (item_text (take i string)) (item_octet (get_or string i d))

pub some_width : (kind : ValueKind) (octets : List ℕ) → 0 < item_width kind octets
some_width Keys octets = omega arith
some_width Strings octets = omega arith
some_width Nothing octets = omega arith
some_width Port octets = omega arith
some_width Ipv4 octets = omega arith
some_width Digits octets = omega arith
some_width Ipv6 octets = omega arith
some_width Octets octets = omega arith

-- a count that is great enough makes no difference
same_fronts : (kind : ValueKind) (n m : ℕ) (octets : List ℕ) → length octets ≤ n → length octets ≤ m → first_items kind n octets ≡ first_items kind m octets
same_fronts kind zero zero octets p q = refl
same_fronts kind zero (suc m) [] p q = refl
same_fronts kind (suc n) zero [] p q = refl
same_fronts kind zero (suc m) (x ∷ octets) p q = absurd (omega (arith, p))
same_fronts kind (suc n) zero (x ∷ octets) p q = absurd (omega (arith, q))
same_fronts kind (suc n) (suc m) [] p q = refl
same_fronts kind (suc n) (suc m) (x ∷ octets) p q =
    let w = item_width kind (x ∷ octets) in let some = some_width kind (x ∷ octets) in let size = length-drop w (x ∷ octets) in
    ap (λ items. take w (x ∷ octets) ∷ items) (same_fronts kind n m (drop w (x ∷ octets)) (omega (arith, p, some, size)) (omega (arith, q, some, size)))

pub items_first : (kind : ValueKind) (octets : List ℕ) (w : ℕ) → 0 < length octets → w ≡ item_width kind octets → value_items kind octets ≡ take w octets ∷ value_items kind (drop w octets)
unfolding value_items
items_first kind [] w some e = absurd (omega (arith, some))
items_first kind (x ∷ octets) w some e =
    let wide = some_width kind (x ∷ octets) in let size = length-drop (item_width kind (x ∷ octets)) (x ∷ octets) in
    ap (λ items. take (item_width kind (x ∷ octets)) (x ∷ octets) ∷ items)
    (same_fronts kind (length octets) (length (drop (item_width kind (x ∷ octets)) (x ∷ octets))) (drop (item_width kind (x ∷ octets)) (x ∷ octets)) (omega (arith, wide, size)) (omega arith))
    ∙ ap (λ v. take v (x ∷ octets) ∷ first_items kind (length (drop v (x ∷ octets))) (drop v (x ∷ octets))) (sym e)

pub items_none : (kind : ValueKind) (octets : List ℕ) → octets ≡ [] → value_items kind octets ≡ []
unfolding value_items
items_none kind octets e = ap (value_items kind) e

pub no_octets : (octets : List ℕ) → length octets ≡ 0 → octets ≡ []
no_octets [] e = refl
no_octets (x ∷ octets) e = absurd (omega (arith, e))

-- what is still to be printed, after a comma or not
abbrev pub later_items : List ℕ → List (List ℕ) → List ℕ
later_items comma [] = []
later_items comma (text ∷ texts) = comma ++ (text ++ after_commas texts)

pub from_begin : (texts : List (List ℕ)) → later_items [] texts ≡ between_commas texts
from_begin [] = refl
from_begin (t ∷ ts) = refl

with_comma : (texts : List (List ℕ)) → later_items (44 ∷ []) texts ≡ after_commas texts
with_comma [] = refl
with_comma (t ∷ ts) = refl

pub next_item : (kind : ValueKind) (rest done whole comma item : List ℕ) (w : ℕ) → 0 < length rest → w ≡ item_width kind rest → item ≡ take w rest
    → done ++ later_items comma (map (value_item_text kind) (value_items kind rest)) ≡ whole
    → (done ++ (comma ++ value_item_text kind item)) ++ later_items (44 ∷ []) (map (value_item_text kind) (value_items kind (take (length rest - w) (drop w rest)))) ≡ whole
next_item kind rest done whole comma item w some e is h =
    let texts = map (value_item_text kind) (value_items kind (drop w rest)) in
    ap (λ r. (done ++ (comma ++ value_item_text kind item)) ++ later_items (44 ∷ []) (map (value_item_text kind) (value_items kind r))) (take_all (length rest - w) (drop w rest) (omega (arith, length-drop w rest)))
    ∙ ap (λ x. (done ++ (comma ++ value_item_text kind item)) ++ x) (with_comma texts)
    ∙ append_assoc done (comma ++ value_item_text kind item) (after_commas texts)
    ∙ ap (λ x. done ++ x) (append_assoc comma (value_item_text kind item) (after_commas texts))
    ∙ ap (λ i. done ++ (comma ++ (value_item_text kind i ++ after_commas texts))) is
    ∙ ap (λ items. done ++ later_items comma (map (value_item_text kind) items)) (sym (items_first kind rest w some e))
    ∙ h

pub last_item : (kind : ValueKind) (rest done whole comma : List ℕ) → rest ≡ [] → done ++ later_items comma (map (value_item_text kind) (value_items kind rest)) ≡ whole → done ≡ whole
last_item kind rest done whole comma e h =
    sym (append-nil done) ∙ ap (λ items. done ++ later_items comma (map (value_item_text kind) items)) (sym (items_none kind rest e)) ∙ h
