-- A list of strings in presentation format, after a character string is unescaped (RFC 9460 appendix A.1).
use Rattle.std.specs.Prelude.{◌≡◌, ◌≢◌, ℕ, ◌<◌, ◌==◌, ◌||◌, Bool, cond, List, [], ◌∷◌, ◌++◌, length, All}
use Rattle.std.specs.List.{flat_map}

-- a backslash escapes a comma and a backslash
abbrev pub is_special : ℕ → Bool
is_special octet = (octet == 44) || (octet == 92)

unfoldable pub item_octet : ℕ → List ℕ
item_octet octet = cond (is_special octet) (92 ∷ octet ∷ []) (octet ∷ [])

abbrev pub item_text : List ℕ → List ℕ
item_text item = flat_map item_octet item

-- each item after a comma
abbrev pub later_text : List (List ℕ) → List ℕ
later_text items = flat_map (λ item. 44 ∷ item_text item) items

-- the first item, and each other one after a comma
abbrev pub list_text : List (List ℕ) → List ℕ
list_text [] = []
list_text (item ∷ items) = item_text item ++ later_text items

-- each string after its length
abbrev pub wire_strings : List (List ℕ) → List ℕ
wire_strings items = flat_map (λ item. length item ∷ item) items

abbrev pub IsItem : List ℕ → Type 0
IsItem item = (0 < length item) × (length item < 256)

-- one string or more, each of 1 to 255 octets
pub record IsList (items : List (List ℕ)) : Type 0 where
  pub some : items ≢ []
  pub each : All IsItem items

-- the text does not begin with an octet of an item
abbrev pub EndsItem : List ℕ → Type 0
EndsItem rest = (octet : ℕ) (more : List ℕ) → rest ≢ item_octet octet ++ more

-- the text is that of an item, and then the rest
abbrev pub SplitsItem : List ℕ → List ℕ → List ℕ → Type 0
SplitsItem text item rest = (text ≡ item_text item ++ rest) × EndsItem rest

abbrev pub BeginsWithListItem : List ℕ → List ℕ → Type 0
BeginsWithListItem text item = (rest : List ℕ) × SplitsItem text item rest

-- the text is that of a list, and the octets are the wire format of the list
abbrev pub SpellsList : List ℕ → List ℕ → Type 0
SpellsList text octets = (items : List (List ℕ)) × IsList items × (list_text items ≡ text) × (octets ≡ wire_strings items)

-- the octets are the wire format of a list, and the text is that of the list
abbrev pub HasListText : List ℕ → List ℕ → Type 0
HasListText octets text = (items : List (List ℕ)) × IsList items × (octets ≡ wire_strings items) × (text ≡ list_text items)

-- the octets begin with no string after its length
abbrev pub BeginsNoString : List ℕ → Type 0
BeginsNoString octets = (item rest : List ℕ) → IsItem item → octets ≢ length item ∷ item ++ rest

-- items, each before a comma
abbrev pub leading_items_text : List (List ℕ) → List ℕ
leading_items_text items = flat_map (λ item. item_text item ++ 44 ∷ []) items
