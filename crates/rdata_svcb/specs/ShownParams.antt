-- Service parameters as they print (RFC 9460 section 2.1), one word each.
use Rattle.std.specs.Prelude.{ℕ, zero, suc, ◌+◌, ◌==◌, if◌then◌else◌, Bool, true, false, List, [], ◌∷◌, ◌++◌, length, map, take, drop, slice_index, codes, decimal}
use Rattle.std.specs.Int.{w16, from_be_bytes}
use Rattle.std.specs.List.{flat_map}
use Rattle.std.specs.Net.Text.{ipv4_text}
use Rattle.std.specs.Net.Addr.{segments_of}
use Rattle.rdata_values.specs.Addresses.{shown_ipv6}
use Rattle.dns_codec.specs.Base.{base64, encoded}
use Rattle.dns_symbol.specs.Printed.{text_of, is_unquoted_escape}
use Rattle.rdata_svcb.specs.Texts.{item_text}
use Rattle.rdata_svcb.specs.declared.keys.ValueKind.{ValueKind}
use Rattle.rdata_svcb.specs.declared.keys.ValueKind.TheVariants.{Keys, Strings, Nothing, Port, Ipv4, Digits, Ipv6, Octets}
use Rattle.rdata_svcb.specs.declared.shown.KeyText.{KeyText}
use Rattle.rdata_svcb.specs.declared.shown.ParamText.{ParamText}

-- a key by its name, or by its number
abbrev pub key_text : ℕ → List ℕ
key_text key =
    if key == 0 then codes "mandatory" else (if key == 1 then codes "alpn" else (if key == 2 then codes "no-default-alpn" else (if key == 3 then codes "port"
    else (if key == 4 then codes "ipv4hint" else (if key == 5 then codes "ech" else (if key == 6 then codes "ipv6hint" else codes "key" ++ decimal key))))))

-- the form in which its value prints
abbrev pub shown_kind : ℕ → ValueKind
shown_kind key =
    if key == 0 then Keys else (if key == 1 then Strings else (if key == 3 then Port else (if key == 4 then Ipv4 else (if key == 5 then Digits else (if key == 6 then Ipv6 else Octets)))))

-- the length in octets of the item that a value begins with
abbrev pub item_width : ValueKind → List ℕ → ℕ
item_width Keys octets = 2
item_width Strings octets = 1 + slice_index octets 0
item_width Nothing octets = 2
item_width Port octets = 2
item_width Ipv4 octets = 4
item_width Digits octets = 2
item_width Ipv6 octets = 16
item_width Octets octets = 2

-- at most `n` items that a value begins with
abbrev pub first_items : ValueKind → ℕ → List ℕ → List (List ℕ)
first_items kind zero octets = []
first_items kind (suc n) [] = []
first_items kind (suc n) (x ∷ octets) = take (item_width kind (x ∷ octets)) (x ∷ octets) ∷ first_items kind n (drop (item_width kind (x ∷ octets)) (x ∷ octets))

-- the items of a value
unfoldable pub value_items : ValueKind → List ℕ → List (List ℕ)
value_items kind octets = first_items kind (length octets) octets

-- octets of a word, with the escapes of a token
abbrev pub octets_word : List ℕ → List ℕ
octets_word = text_of is_unquoted_escape

-- an item: a key; a string, with the escapes of a list and of a token; a port; an address
abbrev pub value_item_text : ValueKind → List ℕ → List ℕ
value_item_text Keys item = key_text (from_be_bytes w16 item)
value_item_text Strings item = octets_word (item_text (drop 1 item))
value_item_text Port item = decimal (from_be_bytes w16 item)
value_item_text Ipv4 item = ipv4_text item
value_item_text Ipv6 item = shown_ipv6 (segments_of item)
value_item_text Nothing item = []
value_item_text Digits item = []
value_item_text Octets item = []

-- each text after a comma
abbrev pub after_commas : List (List ℕ) → List ℕ
after_commas = flat_map (λ text. 44 ∷ text)

-- a comma, or nothing
abbrev pub comma_if : Bool → List ℕ
comma_if true = 44 ∷ []
comma_if false = []

-- an item, after a comma if it is a later one
abbrev pub next_shown : Bool → ValueKind → List ℕ → List ℕ
next_shown is_later kind item = comma_if is_later ++ value_item_text kind item

-- texts with commas between them
abbrev pub between_commas : List (List ℕ) → List ℕ
between_commas [] = []
between_commas (text ∷ texts) = text ++ after_commas texts

abbrev pub items_text : ValueKind → List ℕ → List ℕ
items_text kind octets = between_commas (map (value_item_text kind) (value_items kind octets))

-- a value: base 64; octets with the escapes of a token; or items
abbrev pub value_text : ValueKind → List ℕ → List ℕ
value_text Digits octets = encoded base64 octets
value_text Octets octets = octets_word octets
value_text Keys octets = items_text Keys octets
value_text Strings octets = items_text Strings octets
value_text Nothing octets = items_text Nothing octets
value_text Port octets = items_text Port octets
value_text Ipv4 octets = items_text Ipv4 octets
value_text Ipv6 octets = items_text Ipv6 octets

-- a key, and after an equals sign its value, if it is not empty
abbrev pub value_after_key : ValueKind → List ℕ → List ℕ
value_after_key kind [] = []
value_after_key kind (x ∷ octets) = 61 ∷ value_text kind (x ∷ octets)

abbrev pub param_text : ℕ × List ℕ → List ℕ
param_text p = key_text p.0 ++ value_after_key (shown_kind p.0) p.1

-- what each display type shows
abbrev pub key_shown : KeyText → ℕ
key_shown shown = shown.0

abbrev pub param_shown : ParamText → ℕ × List ℕ
param_shown shown = (shown.key, shown.value.now)
