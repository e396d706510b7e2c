-- Names as zone files have them, printed from wire format.
use Rattle.std.specs.Prelude.{ℕ, zero, suc, Bool, true, false, List, [], ◌∷◌, ◌++◌, length, take, drop}
use Rattle.dns_symbol.specs.Characters.{dot}
use Rattle.dns_wire.specs.Printed.{dotted_by}
use Rattle.dns_wire.specs.ZoneText.{zone_label}
use Rattle.rdata_tokens.specs.declared.name_text.NameText.{NameText}

-- a directive begins with it
abbrev pub dollar : ℕ
dollar = 36

-- a label's text, with a dot after it if it is not the last
abbrev pub label_and_dot : List ℕ → Bool → List ℕ
label_and_dot label true = zone_label label
label_and_dot label false = zone_label label ++ dot ∷ []

-- the first labels of octets, each after its length octet
abbrev pub first_labels : ℕ → List ℕ → List (List ℕ)
first_labels zero octets = []
first_labels (suc n) [] = []
first_labels (suc n) (count ∷ octets) = take count octets ∷ first_labels n (drop count octets)

-- the labels of octets
unfoldable pub labels_in_octets : List ℕ → List (List ℕ)
labels_in_octets octets = first_labels (length octets) octets

-- the text of a name in wire format: its labels with dots between them, and a dot at the end; the root is one dot
abbrev pub wire_name_text : List ℕ → List ℕ
wire_name_text octets = dotted_by zone_label (labels_in_octets octets)

-- the octets that the display type shows
abbrev pub name_shown : NameText → List ℕ
name_shown shown = shown.0.now
