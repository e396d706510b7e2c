-- Names in presentation format (RFC 1035 section 5.1): labels with dots between them that are not escaped.
use Rattle.std.specs.Prelude.{ℕ, ⊤, ◌≡◌, ◌≢◌, ◌⊎◌, ◌<◌, ◌≤◌, ◌+◌, ◌-◌, ◌==◌, ◌&&◌, not, Bool, true, false, List, [], ◌∷◌, ◌++◌, length, map, All, Option, Some, None}
use Rattle.std.specs.List.{flat_map, list_all}
use Rattle.dns_octets.specs.Room.{Room}
use Rattle.dns_octets.specs.Appending.{ExceedsRoom}
use Rattle.dns_symbol.specs.Characters.{dot}
use Rattle.dns_symbol.specs.Symbol.{spell}
use Rattle.dns_symbol.specs.declared.symbol.Symbol.{Symbol}
use Rattle.dns_symbol.specs.declared.symbol.Symbol.TheVariants.{Char, SimpleEscape, DecimalEscape}
use Rattle.dns_wire.specs.Building.{closed}
use Rattle.dns_wire.specs.Limits.{max_label, max_name, max_relative}
use Rattle.dns_wire.specs.Wire.{wire, wire_length, IsName, EndsInRoot}
use Rattle.dns_symbol.specs.Escape.{is_spelling, octet_for}
use Rattle.rdata_tokens.specs.Spelling.{AreOctetValues, BeginsBadEscape}
use Rattle.rdata_values.specs.declared.error.ErrorKind.{ErrorKind}
use Rattle.rdata_values.specs.declared.error.ErrorKind.TheVariants.{BadEscape, EmptyLabel, LongLabel, LongName, NoOrigin, ShortBuf}

abbrev pub at_sign : ℕ
at_sign = 64

-- the symbol is a dot that is not escaped
abbrev pub is_plain_dot : Symbol → Bool
is_plain_dot (Char o) = o == dot
is_plain_dot (SimpleEscape o) = false
is_plain_dot (DecimalEscape o) = false

-- what spells an octet of a label
abbrev pub is_label_spelling : Symbol → Bool
is_label_spelling s = is_spelling s && not (is_plain_dot s)

abbrev pub AreLabelSpellings : List Symbol → Type 0
AreLabelSpellings symbols = list_all is_label_spelling symbols ≡ true

-- the symbols of a label of 1 to 63 octets
pub record IsLabelPart (part : List Symbol) : Type 0 where
  pub each : AreLabelSpellings part
  pub some : 0 < length part
  pub short : length part ≤ max_label

-- the text of labels, each with a dot after it
abbrev pub dotted_parts : List (List Symbol) → List ℕ
dotted_parts parts = flat_map (λ part. flat_map spell part ++ dot ∷ []) parts

-- the labels that are spelled, the last one only if it has octets
abbrev pub part_labels : List (List Symbol) → List Symbol → List (List ℕ)
part_labels parts last = map (map octet_for) parts ++ closed (map octet_for last)

-- a text is labels, each with a dot after it, and then a rest
pub record HasParts (text : List ℕ) (parts : List (List Symbol)) (rest : List ℕ) : Type 0 where
  pub each : All IsLabelPart parts
  pub whole : text ≡ dotted_parts parts ++ rest

-- a text is labels with dots between them: no dot follows the last one, or the text ends with a dot
pub record SpellsParts (text : List ℕ) (parts : List (List Symbol)) (last : List Symbol) : Type 0 where
  pub front : HasParts text parts (flat_map spell last)
  pub last_each : AreLabelSpellings last
  pub last_short : length last ≤ max_label

-- the labels of a text: of `.` the root alone, and of `@` the origin's; of a text with a dot at its end its labels and the root, and of any other its labels and the origin's
pub data SpellsLabels (origin : Option (List (List ℕ))) (text : List ℕ) (labels : List (List ℕ)) : Type 0 where
  root_alone : text ≡ dot ∷ [] → labels ≡ [] ∷ [] → SpellsLabels origin text labels
  origin_alone : text ≡ at_sign ∷ [] → origin ≡ Some labels → SpellsLabels origin text labels
  absolute : (parts : List (List Symbol)) → 0 < length parts → SpellsParts text parts [] → labels ≡ part_labels parts [] ++ [] ∷ [] → SpellsLabels origin text labels
  relative : (parts : List (List Symbol)) (last : List Symbol) (others : List (List ℕ)) → 0 < length last → SpellsParts text parts last → text ≢ at_sign ∷ []
      → origin ≡ Some others → labels ≡ part_labels parts last ++ others → SpellsLabels origin text labels

-- a text spells the wire format of an absolute name
pub record SpellsName (origin : Option (List (List ℕ))) (text form : List ℕ) : Type 0 where
  pub labels : List (List ℕ)
  pub spelled : SpellsLabels origin text labels
  pub is_name : IsName labels
  pub absolute : EndsInRoot labels
  pub whole : form ≡ wire labels

-- the octets of an absolute name
pub record IsWireName (form : List ℕ) : Type 0 where
  pub labels : List (List ℕ)
  pub is_name : IsName labels
  pub absolute : EndsInRoot labels
  pub values : AreOctetValues form
  pub whole : form ≡ wire labels

-- the origin's labels, if there is one, have octets
abbrev pub IsOrigin : Option (List (List ℕ)) → Type 0
IsOrigin None = ⊤
IsOrigin (Some labels) = AreOctetValues (wire labels)

-- the symbols that a text begins with are the beginning of a label, which fits in a name
pub record OpensLabel (text : List ℕ) (room : ℕ) (open_part : List Symbol) (rest : List ℕ) : Type 0 where
  pub each : AreLabelSpellings open_part
  pub whole : text ≡ flat_map spell open_part ++ rest
  pub short : length open_part ≤ max_label
  pub fits : 0 < length open_part → length open_part + 1 ≤ room

-- an octet of a label comes next
abbrev pub NextOctetIs : List ℕ → Type 0
NextOctetIs rest = (s : Symbol) × (more : List ℕ) × (is_label_spelling s ≡ true) × (rest ≡ spell s ++ more)

-- a dot comes next, or the end
abbrev pub EndsLabel : List ℕ → Type 0
EndsLabel rest = (rest ≡ []) ⊎ ((more : List ℕ) × (rest ≡ dot ∷ more))

-- why a text does not begin with a label, in a name in which `room` more octets fit: the first of all reasons
abbrev pub RefusesFirstLabel : ℕ → List ℕ → ErrorKind → Type 0
RefusesFirstLabel room text BadEscape = (open_part : List Symbol) × (rest : List ℕ) × OpensLabel text room open_part rest × BeginsBadEscape rest
RefusesFirstLabel room text EmptyLabel = EndsLabel text
RefusesFirstLabel room text LongLabel = (open_part : List Symbol) × (rest : List ℕ) × OpensLabel text room open_part rest × (length open_part ≡ max_label) × NextOctetIs rest
RefusesFirstLabel room text LongName = (open_part : List Symbol) × (rest : List ℕ) × OpensLabel text room open_part rest × (length open_part < max_label) × (room < length open_part + 2) × NextOctetIs rest
RefusesFirstLabel room text other = ⊥

-- after labels that fit in a name comes one that is rejected; nothing after a dot is not a label that is rejected
pub record HasBadLabel (text : List ℕ) (why : ErrorKind) : Type 0 where
  pub parts : List (List Symbol)
  pub rest : List ℕ
  pub front : HasParts text parts rest
  pub fits : wire_length (part_labels parts []) ≤ max_relative
  pub no_end : rest ≡ [] → parts ≡ []
  pub refused : RefusesFirstLabel (max_relative - wire_length (part_labels parts [])) rest why

-- a relative name whose own labels fit: the origin's follow
abbrev pub IsRelative : List ℕ → Type 0
IsRelative text = (text ≡ at_sign ∷ []) ⊎ ((parts : List (List Symbol)) × (last : List Symbol) × SpellsParts text parts last × (0 < length last) × (wire_length (part_labels parts last) ≤ max_relative))

-- the name is too long with the origin's labels
abbrev pub IsLongWithOrigin : Option (List (List ℕ)) → List ℕ → Type 0
IsLongWithOrigin origin text = (text ≢ at_sign ∷ []) × (parts : List (List Symbol)) × (last : List Symbol) × (others : List (List ℕ)) × SpellsParts text parts last × (0 < length last)
    × (origin ≡ Some others) × (max_name < wire_length (part_labels parts last) + wire_length others)

-- why a text does not spell a name: the first of all reasons in the text
abbrev pub WhyNoName : Option (List (List ℕ)) → List ℕ → ErrorKind → Type 0
WhyNoName origin text BadEscape = HasBadLabel text BadEscape
WhyNoName origin text EmptyLabel = HasBadLabel text EmptyLabel × (text ≢ dot ∷ [])
WhyNoName origin text LongLabel = HasBadLabel text LongLabel
WhyNoName origin text LongName = HasBadLabel text LongName ⊎ IsLongWithOrigin origin text
WhyNoName origin text NoOrigin = (origin ≡ None) × IsRelative text
WhyNoName origin text other = ⊥

-- a text begins with labels that fit in a name, up to a dot or the end, and these are their octets
pub record BeginsWithLabels (text octets : List ℕ) : Type 0 where
  pub front : List ℕ
  pub rest : List ℕ
  pub whole : text ≡ front ++ rest
  pub ends : EndsLabel rest
  pub parts : List (List Symbol)
  pub last : List Symbol
  pub spelled : SpellsParts front parts last
  pub some : 0 < length (part_labels parts last)
  pub fits : wire_length (part_labels parts last) ≤ max_relative
  pub octets_are : octets ≡ wire (part_labels parts last)

-- the octets of the first labels of a text, which is not the origin's sign alone, or those of the whole name that it spells
abbrev pub BeginsName : Option (List (List ℕ)) → List ℕ → List ℕ → Type 0
BeginsName origin text octets = ((text ≢ at_sign ∷ []) × BeginsWithLabels text octets) ⊎ SpellsName origin text octets

-- why a name was not appended: a beginning of it doesn't surely fit, or the text spells none
abbrev pub RefusesName : Room → Option (List (List ℕ)) → List ℕ → List ℕ → ErrorKind → Type 0
RefusesName room origin text old why =
    ((why ≡ ShortBuf) × ExceedsRoom room (BeginsName origin text) old) ⊎ (WhyNoName origin text why × ((form : List ℕ) → ¬ SpellsName origin text form))

-- the labels of a text were appended, in `count` octets, and a dot followed the last label or not
pub record GainsLabels (text old new : List ℕ) (count : ℕ) (is_absolute : Bool) : Type 0 where
  pub parts : List (List Symbol)
  pub last : List Symbol
  pub spelled : SpellsParts text parts last
  pub some : 0 < length (part_labels parts last)
  pub gained : new ≡ old ++ wire (part_labels parts last)
  pub count_is : count ≡ wire_length (part_labels parts last)
  pub fits : count ≤ max_relative
  pub ends : is_absolute ≡ (length last == 0)
