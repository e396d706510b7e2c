-- A list's text after the escapes of a token are decoded.
use Rattle.std.specs.Prelude.{ℕ, ◌≡◌, ◌≢◌, ◌<◌, ◌⊎◌, true, false, List, [], ◌∷◌, ◌++◌, length, All, Option, MatchOption}
use Rattle.dns_octets.specs.Room.{Room}
use Rattle.dns_octets.specs.Appending.{ExceedsRoom}
use Rattle.rdata_tokens.specs.Spelling.{BeginsBadEscape, SpellsBeginning, SpellsOctetList}
use Rattle.rdata_svcb.specs.Texts.{is_special, item_octet, item_text, leading_items_text, list_text, wire_strings, IsItem, IsList}
use Rattle.rdata_svcb.specs.declared.strings.ItemOctet.{ItemOctet}
use Rattle.rdata_values.specs.declared.error.ErrorKind.{ErrorKind}
use Rattle.rdata_values.specs.declared.error.ErrorKind.TheVariants.{BadEscape, ListEscape, ListString, ShortBuf}

-- a text is at its end, or the next octet that it spells is a comma
abbrev pub EndsAtComma : List ℕ → Type 0
EndsAtComma text = (text ≡ []) ⊎ ((rest : List ℕ) × SpellsBeginning text (44 ∷ []) rest)

-- a text begins with an octet that follows a backslash
abbrev pub SpellsSpecial : List ℕ → ItemOctet → Type 0
SpellsSpecial text o = SpellsBeginning text (o.octet ∷ []) o.rest.now × (is_special o.octet ≡ true)

-- a text begins with an octet of an item, unless the item ends there
abbrev pub FindsItemOctet : List ℕ → Option ItemOctet → Type 0
FindsItemOctet text first = MatchOption first (EndsAtComma text) (λ o. SpellsBeginning text (item_octet o.octet) o.rest.now)

-- a text begins with all of an item, and this rest follows
abbrev pub SpellsFirstItem : List ℕ → List ℕ → List ℕ → Type 0
SpellsFirstItem text item rest = IsItem item × SpellsBeginning text (item_text item) rest × EndsAtComma rest

-- the item that a text begins with was appended after its length
abbrev pub AppendsItem : List ℕ → List ℕ → List ℕ → List ℕ → Type 0
AppendsItem text rest old new = (item : List ℕ) × IsItem item × SpellsBeginning text (item_text item) rest × EndsAtComma rest × (new ≡ old ++ (length item ∷ item))

-- the list does not begin with an octet that needs a backslash before it
abbrev pub BeginsUnspecial : List ℕ → Type 0
BeginsUnspecial list = (o : ℕ) (more : List ℕ) → is_special o ≡ true → list ≢ o ∷ more

-- the list begins with a backslash that escapes nothing
abbrev pub BeginsBadItem : List ℕ → Type 0
BeginsBadItem list = (rest : List ℕ) × (list ≡ 92 ∷ rest) × BeginsUnspecial rest

-- a list continues with its next item, or is at its end
abbrev pub ContinuesToItem : List ℕ → Type 0
ContinuesToItem rest = (rest ≡ []) ⊎ ((more : List ℕ) × (rest ≡ 44 ∷ more))

-- a list begins with an item
abbrev pub BeginsItem : List ℕ → List ℕ → List ℕ → Type 0
BeginsItem list item rest = IsItem item × ContinuesToItem rest × (list ≡ item_text item ++ rest)

-- what holds of each list that a text spells
abbrev pub EachList : List ℕ → (List ℕ → Type 0) → Type 0
EachList text P = (list : List ℕ) → SpellsOctetList text list → P list

abbrev pub BeginsNoItem : List ℕ → Type 0
BeginsNoItem list = (item rest : List ℕ) → BeginsItem list item rest → ⊥

-- a text is at its end, or begins with an octet that needs no backslash before it
abbrev pub SpellsUnspecial : List ℕ → Type 0
SpellsUnspecial text = (text ≡ []) ⊎ ((o : ℕ) × (rest : List ℕ) × SpellsBeginning text (o ∷ []) rest × (is_special o ≡ false))

-- a text begins with a wrong escape of its token
abbrev pub EscapeFault : List ℕ → ErrorKind → Type 0
EscapeFault text e = (e ≡ BadEscape) × BeginsBadEscape text

-- why a text after a backslash does not begin with an octet that needs one
abbrev pub SpecialFault : List ℕ → ErrorKind → Type 0
SpecialFault text e = EscapeFault text e ⊎ ((e ≡ ListEscape) × SpellsUnspecial text)

-- why neither an octet of an item follows, nor its end
abbrev pub OctetFault : List ℕ → ErrorKind → Type 0
OctetFault text e = EscapeFault text e ⊎ ((rest : List ℕ) × SpellsBeginning text (92 ∷ []) rest × SpecialFault rest e)

-- the first error after octets of an item: it has none, or one too many; or what follows
abbrev pub ItemReason : List ℕ → List ℕ → ErrorKind → Type 0
ItemReason item rest e = ((e ≡ ListString) × (((item ≡ []) × EndsAtComma rest) ⊎ (length item ≡ 256))) ⊎ ((length item < 256) × OctetFault rest e)

-- the first error in the item that a text begins with
abbrev pub FirstItemReason : List ℕ → ErrorKind → Type 0
FirstItemReason text e = (item rest : List ℕ) × SpellsBeginning text (item_text item) rest × ItemReason item rest e

-- the first error in a list that a text spells: before it are items and their commas
abbrev pub StringsReason : List ℕ → ErrorKind → Type 0
StringsReason text e = (front : List (List ℕ)) × (rest : List ℕ) × All IsItem front × SpellsBeginning text (leading_items_text front) rest × FirstItemReason rest e

-- the item that a text begins with, after its length
abbrev pub SpellsOneItem : List ℕ → List ℕ → Type 0
SpellsOneItem text octets = (item rest : List ℕ) × SpellsFirstItem text item rest × (octets ≡ length item ∷ item)

-- the items that a text begins with, each after its length
abbrev pub BeginsStrings : List ℕ → List ℕ → Type 0
BeginsStrings text octets = (items : List (List ℕ)) × (rest : List ℕ) × IsList items × SpellsBeginning text (list_text items) rest × EndsAtComma rest × (octets ≡ wire_strings items)

-- the item that the text begins with exceeds the room; or the text begins with none, for this reason
abbrev pub RefusesItem : Room → List ℕ → List ℕ → ErrorKind → Type 0
RefusesItem room text old e = ((e ≡ ShortBuf) × ExceedsRoom room (SpellsOneItem text) old) ⊎ (FirstItemReason text e × EachList text BeginsNoItem)
