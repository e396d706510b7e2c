-- Why a list of strings is rejected, in presentation format and in wire format.
use Rattle.std.specs.Prelude.{◌≡◌, ◌≢◌, ◌⊎◌, ℕ, ◌+◌, ◌<◌, List, [], ◌∷◌, ◌++◌, length, All, slice_index}
use Rattle.dns_octets.specs.Room.{Room}
use Rattle.dns_octets.specs.Appending.{ExceedsRoom}
use Rattle.rdata_svcb.specs.Texts.{list_text, leading_items_text, wire_strings, IsItem, IsList, EndsItem, SplitsItem, BeginsNoString}
use Rattle.rdata_svcb.specs.Values.{AreWireStrings}
use Rattle.rdata_values.specs.declared.error.ErrorKind.{ErrorKind}
use Rattle.rdata_values.specs.declared.error.ErrorKind.TheVariants.{ListString, ListEscape, ShortBuf}

-- why the item that a text begins with is not appended to octets: it has none or too many octets; it doesn't surely fit
abbrev pub IsItemFault : Room → List ℕ → List ℕ → ErrorKind → Type 0
IsItemFault room old text ListString = (item rest : List ℕ) × SplitsItem text item rest × ¬ IsItem item
IsItemFault room old text ShortBuf = (item rest : List ℕ) × SplitsItem text item rest × IsItem item × (room.fits < length old + length (length item ∷ item))
IsItemFault room old text other = ⊥

-- the first error in a text: after items and their commas comes an item that is not appended; or after a list comes a backslash that is not an escape
abbrev pub IsListFault : Room → List ℕ → List ℕ → ErrorKind → Type 0
IsListFault room old text ListString = (front : List (List ℕ)) × (rest : List ℕ) × All IsItem front × (text ≡ leading_items_text front ++ rest) × IsItemFault room (old ++ wire_strings front) rest ListString
IsListFault room old text ShortBuf = (front : List (List ℕ)) × (rest : List ℕ) × All IsItem front × (text ≡ leading_items_text front ++ rest) × IsItemFault room (old ++ wire_strings front) rest ShortBuf
IsListFault room old text ListEscape = (items : List (List ℕ)) × (rest : List ℕ) × IsList items × (text ≡ list_text items ++ rest) × EndsItem rest × (rest ≢ []) × (slice_index rest 0 ≢ 44)
IsListFault room old text other = ⊥

-- the first error in octets: after strings come octets that do not begin with one, or there are no octets; or the text of the first strings doesn't surely fit
abbrev pub IsStringsFault : Room → List ℕ → List ℕ → ErrorKind → Type 0
IsStringsFault room old octets ListString = (front : List (List ℕ)) × (rest : List ℕ) × All IsItem front × (octets ≡ wire_strings front ++ rest) × BeginsNoString rest × (rest ≡ [] → front ≡ [])
IsStringsFault room old octets ShortBuf = (items : List (List ℕ)) × (rest : List ℕ) × IsList items × (octets ≡ wire_strings items ++ rest) × (room.fits < length old + length (list_text items))
IsStringsFault room old octets other = ⊥

-- the items that a text begins with, each after its length
abbrev pub BeginsList : List ℕ → List ℕ → Type 0
BeginsList text octets = (front : List (List ℕ)) × (rest item after : List ℕ) × All IsItem front × (text ≡ leading_items_text front ++ rest) × SplitsItem rest item after × IsItem item × (octets ≡ wire_strings front ++ (length item ∷ item))

-- the text of the strings that octets begin with
abbrev pub BeginsListText : List ℕ → List ℕ → Type 0
BeginsListText octets text = (items : List (List ℕ)) × (rest : List ℕ) × IsList items × (octets ≡ wire_strings items ++ rest) × (text ≡ list_text items)

-- why a text is not appended as a list: the items that it begins with exceed the room; or it is not the text of a list
abbrev pub RefusesList : Room → List ℕ → List ℕ → ErrorKind → Type 0
RefusesList room text old e = ((e ≡ ShortBuf) × ExceedsRoom room (BeginsList text) old) ⊎ ((items : List (List ℕ)) → IsList items → list_text items ≢ text)

-- why octets are not appended as the text of a list: that of the strings that they begin with exceeds the room; or there are no strings
abbrev pub RefusesStrings : Room → List ℕ → List ℕ → ErrorKind → Type 0
RefusesStrings room octets old e = ((e ≡ ShortBuf) × ExceedsRoom room (BeginsListText octets) old) ⊎ ((octets ≡ []) ⊎ ¬ AreWireStrings octets)
