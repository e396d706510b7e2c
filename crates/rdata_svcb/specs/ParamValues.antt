-- Values of service parameters in presentation format (RFC 9460 sections 7 and 8, RFC 9461 section 5).
use Rattle.std.specs.Prelude.{ℕ, ◌≡◌, ◌≢◌, ◌<◌, ◌^◌, cond, List, [], ◌++◌}
use Rattle.std.specs.Int.{w16, to_be_bytes}
use Rattle.std.specs.List.{flat_map, range_with_len, AllPairs}
use Rattle.std.specs.Net.Addr.{ipv4_octets, ipv6_octets, IsIpv4Addr, IsIpv6Addr}
use Rattle.std.specs.Net.Grammar.{IsIpv4Text, IsIpv6Text}
use Rattle.rdata_values.specs.declared.addresses.Ipv6Shown.{Ipv6Shown}
use Rattle.dns_codec.specs.Base.{base64}
use Rattle.rdata_tokens.specs.Spelled.{SpellsDigits}
use Rattle.rdata_fields.specs.Words.{SpellsAs, SpellsBelow}
use Rattle.rdata_values.specs.Bitmap.{SameTypes, has}
use Rattle.rdata_svcb.specs.Texts.{IsList, list_text, wire_strings}
use Rattle.rdata_tokens.specs.Spelling.{SpellsOctetList}
use Rattle.rdata_svcb.specs.Items.{BeginsApart, SpellsApart}
use Rattle.rdata_svcb.specs.Keys.{NamesKey}
use Rattle.rdata_svcb.specs.declared.keys.ValueKind.{ValueKind}
use Rattle.rdata_svcb.specs.declared.keys.ValueKind.TheVariants.{Keys, Strings, Nothing, Port, Ipv4, Digits, Ipv6, Octets}

-- a text names a key
abbrev pub NamesAKey : List ℕ → ℕ → Type 0
NamesAKey text key = (kind : ValueKind) × NamesKey text key kind

-- a key in two octets, if it is in the list
abbrev pub key_wire : List ℕ → ℕ → List ℕ
key_wire keys key = cond (has keys key) (to_be_bytes w16 key) []

-- each key that is in the list, in ascending order
unfoldable pub keys_from : List ℕ → ℕ → ℕ → List ℕ
keys_from keys first count = flat_map (key_wire keys) (range_with_len first count)

abbrev pub keys_wire : List ℕ → List ℕ
keys_wire keys = keys_from keys 0 65536

-- names of keys separated by commas, each key once, are those of a set
abbrev pub NamesKeys : List ℕ → List ℕ → Type 0
NamesKeys text set = (keys : List ℕ) × SpellsApart NamesAKey text keys × AllPairs (λ a b. a ≢ b) keys × SameTypes set keys

-- names of keys separated by commas, in any order, each key once
pub record SpellsKeys (text octets : List ℕ) : Type 0 where
  pub keys : List ℕ
  pub named : SpellsApart NamesAKey text keys
  pub once : AllPairs (λ a b. a ≢ b) keys
  pub whole : octets ≡ keys_wire keys

-- values separated by commas, whose octets are one after another
pub record SpellsValues (spells : List ℕ → List ℕ → Type 0) (text octets : List ℕ) : Type 0 where
  pub values : List (List ℕ)
  pub spelled : SpellsApart spells text values
  pub whole : octets ≡ flat_map (λ v. v) values

-- a text begins with values separated by commas, whose octets are one after another
abbrev pub BeginsValues : (List ℕ → List ℕ → Type 0) → List ℕ → List ℕ → Type 0
BeginsValues spells text octets = (values : List (List ℕ)) × (item value : List ℕ) × BeginsApart spells text values item × spells item value × (octets ≡ flat_map (λ v. v) values ++ value)

-- after the escapes of a token are decoded, a text is that of a list, which has escapes of its own
-- (RFC 9460 appendix A.1)
pub record SpellsStrings (text octets : List ℕ) : Type 0 where
  pub list : List ℕ
  pub spelled : SpellsOctetList text list
  pub items : List (List ℕ)
  pub is_list : IsList items
  pub listed : list_text items ≡ list
  pub whole : octets ≡ wire_strings items

abbrev pub SpellsPort : List ℕ → List ℕ → Type 0
SpellsPort = SpellsAs (λ n. n < 2 ^ 16) (SpellsBelow (2 ^ 16)) (to_be_bytes w16)

abbrev pub SpellsIpv4 : List ℕ → List ℕ → Type 0
SpellsIpv4 = SpellsAs IsIpv4Addr IsIpv4Text ipv4_octets

abbrev pub SpellsIpv6 : List ℕ → List ℕ → Type 0
SpellsIpv6 = SpellsAs (λ (a : Ipv6Shown). IsIpv6Addr a.0) (λ text a. IsIpv6Text text a.0) (λ a. ipv6_octets a.0)

-- a text spells the octets of a value
abbrev pub SpellsValue : ValueKind → List ℕ → List ℕ → Type 0
SpellsValue Keys text octets = SpellsKeys text octets
SpellsValue Strings text octets = SpellsStrings text octets
SpellsValue Nothing text octets = (text ≡ []) × (octets ≡ [])
SpellsValue Port text octets = SpellsPort text octets
SpellsValue Ipv4 text octets = SpellsValues SpellsIpv4 text octets
SpellsValue Digits text octets = SpellsDigits base64 text octets
SpellsValue Ipv6 text octets = SpellsValues SpellsIpv6 text octets
SpellsValue Octets text octets = SpellsOctetList text octets
