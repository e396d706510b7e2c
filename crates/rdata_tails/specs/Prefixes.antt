-- Items of address prefix lists (RFC 3123).
use Rattle.std.specs.Prelude.{ℕ, ◌≡◌, ◌≢◌, ◌<◌, ◌≤◌, ◌+◌, ◌-◌, ◌%◌, ◌⊎◌, Bool, true, false, List, [], ◌∷◌, ◌++◌, length, take, drop, slice_index, Option, MatchOption, decimal}
use Rattle.std.specs.Net.Addr.{ipv4_octets, ipv6_octets, ipv6_segments, IsIpv4Addr, IsIpv6Addr}
use Rattle.std.specs.Net.Grammar.{IsIpText}
use Rattle.std.specs.Net.Text.{ipv4_text}
use Rattle.std.specs.declared.net.ip_addr.IpAddr.{IpAddr}
use Rattle.std.specs.declared.net.ip_addr.IpAddr.TheVariants.{V4, V6}
use Rattle.dns_octets.specs.Room.{Room}
use Rattle.dns_octets.specs.Appending.{Gains, ExceedsRoom}
use Rattle.rdata_values.specs.Addresses.{shown_ipv6}
use Rattle.rdata_values.specs.Numbers.{SpellsNumber}
use Rattle.rdata_values.specs.declared.error.ErrorKind.{ErrorKind}
use Rattle.rdata_values.specs.declared.error.ErrorKind.TheVariants.{ExpectedPrefix}
use Rattle.rdata_tails.specs.Refusals.{WhyNot}
use Rattle.rdata_tails.specs.declared.apl.Prefix.{Prefix}
use Rattle.rdata_tails.specs.declared.apl.Item.{Item}

abbrev pub IsAddress : IpAddr → Type 0
IsAddress (V4 a) = IsIpv4Addr a
IsAddress (V6 a) = IsIpv6Addr a

-- the number of an address's family
abbrev pub family_of : IpAddr → ℕ
family_of (V4 a) = 1
family_of (V6 a) = 2

abbrev pub address_octets : IpAddr → List ℕ
address_octets (V4 a) = ipv4_octets a
address_octets (V6 a) = ipv6_octets a

abbrev pub address_bits : IpAddr → ℕ
address_bits (V4 a) = 32
address_bits (V6 a) = 128

-- an address, and no more bits than it has
abbrev pub IsPrefix : Prefix → Type 0
IsPrefix p = IsAddress p.address × (p.bits ≤ address_bits p.address)

-- ---- as a text

abbrev pub FindsNumber : ℕ → List ℕ → Option ℕ → Type 0
FindsNumber limit text r = MatchOption r ((n : ℕ) → n < limit → SpellsNumber text n → ⊥) (SpellsNumber text)

-- a family's number, and an address of that family
abbrev pub IsAddressText : List ℕ → List ℕ → IpAddr → Type 0
IsAddressText family text a = IsAddress a × SpellsNumber family (family_of a) × IsIpText text a

abbrev pub FindsAddress : List ℕ → List ℕ → Option IpAddr → Type 0
FindsAddress family text r = MatchOption r ((a : IpAddr) → IsAddressText family text a → ⊥) (IsAddressText family text)

-- a family, a colon, an address of it, a slash, and how many bits of it are the prefix
pub record IsPlainPrefix (text : List ℕ) (p : Prefix) : Type 0 where
  pub family : List ℕ
  pub address : List ℕ
  pub bits : List ℕ
  pub written : text ≡ family ++ 58 ∷ (address ++ 47 ∷ bits)
  pub address_is : IsAddressText family address p.address
  pub bits_are : SpellsNumber bits p.bits
  pub within : p.bits ≤ address_bits p.address

abbrev pub FindsPlain : Bool → List ℕ → Option Prefix → Type 0
FindsPlain negated text r = MatchOption r ((p : Prefix) → IsPlainPrefix text p → ⊥) (λ p. (p.negated ≡ negated) × IsPlainPrefix text p)

-- an exclusion begins with an exclamation mark
abbrev pub exclusion : Bool → List ℕ
exclusion true = 33 ∷ []
exclusion false = []

abbrev pub SpellsPrefix : List ℕ → Prefix → Type 0
SpellsPrefix text p = (plain : List ℕ) × (text ≡ exclusion p.negated ++ plain) × IsPlainPrefix plain p

abbrev pub address_text : IpAddr → List ℕ
address_text (V4 a) = ipv4_text (ipv4_octets a)
address_text (V6 a) = shown_ipv6 (ipv6_segments a)

abbrev pub prefix_text : Prefix → List ℕ
prefix_text p = exclusion p.negated ++ (48 + family_of p.address) ∷ 58 ∷ (address_text p.address ++ 47 ∷ decimal p.bits)

-- ---- as octets

abbrev pub HasNoZeroAtEnd : List ℕ → Type 0
HasNoZeroAtEnd part = (length part ≡ 0) ⊎ (slice_index part (length part - 1) ≢ 0)

-- the octets of an address up to the last that is not zero
pub record IsAddressPart (part octets : List ℕ) : Type 0 where
  pub begins : take (length part) octets ≡ part
  pub zeros : (k : ℕ) → length part ≤ k → slice_index octets k ≡ 0
  pub end : HasNoZeroAtEnd part

-- the bit before the number of octets
abbrev pub exclusion_bit : Bool → ℕ
exclusion_bit true = 128
exclusion_bit false = 0

-- the family in two octets, the bits of the prefix, the exclusion and the number of octets, and these
pub record IsPrefixWire (p : Prefix) (octets : List ℕ) : Type 0 where
  pub part : List ℕ
  pub is_part : IsAddressPart part (address_octets p.address)
  pub written : octets ≡ 0 ∷ family_of p.address ∷ p.bits ∷ (exclusion_bit p.negated + length part) ∷ part

-- octets of an item were appended; or they don't surely fit
abbrev pub AddsPrefix : Prefix → List ℕ → List ℕ → Type 0
AddsPrefix p old new = Gains (IsPrefixWire p) old new

abbrev pub PrefixExceedsRoom : Room → Prefix → List ℕ → Type 0
PrefixExceedsRoom room p old = ExceedsRoom room (IsPrefixWire p) old

-- a text spells an item of these octets
abbrev pub SpellsItem : List ℕ → List ℕ → Type 0
SpellsItem text octets = (p : Prefix) × SpellsPrefix text p × IsPrefixWire p octets

-- octets gained those of the item that a text spells; or this is why not
abbrev pub GainsItem : List ℕ → List ℕ → List ℕ → Type 0
GainsItem text old new = Gains (SpellsItem text) old new

abbrev pub RefusesPrefix : Room → List ℕ → List ℕ → ErrorKind → Type 0
RefusesPrefix room text old e = WhyNot room (SpellsItem text) ExpectedPrefix old e

-- octets begin with an item
pub record BeginsWithItem (octets : List ℕ) (p : Prefix) : Type 0 where
  pub valid : IsPrefix p
  pub item : List ℕ
  pub rest : List ℕ
  pub wire : IsPrefixWire p item
  pub split : octets ≡ item ++ rest

-- an address of a family that has such a part
abbrev pub HasAddressPart : ℕ → List ℕ → IpAddr → Type 0
HasAddressPart family part a = IsAddress a × (family_of a ≡ family) × IsAddressPart part (address_octets a)

abbrev pub FindsAddressOf : ℕ → List ℕ → Option IpAddr → Type 0
FindsAddressOf family part r = MatchOption r ((a : IpAddr) → HasAddressPart family part a → ⊥) (HasAddressPart family part)

-- octets have the part of an address after four others, the last of which has its length
pub record HasPart (octets part : List ℕ) : Type 0 where
  pub front : slice_index octets 0 ≡ 0
  pub within : 4 + length part ≤ length octets
  pub counted : length part ≡ slice_index octets 3 % 128
  pub part_is : take (length part) (drop 4 octets) ≡ part
  pub end : HasNoZeroAtEnd part

abbrev pub LacksPart : List ℕ → Type 0
LacksPart octets = (part : List ℕ) → HasPart octets part → ⊥

-- the item that octets begin with, and its length in octets
abbrev pub IsItemOf : List ℕ → Prefix → ℕ → Type 0
IsItemOf octets p width = IsPrefix p × (width ≤ length octets) × IsPrefixWire p (take width octets)

-- octets don't begin with an item
abbrev pub LacksItem : List ℕ → Type 0
LacksItem octets = (p : Prefix) → BeginsWithItem octets p → ⊥

abbrev pub FindsItem : List ℕ → Option Item → Type 0
FindsItem octets r = MatchOption r (LacksItem octets) (λ i. IsItemOf octets i.prefix i.width)

abbrev pub FindsItemWidth : List ℕ → Option ℕ → Type 0
FindsItemWidth octets r = MatchOption r (LacksItem octets) (λ width. (p : Prefix) × IsItemOf octets p width)

-- What an item prints as spells it, and a text spells one. An item has one wire format, and octets
-- begin with one item at most.
pub record PrefixesAreRead : Type 0 where
  pub spelled : (p : Prefix) → IsPrefix p → SpellsPrefix (prefix_text p) p
  pub once : (text : List ℕ) (p q : Prefix) → SpellsPrefix text p → SpellsPrefix text q → p ≡ q
  pub valid : (text : List ℕ) (p : Prefix) → SpellsPrefix text p → IsPrefix p
  pub written : (p : Prefix) → IsPrefix p → (octets : List ℕ) × IsPrefixWire p octets
  pub one_form : (p : Prefix) (a b : List ℕ) → IsPrefixWire p a → IsPrefixWire p b → a ≡ b
  pub one_item : (octets : List ℕ) (p q : Prefix) → BeginsWithItem octets p → BeginsWithItem octets q → p ≡ q
