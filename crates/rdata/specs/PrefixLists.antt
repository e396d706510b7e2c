-- Address prefix lists to the end of an entry (RFC 3123).
use Rattle.std.specs.Prelude.{ℕ, zero, suc, ◌≡◌, ◌≤◌, ◌⊎◌, ◌+◌, ◌-◌, ◌%◌, ◌==◌, ◌&&◌, ◌||◌, Bool, not, nat_le, if◌then◌else◌, true, false, List, [], ◌∷◌, ◌++◌, length, drop, replicate, slice_index}
use Rattle.std.specs.Net.Addr.{segments_of}
use Rattle.std.specs.declared.net.ip_addr.IpAddr.{IpAddr}
use Rattle.std.specs.declared.net.ip_addr.IpAddr.TheVariants.{V4, V6}
use Rattle.rdata_values.specs.declared.error.ErrorKind.{ErrorKind}
use Rattle.rdata_values.specs.declared.error.ErrorKind.TheVariants.{Quoted, ExpectedPrefix}
use Rattle.rdata_tails.specs.Prefixes.{SpellsItem, IsPrefix, IsPrefixWire, prefix_text}
use Rattle.rdata_tails.specs.declared.apl.Prefix.{Prefix}
use Rattle.dns_lexer.specs.EntryTokens.{TokenSeen}
use Rattle.rdata.specs.Rests.{RestForm}
use Rattle.rdata.specs.TokenForms.{TokenForm, each_form}

-- why a token is not an item: it is a quoted string; or it spells none
abbrev pub PrefixReason : TokenSeen → ErrorKind → Type 0
PrefixReason t e = ((e ≡ Quoted) × (t.is_quoted ≡ true)) ⊎ ((e ≡ ExpectedPrefix) × (t.is_quoted ≡ false))

-- the octets of an item
abbrev pub IsPrefixItem : List ℕ → Type 0
IsPrefixItem octets = (p : Prefix) × IsPrefix p × IsPrefixWire p octets

-- ---- the item of octets

-- octets, and zeros up to a count
abbrev pub with_zeros : ℕ → List ℕ → List ℕ
with_zeros size part = part ++ replicate (size - length part) 0

-- the address of a family, without the zeros at its end
abbrev pub family_address : ℕ → List ℕ → IpAddr
family_address family part = if family == 1 then V4 (record { octets = with_zeros 4 part }) else V6 (record { segments = segments_of (with_zeros 16 part) })

abbrev pub item_prefix : List ℕ → Prefix
item_prefix octets = record { negated = nat_le 128 (slice_index octets 3); address = family_address (slice_index octets 1) (drop 4 octets); bits = slice_index octets 2 }

-- the length of an item: 4, and the number in its fourth octet without the bit of an exclusion
abbrev pub item_size : List ℕ → ℕ
item_size octets = 4 + slice_index octets 3 % 128

-- an item as a word
abbrev pub prefix_form : TokenForm
prefix_form = record {
  spells = λ t octets. (t.is_quoted ≡ false) × SpellsItem t.text octets;
  begins = λ t octets. (t.is_quoted ≡ false) × SpellsItem t.text octets;
  reason = PrefixReason;
  is_wire = IsPrefixItem;
  width = item_size;
  printed = λ octets. record { is_quoted = false; text = prefix_text (item_prefix octets) };
}

-- items, any number of them
abbrev pub prefixes_form : RestForm
prefixes_form = each_form prefix_form

-- ---- items of other families

-- a family other than 1 and 2
abbrev pub is_other_family : List ℕ → Bool
is_other_family octets = not ((slice_index octets 0 == 0) && ((slice_index octets 1 == 1) || (slice_index octets 1 == 2)))

-- such an item has the length that it states, and no more is known of it (RFC 3123 section 4)
pub record IsOtherItem (octets : List ℕ) : Type 0 where
  pub family : is_other_family octets ≡ true
  pub head : 4 ≤ length octets
  pub whole : length octets ≡ item_size octets

abbrev pub IsAnyItem : List ℕ → Type 0
IsAnyItem octets = IsPrefixItem octets ⊎ IsOtherItem octets

-- one of at most `count` items is of another family
abbrev pub is_other_in : ℕ → List ℕ → Bool
is_other_in zero octets = false
is_other_in (suc count) [] = false
is_other_in (suc count) (o ∷ os) = let octets = o ∷ os in is_other_family octets || is_other_in count (drop (item_size octets) octets)

abbrev pub has_other_family : List ℕ → Bool
has_other_family octets = is_other_in (length octets) octets
