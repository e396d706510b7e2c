-- Octets after an octet that has their length, as hashes and salts are (RFC 5155 section 3.2).
use Rattle.std.specs.Prelude.{ℕ, ◌≡◌, ◌<◌, ◌==◌, ◌||◌, not, nat_lt, if◌then◌else◌, List, ◌∷◌, length, slice_index, ◌⊎◌}
use Rattle.dns_codec.specs.Base.{base32hex}
use Rattle.dns_codec.specs.Grammar.{may_end_after}
use Rattle.rdata_tokens.specs.Spelled.{SpellsDigits}
use Rattle.rdata_values.specs.declared.error.ErrorKind.{ErrorKind}
use Rattle.rdata_values.specs.declared.error.ErrorKind.TheVariants.{LongHash, ShortBase32, IllegalBase32, ShortBuf}
use Rattle.dns_octets.specs.Room.{Room}
use Rattle.dns_octets.specs.Appending.{ExceedsRoom}

-- the first octet, or 0 if there is none
abbrev pub first_octet : List ℕ → ℕ
first_octet octets = slice_index octets 0

-- the error of a text that is not a hash: 255 octets have 408 digits
abbrev pub hash_refusal : List ℕ → ErrorKind
hash_refusal text =
    if nat_lt 408 (length text) then LongHash
    else if (length text == 0) || not (may_end_after base32hex (length text)) then ShortBase32
    else IllegalBase32

-- the text is a hash of 1 to 255 octets in base 32 hex, and the octets are its wire format
pub record SpellsHash (text octets : List ℕ) : Type 0 where
  pub hash : List ℕ
  pub spelled : SpellsDigits base32hex text hash
  pub some : 0 < length hash
  pub short : length hash < 256
  pub wire_is : octets ≡ length hash ∷ hash

-- a text is rejected: it is a hash that doesn't surely fit after the octets that the target had, or it is not a hash
abbrev pub RefusesHash : Room → List ℕ → List ℕ → ErrorKind → Type 0
RefusesHash room text old e =
    ((e ≡ ShortBuf) × ExceedsRoom room (SpellsHash text) old)
    ⊎ ((e ≡ hash_refusal text) × ((octets : List ℕ) → SpellsHash text octets → ⊥))

-- the octets begin with a whole salt, or with a whole hash of at least one octet
abbrev pub HasSalt : List ℕ → Type 0
HasSalt octets = first_octet octets < length octets

abbrev pub HasHash : List ℕ → Type 0
HasHash octets = (0 < first_octet octets) × HasSalt octets
