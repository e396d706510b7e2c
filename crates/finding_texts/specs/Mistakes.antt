-- Mistakes that a message names.
use Rattle.std.specs.Prelude.{◌≡◌, ℕ, zero, suc, ◌+◌, ◌-◌, ◌==◌, ◌&&◌, ◌||◌, ◌⊎◌, nat_le, nat_lt, if◌then◌else◌, Bool, false, List, [], ◌∷◌, codes, find, length, take, Option, Some, None, MatchOption}
use Rattle.std.specs.Char.{is_ascii_digit}
use Rattle.std.specs.Option.{option_map}
use Rattle.std.specs.Str.{all_ascii_digits}
use Rattle.std.specs.Str.Parse.{digits_value}
use Rattle.std.specs.Net.Grammar.{IsIpv4Text, IsIpv6Text}
use Rattle.std.specs.declared.net.ipv4_addr.Ipv4Addr.{Ipv4Addr}
use Rattle.std.specs.declared.net.ipv6_addr.Ipv6Addr.{Ipv6Addr}
use Rattle.dns_symbol.specs.Characters.{backslash}
use Rattle.rdata_values.specs.Rtype as Rtype
use Rattle.rdata_values.specs.declared.types.RecordType.{RecordType}

-- a line that a version control system writes between two versions
abbrev pub IsConflictMarker : List ℕ → Type 0
IsConflictMarker word = (word ≡ codes "<<<<<<<") ⊎ (word ≡ codes "=======") ⊎ (word ≡ codes ">>>>>>>") ⊎ (word ≡ codes "|||||||")

-- how comments of other languages begin
abbrev pub slash_mark : List ℕ → Option (List ℕ)
slash_mark [] = None
slash_mark (c ∷ cs) = if c == 47 then Some (codes "//") else None

abbrev pub foreign_mark : List ℕ → Option (List ℕ)
foreign_mark [] = None
foreign_mark (c ∷ cs) = if c == 35 then Some (codes "#") else if c == 47 then slash_mark cs else None

-- an address of the type
abbrev pub FitsType : (word : List ℕ) → RecordType → Type 0
FitsType word t = ((t ≡ Rtype.a) × (address : Ipv4Addr) × IsIpv4Text word address) ⊎ ((t ≡ Rtype.aaaa) × (address : Ipv6Addr) × IsIpv6Text word address)

-- the type of the address, or `None` for any other word
abbrev pub FindsAddressType : (word : List ℕ) → Option RecordType → Type 0
FindsAddressType word r = MatchOption r ((t : RecordType) → FitsType word t → ⊥) (FitsType word)

-- the last octet of the quotation marks from U+2018 to U+201F, and of U+2039 and U+203A
abbrev pub is_third : ℕ → Bool
is_third c = (nat_le 152 c && nat_le c 159) || (c == 185 || c == 186)

-- the octets of U+00AB or U+00BB
abbrev pub are_two : ℕ → ℕ → Bool
are_two a b = a == 194 && (b == 171 || b == 187)

abbrev pub are_three : ℕ → ℕ → ℕ → Bool
are_three a b c = a == 226 && (b == 128 && is_third c)

-- the number of octets of the quotation mark at the beginning
abbrev pub quotation_mark : List ℕ → ℕ
quotation_mark (a ∷ b ∷ c ∷ rest) = if are_three a b c then 3 else if are_two a b then 2 else 0
quotation_mark (a ∷ b ∷ []) = if are_two a b then 2 else 0
quotation_mark _ = 0

-- the number of octets of an escape, after its backslash: of three digits, or of one octet
abbrev pub escaped_len : List ℕ → ℕ
escaped_len [] = 1
escaped_len (d ∷ rest) = if is_ascii_digit d then 3 else 1

-- and of an escape or a plain octet
abbrev pub spelled_len : List ℕ → ℕ
spelled_len [] = 1
spelled_len (c ∷ cs) = if c == backslash then 1 + escaped_len cs else 1

-- what is left of a text where an escape or a plain octet begins; the first `skipped` octets are of an escape before them
unfoldable pub spelled_after : (skipped : ℕ) → List ℕ → List (List ℕ)
spelled_after skipped [] = []
spelled_after zero (c ∷ cs) = (c ∷ cs) ∷ spelled_after (spelled_len (c ∷ cs) - 1) cs
spelled_after (suc n) (c ∷ cs) = spelled_after n cs

abbrev pub spelled_rests : List ℕ → List (List ℕ)
spelled_rests text = spelled_after 0 text

-- the number of octets that a text spells
abbrev pub count_spelled : List ℕ → ℕ
count_spelled text = length (spelled_rests text)

-- three digits of a number above 255
abbrev pub are_high : List ℕ → Bool
are_high digits = all_ascii_digits digits && nat_lt 255 (digits_value 10 digits)

-- an escape of three digits above 255
abbrev pub begins_high : List ℕ → Bool
begins_high [] = false
begins_high (c ∷ cs) = c == backslash && are_high (take 3 cs)

-- the offset of the first such escape
abbrev pub high_escape : List ℕ → Option ℕ
high_escape text = option_map (λ rest. length text - length rest) (find begins_high (spelled_rests text))
