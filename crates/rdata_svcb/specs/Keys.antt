-- Names of keys of service parameters (RFC 9460 section 2.1).
use Rattle.std.specs.Prelude.{ℕ, ◌≡◌, ◌≢◌, ◌<◌, ◌^◌, ◌++◌, List, [], ◌∷◌, codes, decimal, length, slice_index, find, map, Option, MatchOption}
use Rattle.std.specs.Str.{bytes_eq}
use Rattle.rdata_svcb.specs.declared.keys.NamedKey.{NamedKey}
use Rattle.rdata_svcb.specs.declared.keys.SpelledKey.{SpelledKey}
use Rattle.rdata_svcb.specs.declared.keys.ValueKind.{ValueKind}
use Rattle.rdata_svcb.specs.declared.keys.ValueKind.TheVariants.{Keys, Strings, Nothing, Port, Ipv4, Digits, Ipv6, Octets}

-- a key with a name, and the form of its value
pub record KeyRow : Type 0 where
  pub code : ℕ
  pub name : List ℕ
  pub kind : ValueKind

abbrev pub key_row : ℕ → List ℕ → ValueKind → KeyRow
key_row c n k = record { code = c; name = n; kind = k }

abbrev pub rows_of : List NamedKey → List KeyRow
rows_of = map (λ (n : NamedKey). key_row n.0 n.1.now n.2)

abbrev pub key_rows : List KeyRow
key_rows =
    key_row 0 (codes "mandatory") Keys ∷
    key_row 1 (codes "alpn") Strings ∷
    key_row 2 (codes "no-default-alpn") Nothing ∷
    key_row 3 (codes "port") Port ∷
    key_row 4 (codes "ipv4hint") Ipv4 ∷
    key_row 5 (codes "ech") Digits ∷
    key_row 6 (codes "ipv6hint") Ipv6 ∷
    key_row 7 (codes "dohpath") Octets ∷
    key_row 8 (codes "ohttp") Nothing ∷
    []

-- the row with this name
abbrev pub named_row : List KeyRow → List ℕ → Option KeyRow
named_row rows text = find (λ (r : KeyRow). bytes_eq r.name text) rows

-- `key` and a number of 16 bits in decimal
abbrev pub IsNumberedKey : List ℕ → ℕ → Type 0
IsNumberedKey text code = (code < 2 ^ 16) × (text ≡ codes "key" ++ decimal code)

-- a text names a key: that of the row with this name, or without such a row by its number, and
-- then the value is any octets
abbrev pub NamesKeyOf : List KeyRow → List ℕ → ℕ → ValueKind → Type 0
NamesKeyOf rows text code kind =
    MatchOption (named_row rows text) (IsNumberedKey text code × (kind ≡ Octets)) (λ r. (code ≡ r.code) × (kind ≡ r.kind))

abbrev pub NamesKey : List ℕ → ℕ → ValueKind → Type 0
NamesKey = NamesKeyOf key_rows

-- digits begin with a zero that more digits follow
abbrev pub HasZeros : List ℕ → Type 0
HasZeros digits = (1 < length digits) × (slice_index digits 0 ≡ 48)

-- a search finds the key that a text names, if it names one
abbrev pub FindsKey : (ℕ → ValueKind → Type 0) → Option SpelledKey → Type 0
FindsKey names r = MatchOption r ((code : ℕ) (kind : ValueKind) → names code kind → ⊥) (λ k. names k.code k.kind × (k.code < 2 ^ 16))

-- the number that a text is in decimal
abbrev pub FindsKeyNumber : List ℕ → Option ℕ → Type 0
FindsKeyNumber text r = MatchOption r ((n : ℕ) → n < 2 ^ 16 → text ≢ decimal n) (λ n. (n < 2 ^ 16) × (text ≡ decimal n))
