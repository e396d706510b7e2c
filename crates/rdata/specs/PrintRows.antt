-- Worked rows of the definitions, each computed.
use Rattle.std.specs.Prelude.{◌≡◌, ℕ, true, false, List, [], ◌∷◌, ◌++◌, codes, refl}
use Rattle.std.specs.Fmt.{digits}
use Rattle.rdata_values.specs.Types.{type_rows}
use Rattle.rdata_values.specs.Bitmap.{set_places, block_types}
use Rattle.rdata_tokens.specs.PrintedNames.{labels_in_octets}
use Rattle.rdata_fields.specs.declared.field.Field.TheVariants.{Number16, String, PsdnAddress, Name}
use Rattle.rdata.specs.Printing.{printed_parts, token_bytes}
use Rattle.rdata.specs.declared.rest.Rest.TheVariants.{Nothing, Strings, Hex, SomeTypes, Types}

-- a preference and a host, as in MX
preference_and_host : printed_parts (Number16 ∷ Name ∷ []) Nothing (0 ∷ 10 ∷ 4 ∷ codes "mail" ++ 7 ∷ codes "example" ++ 0 ∷ [])
    ≡ record { is_quoted = false; text = codes "10" } ∷ record { is_quoted = false; text = codes "mail.example." } ∷ []
unfolding labels_in_octets digits
preference_and_host = refl

-- two strings, the second without octets
two_strings : printed_parts [] Strings (2 ∷ codes "a\"" ++ 0 ∷ []) ≡ record { is_quoted = true; text = codes "a\\\"" } ∷ record { is_quoted = true; text = [] } ∷ []
two_strings = refl

-- a quoted string is between double quotes
in_quotes : token_bytes (record { is_quoted = true; text = codes "a\\\"" }) ≡ codes "\"a\\\"\""
in_quotes = refl

-- a string as a field, and after it an empty tail in hexadecimal
no_digits : printed_parts (String ∷ []) Hex (1 ∷ 120 ∷ []) ≡ record { is_quoted = true; text = codes "x" } ∷ []
no_digits = refl

-- the example of RFC 4034 section 4.3, without TYPE1234
next_name : printed_parts (Name ∷ []) Types (4 ∷ codes "host" ++ 7 ∷ codes "example" ++ 3 ∷ codes "com" ++ 0 ∷ 0 ∷ 6 ∷ 64 ∷ 1 ∷ 0 ∷ 0 ∷ 0 ∷ 3 ∷ [])
    ≡ record { is_quoted = false; text = codes "host.example.com." } ∷ record { is_quoted = false; text = codes "A" } ∷ record { is_quoted = false; text = codes "MX" } ∷ record { is_quoted = false; text = codes "RRSIG" }
    ∷ record { is_quoted = false; text = codes "NSEC" } ∷ []
unfolding labels_in_octets set_places block_types type_rows
next_name = refl

-- TYPE262 and TYPE263, whose names not every reader knows
numbered_types : printed_parts [] SomeTypes (1 ∷ 1 ∷ 3 ∷ []) ≡ record { is_quoted = false; text = codes "TYPE262" } ∷ record { is_quoted = false; text = codes "TYPE263" } ∷ []
unfolding set_places block_types type_rows digits
numbered_types = refl

-- an X25 address
address : printed_parts (PsdnAddress ∷ []) Nothing (4 ∷ codes "1234") ≡ record { is_quoted = true; text = codes "1234" } ∷ []
address = refl
