-- Worked examples of the definitions, each computed.
use Rattle.std.specs.Prelude.{◌≡◌, true, false, [], ◌∷◌, ◌++◌, map, codes, decimal, refl, Some, None, Ok}
use Rattle.std.specs.List.{flat_map}
use Rattle.rdata_values.specs.Classes.{class_text}
use Rattle.rdata_values.specs.Rtype as Rtype
use Rattle.rdata_values.specs.Types.{type_rows, type_text}
use Rattle.zone_reader.specs.declared.ttl.RecordTtl.TheVariants.{Explicit, Default, Last}
use Rattle.dns_lexer.specs.Pieces.{end_at, word_at}
use Rattle.c_calls.specs.Kept.{flagged}
use Rattle.c_calls.specs.NameForms.{ends_with_name}
use Rattle.c_calls.specs.Records.{returned_ttl}
use Rattle.c_calls.specs.Status.{status_text}
use Rattle.c_calls.specs.TextData.{string_wire, strings_length}
use Rattle.c_calls.specs.WholeEntries.{end_after}
use Rattle.c_calls.specs.Reports.{number_of}
use Rattle.c_calls.specs.declared.outcome.Refusal.TheVariants.{NoRoom, BadPlace, BadTtl, UnknownType, UnknownClass, Closing, OpenParenthesis, OpenQuote, LoneReturn, BadEscape, NotSupported, NoOrigin, NoOwner, RefusedOwner, NoTtl}

-- two types with a name and one without, and the classes 1 and 254
types : map type_text (Rtype.mx ∷ Rtype.caa ∷ 65280 ∷ []) ≡ codes "MX" ∷ codes "CAA" ∷ (codes "TYPE" ++ decimal 65280) ∷ []
unfolding type_rows
types = refl

classes : map class_text (1 ∷ 254 ∷ []) ≡ codes "IN" ∷ (codes "CLASS" ++ decimal 254) ∷ []
classes = refl

-- the texts of statuses
refusals : map (λ r. status_text (number_of r)) (NoRoom ∷ BadPlace ∷ BadTtl ∷ UnknownType ∷ UnknownClass ∷ [])
    ≡ codes "no room" ∷ codes "place past the end" ∷ codes "expected TTL" ∷ codes "unknown record type" ∷ codes "unknown class" ∷ []
refusals = refl

syntax_errors : map (λ r. status_text (number_of r)) (Closing ∷ OpenParenthesis ∷ OpenQuote ∷ LoneReturn ∷ BadEscape ∷ [])
    ≡ codes "closing parenthesis, and none is open" ∷ codes "parenthesis is not closed" ∷ codes "quoted text is not closed" ∷ codes "CR without LF" ∷ codes "illegal escape sequence" ∷ []
syntax_errors = refl

entries : map (λ r. status_text (number_of r)) (NotSupported ∷ NoOrigin ∷ NoOwner ∷ RefusedOwner ∷ NoTtl ∷ [])
    ≡ codes "not supported: expand it first" ∷ codes "relative name, and no origin" ∷ codes "no owner" ∷ codes "the owner before is refused" ∷ codes "no TTL" ∷ []
entries = refl

-- a TTL that is missing, and two of a minute
ttls : flagged 0 60 ∷ flagged 1 60 ∷ flagged 255 60 ∷ [] ≡ None ∷ Some 60 ∷ Some 60 ∷ []
ttls = refl

-- a TTL of a record below 2^31, and two that are not
returned_ttls : map returned_ttl (Explicit 2147483647 ∷ Default 2147483648 ∷ Last 4294967295 ∷ []) ≡ 2147483647 ∷ 0 ∷ 0 ∷ []
returned_ttls = refl

-- the lengths of the strings of these numbers of octets
lengths_of_strings : map strings_length (0 ∷ 1 ∷ 255 ∷ 256 ∷ 510 ∷ 511 ∷ 65279 ∷ []) ≡ 1 ∷ 2 ∷ 256 ∷ 258 ∷ 512 ∷ 514 ∷ 65535 ∷ []
lengths_of_strings = refl

-- the strings "v=1" and "" as RDATA of TXT
texts : flat_map string_wire (codes "v=1" ∷ [] ∷ []) ≡ 3 ∷ 118 ∷ 61 ∷ 49 ∷ 0 ∷ []
texts = refl

-- `www.Example.` ends with `example.`, with the root and with no labels, but not with `www.`, `ple.` or the relative `example`
ends : map (ends_with_name (codes "www" ∷ codes "Example" ∷ [] ∷ [])) ((codes "example" ∷ [] ∷ []) ∷ ([] ∷ []) ∷ [] ∷ (codes "www" ∷ [] ∷ []) ∷ (codes "ple" ∷ [] ∷ []) ∷ (codes "example" ∷ []) ∷ [])
    ≡ true ∷ true ∷ true ∷ false ∷ false ∷ false ∷ []
ends = refl

longer_zone : ends_with_name (codes "example" ∷ [] ∷ []) (codes "www" ∷ codes "example" ∷ [] ∷ []) ≡ false
longer_zone = refl

-- the pieces of "a\nb\nc": an entry ends at 2 and one at 4, before the last word
ends_of_entries : end_after 0 (Ok (word_at 0 1) ∷ Ok (end_at 2 false) ∷ Ok (word_at 2 3) ∷ Ok (end_at 4 false) ∷ Ok (word_at 4 5) ∷ []) ≡ 4
ends_of_entries = refl

no_entry_ends : end_after 7 (Ok (word_at 7 8) ∷ []) ≡ 7
no_entry_ends = refl
