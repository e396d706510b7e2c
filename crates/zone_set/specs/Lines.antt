-- Records and changes as lines of text.
use Rattle.std.specs.Prelude.{ℕ, List, [], ◌∷◌, ◌++◌, ◌==◌, map, length, codes, decimal, if◌then◌else◌}
use Rattle.std.specs.Char.{to_ascii_lowercase}
use Rattle.dns_codec.specs.Base.{base16, encoded}
use Rattle.rdata_values.specs.Classes.{class_text}
use Rattle.rdata_values.specs.declared.classes.Class.{Class}
use Rattle.rdata_values.specs.declared.types.RecordType.{RecordType}
use Rattle.zone_record.specs.Records.{data_of, record_document}
use Rattle.zone_record.specs.declared.record.Record.{Record}
use Rattle.rdata_tokens.specs.PrintedNames.{wire_name_text}
use Rattle.dns_symbol.specs.Characters.{line_feed}
use Rattle.dns_wire.specs.Wire.{wire}
use Rattle.dns_zone.specs.Printed.{printed}
use Rattle.dns_zone.specs.declared.zonefile_fmt.DisplayKind.TheVariants.{Tabbed}
use Rattle.zone_contents.specs.declared.changes.Change.{Change}
use Rattle.zone_contents.specs.declared.changes.Change.TheVariants.{Removed, Added, NewTtl}

abbrev pub owner_text : {N O : Type 0} → Record N O → List ℕ
owner_text r = wire_name_text (wire r.owner)

-- the tabbed layout of a record, and a line end
abbrev pub record_line : {N O : Type 0} → Record N O → List ℕ
record_line r = printed Tabbed (record_document r) ++ line_feed ∷ []

-- two digits for each octet, in lower case
abbrev pub lower_hex_text : List ℕ → List ℕ
lower_hex_text octets = map to_ascii_lowercase (encoded base16 octets)

-- a blank and the digits, if there are octets
abbrev pub hex_word : List ℕ → List ℕ
hex_word octets = if length octets == 0 then [] else codes " " ++ lower_hex_text octets

-- a TTL, a class, a type by its code, and the number of octets
abbrev pub middle_text : ℕ → Class → RecordType → ℕ → List ℕ
middle_text ttl class rtype count =
    codes "\t" ++ decimal ttl ++ codes "\t" ++ class_text class ++ codes "\tTYPE" ++ decimal rtype ++ codes "\t\\# " ++ decimal count

-- the type by its code, and the data as octets
abbrev pub generic_line : {N O : Type 0} → Record N O → List ℕ
generic_line r = owner_text r ++ middle_text r.ttl r.class (data_of r).rtype (length (data_of r).octets) ++ hex_word (data_of r).octets ++ line_feed ∷ []

-- two TTLs, with an arrow between them
abbrev pub ttls_text : ℕ → ℕ → List ℕ
ttls_text old new = codes "~ " ++ decimal old ++ codes " -> " ++ decimal new ++ codes " "

abbrev pub change_line : {N O : Type 0} → Change N O → List ℕ
change_line (Removed r) = codes "- " ++ record_line r.now
change_line (Added r) = codes "+ " ++ record_line r.now
change_line (NewTtl old new) = ttls_text old.now.ttl new.now.ttl ++ record_line new.now
