-- Worked examples of texts that are printed from records.
use Rattle.std.specs.Prelude.{◌≡◌, ℕ, List, [], ◌∷◌, codes, None, refl, Ok}
use Rattle.std.specs.Fmt.{digits}
use Rattle.rdata_values.specs.Rtype as Rtype
use Rattle.rdata_values.specs.Types.{type_rows}
use Rattle.rdata_tokens.specs.PrintedNames.{labels_in_octets}
use Rattle.dns_wire.specs.Wire.{wire}
use Rattle.dns_zone.specs.declared.zonefile_fmt.DisplayKind.TheVariants.{Simple, Multiline}
use Rattle.rdata.specs.Types.{type_shapes}
use Rattle.zone_record.specs.declared.record.Record.{Record}
use Rattle.zone_reader.specs.declared.entry.ParsedEntry.TheVariants.{Record as IsRecord}
use Rattle.zone_reader.specs.declared.known.NameState.TheVariants.{Name, Unset}
use Rattle.zone_reader.specs.declared.ttl.RecordTtl.TheVariants.{Explicit}
use Rattle.zone_stream.specs.PrintedTexts.{IsRecordReturned, records_text}

abbrev below_example : List ℕ → List (List ℕ)
below_example label = label ∷ codes "example" ∷ [] ∷ []

abbrev mail : List ℕ
mail = 0 ∷ 10 ∷ wire (below_example (codes "mail"))

abbrev mail_record : Record ℕ ℕ
mail_record = record { owner = below_example (codes "a"); ttl = 3600; class = 1; «data» = record { rtype = Rtype.mx; octets = mail } }

-- a line end comes after each record, also after the last
lines_row : records_text Simple (mail_record ∷ mail_record ∷ []) ≡ codes "a.example. 3600 IN MX 10 mail.example.\na.example. 3600 IN MX 10 mail.example.\n"
unfolding type_shapes type_rows labels_in_octets digits
lines_row = refl

block_row : records_text Multiline (mail_record ∷ []) ≡ codes "a.example. 3600 IN MX ( 10 mail.example. )\n"
unfolding type_shapes type_rows labels_in_octets digits
block_row = refl

no_record_row : records_text {N = ℕ} {O = ℕ} Simple [] ≡ []
no_record_row = refl

-- the result for it, if it begins at 43 and ends at 81, its data begin at 65, and one octet is in the target before
given_row : IsRecordReturned mail_record (record {
  old = 7 ∷ [];
  result = Ok (IsRecord 43 65 81 (Explicit 3600) 1 Rtype.mx);
  new = 7 ∷ mail;
  state = record { origin = Unset; owner = Name (below_example (codes "a")); default_ttl = None; last_ttl = None; class = 3 };
})
given_row = record { at = 43; data_at = 65; end = 81; is = refl; owner = refl; «data» = refl }
