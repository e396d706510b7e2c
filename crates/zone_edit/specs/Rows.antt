-- Worked examples of the definitions, each computed.
use Rattle.std.specs.Prelude.{◌≡◌, Bool, true, false, List, [], ◌∷◌, map, None, Some, Ok, Err, codes, refl}
use Rattle.std.specs.Fmt.{decimal}
use Rattle.dns_codec.specs.Base.{base16, encoded}
use Rattle.dns_lexer.specs.declared.pieces.Span.{Span}
use Rattle.zone_edit.specs.declared.place.RecordPlace.{RecordPlace}
use Rattle.zone_edit.specs.declared.serial.SerialSpelling.TheVariants.{Decimal, Escaped, Generic}
use Rattle.zone_edit.specs.declared.serial.SoaError.TheVariants.{Generated, Included, NoSoa}
use Rattle.zone_edit.specs.Changes.{change_spans, change_texts, hex_changes, number_changes}
use Rattle.zone_edit.specs.Lines.{line_after}
use Rattle.zone_edit.specs.Marks.{is_generic}
use Rattle.zone_edit.specs.Places.{soa_place}
use Rattle.zone_edit.specs.Serials.{serial_token, spelled_token}
use Rattle.zone_edit.specs.Stale.{is_of_signed_zone, signs_soa}
use Rattle.zone_edit.specs.Tokens.{span_between}
use Rattle.zone_edit.specs.Zonemds.{fewest_tokens}

-- ---- the RDATA of an SOA: its serial in digits, with an escape, in quotes; and the generic form (RFC 3597 section 5)
abbrev soa_spans : List Span
soa_spans = span_between 0 2 ∷ span_between 3 4 ∷ span_between 5 7 ∷ []

serials : map (λ text. serial_token text soa_spans) (codes "ns h 17 1 2 3 4" ∷ codes "ns h 1x 1 2 3 4" ∷ codes "ns h \"\" 1 2 3 4" ∷ codes "\\# 2 00" ∷ [])
    ≡ Some (spelled_token (span_between 5 7) Decimal) ∷ Some (spelled_token (span_between 5 7) Escaped) ∷ Some (spelled_token (span_between 5 7) Escaped)
    ∷ Some (spelled_token (span_between 0 2) Generic) ∷ []
serials = refl

two_tokens : serial_token (codes "ns h") (span_between 0 2 ∷ span_between 3 4 ∷ []) ≡ None
two_tokens = refl

marks : map (λ text. is_generic text soa_spans) (codes "\\# 1 00" ∷ codes "\"# 1 00" ∷ codes "\\#" ∷ codes "ns h 17" ∷ []) ≡ true ∷ false ∷ true ∷ false ∷ []
marks = refl

-- the fewest tokens of ZONEMD RDATA, in the generic form and else
fewest : map (λ text. fewest_tokens text soa_spans) (codes "\\# 1 00" ∷ codes "17 1 1 AB" ∷ []) ≡ 3 ∷ 4 ∷ []
fewest = refl

-- ---- a digest of three tokens: the first is replaced, the others go with the blanks before them; the comment stays
abbrev digest_spans : List Span
digest_spans = span_between 2 4 ∷ span_between 5 7 ∷ span_between 11 13 ∷ []

digest_changes : change_spans (codes "( AB CD ;x\nEF )") (hex_changes digest_spans (171 ∷ []) (1 ∷ 239 ∷ []))
    ≡ span_between 2 4 ∷ span_between 4 7 ∷ span_between 11 13 ∷ []
digest_changes = refl

digest_texts : change_texts (codes "( AB CD ;x\nEF )") (hex_changes digest_spans (171 ∷ []) (1 ∷ 239 ∷ [])) ≡ encoded base16 (1 ∷ 239 ∷ []) ∷ [] ∷ [] ∷ []
digest_texts = refl

-- the same digest, and the same and another serial
no_changes : map (λ new. change_texts (codes "7") (number_changes (span_between 0 1) 7 new)) (7 ∷ 2026112601 ∷ []) ≡ [] ∷ (decimal 2026112601 ∷ []) ∷ []
no_changes = refl

same_digest : change_spans (codes "( AB CD ;x\nEF )") (hex_changes digest_spans (171 ∷ []) (171 ∷ [])) ≡ []
same_digest = refl

-- ---- a line after others: with CR LF as they have, and with LF before it if they end within a line
inserted : map (λ before. line_after before (codes "b")) (codes "a\n" ∷ codes "a\r\n" ∷ codes "a" ∷ codes "x\r\na" ∷ [])
    ≡ codes "b\n" ∷ codes "b\r\n" ∷ codes "\nb\n" ∷ codes "\r\nb\r\n" ∷ []
inserted = refl

-- ---- the records of an apex: an SOA, a ZONEMD, each in an included file, and by $GENERATE
abbrev own_record : Bool → RecordPlace
own_record b = record { is_soa = b; is_included = false; is_generated = false }

abbrev included_record : Bool → RecordPlace
included_record b = record { is_soa = b; is_included = true; is_generated = false }

abbrev generated_record : Bool → RecordPlace
generated_record b = record { is_soa = b; is_included = false; is_generated = true }

soa_places : map soa_place
    ((own_record true ∷ []) ∷ (own_record false ∷ own_record true ∷ own_record true ∷ []) ∷ (own_record false ∷ []) ∷ []
    ∷ (own_record true ∷ included_record false ∷ []) ∷ (generated_record true ∷ included_record false ∷ []) ∷ [])
    ≡ Ok 0 ∷ Ok 1 ∷ Err NoSoa ∷ Err NoSoa ∷ Err (Included 1) ∷ Err (Generated 0) ∷ []
soa_places = refl

-- ---- an RRSIG of SOA, one of NS, and an NS; types of signed zones
signatures : signs_soa 46 (0 ∷ 6 ∷ 13 ∷ []) ∷ signs_soa 46 (0 ∷ 2 ∷ 13 ∷ []) ∷ signs_soa 2 (0 ∷ 6 ∷ []) ∷ signs_soa 46 (0 ∷ []) ∷ [] ≡ true ∷ false ∷ false ∷ false ∷ []
signatures = refl

signed_types : map is_of_signed_zone (46 ∷ 47 ∷ 50 ∷ 6 ∷ 63 ∷ []) ≡ true ∷ true ∷ true ∷ false ∷ false ∷ []
signed_types = refl
