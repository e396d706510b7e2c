-- The findings about an entry.
use Rattle.std.specs.Prelude.{ℕ, ◌≡◌, ◌-◌, ◌==◌, ◌&&◌, ◌||◌, not, if◌then◌else◌, Bool, true, false, List, [], ◌∷◌, ◌++◌, map, slice_get, option_to_list, Option, Some, None, Result}
use Rattle.std.specs.List.{list_any}
use Rattle.dns_lexer.specs.EntryTokens.{TokenSeen, token_seen}
use Rattle.dns_lexer.specs.declared.entry_tokens.EntryToken.{EntryToken}
use Rattle.rdata_fields.specs.declared.record_error.RecordError.{RecordError}
use Rattle.rdata_fields.specs.declared.record_ref.RecordRef.{RecordRef}
use Rattle.rdata_values.specs.Rtype as Rtype
use Rattle.rdata_values.specs.declared.error.ErrorKind.{ErrorKind}
use Rattle.rdata_values.specs.declared.classes.Class.{Class}
use Rattle.rdata_values.specs.declared.types.RecordType.{RecordType}
use Rattle.zone_reader.specs.Past.{seconds_of}
use Rattle.zone_reader.specs.declared.directive.Directive.{Directive as DirectiveKind}
use Rattle.zone_reader.specs.declared.ttl.RecordTtl.{RecordTtl}
use Rattle.finding_codes.specs.declared.code.Code.{Code}
use Rattle.finding_codes.specs.declared.code.Code.TheVariants.{MaxEntry, NoOrigin, NoOwner}
use Rattle.zone_check.specs.declared.lint.Block.{Block}
use Rattle.zone_check.specs.declared.entry.EntryContext.{EntryContext}
use Rattle.zone_check.specs.declared.entry.EntryKind.{EntryKind}
use Rattle.zone_check.specs.declared.entry.EntryKind.TheVariants.{Blank, Directive, Generate, OneRecord, Rejected, Malformed, TooLong}
use Rattle.zone_check.specs.declared.entry.ReadEntry.{ReadEntry}
use Rattle.zone_check.specs.declared.finding.About.TheVariants.{Entry}
use Rattle.zone_check.specs.declared.finding.EntryFinding.{EntryFinding}
use Rattle.zone_check.specs.declared.octet_findings.ReportedOctets.{ReportedOctets}
use Rattle.zone_check.specs.declared.record_findings.RecordContext.{RecordContext}
use Rattle.zone_check.specs.Codes.{code_of_entry}
use Rattle.zone_check.specs.DirectiveFindings.{IsDirectiveFinding, directive_named_by}
use Rattle.zone_check.specs.FindingSpans.{finding_at}
use Rattle.zone_check.specs.GenerateFindings.{IsGenerateFinding}
use Rattle.zone_check.specs.OctetFindings.{AreOctetFindings, is_control_z}
use Rattle.zone_check.specs.RecordFindings.{AreRecordFindings}
use Rattle.zone_check.specs.RejectionFindings.{IsFaultFinding, rejected_finding}
use Rattle.zone_check.specs.TokensOf.{AreTokensOf, begins_with_blank}
use Rattle.zone_check.specs.Unportable.{AreUnportableWords, unportable_directive}

-- ---- its octets

-- the first octet is this one
abbrev pub begins_with_octet : ℕ → List ℕ → Bool
begins_with_octet octet [] = false
begins_with_octet octet (c ∷ cs) = c == octet

-- not in a generated entry, whose octets are not in the file, nor in one that is too long
abbrev pub is_scanned : (is_generated : Bool) → EntryKind → Bool
is_scanned true kind = false
is_scanned false TooLong = false
is_scanned false _ = true

-- SVCB and HTTPS, where a value is adjacent to its key (RFC 9460 section 2.1)
abbrev pub has_parameters : RecordType → Bool
has_parameters rtype = rtype == Rtype.svcb || rtype == Rtype.https

abbrev pub has_parameters_if_known : Option RecordType → Bool
has_parameters_if_known None = false
has_parameters_if_known (Some rtype) = has_parameters rtype

abbrev pub is_of_parameters : EntryKind → Bool
is_of_parameters (OneRecord ttl class rtype) = has_parameters rtype
is_of_parameters (Rejected e) = has_parameters_if_known e.rtype
is_of_parameters _ = false

-- without adjacent tokens where the type has parameters
abbrev pub reported_of : EntryKind → ReportedOctets → ReportedOctets
reported_of kind o = record { nul = o.nul; control_z = o.control_z; leading_parenthesis = o.leading_parenthesis; high_octet = o.high_octet; control_octet = o.control_octet; nested_parentheses = o.nested_parentheses; adjacent_tokens = o.adjacent_tokens && not (is_of_parameters kind); crlf = o.crlf; no_final_newline = o.no_final_newline }

-- once a file, and not if a syntax error cuts the entry off
abbrev pub reports_crlf : EntryKind → (is_reported : Bool) → Bool
reports_crlf (Malformed fault) is_reported = false
reports_crlf _ is_reported = not is_reported

-- the last entry of a file lacks a line feed at its end, unless it begins with Ctrl-Z
abbrev pub block_of : ReadEntry → EntryContext → Block
block_of e c = record { is_last = e.is_last && not (begins_with_octet 26 e.octets.now); reports_crlf = reports_crlf e.kind c.is_crlf_reported }

abbrev pub AreOwnOctetFindings : (is_scanned : Bool) → ReadEntry → EntryContext → (before after : List EntryFinding) → Type 0
AreOwnOctetFindings true e c before after = AreOctetFindings e.octets.now (block_of e c) (reported_of e.kind c.reported) before after
AreOwnOctetFindings false e c before after = after ≡ before

abbrev pub is_control_z_finding : EntryFinding → Bool
is_control_z_finding f = is_control_z f.code

-- ---- a record

-- slips are reported, or the class is not that of the zone
abbrev pub is_reported_class : Class → EntryContext → Bool
is_reported_class class c = c.reports_slips || not (class == c.class)

abbrev pub record_context : RecordTtl → (begins_blank : Bool) → EntryContext → RecordContext
record_context ttl blank c = record { ttl = ttl; begins_blank = blank; origin = c.state; is_below_root = c.is_below_root; class = c.class; max_ttl = c.max_ttl }

abbrev pub record_in : ReadEntry → RecordTtl → Class → RecordType → RecordRef
record_in e ttl class rtype = record { owner = e.owner; ttl = seconds_of ttl; class = class; rtype = rtype; «data» = e.data }

abbrev pub AreFindingsOfRecord : (is_reported : Bool) → RecordRef → RecordTtl → List ℕ → EntryContext → List EntryToken → (before after : List EntryFinding) → Type 0
AreFindingsOfRecord true r ttl octets c tokens before after = AreRecordFindings r octets c.origin.now (record_context ttl (begins_with_blank octets) c) tokens before after
AreFindingsOfRecord false r ttl octets c tokens before after = after ≡ before

-- ---- a rejected entry

abbrev pub names_directive : Option (Result DirectiveKind ErrorKind) → Bool
names_directive None = false
names_directive (Some named) = true

-- the first token names a directive, and no blank is before it
abbrev pub is_directive : List ℕ → List TokenSeen → Bool
is_directive octets tokens = not (begins_with_blank octets) && names_directive (directive_named_by (slice_get tokens 0))

-- a relative name without an origin is reported once, and so are entries without an owner after a rejected one
abbrev pub is_news : Code → (is_origin_reported is_owner_reported : Bool) → Bool
is_news NoOrigin is_origin_reported is_owner_reported = not is_origin_reported
is_news NoOwner is_origin_reported is_owner_reported = not is_owner_reported
is_news _ is_origin_reported is_owner_reported = true

abbrev pub rejection_with : Code → (at : ℕ) → (is_news : Bool) → List TokenSeen → Option EntryFinding
rejection_with code at is_news tokens = if is_news then Some (rejected_finding code at tokens) else None

abbrev pub rejection_of_code : Code → (at : ℕ) → EntryContext → List TokenSeen → Option EntryFinding
rejection_of_code code at c tokens = rejection_with code at (is_news code c.state.is_reported c.is_owner_reported) tokens

-- offsets of errors count from where that of the entry does
abbrev pub rejection_finding : List ℕ → (offset : ℕ) → RecordError → EntryContext → List TokenSeen → Option EntryFinding
rejection_finding octets offset e c tokens = rejection_of_code (code_of_entry (is_directive octets tokens) e) (e.offset - offset) c tokens

-- ---- an entry

-- at its beginning
abbrev pub long_finding : EntryFinding
long_finding = finding_at MaxEntry 0 1 Entry

-- nibbles of a `$GENERATE` directive that end a name in a dot, if slips are reported
abbrev pub AreGenerateFindings : (reports_slips : Bool) → List TokenSeen → (before after : List EntryFinding) → Type 0
AreGenerateFindings true tokens before after = (f : Option EntryFinding) × IsGenerateFinding tokens f × (after ≡ before ++ option_to_list f)
AreGenerateFindings false tokens before after = after ≡ before

-- words that not every server reads are reported, but not in entries of `$GENERATE`, which only BIND reads
abbrev pub reports_words : ReadEntry → EntryContext → Bool
reports_words e c = c.reports_slips && not e.is_generated

abbrev pub AreRecordWordFindings : (reports_words : Bool) → ReadEntry → EntryContext → RecordType → List EntryToken → (before after : List EntryFinding) → Type 0
AreRecordWordFindings true e c rtype tokens before after = AreUnportableWords c.is_bare_name_reported rtype (begins_with_blank e.octets.now) tokens before after
AreRecordWordFindings false e c rtype tokens before after = after ≡ before

-- those of a record, and then those of its words that not every server reads
abbrev pub AreOwnRecordFindings : ReadEntry → EntryContext → RecordRef → RecordTtl → List EntryToken → (before after : List EntryFinding) → Type 0
AreOwnRecordFindings e c r ttl tokens before after =
    (between : List EntryFinding) × AreFindingsOfRecord (is_reported_class r.class c) r ttl e.octets.now c tokens before between
    × AreRecordWordFindings (reports_words e c) e c r.rtype tokens between after

abbrev pub directive_name_finding : ReadEntry → EntryContext → List TokenSeen → Option EntryFinding
directive_name_finding e c tokens = if reports_words e c then unportable_directive c.is_bare_name_reported tokens else None

-- that of a directive, and then that of its name
abbrev pub AreDirectiveFindings : ReadEntry → EntryContext → List EntryToken → (before after : List EntryFinding) → Type 0
AreDirectiveFindings e c tokens before after =
    (f : Option EntryFinding) × IsDirectiveFinding tokens f
    × (after ≡ (before ++ option_to_list f) ++ option_to_list (directive_name_finding e c (map token_seen tokens)))

-- those of the tokens of an entry
abbrev pub AreTokenFindings : EntryKind → ReadEntry → EntryContext → List EntryToken → (before after : List EntryFinding) → Type 0
AreTokenFindings Directive e c tokens before after = AreDirectiveFindings e c tokens before after
AreTokenFindings (OneRecord ttl class rtype) e c tokens before after = AreOwnRecordFindings e c (record_in e ttl class rtype) ttl tokens before after
AreTokenFindings (Rejected error) e c tokens before after = after ≡ before ++ option_to_list (rejection_finding e.octets.now e.start error c (map token_seen tokens))
AreTokenFindings Generate e c tokens before after = AreGenerateFindings c.reports_slips (map token_seen tokens) before after
AreTokenFindings Blank e c tokens before after = after ≡ before
AreTokenFindings (Malformed fault) e c tokens before after = after ≡ before
AreTokenFindings TooLong e c tokens before after = after ≡ before

-- none if only the text is checked
abbrev pub AreParsedFindings : (is_text : Bool) → ReadEntry → EntryContext → (before after : List EntryFinding) → Type 0
AreParsedFindings true e c before after = after ≡ before
AreParsedFindings false e c before after = (tokens : List EntryToken) × AreTokensOf e.octets.now tokens × AreTokenFindings e.kind e c tokens before after

-- a syntax error, and that an entry is too long, are always reported
abbrev pub AreReadFindings : EntryKind → ReadEntry → EntryContext → (before after : List EntryFinding) → Type 0
AreReadFindings (Malformed fault) e c before after = (f : EntryFinding) × IsFaultFinding e.octets.now e.start fault f × (after ≡ before ++ f ∷ [])
AreReadFindings TooLong e c before after = after ≡ before ++ long_finding ∷ []
AreReadFindings Blank e c before after = after ≡ before
AreReadFindings _ e c before after = AreParsedFindings c.is_text e c before after

-- the findings about an entry: those of its octets come first; after Ctrl-Z nothing else is read
pub record FindingsOfEntry (e : ReadEntry) (c : EntryContext) (before after : List EntryFinding) : Type 0 where
  pub scanned : List EntryFinding
  pub octets : AreOwnOctetFindings (is_scanned e.is_generated e.kind) e c [] scanned
  pub ended : list_any is_control_z_finding scanned ≡ true → after ≡ before ++ scanned
  pub read : list_any is_control_z_finding scanned ≡ false → AreReadFindings e.kind e c (before ++ scanned) after
