-- The table of codes: the name of each, its severity, what is looked at, what is true of few codes, and the message.
use Rattle.std.specs.Prelude.{ℕ, List, [], ◌∷◌, ◌++◌, codes, true, false, get_or}
use denote.Enum.Declared.{tag_of}
use Rattle.finding_codes.specs.contracts.code.Code.{the_type}
use Rattle.finding_codes.specs.declared.code.Code.{Code}
use Rattle.finding_codes.specs.declared.code.Code.TheVariants.{OpenQuote, OpenParenthesis, ClosingParenthesis, LoneReturn, BadEscape, Nul, ByteOrderMark, ControlZ, MaxEntry, Directive, Owner, Ttl, Class, RecordType, Data, Include, File, NoOwner, NoTtl, OtherClass, NoSoa, TwoSoas, NoNs, NsAddress, Cname, Dname, DsApex, WildcardNs, SoaNotApex, NsBesideDname, Nsec3Wildcard, BelowDname, Outside, MaxTtl, NoOrigin, HighOctet, ControlOctet, Crlf, NestedParentheses, LeadingParenthesis, AdjacentTokens, NoFinalNewline, RelativeOrigin, SoaMinimumTtl, IncludeTtl, MissingDot, GenerateDot, EmptyUri, TlsaLength, IpseckeyAlgorithm, OhttpValue, Glue, TargetCname, TargetMissing, HostName, Cds, TtlDiffers, Duplicate, NotAtApex, KeyProtocol, KeyAlgorithm, CnameTargetMissing, CnameLoop, TwoSpf, WeakDigest, SingleNs, Hidden, NoDnskey, Expired, ExpiresSoon, NotYetValid, RrsigTimes, RrsigSigner, RrsigLabels, OriginalTtl, RrsigTtl, Unsigned, NoKey, KeyMissing, RrsigKey, SignsNothing, OccludedDnssec, NoNsec, NsecNext, NsecTypes, DsWithoutNs, NoNsec3, Nsec3Next, Nsec3Types, Nsec3Owner, Nsec3Iterations, Nsec3Iterations50, Nsec3Iterations0, NsecTtl, CdsDelete, RrsigLength, KeyLength, Nsec3Extra, RrsigAlgorithm, OptOut, SpfType, NaptrRegexp, NaptrBoth, CaaTag, SoaMail, SoaTimers, ReverseName, WildcardInside, TargetAddress, TxtWords, CommentInData, PtrDot, TlsaField, CaaValue, Spf, NullMx, ZonemdSerial, TlsaHost, SvcbAlias, CdsKey, CdsDiffers, UnsignedApex, Unportable, KeyBesideCname, SpfUnused, Dmarc, Dkim, Delegation, DelegationDs, GlueDiffers, Exception, UnusedAllow}
use Rattle.finding_codes.specs.declared.code.Scope.{Scope}
use Rattle.finding_codes.specs.declared.code.Scope.TheVariants.{Text as OfText, Records as OfRecords, MaxTtl as OfTtl, Zone as OfZone, Signed as OfSigned}
use Rattle.finding_codes.specs.declared.code.Severity.{Severity}
use Rattle.finding_codes.specs.declared.code.Severity.TheVariants.{Error, Warning}
use Rattle.finding_codes.specs.declared.table.Part.{Part}
use Rattle.finding_codes.specs.declared.table.Part.TheVariants.{Whole, Owner as OwnOwner, Target, Last, Field}
use Rattle.finding_codes.specs.declared.table.Row.{Row}
use Rattle.finding_codes.specs.declared.table.Traits.{Traits}
use Rattle.finding_codes.specs.declared.table.Way.{Way}

pub record FindingRow : Type 0 where
  pub code : Code
  -- the name by which it is allowed or denied
  pub name : List ℕ
  -- a warning if servers load the file, else an error; a finding that keeps a record from being read is always an error
  pub severity : Severity
  -- the text of an entry; the records of a zone; those of a signed zone; the TTL of a record, if a limit is set; and else records and directives one by one
  pub scope : Scope
  pub traits : Traits
  -- the part of an entry that a finding is about, in the first way
  pub part : Part
  -- the message of a finding that only has a code, in the first way; none if each finding has its own
  pub message : List ℕ

abbrev finding_row : Code → List ℕ → Severity → Scope → Traits → Part → List ℕ → FindingRow
finding_row c n s o t p m = record { code = c; name = n; severity = s; scope = o; traits = t; part = p; message = m }

-- a further way in which a finding has a code
pub record FindingWay : Type 0 where
  pub code : Code
  pub number : ℕ
  pub part : Part
  pub message : List ℕ

abbrev finding_way : Code → ℕ → Part → List ℕ → FindingWay
finding_way c n p m = record { code = c; number = n; part = p; message = m }

abbrev none : Traits
none = record { is_text_fault = false; is_of_absence = false; is_of_time = false }

-- the text can't be read as entries, or not safely
abbrev text_fault : Traits
text_fault = record { is_text_fault = true; is_of_absence = false; is_of_time = false }

-- a record is missing
abbrev of_absence : Traits
of_absence = record { is_text_fault = false; is_of_absence = true; is_of_time = false }

-- what is found depends on the time
abbrev of_time : Traits
of_time = record { is_text_fault = false; is_of_absence = false; is_of_time = true }

-- the rows of codes of texts, records, and of zones without signatures
unfoldable pub first_rows : List FindingRow
first_rows =
    finding_row OpenQuote (codes "open-quote") Error OfText text_fault Whole [] ∷
    finding_row OpenParenthesis (codes "open-parenthesis") Error OfText text_fault Whole [] ∷
    finding_row ClosingParenthesis (codes "closing-parenthesis") Error OfText text_fault Whole [] ∷
    finding_row LoneReturn (codes "lone-return") Error OfText text_fault Whole [] ∷
    finding_row BadEscape (codes "bad-escape") Error OfText text_fault Whole [] ∷
    finding_row Nul (codes "nul") Error OfText text_fault Whole (codes "NUL") ∷
    finding_row ByteOrderMark (codes "byte-order-mark") Error OfText text_fault Whole (codes "byte order mark") ∷
    finding_row ControlZ (codes "control-z") Error OfText text_fault Whole (codes "Ctrl-Z") ∷
    finding_row MaxEntry (codes "max-entry") Error OfText text_fault Whole [] ∷
    finding_row Directive (codes "directive") Error OfRecords none Whole [] ∷
    finding_row Owner (codes "owner") Error OfRecords none Whole [] ∷
    finding_row Ttl (codes "ttl") Warning OfRecords none Whole (codes "TTL above 2147483647: read as 0") ∷
    finding_row Class (codes "class") Error OfRecords none Whole [] ∷
    finding_row RecordType (codes "type") Error OfRecords none Whole [] ∷
    finding_row Data (codes "data") Error OfRecords none Whole [] ∷
    finding_row Include (codes "include") Error OfRecords none Whole [] ∷
    finding_row File (codes "file") Error OfRecords none Whole [] ∷
    finding_row NoOwner (codes "no-owner") Error OfRecords none Whole [] ∷
    finding_row NoTtl (codes "no-ttl") Error OfRecords none Whole [] ∷
    finding_row OtherClass (codes "other-class") Error OfRecords none Whole (codes "another class than the zone's") ∷
    finding_row NoSoa (codes "no-soa") Error OfZone of_absence Whole (codes "no SOA at the apex") ∷
    finding_row TwoSoas (codes "two-soas") Error OfZone none Whole (codes "two SOAs that differ") ∷
    finding_row NoNs (codes "no-ns") Error OfZone of_absence Whole (codes "no NS at the apex") ∷
    finding_row NsAddress (codes "ns-address") Error OfZone of_absence Target (codes "name server in the zone without an address") ∷
    finding_row Cname (codes "cname") Error OfZone none Whole (codes "CNAME beside other records") ∷
    finding_row Dname (codes "dname") Error OfZone none Whole (codes "two DNAMEs of one name") ∷
    finding_row DsApex (codes "ds-apex") Error OfZone none Whole (codes "DS at the apex") ∷
    finding_row WildcardNs (codes "wildcard-ns") Error OfZone none Whole (codes "NS of a wildcard") ∷
    finding_row SoaNotApex (codes "soa-not-apex") Error OfZone none Whole (codes "SOA below the apex") ∷
    finding_row NsBesideDname (codes "ns-beside-dname") Error OfZone none Whole (codes "DNAME beside an NS") ∷
    finding_row Nsec3Wildcard (codes "nsec3-wildcard") Error OfZone none Whole (codes "first label of an NSEC3 is not base 32 hex") ∷
    finding_row BelowDname (codes "below-dname") Error OfZone none Whole (codes "record below a DNAME") ∷
    finding_row Outside (codes "outside") Error OfZone none Whole (codes "record outside of the zone") ∷
    finding_row MaxTtl (codes "max-ttl") Error OfTtl none Whole (codes "TTL exceeds --max-ttl") ∷
    finding_row NoOrigin (codes "no-origin") Warning OfRecords none Whole (codes "relative name, and no origin: read below the root") ∷
    finding_row HighOctet (codes "high-octet") Warning OfText none Whole (codes "octet outside of ASCII") ∷
    finding_row ControlOctet (codes "control-octet") Warning OfText none Whole (codes "control octet") ∷
    finding_row Crlf (codes "crlf") Warning OfText none Whole (codes "lines end in CR LF: Knot rejects the file") ∷
    finding_row NestedParentheses (codes "nested-parentheses") Warning OfText none Whole (codes "parenthesis inside of parentheses") ∷
    finding_row LeadingParenthesis (codes "leading-parenthesis") Warning OfText none Whole (codes "entry begins with a parenthesis") ∷
    finding_row AdjacentTokens (codes "adjacent-tokens") Warning OfRecords none Whole (codes "no blank between two tokens") ∷
    finding_row NoFinalNewline (codes "no-final-newline") Warning OfText none Whole (codes "no line end at the end of the file") ∷
    finding_row RelativeOrigin (codes "relative-origin") Warning OfRecords none Whole (codes "relative name as origin") ∷
    finding_row SoaMinimumTtl (codes "soa-minimum-ttl") Warning OfRecords none Whole (codes "minimum of the SOA is used as TTL") ∷
    finding_row IncludeTtl (codes "include-ttl") Warning OfRecords none Whole (codes "$TTL of the included file stays in force") ∷
    finding_row MissingDot (codes "missing-dot") Warning OfRecords none Whole (codes "name ends like the origin: a dot at its end may be missing") ∷
    finding_row GenerateDot (codes "generate-dot") Warning OfRecords none Whole (codes "nibbles of an even width end in a dot, so the name is absolute") ∷
    finding_row EmptyUri (codes "empty-uri") Warning OfRecords none Whole (codes "empty target") ∷
    finding_row TlsaLength (codes "tlsa-length") Warning OfRecords none Whole (codes "wrong number of octets for the matching type") ∷
    finding_row IpseckeyAlgorithm (codes "ipseckey-algorithm") Warning OfRecords none Whole (codes "algorithm 0: BIND 9.18 doesn't load it without a key, Knot 3.2 doesn't with one") ∷
    finding_row OhttpValue (codes "ohttp-value") Warning OfRecords none Whole (codes "ohttp has no value (RFC 9540)") ∷
    finding_row Glue (codes "glue") Warning OfZone of_absence Target (codes "name server below the delegation without an address") ∷
    finding_row TargetCname (codes "target-cname") Warning OfZone none Target (codes "target is a CNAME or below a DNAME") ∷
    finding_row TargetMissing (codes "target-missing") Warning OfZone of_absence Target (codes "target is not in the zone") ∷
    finding_row HostName (codes "host-name") Warning OfZone none Whole (codes "not a host name: letters, digits and hyphens only") ∷
    finding_row Cds (codes "cds") Warning OfZone of_absence Whole (codes "CDS or CDNSKEY of an algorithm without a DNSKEY") ∷
    finding_row TtlDiffers (codes "ttl-differs") Warning OfZone none Whole (codes "TTL is not that of the RRset") ∷
    finding_row Duplicate (codes "duplicate") Warning OfZone none Whole (codes "duplicate record") ∷
    finding_row NotAtApex (codes "not-at-apex") Warning OfZone none Whole (codes "type that belongs at the apex") ∷
    finding_row KeyProtocol (codes "key-protocol") Warning OfZone none Whole (codes "DNSKEY of another protocol than 3") ∷
    finding_row KeyAlgorithm (codes "key-algorithm") Warning OfZone none Whole (codes "algorithm 0 is reserved") ∷
    finding_row CnameTargetMissing (codes "cname-target-missing") Warning OfZone of_absence Target (codes "CNAME target has no records in the zone") ∷
    finding_row CnameLoop (codes "cname-loop") Warning OfZone none Whole (codes "CNAMEs lead back to this name") ∷
    finding_row TwoSpf (codes "two-spf") Warning OfZone none Whole (codes "name has another SPF record") ∷
    finding_row WeakDigest (codes "weak-digest") Warning OfZone of_absence Whole (codes "SHA-1 is the only digest of this key") ∷
    finding_row SingleNs (codes "single-ns") Warning OfZone of_absence Whole (codes "zone has only one name server") ∷
    finding_row Hidden (codes "hidden") Warning OfZone none Whole (codes "hidden by a delegation") ∷
    []

-- the rows of the other codes
unfoldable pub later_rows : List FindingRow
later_rows =
    finding_row NoDnskey (codes "no-dnskey") Error OfSigned none Whole (codes "no DNSKEY at the apex: the zone is not signed") ∷
    finding_row Expired (codes "expired") Error OfSigned of_time Whole (codes "signature has expired") ∷
    finding_row ExpiresSoon (codes "expires-soon") Warning OfSigned of_time Whole (codes "signature expires soon") ∷
    finding_row NotYetValid (codes "not-yet-valid") Error OfSigned of_time Whole (codes "signature is not valid yet") ∷
    finding_row RrsigTimes (codes "rrsig-times") Error OfSigned none Whole (codes "signature ends before it begins") ∷
    finding_row RrsigSigner (codes "rrsig-signer") Error OfSigned none Whole (codes "signer is not the zone") ∷
    finding_row RrsigLabels (codes "rrsig-labels") Error OfSigned none Whole (codes "label count is not that of the owner") ∷
    finding_row OriginalTtl (codes "original-ttl") Error OfSigned none Whole (codes "original TTL is not that of the RRset") ∷
    finding_row RrsigTtl (codes "rrsig-ttl") Warning OfSigned none Whole (codes "TTL of the signature is not that of the RRset") ∷
    finding_row Unsigned (codes "unsigned") Error OfSigned of_absence Whole (codes "set without a signature") ∷
    finding_row NoKey (codes "no-key") Error OfSigned none Whole (codes "no signature of the set fits a DNSKEY of the zone") ∷
    finding_row KeyMissing (codes "key-missing") Warning OfSigned none Whole (codes "signature fits no DNSKEY of the zone") ∷
    finding_row RrsigKey (codes "rrsig-key") Error OfSigned none Whole (codes "signature by a revoked key") ∷
    finding_row SignsNothing (codes "signs-nothing") Error OfSigned of_absence Whole (codes "signature of records that are not there") ∷
    finding_row OccludedDnssec (codes "occluded-dnssec") Error OfSigned none Whole (codes "NSEC or RRSIG where the zone has no authority") ∷
    finding_row NoNsec (codes "no-nsec") Error OfSigned of_absence Whole (codes "name without an NSEC") ∷
    finding_row NsecNext (codes "nsec-next") Error OfSigned of_absence Whole (codes "NSEC names another than the next name") ∷
    finding_row NsecTypes (codes "nsec-types") Error OfSigned of_absence Whole (codes "NSEC lists other types than the name has") ∷
    finding_row DsWithoutNs (codes "ds-without-ns") Warning OfZone of_absence Whole (codes "DS without an NS") ∷
    finding_row NoNsec3 (codes "no-nsec3") Error OfSigned of_absence Whole (codes "name, or empty name above it, without an NSEC3") ∷
    finding_row Nsec3Next (codes "nsec3-next") Error OfSigned of_absence Whole (codes "NSEC3 names another than the next hash") ∷
    finding_row Nsec3Types (codes "nsec3-types") Error OfSigned of_absence Whole (codes "NSEC3 of the name, or of an empty name above it, lists other types") ∷
    finding_row Nsec3Owner (codes "nsec3-owner") Error OfSigned none Whole (codes "owner of the NSEC3 is not a hash one label below the apex") ∷
    finding_row Nsec3Iterations (codes "nsec3-iterations") Error OfSigned none Whole (codes "more than 150 iterations: validators treat the zone as unsigned") ∷
    finding_row Nsec3Iterations50 (codes "nsec3-iterations-50") Warning OfSigned none Whole (codes "more than 50 iterations: newer validators treat the zone as unsigned") ∷
    finding_row Nsec3Iterations0 (codes "nsec3-iterations-0") Warning OfSigned none Whole (codes "NSEC3 has iterations: 0 is advised (RFC 9276)") ∷
    finding_row NsecTtl (codes "nsec-ttl") Warning OfSigned none Whole (codes "TTL is not the lesser of the SOA's TTL and minimum") ∷
    finding_row CdsDelete (codes "cds-delete") Error OfZone none Whole (codes "CDS or CDNSKEY asks to delete, and another asks for keys") ∷
    finding_row RrsigLength (codes "rrsig-length") Error OfSigned none Whole (codes "signature has another length than those of its algorithm") ∷
    finding_row KeyLength (codes "key-length") Error OfSigned none Whole (codes "key has another length than those of its algorithm") ∷
    finding_row Nsec3Extra (codes "nsec3-extra") Error OfSigned of_absence Whole (codes "NSEC3 of no name of the zone") ∷
    finding_row RrsigAlgorithm (codes "rrsig-algorithm") Error OfSigned of_absence Whole (codes "no signature of an algorithm that signs other RRsets") ∷
    finding_row OptOut (codes "opt-out") Warning OfSigned none Whole (codes "Opt-Out flag is not that of the others") ∷
    finding_row SpfType (codes "spf-type") Warning OfRecords none Whole (codes "type SPF, which no receiver looks up (RFC 7208): publish it as TXT") ∷
    finding_row NaptrRegexp (codes "naptr-regexp") Error OfRecords none (Field 4) (codes "not a substitution expression, as !ERE!REPLACEMENT!i") ∷
    finding_row NaptrBoth (codes "naptr-both") Warning OfRecords none (Field 5) (codes "both a regexp and a replacement") ∷
    finding_row CaaTag (codes "caa-tag") Warning OfRecords none (Field 1) (codes "unknown CAA tag, which has no effect") ∷
    finding_row SoaMail (codes "soa-mail") Warning OfRecords none (Field 1) (codes "'@' in the mail name of the SOA, where a dot is meant") ∷
    finding_row SoaTimers (codes "soa-timers") Warning OfRecords none (Field 4) (codes "retry of the SOA is not less than refresh") ∷
    finding_row ReverseName (codes "reverse-name") Warning OfRecords none OwnOwner (codes "owner of a PTR is not the name of an address") ∷
    finding_row WildcardInside (codes "wildcard-inside") Warning OfRecords none OwnOwner (codes "'*' is not the first label, so this is not a wildcard") ∷
    finding_row TargetAddress (codes "target-address") Warning OfRecords none Target (codes "IPv4 address in place of a name") ∷
    finding_row TxtWords (codes "txt-words") Warning OfRecords none (Field 0) (codes "several strings without quotes, which are joined without blanks") ∷
    finding_row CommentInData (codes "comment-in-data") Warning OfRecords none Last (codes "a comment begins inside of this word: write the text in quotes") ∷
    finding_row PtrDot (codes "ptr-dot") Warning OfRecords none Target (codes "target is in a reverse tree: write the host name with a final dot") ∷
    finding_row TlsaField (codes "tlsa-field") Warning OfRecords none (Field 0) (codes "certificate usage is not assigned (0 to 3, 255)") ∷
    finding_row CaaValue (codes "caa-value") Warning OfRecords none (Field 2) (codes "not a domain name with parameters, as ca.example; policy=ev") ∷
    finding_row Spf (codes "spf") Warning OfRecords none (Field 0) (codes "malformed term in an SPF record, which makes all of it an error") ∷
    finding_row NullMx (codes "null-mx") Warning OfZone none Target (codes "null MX beside another MX") ∷
    finding_row ZonemdSerial (codes "zonemd-serial") Warning OfZone none Whole (codes "serial of the ZONEMD is not that of the SOA") ∷
    finding_row TlsaHost (codes "tlsa-host") Warning OfZone of_absence Whole (codes "host of the TLSA has no address in the zone") ∷
    finding_row SvcbAlias (codes "svcb-alias") Warning OfZone none Target (codes "parameters of an alias (priority 0), which have no effect") ∷
    finding_row CdsKey (codes "cds-key") Error OfSigned none Whole (codes "no CDS is of a DNSKEY of the zone") ∷
    finding_row CdsDiffers (codes "cds-differs") Warning OfSigned none Whole (codes "CDS and CDNSKEY are not of the same keys") ∷
    finding_row UnsignedApex (codes "unsigned-apex") Warning OfSigned none Whole (codes "zone has signatures, and its apex has none") ∷
    finding_row Unportable (codes "unportable") Warning OfRecords none Whole [] ∷
    finding_row KeyBesideCname (codes "key-beside-cname") Warning OfZone none Whole (codes "KEY beside a CNAME: Knot, NSD and ldns reject it") ∷
    finding_row SpfUnused (codes "spf-unused") Warning OfRecords none (Field 0) (codes "mechanism after all in an SPF record, which no receiver tests") ∷
    finding_row Dmarc (codes "dmarc") Warning OfRecords none (Field 0) (codes "first tag is not exactly v=DMARC1, so receivers ignore the record") ∷
    finding_row Dkim (codes "dkim") Warning OfRecords none (Field 0) (codes "v is not the first tag, or not exactly DKIM1") ∷
    finding_row Delegation (codes "delegation") Warning OfZone of_absence Target [] ∷
    finding_row DelegationDs (codes "delegation-ds") Warning OfZone of_absence Whole (codes "no DS is of a DNSKEY of the zone below") ∷
    finding_row GlueDiffers (codes "glue-differs") Warning OfZone of_absence Whole (codes "address is not one that the zone below has") ∷
    finding_row Exception (codes "exception") Error OfRecords none Whole [] ∷
    finding_row UnusedAllow (codes "unused-allow") Warning OfRecords none Whole [] ∷
    []

-- the rows are in the order of the codes
unfoldable pub finding_rows : List FindingRow
finding_rows = first_rows ++ later_rows

-- a row of the source
abbrev pub row_seen : Row → FindingRow
row_seen r = finding_row r.code r.name.now r.severity r.scope r.traits r.part r.message.now

abbrev pub no_row : FindingRow
no_row = finding_row OpenQuote [] Error OfText none Whole []

abbrev pub row_of_code : Code → FindingRow
row_of_code c = get_or finding_rows (tag_of the_type c) no_row

-- the ways of codes with more than one, but the first
unfoldable pub way_rows : List FindingWay
way_rows =
    finding_way CaaTag 1 (Field 1) (codes "unknown CAA tag with flag 128: no certificate is issued") ∷
    finding_way CaaTag 2 (Field 1) (codes "CAA tag in capital letters, which NSD rejects") ∷
    finding_way SoaMail 1 (Field 1) (codes "mail name of the SOA has one label") ∷
    finding_way SoaTimers 1 (Field 5) (codes "expire of the SOA is less than refresh and retry together") ∷
    finding_way SoaTimers 2 (Field 6) (codes "minimum of the SOA, the TTL of negative answers, is above a day") ∷
    finding_way TlsaField 1 (Field 1) (codes "selector is not assigned (0, 1, 255)") ∷
    finding_way TlsaField 2 (Field 2) (codes "matching type is not assigned (0 to 2, 255)") ∷
    finding_way CaaValue 1 (Field 2) (codes "not a URL of the schemes mailto, http and https") ∷
    finding_way CaaValue 2 (Field 0) (codes "unknown flags: 0 or 128 is meant") ∷
    finding_way SvcbAlias 1 Target (codes "alias (priority 0) beside others, which have no effect") ∷
    finding_way SvcbAlias 2 Target (codes "another alias (priority 0) of the name: clients use one at random") ∷
    finding_way SvcbAlias 3 Target (codes "alias (priority 0) that leads back to its name") ∷
    finding_way Unportable 1 Whole (codes "BIND rejects this word") ∷
    finding_way Unportable 2 Whole (codes "only BIND reads this word") ∷
    finding_way Unportable 3 Whole (codes "no server reads this word") ∷
    finding_way Unportable 4 Whole (codes "Knot rejects this word") ∷
    finding_way Unportable 5 Whole (codes "some servers reject this word") ∷
    finding_way Spf 1 (Field 0) (codes "redirect or exp occurs twice, which makes all of the record an error") ∷
    finding_way Spf 2 Last (codes "strings joined without a blank between two terms of an SPF record") ∷
    finding_way SpfUnused 1 (Field 0) (codes "redirect beside all, which receivers ignore") ∷
    finding_way Dmarc 1 (Field 0) (codes "a tag has no value: = is missing") ∷
    finding_way Dmarc 2 (Field 0) (codes "a tag occurs twice, which makes all of the record an error") ∷
    finding_way Dmarc 3 (Field 0) (codes "tag with a value that DMARC doesn't define") ∷
    finding_way Dmarc 4 (Field 0) (codes "report address without a scheme, as mailto:") ∷
    finding_way Dmarc 5 (Field 0) (codes "neither the tag p nor rua, so no policy applies") ∷
    finding_way Dkim 1 (Field 0) (codes "no tag p, which has the key") ∷
    finding_way Dkim 2 (Field 0) (codes "p is not base 64") ∷
    finding_way Dkim 3 (Field 0) (codes "p is cut: base 64 with a digit too many or too few") ∷
    finding_way Dkim 4 (Field 0) (codes "p is not all of an RSA key: its length differs from the one in it") ∷
    finding_way Dkim 5 (Field 0) (codes "p is not an Ed25519 key, which has 32 octets") ∷
    []

abbrev pub way_seen : Way → FindingWay
way_seen w = finding_way w.code w.number w.part w.message.now
