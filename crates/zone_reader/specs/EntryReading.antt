-- How an entry is read, by the meaning of its tokens and the state before it.
use Rattle.std.specs.Prelude.{ℕ, ◌≡◌, ◌≢◌, ◌<◌, ◌+◌, ◌⊎◌, Bool, List, [], ◌∷◌, ◌++◌, length, drop, is_some, unwrap_or, option_map, Option, Some, None, Result, Ok, Err}
use Rattle.std.specs.Int.{from_be_bytes, w32}
use Rattle.dns_octets.specs.Appending.{Extends}
use Rattle.dns_octets.specs.Room.{Room, exactly}
use Rattle.dns_wire.specs.Limits.{max_name}
use Rattle.dns_wire.specs.Wire.{wire}
use Rattle.dns_lexer.specs.EntryTokens.{TokenSeen}
use Rattle.rdata_fields.specs.RecordErrors.{IsErrorAt, error_at}
use Rattle.rdata_fields.specs.Source.{next_place}
use Rattle.rdata_fields.specs.Parsing.{SpellsField, RefusesNext}
use Rattle.rdata_fields.specs.declared.field.Field.TheVariants.{Name as OfName}
use Rattle.rdata_fields.specs.declared.record_error.RecordError.{RecordError}
use Rattle.rdata_values.specs.Rtype as Rtype
use Rattle.rdata_values.specs.declared.error.ErrorKind.{ErrorKind}
use Rattle.rdata_values.specs.declared.error.ErrorKind.TheVariants.{ShortBuf, NoTtl}
use Rattle.rdata_values.specs.declared.types.RecordType.{RecordType}
use Rattle.rdata.specs.ByType.{ReadsType}
use Rattle.zone_reader.specs.Directives.{first_directive}
use Rattle.zone_reader.specs.EntryMeanings.{EntryMeaning, EntryMeans, says_nothing, says_origin, says_default_ttl, says_include, says_generate, says_record, says_refused}
use Rattle.zone_reader.specs.HeaderWords.{ttl_of_seconds}
use Rattle.zone_reader.specs.declared.directive.Directive.{Directive}
use Rattle.zone_reader.specs.declared.directive.Directive.TheVariants.{Origin}
use Rattle.zone_reader.specs.declared.header.RecordHeader.{RecordHeader}
use Rattle.zone_reader.specs.declared.header.HeaderError.{HeaderError}
use Rattle.zone_reader.specs.Learning.{Updates, WhyNoOwner, chosen_ttl}
use Rattle.zone_reader.specs.Past.{Declared, NewOrigin, NewOwner, NewDefaultTtl, NewTtl, known_name}
use Rattle.zone_reader.specs.declared.entry.ParsedEntry.{ParsedEntry}
use Rattle.zone_reader.specs.declared.entry.ParsedEntry.TheVariants.{Empty, Directive as IsDirective, Include, Generate, Record}
use Rattle.zone_reader.specs.declared.known.NameState.{NameState}
use Rattle.zone_reader.specs.declared.known.NameState.TheVariants.{Name, Rejected}
use Rattle.zone_reader.specs.declared.state.State.{State}
use Rattle.zone_reader.specs.declared.ttl.RecordTtl.{RecordTtl}
use Rattle.zone_reader.specs.declared.ttl.RecordTtl.TheVariants.{Explicit, Default, Last, Minimum}

-- ---- names

-- the token spells a name; or it is rejected at its offset, for a reason for which a name of at most 255 octets is rejected
abbrev pub NamesOrRefuses : Option (List (List ℕ)) → TokenSeen → Result (List (List ℕ)) RecordError → Type 0
NamesOrRefuses origin t (Ok labels) = SpellsField origin OfName t (wire labels)
NamesOrRefuses origin t (Err e) = IsErrorAt t.at e × RefusesNext origin (exactly max_name) OfName (t ∷ []) [] e.kind

-- ---- directives

-- the origin from here on
abbrev pub ReadsOrigin : Option (List (List ℕ)) → TokenSeen → Result ParsedEntry RecordError → Type 0
ReadsOrigin origin t (Ok e) = (e ≡ IsDirective) × ((labels : List (List ℕ)) × NamesOrRefuses origin t (Ok labels))
ReadsOrigin origin t (Err r) = NamesOrRefuses origin t (Err r)

-- a directive, if its argument is parsed
abbrev pub directive_with : Result ℕ RecordError → Result ParsedEntry RecordError
directive_with (Ok ttl) = Ok IsDirective
directive_with (Err e) = Err e

-- the origin of an included text, if its token is there
abbrev pub IncludesOrigin : Option (List (List ℕ)) → Option TokenSeen → Option (List (List ℕ)) → Type 0
IncludesOrigin origin None named = named ≡ None
IncludesOrigin origin (Some t) None = ⊥
IncludesOrigin origin (Some t) (Some labels) = NamesOrRefuses origin t (Ok labels)

abbrev pub RefusesOrigin : Option (List (List ℕ)) → Option TokenSeen → RecordError → Type 0
RefusesOrigin origin None r = ⊥
RefusesOrigin origin (Some t) r = NamesOrRefuses origin t (Err r)

-- the octets of an origin after those of a file
abbrev pub origin_octets : Option (List (List ℕ)) → List ℕ
origin_octets None = []
origin_octets (Some labels) = wire labels

-- a file's octets are appended, and after them those of its origin, if it has one; or the origin is rejected; or the octets don't surely fit
abbrev pub ReadsInclude : Option (List (List ℕ)) → Room → ℕ → ℕ → ℕ → List ℕ → Option TokenSeen → List ℕ → Result ParsedEntry RecordError → List ℕ → Type 0
ReadsInclude origin room begin end at file token old (Ok e) new = (named : Option (List (List ℕ))) × (e ≡ Include begin end (length file) (is_some named)) × IncludesOrigin origin token named × (new ≡ old ++ (file ++ origin_octets named))
ReadsInclude origin room begin end at file token old (Err r) new =
    RefusesOrigin origin token r
    ⊎ ((named : Option (List (List ℕ))) × IncludesOrigin origin token named × (r ≡ error_at at ShortBuf) × (room.fits < length old + (length file + length (origin_octets named))))

-- ---- records

-- the owner that a record's token spells, or else the one before; or why it has none, at its token or at the record's offset
abbrev pub ReadsOwner : State → ℕ → Option TokenSeen → Result (Unit {0}) RecordError → NameState → Type 0
ReadsOwner before at None (Ok _) known = (known ≡ before.owner) × ((labels : List (List ℕ)) × (known ≡ Name labels))
ReadsOwner before at None (Err e) known = (known ≡ before.owner) × IsErrorAt at e × WhyNoOwner known e.kind
ReadsOwner before at (Some t) (Ok _) known = (labels : List (List ℕ)) × (known ≡ Name labels) × NamesOrRefuses (known_name before.origin) t (Ok labels)
ReadsOwner before at (Some t) (Err r) known = (known ≡ Rejected) × NamesOrRefuses (known_name before.origin) t (Err r)

-- the number in the last four octets, if there are four
abbrev pub EndsInNumber : List ℕ → Option ℕ → Type 0
EndsInNumber octets None = length octets < 4
EndsInNumber octets (Some n) = (front : List ℕ) × (last : List ℕ) × (octets ≡ front ++ last) × (length last ≡ 4) × (n ≡ from_be_bytes w32 last)

-- the minimum of an SOA, as a TTL, is the number at the end of its data; other records have none (RFC 1035 section 3.3.13)
abbrev pub IsMinimum : RecordType → List ℕ → Option ℕ → Type 0
IsMinimum rtype octets minimum =
    ((rtype ≡ Rtype.soa) × ((seconds : Option ℕ) × EndsInNumber octets seconds × (minimum ≡ option_map ttl_of_seconds seconds))) ⊎ ((rtype ≢ Rtype.soa) × (minimum ≡ None))

-- a record, whose class is its own or the state's; or the error of a record without a TTL
abbrev pub record_with : State → ℕ → ℕ → ℕ → RecordHeader → Option RecordTtl → Result ParsedEntry RecordError
record_with before at data_at end w None = Err (error_at at NoTtl)
record_with before at data_at end w (Some ttl) = Ok (Record at data_at end ttl (unwrap_or w.class before.class) w.rtype)

-- what comes after the TTL, class and type: the data, and then the record's TTL
abbrev pub ReadsDataAfterHeader : State → ℕ → ℕ → ℕ → RecordHeader → List ℕ → Result (Unit {0}) RecordError → List ℕ → Result ParsedEntry RecordError → Type 0
ReadsDataAfterHeader before at data_at end w old (Err e) new result = result ≡ Err e
ReadsDataAfterHeader before at data_at end w old (Ok _) new result =
    (octets : List ℕ) × (new ≡ old ++ octets) × ((minimum : Option ℕ) × IsMinimum w.rtype octets minimum × (result ≡ record_with before at data_at end w (chosen_ttl w.ttl before.default_ttl before.last_ttl minimum)))

abbrev pub ReadsRecordData : State → Room → ℕ → ℕ → RecordHeader → List TokenSeen → List ℕ → Result ParsedEntry RecordError → List ℕ → Type 0
ReadsRecordData before room at end w tokens old result new =
    (r : Result (Unit {0}) RecordError) × (left : List TokenSeen) × ReadsType (known_name before.origin) room w.rtype end tokens old r left new × ReadsDataAfterHeader before at (next_place tokens end) end w old r new result

-- what comes after the owner: the error is the first one of owner, type and data
abbrev pub ReadsAfterHeader : State → Room → ℕ → ℕ → Result (Unit {0}) RecordError → Result RecordHeader HeaderError → List TokenSeen → List ℕ → Result ParsedEntry RecordError → List ℕ → Type 0
ReadsAfterHeader before room at end (Err r) words tokens old result new = (result ≡ Err r) × (new ≡ old)
ReadsAfterHeader before room at end (Ok _) (Err r) tokens old result new = (result ≡ Err r.error) × (new ≡ old)
ReadsAfterHeader before room at end (Ok _) (Ok w) tokens old result new = ReadsRecordData before room at end w tokens old result new

abbrev pub ReadsRecord : State → Room → ℕ → ℕ → Option TokenSeen → Result RecordHeader HeaderError → List TokenSeen → List ℕ → Result ParsedEntry RecordError → NameState → List ℕ → Type 0
ReadsRecord before room at end owner words tokens old result known new =
    (first : Result (Unit {0}) RecordError) × ReadsOwner before at owner first known × ReadsAfterHeader before room at end first words tokens old result new

-- ---- what later entries inherit from an entry

abbrev pub owner_of_record : Option TokenSeen → List Declared
owner_of_record None = []
owner_of_record (Some t) = NewOwner (Some t) ∷ []

-- the TTL of a record's own, also of a rejected record
abbrev pub ttl_of_header : Result RecordHeader HeaderError → Option ℕ
ttl_of_header (Ok w) = w.ttl
ttl_of_header (Err r) = r.ttl

abbrev pub explicit_ttl_of : Option ℕ → List Declared
explicit_ttl_of None = []
explicit_ttl_of (Some ttl) = NewTtl ttl ∷ []

-- the minimum of an SOA that has no other TTL
abbrev pub minimum_of_ttl : RecordTtl → List Declared
minimum_of_ttl (Explicit ttl) = []
minimum_of_ttl (Default ttl) = []
minimum_of_ttl (Last ttl) = []
minimum_of_ttl (Minimum ttl) = NewDefaultTtl ttl ∷ []

abbrev pub minimum_of_record : Result ParsedEntry RecordError → List Declared
minimum_of_record (Ok (Record at data_at end ttl class rtype)) = minimum_of_ttl ttl
minimum_of_record _ = []

abbrev pub declared_by_record : Option TokenSeen → Result RecordHeader HeaderError → Result ParsedEntry RecordError → List Declared
declared_by_record owner words result = owner_of_record owner ++ (explicit_ttl_of (ttl_of_header words) ++ minimum_of_record result)

-- after a rejected `$ORIGIN` no origin is known
abbrev pub declared_by_rejected : Option (Result Directive ErrorKind) → List Declared
declared_by_rejected (Some (Ok Origin)) = NewOrigin None ∷ []
declared_by_rejected _ = []

-- a default TTL, if it is parsed
abbrev pub default_ttl_of : Result ℕ RecordError → List Declared
default_ttl_of (Ok ttl) = NewDefaultTtl ttl ∷ []
default_ttl_of (Err r) = []

abbrev pub declared_by_entry : Option (Result Directive ErrorKind) → EntryMeaning → Result ParsedEntry RecordError → List Declared
declared_by_entry first says_nothing result = []
declared_by_entry first (says_origin t) result = NewOrigin (Some t) ∷ []
declared_by_entry first (says_default_ttl r) result = default_ttl_of r
declared_by_entry first (says_include file token) result = []
declared_by_entry first says_generate result = []
declared_by_entry first (says_record owner words left) result = declared_by_record owner words result
declared_by_entry first (says_refused r) result = declared_by_rejected first

-- ---- entries

-- what is read of an entry with this meaning; only files and records append octets
abbrev pub ReadsMeaning : State → Room → ℕ → List TokenSeen → EntryMeaning → List ℕ → Result ParsedEntry RecordError → NameState → List ℕ → Type 0
ReadsMeaning before room end tokens says_nothing old result owner new = (result ≡ Ok Empty) × (new ≡ old)
ReadsMeaning before room end tokens (says_origin t) old result owner new = ReadsOrigin (known_name before.origin) t result × (new ≡ old)
ReadsMeaning before room end tokens (says_default_ttl r) old result owner new = (result ≡ directive_with r) × (new ≡ old)
ReadsMeaning before room end tokens (says_include file token) old result owner new = ReadsInclude (known_name before.origin) room (next_place tokens end) end (next_place (drop 1 tokens) end) file token old result new
ReadsMeaning before room end tokens says_generate old result owner new = (result ≡ Ok (Generate (next_place tokens end) end)) × (new ≡ old)
ReadsMeaning before room end tokens (says_record token words left) old result owner new = ReadsRecord before room (next_place tokens end) end token words left old result owner new
ReadsMeaning before room end tokens (says_refused e) old result owner new = result ≡ Err e

pub record ReadsZoneEntry (room : Room) (blank : Bool) (end : ℕ) (tokens : List TokenSeen) (before : State) (old : List ℕ) (result : Result ParsedEntry RecordError) (after : State) (new : List ℕ) : Type 0 where
  pub meaning : EntryMeaning
  pub says : EntryMeans blank end tokens meaning
  pub reads : ReadsMeaning before room end tokens meaning old result after.owner new
  pub extends : Extends old new
  pub learns : Updates (declared_by_entry (first_directive blank tokens) meaning result) before after
