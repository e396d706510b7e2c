-- The steps in which an entry is read.
use Rattle.std.specs.Prelude.{ℕ, ◌≡◌, ◌<◌, ◌+◌, Bool, true, false, List, [], ◌∷◌, ◌++◌, length, drop, is_some, slice_get, Option, Some, None, Result, Ok, Err}
use Rattle.dns_octets.specs.Appending.{Extends}
use Rattle.dns_octets.specs.Room.{Room}
use Rattle.dns_lexer.specs.EntryTokens.{TokenSeen}
use Rattle.rdata_values.specs.declared.error.ErrorKind.TheVariants.{EndOfEntry, ShortBuf, TrailingArgument}
use Rattle.rdata_fields.specs.RecordErrors.{error_at}
use Rattle.rdata_fields.specs.Source.{next_place}
use Rattle.rdata_fields.specs.declared.record_error.RecordError.{RecordError}
use Rattle.zone_reader.specs.Arguments.{ParsesDefaultTtl}
use Rattle.zone_reader.specs.Headers.{ParsesHeader}
use Rattle.zone_reader.specs.declared.directive.Directive.{Directive}
use Rattle.zone_reader.specs.declared.directive.Directive.TheVariants.{Origin, Ttl, Include as OfInclude, Generate as OfGenerate}
use Rattle.zone_reader.specs.declared.header.RecordHeader.{RecordHeader}
use Rattle.zone_reader.specs.declared.header.HeaderError.{HeaderError}
use Rattle.zone_reader.specs.EntryReading.{IncludesOrigin, ReadsInclude, NamesOrRefuses, ReadsRecord, RefusesOrigin, default_ttl_of, directive_with, origin_octets, declared_by_record}
use Rattle.zone_reader.specs.Learning.{Updates}
use Rattle.zone_reader.specs.Past.{NewOrigin, known_name}
use Rattle.zone_reader.specs.declared.entry.ParsedEntry.{ParsedEntry}
use Rattle.zone_reader.specs.declared.entry.ParsedEntry.TheVariants.{Directive as IsDirective, Include, Generate}
use Rattle.zone_reader.specs.declared.state.State.{State}

-- no token is left if one is expected; or one is left if none is expected
abbrev pub ends_early : ℕ → RecordError
ends_early end = error_at end EndOfEntry

abbrev pub too_many : TokenSeen → RecordError
too_many t = error_at t.at TrailingArgument

-- the next token is skipped: it spells a name, or is rejected
abbrev pub ParsesNextName : Option (List (List ℕ)) → ℕ → List TokenSeen → Result (List (List ℕ)) RecordError → List TokenSeen → Type 0
ParsesNextName origin end [] r left = (left ≡ []) × (r ≡ Err (ends_early end))
ParsesNextName origin end (t ∷ ts) r left = (left ≡ ts) × NamesOrRefuses origin t r

-- the one token that is left spells a name, or is rejected
abbrev pub ParsesLastName : Option (List (List ℕ)) → ℕ → List TokenSeen → Result (List (List ℕ)) RecordError → Type 0
ParsesLastName origin end [] r = r ≡ Err (ends_early end)
ParsesLastName origin end (t ∷ []) r = NamesOrRefuses origin t r
ParsesLastName origin end (t ∷ u ∷ ts) r = r ≡ Err (too_many u)

-- the token of a list that has one
abbrev pub only_token : List TokenSeen → Option TokenSeen
only_token [] = None
only_token (t ∷ []) = Some t
only_token (t ∷ u ∷ ts) = None

abbrev pub ReadsLastOrigin : Option (List (List ℕ)) → ℕ → List TokenSeen → Result ParsedEntry RecordError → Type 0
ReadsLastOrigin origin end tokens (Ok e) = (e ≡ IsDirective) × ((labels : List (List ℕ)) × ParsesLastName origin end tokens (Ok labels))
ReadsLastOrigin origin end tokens (Err r) = ParsesLastName origin end tokens (Err r)

abbrev pub ReadsDefaultTtl : ℕ → List TokenSeen → State → Result ParsedEntry RecordError → State → Type 0
ReadsDefaultTtl end tokens before result after =
    (r : Result ℕ RecordError) × (left : List TokenSeen) × ParsesDefaultTtl end tokens r left × (result ≡ directive_with r) × Updates (default_ttl_of r) before after

-- the next token is skipped: its text is appended and counted, or does not surely fit
abbrev pub AppendsFile : Room → TokenSeen → List ℕ → Result ℕ RecordError → List ℕ → Type 0
AppendsFile room t old (Ok n) new = (new ≡ old ++ t.text) × (n ≡ length t.text)
AppendsFile room t old (Err r) new = (new ≡ old) × (r ≡ error_at t.at ShortBuf) × (room.fits < length old + length t.text)

abbrev pub AppendsFileName : Room → ℕ → List TokenSeen → List ℕ → Result ℕ RecordError → List TokenSeen → List ℕ → Type 0
AppendsFileName room end [] old r left new = (left ≡ []) × (r ≡ Err (ends_early end)) × (new ≡ old)
AppendsFileName room end (t ∷ ts) old r left new = (left ≡ ts) × AppendsFile room t old r new

-- an origin is included, or is rejected
abbrev pub ReadsIncluded : Option (List (List ℕ)) → Option TokenSeen → Result (Option (List (List ℕ))) RecordError → Type 0
ReadsIncluded origin token (Ok named) = IncludesOrigin origin token named
ReadsIncluded origin token (Err r) = RefusesOrigin origin token r

abbrev pub ParsesIncludedOrigin : Option (List (List ℕ)) → ℕ → List TokenSeen → Result (Option (List (List ℕ))) RecordError → Type 0
ParsesIncludedOrigin origin end [] r = ReadsIncluded origin None r
ParsesIncludedOrigin origin end (t ∷ []) r = ReadsIncluded origin (Some t) r
ParsesIncludedOrigin origin end (t ∷ u ∷ ts) r = r ≡ Err (too_many u)

-- the octets of an origin are appended, if there is one, or don't surely fit
abbrev pub AppendsOrigin : Room → ℕ → Option (List (List ℕ)) → List ℕ → Result Bool RecordError → List ℕ → Type 0
AppendsOrigin room at named old (Ok has) new = (has ≡ is_some named) × (new ≡ old ++ origin_octets named)
AppendsOrigin room at named old (Err r) new = (new ≡ old) × (r ≡ error_at at ShortBuf) × (room.fits < length old + length (origin_octets named))

-- a file of a number of octets, after which its origin is appended, or does not surely fit
abbrev pub FinishesInclude : Room → ℕ → ℕ → ℕ → ℕ → Option (List (List ℕ)) → List ℕ → Result ParsedEntry RecordError → List ℕ → Type 0
FinishesInclude room begin end at n named old (Ok e) new = (e ≡ Include begin end n (is_some named)) × (new ≡ old ++ origin_octets named)
FinishesInclude room begin end at n named old (Err r) new = (new ≡ old) × (r ≡ error_at at ShortBuf) × (room.fits < length old + length (origin_octets named))

abbrev pub ReadsLastInclude : Option (List (List ℕ)) → Room → ℕ → ℕ → List TokenSeen → List ℕ → Result ParsedEntry RecordError → List ℕ → Type 0
ReadsLastInclude origin room begin end [] old r new = Extends old new × (r ≡ Err (ends_early end))
ReadsLastInclude origin room begin end (file ∷ []) old r new = Extends old new × ReadsInclude origin room begin end file.at file.text None old r new
ReadsLastInclude origin room begin end (file ∷ t ∷ []) old r new = Extends old new × ReadsInclude origin room begin end file.at file.text (Some t) old r new
ReadsLastInclude origin room begin end (file ∷ t ∷ u ∷ ts) old r new = Extends old new × (r ≡ Err (too_many u))

-- the directive, whose word is at an offset
abbrev pub ReadsDirective : Directive → Room → ℕ → ℕ → List TokenSeen → State → List ℕ → Result ParsedEntry RecordError → State → List ℕ → Type 0
ReadsDirective Origin room at end tokens before old r after new =
    ReadsLastOrigin (known_name before.origin) end tokens r × Updates (NewOrigin (only_token tokens) ∷ []) before after × (new ≡ old)
ReadsDirective Ttl room at end tokens before old r after new = ReadsDefaultTtl end tokens before r after × (new ≡ old)
ReadsDirective OfInclude room at end tokens before old r after new = ReadsLastInclude (known_name before.origin) room at end tokens old r new × (after ≡ before)
ReadsDirective OfGenerate room at end tokens before old r after new = (r ≡ Ok (Generate at end)) × (new ≡ old) × (after ≡ before)

-- the token of the owner, and the tokens after it
abbrev pub owner_token : Bool → List TokenSeen → Option TokenSeen
owner_token true tokens = None
owner_token false tokens = slice_get tokens 0

abbrev pub tokens_after_owner : Bool → List TokenSeen → List TokenSeen
tokens_after_owner true tokens = tokens
tokens_after_owner false tokens = drop 1 tokens

abbrev pub own_or_last : Option ℕ → Option ℕ → Option ℕ
own_or_last None last = last
own_or_last (Some ttl) last = Some ttl

-- the owner, the TTL, class and type after it, and the data after these
pub record ReadsRecordTokens (room : Room) (blank : Bool) (end : ℕ) (tokens : List TokenSeen) (before : State) (old : List ℕ) (result : Result ParsedEntry RecordError) (after : State) (new : List ℕ) : Type 0 where
  pub header : Result RecordHeader HeaderError
  pub left : List TokenSeen
  pub takes : ParsesHeader end (tokens_after_owner blank tokens) header left
  pub reads : ReadsRecord before room (next_place tokens end) end (owner_token blank tokens) header left old result after.owner new
  pub extends : Extends old new
  pub learns : Updates (declared_by_record (owner_token blank tokens) header result) before after
