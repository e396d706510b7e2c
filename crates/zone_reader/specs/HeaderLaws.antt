-- The TTL, class and type of an entry are found in one way, and an entry has one meaning.
use Rattle.std.specs.Prelude.{ℕ, ◌≡◌, ◌≢◌, Bool, true, false, List, [], ◌∷◌, Option, Some, None, Result, Ok, Err}
use Rattle.rdata_fields.specs.declared.record_error.RecordError.{RecordError}
use Rattle.dns_lexer.specs.EntryTokens.{TokenSeen}
use Rattle.zone_reader.specs.Directives.{ParsesDirective}
use Rattle.zone_reader.specs.EntryMeanings.{EntryMeaning, DirectiveMeans, EntryMeans, says_record, says_refused}
use Rattle.zone_reader.specs.HeaderWords.{TokenIsTtl, TokenIsClass}
use Rattle.zone_reader.specs.Headers.{ParsesTtlAndClass, ParsesHeader}
use Rattle.zone_reader.specs.declared.directive.Directive.{Directive}
use Rattle.zone_reader.specs.declared.header.RecordHeader.{RecordHeader}
use Rattle.zone_reader.specs.declared.header.HeaderError.{HeaderError}

-- a TTL and a class before other tokens
abbrev pub HeadsFoundOnce : Type 0
HeadsFoundOnce = (tokens left rest : List TokenSeen) (a b c d : Option ℕ) → ParsesTtlAndClass TokenIsTtl TokenIsClass tokens a b left → ParsesTtlAndClass TokenIsTtl TokenIsClass tokens c d rest → (a ≡ c) × (b ≡ d) × (left ≡ rest)

-- a TTL, a class and the type, or why no type follows
abbrev pub WordsFoundOnce : Type 0
WordsFoundOnce = (end : ℕ) (tokens left rest : List TokenSeen) (r s : Result RecordHeader HeaderError) → ParsesHeader end tokens r left → ParsesHeader end tokens s rest → (r ≡ s) × (left ≡ rest)

abbrev pub EntriesHaveOneMeaning : Type 0
EntriesHaveOneMeaning = (blank : Bool) (end : ℕ) (tokens : List TokenSeen) (m n : EntryMeaning) → EntryMeans blank end tokens m → EntryMeans blank end tokens n → m ≡ n

-- what is parsed of an entry is what it means: of a record without an owner, or after one; of a directive; and of one that is rejected
pub record ParsedEntriesHaveMeaning : Type 0 where
  pub blank : (end : ℕ) (tokens left : List TokenSeen) (r : Result RecordHeader HeaderError) → tokens ≢ [] → ParsesHeader end tokens r left → EntryMeans true end tokens (says_record None r left)
  pub owner : (end : ℕ) (t : TokenSeen) (ts rest left : List TokenSeen) (r : Result RecordHeader HeaderError) → ParsesDirective false end (t ∷ ts) (Ok None) rest → ParsesHeader end ts r left → EntryMeans false end (t ∷ ts) (says_record (Some t) r left)
  pub directive : (blank : Bool) (end : ℕ) (tokens left : List TokenSeen) (d : Directive) (m : EntryMeaning) → ParsesDirective blank end tokens (Ok (Some d)) left → DirectiveMeans d end left m → EntryMeans blank end tokens m
  pub refused : (blank : Bool) (end : ℕ) (tokens left : List TokenSeen) (e : RecordError) → ParsesDirective blank end tokens (Err e) left → EntryMeans blank end tokens (says_refused e)
