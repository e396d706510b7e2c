-- The result of parsing a word of a zone file as a name.
use Rattle.std.specs.Prelude.{◌≡◌, ◌≢◌, ◌⊎◌, ◌==◌, ◌&&◌, Bool, true, false, ℕ, List, [], ◌∷◌, length, Option, Result, Ok, Err}
use Rattle.std.specs.Borrow.{Bor}
use Rattle.std.specs.Option.{option_copied}
use Rattle.dns_lexer.specs.Pieces.{AreItemsOf}
use Rattle.dns_lexer.specs.declared.pieces.Fault.{Fault as TextFault}
use Rattle.dns_lexer.specs.declared.pieces.Piece.{Piece}
use Rattle.dns_lexer.specs.declared.pieces.Piece.TheVariants.{Word}
use Rattle.dns_lexer.specs.declared.pieces.Wrong.{Wrong}
use Rattle.dns_lexer.specs.declared.pieces.Wrong.TheVariants.{BadEscape as WrongEscape}
use Rattle.dns_octets.specs.Room.{exactly}
use Rattle.dns_wire.specs.FromOctets.{MakesName}
use Rattle.dns_wire.specs.Limits.{max_name}
use Rattle.dns_wire.specs.declared.error.NameError.{NameError}
use Rattle.rdata_tokens.specs.NameSpelling.{RefusesName, SpellsName}
use Rattle.rdata_values.specs.declared.error.ErrorKind.{ErrorKind}
use Rattle.rdata_values.specs.declared.error.ErrorKind.TheVariants.{BadEscape as KindEscape, EmptyLabel as KindEmpty, LongLabel as KindLong, LongName, NoOrigin as KindOrigin}
use Rattle.c_calls.specs.Kept.{IsOriginOf}
use Rattle.c_calls.specs.Reasons.{refusal_of_name}
use Rattle.c_calls.specs.Reports.{CopiesWhole, ReportsFault, at_start}
use Rattle.c_calls.specs.declared.outcome.Outcome.{Outcome}
use Rattle.c_calls.specs.declared.outcome.Refusal.{Refusal}
use Rattle.c_calls.specs.declared.outcome.Refusal.TheVariants.{BadEscape, BadName, EmptyLabel, LongLabel, NoOrigin, TooLong}

-- a syntax error before a word ends: of an escape, or of something else
abbrev pub escape_answer : Wrong → Result (Unit {0}) Refusal
escape_answer WrongEscape = Err BadEscape
escape_answer other = Err BadName

abbrev pub whole_answer : Bool → Result (Unit {0}) Refusal
whole_answer true = Ok tt
whole_answer false = Err BadName

-- whether the first item of a text of n octets is a word, and is the whole text; an escape that is not valid may come first
abbrev pub word_answer : ℕ → List (Result Piece TextFault) → Result (Unit {0}) Refusal
word_answer n (Ok (Word w) ∷ given) = whole_answer (w.start == 0 && w.end == n)
word_answer n (Err f ∷ given) = escape_answer f.wrong
word_answer n _ = Err BadName

abbrev pub ChecksWord : List ℕ → Result (Unit {0}) Refusal → Type 0
ChecksWord text answer = (given : List (Result Piece TextFault)) × AreItemsOf text given × (answer ≡ word_answer (length text) given)

-- the status of a word that is not a name
abbrev pub refusal_of_word : ErrorKind → Refusal
refusal_of_word KindEscape = BadEscape
refusal_of_word KindEmpty = EmptyLabel
refusal_of_word KindLong = LongLabel
refusal_of_word LongName = TooLong
refusal_of_word KindOrigin = NoOrigin
refusal_of_word other = BadName

-- the octets of the name that a word spells; or why a text is not a word, or spells no name
abbrev pub ReadsNameWord : Option (List (List ℕ)) → List ℕ → Result (List ℕ) Refusal → Type 0
ReadsNameWord origin text (Ok octets) = ChecksWord text (Ok tt) × SpellsName origin text octets
ReadsNameWord origin text (Err r) = ChecksWord text (Err r) ⊎ (ChecksWord text (Ok tt) × (kind : ErrorKind) × RefusesName (exactly max_name) origin text [] kind × (r ≡ refusal_of_word kind))

-- the octets are returned; or the error is reported with offset 0, and nothing was written
abbrev pub ReportsWord : Result (List ℕ) Refusal → List ℕ → ℕ → List ℕ → Outcome → Type 0
ReportsWord (Ok octets) old status new outcome = CopiesWhole octets old status new outcome
ReportsWord (Err r) old status new outcome = ReportsFault (at_start r) status outcome × (new ≡ old)

abbrev pub ReportsWordWith : Option (List (List ℕ)) → List ℕ → List ℕ → ℕ → List ℕ → Outcome → Type 0
ReportsWordWith origin text old status new outcome = (answer : Result (List ℕ) Refusal) × ReadsNameWord origin text answer × ReportsWord answer old status new outcome

-- the same with the origin by reference
abbrev pub ReportsWordRead : Option (Bor (List (List ℕ))) → List ℕ → List ℕ → ℕ → List ℕ → Outcome → Type 0
ReportsWordRead origin text old status new outcome = ReportsWordWith (option_copied origin) text old status new outcome

-- the word is read with the origin; or the origin is not a name, which is reported, and nothing was written
abbrev pub ReportsWordName : List ℕ → List ℕ → List ℕ → ℕ → List ℕ → Outcome → Type 0
ReportsWordName text origin old status new outcome =
    ((known : Option (List (List ℕ))) × IsOriginOf origin known × ReportsWordWith known text old status new outcome)
    ⊎ ((e : NameError) × (origin ≢ []) × MakesName origin (Err e) × ReportsFault (at_start (refusal_of_name e)) status outcome × (new ≡ old))
