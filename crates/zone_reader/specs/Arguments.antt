-- The arguments of directives.
use Rattle.std.specs.Prelude.{ℕ, ◌≡◌, ◌⊎◌, ◌+◌, ◌<◌, if◌then◌else◌, List, [], ◌∷◌, ◌++◌, length, Result, Ok, Err}
use Rattle.rdata_fields.specs.RecordErrors.{IsErrorAt, error_at}
use Rattle.rdata_fields.specs.Source.{next_place}
use Rattle.rdata_fields.specs.declared.record_error.RecordError.{RecordError}
use Rattle.rdata_values.specs.declared.error.ErrorKind.{ErrorKind}
use Rattle.rdata_values.specs.declared.error.ErrorKind.TheVariants.{EndOfEntry, ExpectedTtl, Quoted, ShortBuf, TrailingArgument}
use Rattle.dns_octets.specs.Room.{Room}
use Rattle.dns_lexer.specs.EntryTokens.{TokenSeen}
use Rattle.zone_reader.specs.HeaderWords.{TokenIsTtl}

-- no token is left, or the next one is rejected
abbrev pub ExpectsEnd : List TokenSeen → Result (Unit {0}) RecordError → List TokenSeen → Type 0
ExpectsEnd tokens (Ok _) left = (tokens ≡ []) × (left ≡ [])
ExpectsEnd [] (Err e) left = ⊥
ExpectsEnd (t ∷ ts) (Err e) left = (left ≡ t ∷ ts) × (e ≡ error_at t.at TrailingArgument)

-- why a token is rejected as a TTL: it is quoted, or it doesn't spell a TTL
abbrev pub ttl_refusal : TokenSeen → ErrorKind
ttl_refusal t = if t.is_quoted then Quoted else ExpectedTtl

abbrev pub WhyNoTtl : List TokenSeen → ErrorKind → Type 0
WhyNoTtl [] e = e ≡ EndOfEntry
WhyNoTtl (t ∷ ts) e = (e ≡ ttl_refusal t) × ((ttl : ℕ) → TokenIsTtl t ttl → ⊥)

-- the next token is parsed as a TTL; or it is rejected at its offset, and no token is taken
abbrev pub ParsesTtl : ℕ → List TokenSeen → Result ℕ RecordError → List TokenSeen → Type 0
ParsesTtl end tokens (Ok ttl) left = (t : TokenSeen) × (tokens ≡ t ∷ left) × TokenIsTtl t ttl
ParsesTtl end tokens (Err e) left = (left ≡ tokens) × IsErrorAt (next_place tokens end) e × WhyNoTtl tokens e.kind

-- one token is parsed as a TTL, and it is the last; or the first is rejected, or the second
abbrev pub ParsesDefaultTtl : ℕ → List TokenSeen → Result ℕ RecordError → List TokenSeen → Type 0
ParsesDefaultTtl end tokens (Ok ttl) left = ParsesTtl end tokens (Ok ttl) [] × (left ≡ [])
ParsesDefaultTtl end tokens (Err e) left = ParsesTtl end tokens (Err e) left ⊎ ((ttl : ℕ) × ParsesTtl end tokens (Ok ttl) left × ExpectsEnd left (Err e) left)

-- why a file is not taken: no token is left; or its octets don't surely fit
abbrev pub WhyNoFile : Room → List TokenSeen → List ℕ → ErrorKind → Type 0
WhyNoFile room [] old e = e ≡ EndOfEntry
WhyNoFile room (t ∷ ts) old e = (e ≡ ShortBuf) × (room.fits < length old + length t.text)

-- the next token is taken, and its text is appended to the target as it is written, and counted; or nothing changed
abbrev pub ParsesFileName : Room → ℕ → List TokenSeen → List ℕ → Result ℕ RecordError → List TokenSeen → List ℕ → Type 0
ParsesFileName room end tokens old (Ok n) left new = (t : TokenSeen) × (tokens ≡ t ∷ left) × (new ≡ old ++ t.text) × (n ≡ length t.text)
ParsesFileName room end tokens old (Err e) left new = (left ≡ tokens) × (new ≡ old) × IsErrorAt (next_place tokens end) e × WhyNoFile room tokens old e.kind
