-- The output and the status of the program.
use Rattle.std.specs.Prelude.{ℕ, List, [], ◌∷◌, ◌++◌, ◌≡◌, ◌≢◌, ◌⊎◌, Option, Some, None, Result, Ok, Err, IfSome, IsOk, MatchOption, MatchResult, codes, map, encode_utf8_all}
use Rattle.std.specs.Borrow.{Bor}
use Rattle.std.specs.Fmt.{WritesInCalls, decimal}
use Rattle.dns_octets.specs.Room.{exactly}
use Rattle.dns_symbol.specs.Characters.{line_feed}
use Rattle.dns_symbol.specs.declared.symbol.Symbol.{Symbol}
use Rattle.dns_symbol.specs.declared.error.SymbolCharsError.{SymbolCharsError}
use Rattle.dns_symbol.specs.Symbol.{octet_of}
use Rattle.dns_symbol.specs.Text.{SymbolsOf}
use Rattle.dns_wire.specs.Printed.{dotted_text}
use Rattle.dns_codec.specs.Base.{base16, encoded}
use Rattle.dns_scan.specs.Answers.{AllOctetsFit, FirstFault}
use Rattle.dns_symbol.specs.Cause.{Cause, custom_text, end_of_entry, short_buf, trailing_tokens}
use Rattle.dns_scan.specs.Numbers.{IsNumber, ReadsNumber, greatest}
use Rattle.dns_scan.specs.Octets.{unquoted_token}
use Rattle.dns_scan.specs.Steps.{step_octet}
use Rattle.dns_scan.specs.Tokens.{Token}
use Rattle.dns_zone.specs.EntryCodecs.{Codec, MadeOf, OctetsPrint, OctetsRefused, hex_codec, base32hex_codec, base64_codec}
use Rattle.dns_iter.specs.Name.{NameRead}
use Rattle.dnstext_lib.specs.declared.program.ScanKind.{ScanKind}
use Rattle.dnstext_lib.specs.declared.program.ScanKind.TheVariants.{U8, U16, U32, U64, U128, Ttl, Charstr, Hex, Base32hex, Base64, Name}
use Rattle.dnstext_lib.specs.declared.program.RunError.{RunError}
use Rattle.dnstext_lib.specs.declared.program.RunError.TheVariants.{Refused, WriteFailed}

-- the bytes of the program's arguments
abbrev pub bytes_of_words : List (Bor (List ℕ)) → List (List ℕ)
bytes_of_words words = map (λ w. w.now) words

-- the argument for a kind
abbrev pub kind_name : ScanKind → List ℕ
kind_name U8 = codes "u8"
kind_name U16 = codes "u16"
kind_name U32 = codes "u32"
kind_name U64 = codes "u64"
kind_name U128 = codes "u128"
kind_name Ttl = codes "ttl"
kind_name Charstr = codes "charstr"
kind_name Hex = codes "hex"
kind_name Base32hex = codes "base32hex"
kind_name Base64 = codes "base64"
kind_name Name = codes "name"

-- what an argument names, if it is the name of anything
abbrev pub IsNamedBy : {X Y : Type 0} → (X → List ℕ) → (Y → X) → List ℕ → Option Y → Type 0
IsNamedBy {X} name of word found = MatchOption found ((x : X) → word ≡ name x → ⊥) (λ y. word ≡ name (of y))

-- the arguments `scan KIND TOKEN..`
abbrev pub IsScanCommand : List (List ℕ) → ScanKind → List Token → Type 0
IsScanCommand words kind tokens = words ≡ codes "scan" ∷ kind_name kind ∷ tokens

-- the text of an error
abbrev pub cause_text : Cause → List ℕ
cause_text (custom_text text) = text
cause_text end_of_entry = codes "unexpected end of entry"
cause_text short_buf = codes "short buffer"
cause_text trailing_tokens = codes "trailing data"

-- the token is a number of at most the limit, which prints in decimal
abbrev pub NumberPrints : ℕ → Token → List ℕ → Type 0
NumberPrints limit token text = (symbols : List Symbol) × SymbolsOf token symbols None × ((v : ℕ) × IsNumber limit symbols v × (text ≡ decimal v))

-- the token isn't such a number
abbrev pub NumberRefused : ℕ → Token → Cause → Type 0
NumberRefused limit token why = (symbols : List Symbol) × (error : Option SymbolCharsError) × SymbolsOf token symbols error × ReadsNumber limit symbols error (Err why)

-- the token is a character string, which prints in its unquoted form
abbrev pub StringPrints : Token → List ℕ → Type 0
StringPrints token text = (symbols : List Symbol) × SymbolsOf token symbols None × ((octets : List ℕ) × AllOctetsFit step_octet (exactly 255) symbols None octets × (text ≡ unquoted_token octets))

-- the token isn't a character string
abbrev pub StringRefused : Token → Cause → Type 0
StringRefused token why = (symbols : List Symbol) × (error : Option SymbolCharsError) × SymbolsOf token symbols error × FirstFault step_octet (exactly 255) symbols error why

-- the token is a name, absolute or made so, which prints with a dot at its end
abbrev pub NamePrints : Token → List ℕ → Type 0
NamePrints token text = (name : List (List ℕ)) × NameRead token (Ok name) × (text ≡ encode_utf8_all (dotted_text name))

-- the token isn't a name, or its allocation failed
abbrev pub NameRefused : Token → Cause → Type 0
NameRefused token why = NameRead token (Err why)

-- the token is a value of the kind, which prints as that text
abbrev pub PrintsAs : ScanKind → Token → List ℕ → Type 0
PrintsAs U8 = NumberPrints (greatest 8)
PrintsAs U16 = NumberPrints (greatest 16)
PrintsAs U32 = NumberPrints (greatest 32)
PrintsAs U64 = NumberPrints (greatest 64)
PrintsAs U128 = NumberPrints (greatest 128)
PrintsAs Ttl = NumberPrints (greatest 32)
PrintsAs Charstr = StringPrints
PrintsAs Hex = OctetsPrint hex_codec
PrintsAs Base32hex = OctetsPrint base32hex_codec
PrintsAs Base64 = OctetsPrint base64_codec
PrintsAs Name = NamePrints

-- the first symbol has an octet
abbrev pub BeginsWithOctet : List Symbol → Type 0
BeginsWithOctet [] = ⊥
BeginsWithOctet (x ∷ xs) = IsOk (octet_of x)

-- the octets of a token are allocated: it begins with a symbol that has one
abbrev pub StringAllocates : Token → Type 0
StringAllocates token = (symbols : List Symbol) × (error : Option SymbolCharsError) × SymbolsOf token symbols error × BeginsWithOctet symbols

-- and those that a converter makes of a token: it makes some before an error
abbrev pub OctetsAllocate : Codec → Token → Type 0
OctetsAllocate codec token = (octets : List ℕ) × MadeOf codec token octets × (octets ≢ [])

-- the token is rejected, or an allocation for its value failed
abbrev pub Stops : (Token → Cause → Type 0) → (Token → Type 0) → Token → Cause → Type 0
Stops refused allocates token why = refused token why ⊎ ((why ≡ short_buf) × allocates token)

-- such a token of an encoding
abbrev pub OctetsStop : Codec → Token → Cause → Type 0
OctetsStop codec = Stops (OctetsRefused codec) (OctetsAllocate codec)

-- the token isn't a value of the kind, or its allocation failed, and that is the error
abbrev pub IsRefused : ScanKind → Token → Cause → Type 0
IsRefused U8 = NumberRefused (greatest 8)
IsRefused U16 = NumberRefused (greatest 16)
IsRefused U32 = NumberRefused (greatest 32)
IsRefused U64 = NumberRefused (greatest 64)
IsRefused U128 = NumberRefused (greatest 128)
IsRefused Ttl = NumberRefused (greatest 32)
IsRefused Charstr = Stops StringRefused StringAllocates
IsRefused Hex = OctetsStop hex_codec
IsRefused Base32hex = OctetsStop base32hex_codec
IsRefused Base64 = OctetsStop base64_codec
IsRefused Name = NameRefused

-- the lines of tokens up to the first error, and that error
abbrev pub ScanRun : ScanKind → List Token → List ℕ → Option Cause → Type 0
ScanRun kind [] printed refusal = (printed ≡ []) × (refusal ≡ None)
ScanRun kind (t ∷ ts) printed refusal =
    ((text : List ℕ) × (more : List ℕ) × PrintsAs kind t text × (printed ≡ (text ++ line_feed ∷ []) ++ more) × ScanRun kind ts more refusal)
    ⊎ ((why : Cause) × IsRefused kind t why × (printed ≡ []) × (refusal ≡ Some why))

-- the line on standard error for an error
abbrev pub refusal_line : List ℕ → List ℕ
refusal_line text = codes "refused: " ++ (text ++ codes "\n")

-- and the one for arguments that aren't a known command
abbrev pub usage_line : List ℕ
usage_line = codes "usage: dnstext scan|print|line KIND WORD..\n"

-- that line was written
abbrev pub WritesRefusal : {E : Type 0} → (E → List ℕ → E → Type 0) → E → List ℕ → E → Type 0
WritesRefusal took e reason f = WritesInCalls took e (refusal_line reason) f

-- an error with some reason, which is on standard error
abbrev pub ShowsReason : {E : Type 0} → (List ℕ → Type 0) → (E → List ℕ → E → Type 0) → E → E → Type 0
ShowsReason refused took e f = (reason : List ℕ) × refused reason × WritesRefusal took e reason f

-- the same, if standard error failed
abbrev pub HasReason : (List ℕ → Type 0) → Type 0
HasReason refused = (reason : List ℕ) × refused reason

-- the effect of printing a value: its text, if stated, and a line end were written; or the sink failed
abbrev pub ValueLine : {E O : Type 0} → (O → List ℕ → O → Type 0) → Option (List ℕ) → O → Result (Unit {0}) (RunError E) → O → Type 0
ValueLine took text o r p = MatchResult r (λ _. IfSome text (λ bs. WritesInCalls took o (bs ++ line_feed ∷ []) p)) (λ stop. stop ≡ WriteFailed)

-- the effect of printing a token: its line was written, or it was rejected and nothing was, or the sink failed for its value
abbrev pub LineBy : {E O : Type 0} → (E → Cause) → (O → List ℕ → O → Type 0) → (Token → List ℕ → Type 0) → (Token → Cause → Type 0) → Token → O → Result (Unit {0}) (RunError E) → O → Type 0
LineBy cause took prints refused token o (Ok u) p = (text : List ℕ) × prints token text × WritesInCalls took o (text ++ line_feed ∷ []) p
LineBy cause took prints refused token o (Err (Refused e)) p = refused token (cause e) × (p ≡ o)
LineBy cause took prints refused token o (Err WriteFailed) p = (text : List ℕ) × prints token text

-- the effect of printing the octets of a token, which a run of a converter returned
abbrev pub OctetsLine : {E O : Type 0} → (O → List ℕ → O → Type 0) → (Result (List ℕ) E → Type 0) → O → Result (Unit {0}) (RunError E) → O → Type 0
OctetsLine took run o (Ok u) p = (octets : List ℕ) × run (Ok octets) × WritesInCalls took o (encoded base16 octets ++ line_feed ∷ []) p
OctetsLine took run o (Err (Refused e)) p = run (Err e) × (p ≡ o)
OctetsLine took run o (Err WriteFailed) p = (octets : List ℕ) × run (Ok octets)

-- the same for a token of a kind
abbrev pub LineWritten : {E O : Type 0} → (E → Cause) → (O → List ℕ → O → Type 0) → ScanKind → Token → O → Result (Unit {0}) (RunError E) → O → Type 0
LineWritten cause took kind = LineBy cause took (PrintsAs kind) (IsRefused kind)

-- the first token is a value
abbrev pub BeginsWell : ScanKind → List Token → Type 0
BeginsWell kind [] = ⊥
BeginsWell kind (t ∷ ts) = (text : List ℕ) × PrintsAs kind t text

-- the effect of printing a list of tokens
abbrev pub LinesWritten : {E O : Type 0} → (E → Cause) → (O → List ℕ → O → Type 0) → ScanKind → List Token → O → Result (Unit {0}) (RunError E) → O → Type 0
LinesWritten cause took kind tokens o (Ok u) p = (printed : List ℕ) × ScanRun kind tokens printed None × WritesInCalls took o printed p
LinesWritten cause took kind tokens o (Err (Refused e)) p = (printed : List ℕ) × ScanRun kind tokens printed (Some (cause e)) × WritesInCalls took o printed p
LinesWritten cause took kind tokens o (Err WriteFailed) p = BeginsWell kind tokens

-- all tokens were values, and their lines were written
abbrev pub ScanPrinted : {O : Type 0} → (O → List ℕ → O → Type 0) → ScanKind → List Token → O → O → Type 0
ScanPrinted took kind tokens o p = (printed : List ℕ) × ScanRun kind tokens printed None × WritesInCalls took o printed p

-- a token was rejected for that reason, after the lines of those before it were written; or the first is a value, and a write failed
abbrev pub ScanRefused : {O : Type 0} → (O → List ℕ → O → Type 0) → ScanKind → List Token → O → O → List ℕ → Type 0
ScanRefused took kind tokens o p reason =
    ((printed : List ℕ) × (why : Cause) × ScanRun kind tokens printed (Some why) × WritesInCalls took o printed p × (reason ≡ cause_text why))
    ⊎ (BeginsWell kind tokens × (reason ≡ codes "write failed"))
