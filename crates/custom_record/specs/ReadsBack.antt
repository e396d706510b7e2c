-- The result of parsing the text of a record.
use Rattle.std.specs.List.{concat}
use Rattle.std.specs.Prelude.{ℕ, List, [], ◌≡◌, ◌≢◌, ◌++◌, ◌⊎◌, Option, Some, Result, Ok, Err, IfErr, IsOkAnd, codes}
use Rattle.dns_octets.specs.Room.{Room}
use Rattle.dns_symbol.specs.Cause.{Cause, IsCause, custom_text, end_of_entry, short_buf, trailing_tokens}
use Rattle.dns_codec.specs.Base.{Base}
use Rattle.dns_scan.specs.Join.{IsJoin}
use Rattle.dns_scan.specs.Numbers.{by_cause}
use Rattle.dns_scan.specs.Reads.{ReadsBoth}
use Rattle.dns_scan.specs.Unread.{HasTokens, OfTokens, first_of}
use Rattle.dns_scan.specs.Tokens.{Token, marker}
use Rattle.dns_iter.specs.Name.{invalid_name}
use Rattle.dns_laws.specs.Encodings.{AnswersEncoding}
use Rattle.custom_record.specs.Spellings.{ConsumesOnlySpellings}
use Rattle.custom_record.specs.Values.{Value, AreFields, AreTexts, AreValues, SomeMayLack}

-- the error of unknown RDATA (RFC 3597)
abbrev pub generic_data : Cause
generic_data = custom_text (codes "generic record data is not supported")

-- the error for lack of capacity or memory, which for a name is "invalid domain name"
abbrev pub Lacks : {T E : Type 0} → (E → Cause) → Result T E → Type 0
Lacks cause r = IsCause cause r short_buf ⊎ IsCause cause r invalid_name

-- the result of parsing the texts of the wanted values, if others follow them and these tokens remain: a value of the same fields; or that error, if one of these fields may lack capacity
abbrev pub ReadsBack : {S T E : Type 0} → (S → Option Token → S → Type 0) → (E → Cause) → Room → (T → List Value) → (wanted all : List Value) → List Token → Result T E → S → Type 0
ReadsBack next cause room values wanted all others r new = (IsOkAnd r (λ y. values y ≡ wanted) × HasTokens next new others) ⊎ (Lacks cause r × SomeMayLack room all)

-- the same, of the result for a list of tokens
abbrev pub FieldBack : {T : Type 0} → Room → (T → List Value) → List Value → List Token → Result T Cause → List Token → Type 0
FieldBack room values wanted others r rest = (IsOkAnd r (λ y. values y ≡ wanted) × (rest ≡ others)) ⊎ (Lacks (λ why. why) r × SomeMayLack room wanted)

-- a call that parses the texts of a value's fields, and no other tokens; the tokens after them remain, where other fields of the record were before
pub record ParsesFields {S T E : Type 0} (next : S → Option Token → S → Type 0) (cause : E → Cause) (room : Room) (values : T → List Value) (old : S) (r : Result T E) (new : S) : Type 0 where
  pub back : (x : T) (past : List Value) (tokens others : List Token) → AreValues (values x) → AreTexts (values x) tokens others → HasTokens next old tokens
      → ReadsBack next cause room values (values x) (past ++ values x) others r new
  -- the same, if the texts of more fields follow, which remain
  pub before : (x : T) (past more : List Value) (tokens others : List Token) → AreValues (values x ++ more) → AreTexts (values x ++ more) tokens others → HasTokens next old tokens
      → (middle : List Token) × AreValues more × AreTexts more middle others
      × ReadsBack next cause room values (values x) (past ++ (values x ++ more)) middle r new
  -- whatever is parsed spells the fields of the value
  pub only : ConsumesOnlySpellings next values old r new

-- a call that parses all remaining tokens as the texts of a value's fields, where other fields of the record were before
abbrev pub ReadsLast : {S T E : Type 0} → (List Value → Type 0) → (S → Option Token → S → Type 0) → (E → Cause) → Room → (T → List Value) → S → Result T E → S → Type 0
ReadsLast {T = T} are next cause room values old r new = (x : T) (past : List Value) (tokens : List Token) → are (values x) → AreTexts (values x) tokens [] → HasTokens next old tokens
    → ReadsBack next cause room values (values x) (past ++ values x) [] r new

-- a call that parses the texts of all fields of a record
abbrev pub ParsesRecord : {S T E : Type 0} → (S → Option Token → S → Type 0) → (E → Cause) → Room → (T → List Value) → S → Result T E → S → Type 0
ParsesRecord {T = T} next cause room values old r new =
    (x : T) (tokens : List Token) → AreFields (values x) → AreTexts (values x) tokens [] → HasTokens next old tokens → ReadsBack next cause room values (values x) (values x) [] r new

-- the results of parsing tokens, and the tokens after them
abbrev pub TokenReading : Type 0 → Type 1
TokenReading V = List Token → Result V Cause → List Token → Type 0

-- a call that parses the tokens before which it was made as a reading states, and leaves those after them
abbrev pub ParsesAs : {S V E : Type 0} → (S → Option Token → S → Type 0) → (E → Cause) → TokenReading V → S → Result V E → S → Type 0
ParsesAs next cause reads old r new = OfTokens next old (λ tokens. (rest : List Token) × reads tokens (by_cause cause r) rest × HasTokens next new rest)

-- three values in a row, and five, of which the first that is rejected has its error
abbrev pub ReadsThree : {A B C : Type 0} → TokenReading A → TokenReading B → TokenReading C → TokenReading (A × B × C)
ReadsThree a b c tokens (Ok x) rest = ReadsBoth a (ReadsBoth b c) tokens (Ok (x.0, (x.1, x.2))) rest
ReadsThree a b c tokens (Err why) rest = ReadsBoth a (ReadsBoth b c) tokens (Err why) rest

abbrev pub ReadsFive : {A B C D E : Type 0} → TokenReading A → TokenReading B → TokenReading C → TokenReading D → TokenReading E → TokenReading (A × B × C × D × E)
ReadsFive a b c d e tokens (Ok x) rest = ReadsBoth a (ReadsBoth b (ReadsBoth c (ReadsBoth d e))) tokens (Ok (x.0, (x.1, (x.2, (x.3, x.4))))) rest
ReadsFive a b c d e tokens (Err why) rest = ReadsBoth a (ReadsBoth b (ReadsBoth c (ReadsBoth d e))) tokens (Err why) rest

-- the result of a record for tokens: `\#` comes first; or the fields are rejected; or tokens remain after them; or there is a value, and no more tokens
abbrev pub RecordRead : {R : Type 0} → TokenReading R → List Token → Result R Cause → Type 0
RecordRead reads tokens (Ok y) = (first_of tokens ≢ Some marker) × reads tokens (Ok y) []
RecordRead {R} reads tokens (Err why) =
    ((first_of tokens ≡ Some marker) × (why ≡ generic_data))
    ⊎ ((first_of tokens ≢ Some marker) × (rest : List Token)
    × (reads tokens (Err why) rest ⊎ ((y : R) × reads tokens (Ok y) rest × (rest ≢ []) × (why ≡ trailing_tokens))))

-- tokens that aren't empty are rejected as their join would be, as one token
abbrev pub RejectsJoin : {S V E : Type 0} → Base → (S → Option Token → S → Type 0) → (E → Cause) → Room → S → Result V E → Type 0
RejectsJoin b next cause room old r =
    OfTokens next old (λ tokens. (text : List ℕ) → IsJoin tokens text → concat tokens ≢ [] → IfErr r (λ e. AnswersEncoding {O = List ℕ} b cause (λ s. s) room text (Err e)))

-- tokens without octets are rejected as an entry that ended early
abbrev pub WantsSome : {S T E : Type 0} → (S → Option Token → S → Type 0) → (E → Cause) → S → Result T E → Type 0
WantsSome next cause old r = OfTokens next old (λ tokens. concat tokens ≡ [] → IsCause cause r end_of_entry)

-- the fields of three values in a row, and of five
abbrev pub three_values : {A B C : Type 0} → (A → List Value) → (B → List Value) → (C → List Value) → A × B × C → List Value
three_values a b c x = a x.0 ++ (b x.1 ++ c x.2)

abbrev pub five_values : {A B C D E : Type 0} → (A → List Value) → (B → List Value) → (C → List Value) → (D → List Value)
    → (E → List Value) → A × B × C × D × E → List Value
five_values a b c d e x = a x.0 ++ (b x.1 ++ (c x.2 ++ (d x.3 ++ e x.4)))
