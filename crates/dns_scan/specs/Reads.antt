-- The results of parsing a list of tokens.
use Rattle.std.specs.Prelude.{ℕ, List, [], ◌∷◌, ◌≡◌, ◌≢◌, Option, Some, None, Result, Ok, Err, MatchOption, MatchResult, ◌⊎◌}
use Rattle.std.proofs.Common.{replicate}
use Rattle.dns_octets.specs.Room.{Room}
use Rattle.dns_symbol.specs.declared.symbol.Symbol.{Symbol}
use Rattle.dns_symbol.specs.declared.error.SymbolCharsError.{SymbolCharsError}
use Rattle.dns_symbol.specs.Text.{SymbolsOf}
use Rattle.dns_scan.specs.Answers.{AnswersOctets}
use Rattle.dns_symbol.specs.Cause.{Cause, end_of_entry, short_buf}
use Rattle.dns_scan.specs.Numbers.{ScannedNumber, by_cause}
use Rattle.dns_scan.specs.Unread.{first_of, others_of}
use Rattle.dns_scan.specs.Steps.{step_octet}
use Rattle.dns_scan.specs.Tokens.{Token}

-- the first token was parsed, or none was left, and the others remain
abbrev pub ReadsFirstToken : {V : Type 0} → (Token → Result V Cause → Type 0) → List Token → Result V Cause → List Token → Type 0
ReadsFirstToken reads tokens r rest = MatchOption (first_of tokens) (r ≡ Err end_of_entry) (λ t. reads t r) × (rest ≡ others_of tokens)

-- a token that is parsed as a number of at most the limit
abbrev pub NumberReads : ℕ → Token → Result ℕ Cause → Type 0
NumberReads limit = ScannedNumber (λ why. why) limit

-- a token that is parsed as octets, with a builder of that room
abbrev pub OctetsRead : Room → Token → Result (List ℕ) Cause → Type 0
OctetsRead room token r =
    (symbols : List Symbol) × (error : Option SymbolCharsError) × SymbolsOf token symbols error × AnswersOctets step_octet room (λ why. why) (λ s. s) symbols error r

-- a token that a scanner parses as a name
abbrev pub NameReads : {N E : Type 0} → (E → Cause) → (Token → Result N E → Type 0) → Token → Result N Cause → Type 0
NameReads {N} {E} cause reads token r = (q : Result N E) × reads token q × (r ≡ by_cause cause q)

-- one value and then another, until one is rejected
abbrev pub ReadsBoth : {A B : Type 0} → (List Token → Result A Cause → List Token → Type 0) → (List Token → Result B Cause → List Token → Type 0) → List Token
    → Result (A × B) Cause → List Token → Type 0
ReadsBoth {A} first second tokens (Ok p) rest = (middle : List Token) × first tokens (Ok p.0) middle × second middle (Ok p.1) rest
ReadsBoth {A} first second tokens (Err why) rest = first tokens (Err why) rest ⊎ ((a : A) × (middle : List Token) × first tokens (Ok a) middle × second middle (Err why) rest)

-- a value for each of a list in order, and the error that ended them
abbrev pub ReadsInTurn : {K V : Type 0} → (K → List Token → Result V Cause → List Token → Type 0) → List K → List Token → List V → Option Cause → List Token → Type 0
ReadsInTurn reads [] tokens values refusal rest = (values ≡ []) × (refusal ≡ None) × (rest ≡ tokens)
ReadsInTurn {K} {V} reads (k ∷ ks) tokens values refusal rest =
    ((v : V) × (more : List V) × (middle : List Token) × reads k tokens (Ok v) middle × (values ≡ v ∷ more) × ReadsInTurn reads ks middle more refusal rest)
    ⊎ ((why : Cause) × reads k tokens (Err why) rest × (values ≡ []) × (refusal ≡ Some why))

-- n values of one type, parsed in order
abbrev pub ReadsEach : {V : Type 0} → (List Token → Result V Cause → List Token → Type 0) → ℕ → List Token → List V → Option Cause → List Token → Type 0
ReadsEach reads n = ReadsInTurn (λ (u : Unit {0}). reads) (replicate n tt)

-- values of one type, for each token that remains
abbrev pub ReadsSome : {V : Type 0} → (List Token → Result V Cause → List Token → Type 0) → List Token → List V → List Token → Type 0
ReadsSome reads tokens [] rest = rest ≡ tokens
ReadsSome reads tokens (v ∷ vs) rest = (middle : List Token) × (tokens ≢ []) × reads tokens (Ok v) middle × ReadsSome reads middle vs rest

-- values of one type until no token remains; or up to the first that is rejected, or can't be stored
abbrev pub ReadsRest : {V : Type 0} → (List Token → Result V Cause → List Token → Type 0) → List Token → Result (List V) Cause → List Token → Type 0
ReadsRest reads tokens (Ok values) rest = ReadsSome reads tokens values [] × (rest ≡ [])
ReadsRest {V} reads tokens (Err why) rest =
    (values : List V) × (middle : List Token) × ReadsSome reads tokens values middle × (((middle ≢ []) × reads middle (Err why) rest) ⊎ ((values ≢ []) × (why ≡ short_buf) × (rest ≡ middle)))

-- the same, of a result whose list is read by `items`
abbrev pub ReadsRestAs : {V W E : Type 0} → (E → Cause) → (W → List V) → (List Token → Result V Cause → List Token → Type 0) → List Token → Result W E → List Token → Type 0
ReadsRestAs cause items reads tokens r rest = MatchResult r (λ v. ReadsRest reads tokens (Ok (items v)) rest) (λ e. ReadsRest reads tokens (Err (cause e)) rest)

-- two results of the same call are equal
abbrev pub HasOneAnswer : {A : Type 0} → (A → Type 0) → Type 0
HasOneAnswer {A} answers = (q r : A) → answers q → answers r → q ≡ r

-- symbols have at most one result, whatever octets each has, with a builder of that room
abbrev pub HaveOneResult : (Symbol → Result (List ℕ) (List ℕ)) → Room → Type 0
HaveOneResult given room =
    (symbols : List Symbol) (error : Option SymbolCharsError) → HasOneAnswer {A = Result (List ℕ) Cause} (AnswersOctets given room (λ why. why) (λ s. s) symbols error)

-- parsing a token as a name has at most one result
abbrev pub NamesInOneWay : {N E : Type 0} → (E → Cause) → (Token → Result N E → Type 0) → Type 0
NamesInOneWay {N} {E} cause reads = (token : Token) (q r : Result N E) → reads token q → reads token r → by_cause cause q ≡ by_cause cause r

-- the tokens are parsed as that value alone, and the others remain
abbrev pub AreReadAs : {V : Type 0} → (List Token → Result V Cause → List Token → Type 0) → List Token → V → List Token → Type 0
AreReadAs {V} reads tokens v others = (r : Result V Cause) (rest : List Token) → reads tokens r rest → (r ≡ Ok v) × (rest ≡ others)

-- parsing given tokens has at most one result, and one list of remaining tokens
abbrev pub ReadsInOneWay : {V : Type 0} → (List Token → Result V Cause → List Token → Type 0) → Type 0
ReadsInOneWay {V} reads = (tokens : List Token) (q r : Result V Cause) (rest others : List Token) → reads tokens q rest → reads tokens r others → (q ≡ r) × (rest ≡ others)

-- and so do values parsed in order
abbrev pub ReadInOneWay : {V : Type 0} → (List Token → List V → Option Cause → List Token → Type 0) → Type 0
ReadInOneWay {V} reads =
    (tokens : List Token) (values more : List V) (refusal other : Option Cause) (rest others : List Token) → reads tokens values refusal rest → reads tokens more other others
    → (values ≡ more) × (refusal ≡ other) × (rest ≡ others)
