-- The header of a record entry after its owner: a TTL and a class, each at most once and in either order, and the type.
use Rattle.std.specs.Prelude.{⊤, ℕ, ◌≡◌, ◌⊎◌, Bool, is_none, List, [], ◌∷◌, ◌++◌, Option, Some, None, Result, Ok, Err}
use Rattle.rdata_fields.specs.RecordErrors.{IsErrorAt}
use Rattle.rdata_fields.specs.Source.{next_place}
use Rattle.rdata_fields.specs.declared.record_error.RecordError.{RecordError}
use Rattle.rdata_values.specs.declared.error.ErrorKind.{ErrorKind}
use Rattle.rdata_values.specs.declared.error.ErrorKind.TheVariants.{EndOfEntry}
use Rattle.dns_lexer.specs.EntryTokens.{TokenSeen}
use Rattle.zone_reader.specs.HeaderWords.{TokenIsTtl, TokenIsClass, TokenIsType, type_refusal}
use Rattle.zone_reader.specs.declared.header.RecordHeader.{RecordHeader}
use Rattle.zone_reader.specs.declared.header.HeaderError.{HeaderError}

-- one token with this value, or no token
abbrev pub IsOptionalWord : {T : Type 0} → (T → ℕ → Type 0) → List T → Option ℕ → Type 0
IsOptionalWord Says [] v = v ≡ None
IsOptionalWord Says (t ∷ []) (Some n) = Says t n
IsOptionalWord Says _ _ = ⊥

-- the next token is not of this kind
abbrev pub NoneNext : {T : Type 0} → (T → ℕ → Type 0) → List T → Type 0
NoneNext Says [] = ⊤
NoneNext Says (t ∷ ts) = (n : ℕ) → Says t n → ⊥

-- the first token is taken if it is of this kind
abbrev pub ParsesOptional : {T : Type 0} → (T → ℕ → Type 0) → List T → Option ℕ → List T → Type 0
ParsesOptional {T} Says tokens (Some n) left = (t : T) × (tokens ≡ t ∷ left) × Says t n
ParsesOptional Says tokens None left = (left ≡ tokens) × NoneNext Says tokens

module _ {T : Type 0} (TokenIsTtl TokenIsClass : T → ℕ → Type 0) where
  -- a TTL and a class, each at most once, in either order
  pub record IsHead (tokens : List T) (ttl class : Option ℕ) : Type 0 where
    pub front : List T
    pub back : List T
    pub whole : tokens ≡ front ++ back
    pub order : (IsOptionalWord TokenIsTtl front ttl × IsOptionalWord TokenIsClass back class) ⊎ (IsOptionalWord TokenIsClass front class × IsOptionalWord TokenIsTtl back ttl)

  -- the next token is not one of those that are missing
  abbrev pub EndsHead : Option ℕ → Option ℕ → List T → Type 0
  EndsHead ttl class left = (ttl ≡ None → NoneNext TokenIsTtl left) × (class ≡ None → NoneNext TokenIsClass left)

  -- a TTL and a class come before other tokens, which begin with no further one
  pub record ParsesTtlAndClass (tokens : List T) (ttl class : Option ℕ) (left : List T) : Type 0 where
    pub head : List T
    pub whole : tokens ≡ head ++ left
    pub is : IsHead head ttl class
    pub ends : EndsHead ttl class left

-- why no type is parsed: no token is left; or the next one is not a type
abbrev pub WhyNoType : Bool → List TokenSeen → ErrorKind → Type 0
WhyNoType may_be_ttl [] e = e ≡ EndOfEntry
WhyNoType may_be_ttl (t ∷ ts) e = (e ≡ type_refusal may_be_ttl t) × ((rtype : ℕ) → TokenIsType t rtype → ⊥)

-- the next token is parsed as a type; or it is rejected at its offset, and not taken
abbrev pub ParsesType : Bool → ℕ → List TokenSeen → Result ℕ RecordError → List TokenSeen → Type 0
ParsesType may_be_ttl end tokens (Ok rtype) left = (t : TokenSeen) × (tokens ≡ t ∷ left) × TokenIsType t rtype
ParsesType may_be_ttl end tokens (Err e) left = (left ≡ tokens) × IsErrorAt (next_place tokens end) e × WhyNoType may_be_ttl tokens e.kind

-- a type comes after a TTL and a class; or no type follows, for this reason
abbrev pub ParsesHeader : ℕ → List TokenSeen → Result RecordHeader HeaderError → List TokenSeen → Type 0
ParsesHeader end tokens (Ok w) left = (t : TokenSeen) × ParsesTtlAndClass TokenIsTtl TokenIsClass tokens w.ttl w.class (t ∷ left) × TokenIsType t w.rtype
ParsesHeader end tokens (Err r) left = ParsesTtlAndClass TokenIsTtl TokenIsClass tokens r.ttl r.class left × IsErrorAt (next_place left end) r.error × WhyNoType (is_none r.ttl) left r.error.kind
