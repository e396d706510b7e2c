-- Steps of parsing service parameters.
use Rattle.std.specs.Prelude.{ℕ, ◌≡◌, ◌+◌, ◌<◌, ◌^◌, Option, Some, None, Result, MatchOption, List, [], ◌∷◌, ◌++◌, length}
use Rattle.dns_octets.specs.Room.{Room}
use Rattle.dns_lexer.specs.EntryTokens.{TokenSeen}
use Rattle.rdata_svcb.specs.Params.{param_head, params_wire, value_at, HasFittingValues, IsUnsettled}
use Rattle.rdata_svcb.specs.ParamsFaults.{SettlesLast}
use Rattle.rdata_svcb.specs.Keys.{NamesKey}
use Rattle.rdata_svcb.specs.ParamValues.{SpellsValue}
use Rattle.rdata_svcb.specs.ParamRefusals.{ExceedsNew, ExceedsValue, NewReason, ParamReason, RefusesSpelled, WordFault}
use Rattle.rdata_svcb.specs.ParamTokens.{SplitsWord, IsClosedWord, IsOpenWord, IsSeparateWord, IsValueAfterWord, ReadsParam, SpellsParam, SpellsFirstParam}
use Rattle.rdata_values.specs.declared.error.ErrorKind.{ErrorKind}
use Rattle.rdata_svcb.specs.declared.keys.ValueKind.{ValueKind}
use Rattle.rdata_svcb.specs.declared.parsing.ParamWord.{ParamWord}

-- the key and the value of a word that is a parameter
abbrev pub ReadsWord : TokenSeen → ParamWord → Type 0
ReadsWord t w = IsSeparateWord t × ((name : List ℕ) × NamesKey name w.key.code w.key.kind × (w.key.code < 2 ^ 16)
    × MatchOption w.value (IsOpenWord t.text name) (λ value. SplitsWord t.text name value.now × IsClosedWord t.text))

-- a token begins no parameter, and this is why
abbrev pub NamesNoParam : TokenSeen → ErrorKind → Type 0
NamesNoParam t e = WordFault t e × ((name value : List ℕ) → IsSeparateWord t → SplitsWord t.text name value → (key : ℕ) (kind : ValueKind) → NamesKey name key kind → ⊥)

-- after other octets come parameters
pub record HasParamsAfter (base : List ℕ) (params : List (ℕ × List ℕ)) (start : ℕ) (octets : List ℕ) : Type 0 where
  pub fitting : HasFittingValues params
  pub begins : start ≡ length base
  pub whole : octets ≡ base ++ params_wire params

-- after other octets come parameters, and then at an offset a key and two octets whose value does not matter yet
pub record HasOpenParam (base : List ℕ) (params : List (ℕ × List ℕ)) (key start at : ℕ) (octets : List ℕ) : Type 0 where
  pub fitting : HasFittingValues params
  pub small : key < 65536
  pub begins : start ≡ length base
  pub place : at ≡ length base + length (params_wire params)
  pub whole : octets ≡ base ++ (params_wire params ++ param_head key)

-- a parameter can be added to others
abbrev pub CanBeAdded : List (ℕ × List ℕ) → ℕ → List ℕ → Type 0
CanBeAdded params key value = (length value < 65536) × (value_at params key ≡ None)

-- of octets that are others and the wire format of parameters, the latter gained one parameter
abbrev pub GainsParam : ℕ × List ℕ → ℕ → List ℕ → List ℕ → Type 0
GainsParam p start old new =
    (base : List ℕ) (params : List (ℕ × List ℕ)) → HasParamsAfter base params start old → CanBeAdded params p.0 p.1 × (new ≡ base ++ params_wire (params ++ p ∷ []))

-- after other octets, the parameters gained one
abbrev pub InsertsParam : List ℕ → List (ℕ × List ℕ) → ℕ → List ℕ → List ℕ → Result (Unit {0}) ErrorKind → Type 0
InsertsParam base params key value new r = (octets : List ℕ) × (new ≡ base ++ octets) × SettlesLast params key value octets r

-- whichever parameters were before it, one that was begun was moved to its offset among them; or it can't be
abbrev pub SettlesParam : ℕ → ℕ → List ℕ → List ℕ → Result (Unit {0}) ErrorKind → Type 0
SettlesParam start at old new r =
    (base octets : List ℕ) (params : List (ℕ × List ℕ)) (key : ℕ) (value : List ℕ) → HasFittingValues params → key < 65536 → start ≡ length base
    → at ≡ length base + length (params_wire params) → old ≡ base ++ octets → IsUnsettled params key value octets → InsertsParam base params key value new r

-- the parameter that was begun has this value
abbrev pub SettlesValue : ℕ → ℕ → List ℕ → List ℕ → List ℕ → Type 0
SettlesValue start at value old new =
    (base : List ℕ) (params : List (ℕ × List ℕ)) (key : ℕ) → HasOpenParam base params key start at old
    → CanBeAdded params key value × (new ≡ base ++ params_wire (params ++ (key, value) ∷ []))

-- a text spells a value, which the parameter that was begun has now
abbrev pub ParsesParamValue : ℕ → ℕ → ValueKind → List ℕ → List ℕ → List ℕ → Type 0
ParsesParamValue start at kind text old new = (value : List ℕ) × SpellsValue kind text value × SettlesValue start at value old new

-- the parameter that was begun gets no such value
abbrev pub RefusesBegun : Room → ℕ → ℕ → ValueKind → List ℕ → List ℕ → ErrorKind → Type 0
RefusesBegun room start at kind text old e =
    (base : List ℕ) (params : List (ℕ × List ℕ)) (key : ℕ) → HasOpenParam base params key start at old
    → RefusesSpelled (ExceedsValue room kind text old) (λ value. SpellsValue kind text value × CanBeAdded params key value) (NewReason params key kind text) e

-- a parameter that a word spells was appended; after an open word the value is missing yet
abbrev pub ParsesParamWord : ℕ → TokenSeen → List ℕ → List ℕ → Option ValueKind → Type 0
ParsesParamWord start t old new None =
    IsSeparateWord t × ((name value : List ℕ) × (p : ℕ × List ℕ) × SplitsWord t.text name value × IsClosedWord t.text × SpellsParam name value p × (p.0 < 2 ^ 16) × GainsParam p start old new)
ParsesParamWord start t old new (Some kind) =
    IsSeparateWord t × ((name : List ℕ) × (key : ℕ) × IsOpenWord t.text name × NamesKey name key kind × (key < 2 ^ 16) × (new ≡ old ++ param_head key))

-- the parameter that was begun has this value now
abbrev pub ParsesQuoted : ℕ → ℕ → ValueKind → List TokenSeen → List TokenSeen → List ℕ → List ℕ → Type 0
ParsesQuoted start at kind tokens left old new = (value octets : List ℕ) × IsValueAfterWord tokens value left × SpellsValue kind value octets × SettlesValue start at octets old new

-- that value spells octets
abbrev pub SpellsOpenValue : ValueKind → List TokenSeen → List ℕ → Type 0
SpellsOpenValue kind tokens octets = (value : List ℕ) × (left : List TokenSeen) × IsValueAfterWord tokens value left × SpellsValue kind value octets

-- that value exceeds the room
abbrev pub ExceedsOpen : Room → ValueKind → List TokenSeen → List ℕ → Type 0
ExceedsOpen room kind tokens old = (value : List ℕ) × (left : List TokenSeen) × IsValueAfterWord tokens value left × ExceedsValue room kind value old

-- why that value is not added to parameters
abbrev pub OpenReason : List (ℕ × List ℕ) → ℕ → ValueKind → List TokenSeen → ErrorKind → Type 0
OpenReason params key kind tokens e = (value : List ℕ) × (left : List TokenSeen) × IsValueAfterWord tokens value left × NewReason params key kind value e

-- the parameter that was begun does not get that value
abbrev pub RefusesOpen : Room → ℕ → ℕ → ValueKind → List TokenSeen → List ℕ → ErrorKind → Type 0
RefusesOpen room start at kind tokens old e =
    (base : List ℕ) (params : List (ℕ × List ℕ)) (key : ℕ) → HasOpenParam base params key start at old
    → RefusesSpelled (ExceedsOpen room kind tokens old) (λ octets. SpellsOpenValue kind tokens octets × CanBeAdded params key octets) (OpenReason params key kind tokens) e

-- there are no more tokens, or the next may begin a parameter
abbrev pub MayBeginParam : List TokenSeen → Type 0
MayBeginParam left = (t : TokenSeen) (more : List TokenSeen) → left ≡ t ∷ more → IsSeparateWord t

-- the tokens begin with one parameter only
abbrev pub BeginsWithOneParam : List TokenSeen → ℕ × List ℕ → List TokenSeen → Type 0
BeginsWithOneParam tokens p left = (q : ℕ × List ℕ) (rest : List TokenSeen) → SpellsFirstParam tokens q rest → MayBeginParam rest → (q ≡ p) × (rest ≡ left)

-- the tokens begin with a parameter that can be added to others; its octets, whose length is not set yet
abbrev pub SpellsNew : List (ℕ × List ℕ) → List TokenSeen → List ℕ → Type 0
SpellsNew params tokens octets =
    (p : ℕ × List ℕ) × (left : List TokenSeen) × SpellsFirstParam tokens p left × MayBeginParam left × CanBeAdded params p.0 p.1 × (octets ≡ param_head p.0 ++ p.1)

-- no parameter is added
abbrev pub RefusesNew : Room → ℕ → List TokenSeen → List TokenSeen → List ℕ → ErrorKind → Type 0
RefusesNew room start tokens left old e =
    (base : List ℕ) (params : List (ℕ × List ℕ)) → HasParamsAfter base params start old → RefusesSpelled (ExceedsNew room tokens left old) (SpellsNew params tokens) (ParamReason params tokens left) e

-- no parameter is added, whichever tokens follow the rejected word
abbrev pub RefusesParamWord : Room → ℕ → TokenSeen → List ℕ → ErrorKind → Type 0
RefusesParamWord room start t old e = (rest : List TokenSeen) → RefusesNew room start (t ∷ rest) (t ∷ rest) old e

-- tokens begin with a parameter, and it was appended
abbrev pub ParsesParam : ℕ → List TokenSeen → List TokenSeen → List ℕ → List ℕ → Type 0
ParsesParam start tokens left old new =
    (p : ℕ × List ℕ) × SpellsFirstParam tokens p left × BeginsWithOneParam tokens p left × GainsParam p start old new × ReadsParam tokens p left
