-- Service parameters of the tokens of an entry (RFC 9460 section 2.1).
use Rattle.std.specs.Prelude.{ℕ, ◌≡◌, ◌≢◌, ◌⊎◌, true, false, List, [], ◌∷◌, ◌++◌}
use Rattle.std.specs.List.{AllPairs}
use Rattle.dns_lexer.specs.EntryTokens.{TokenSeen}
use Rattle.rdata_svcb.specs.Params.{params_wire, HasFittingValues}
use Rattle.rdata_svcb.specs.ParamsFaults.{AreRightParams}
use Rattle.rdata_svcb.specs.Items.{IsWithout}
use Rattle.rdata_svcb.specs.Keys.{NamesKey}
use Rattle.rdata_svcb.specs.ParamValues.{SpellsValue}
use Rattle.rdata_svcb.specs.declared.keys.ValueKind.{ValueKind}

-- the text of a key and that of a value spell a key and octets
abbrev pub SpellsParam : List ℕ → List ℕ → ℕ × List ℕ → Type 0
SpellsParam name value p = (kind : ValueKind) × NamesKey name p.0 kind × SpellsValue kind value p.1

-- a word that is a key alone, whose value is empty; or a key, an equals sign, and a value
abbrev pub SplitsWord : List ℕ → List ℕ → List ℕ → Type 0
SplitsWord word name value = IsWithout 61 name × (((word ≡ name) × (value ≡ [])) ⊎ (word ≡ name ++ 61 ∷ value))

-- a word that ends in its first equals sign
abbrev pub IsOpenWord : List ℕ → List ℕ → Type 0
IsOpenWord word name = IsWithout 61 name × (word ≡ name ++ 61 ∷ [])

-- a word does not end in its first equals sign
abbrev pub IsClosedWord : List ℕ → Type 0
IsClosedWord word = (name : List ℕ) → IsOpenWord word name → ⊥

-- a word that is not adjacent to the token before it
abbrev pub IsSeparateWord : TokenSeen → Type 0
IsSeparateWord t = (t.is_quoted ≡ false) × (t.is_adjacent ≡ false)

-- a quoted string that is adjacent to the token before it
abbrev pub IsGluedText : TokenSeen → Type 0
IsGluedText t = (t.is_quoted ≡ true) × (t.is_adjacent ≡ true)

-- tokens do not begin with a quoted string that is adjacent to the token before
abbrev pub BeginsUnglued : List TokenSeen → Type 0
BeginsUnglued tokens = (q : TokenSeen) (more : List TokenSeen) → tokens ≡ q ∷ more → IsGluedText q → ⊥

-- the value after an open word: a quoted string adjacent to it, or an empty value
abbrev pub IsValueAfterWord : List TokenSeen → List ℕ → List TokenSeen → Type 0
IsValueAfterWord tokens value left = ((value ≡ []) × (left ≡ tokens) × BeginsUnglued tokens) ⊎ ((q : TokenSeen) × IsGluedText q × (tokens ≡ q ∷ left) × (value ≡ q.text))

-- the tokens after a word: its value is not among them; or its value is a quoted string adjacent to it
abbrev pub SplitsValue : TokenSeen → List TokenSeen → List ℕ → List ℕ → List TokenSeen → Type 0
SplitsValue t tokens name value rest =
    (SplitsWord t.text name value × (rest ≡ tokens))
    ⊎ (IsOpenWord t.text name × ((q : TokenSeen) × IsGluedText q × (tokens ≡ q ∷ rest) × (value ≡ q.text)))

-- the tokens that are one parameter, and the tokens after it
abbrev pub SplitsParam : List TokenSeen → List ℕ → List ℕ → List TokenSeen → Type 0
SplitsParam [] name value rest = ⊥
SplitsParam (t ∷ tokens) name value rest = IsSeparateWord t × SplitsValue t tokens name value rest

pub record SpellsFirstParam (tokens : List TokenSeen) (p : ℕ × List ℕ) (rest : List TokenSeen) : Type 0 where
  pub name : List ℕ
  pub value : List ℕ
  pub split : SplitsParam tokens name value rest
  pub spelled : SpellsParam name value p

-- the tokens begin with these parameters, one after another
abbrev pub SpellsFirstParams : List TokenSeen → List (ℕ × List ℕ) → List TokenSeen → Type 0
SpellsFirstParams tokens [] rest = tokens ≡ rest
SpellsFirstParams tokens (p ∷ params) rest = (middle : List TokenSeen) × SpellsFirstParam tokens p middle × SpellsFirstParams middle params rest

-- The tokens begin with a parameter: its key, the text of its value, the tokens at which that text
-- begins, and those after it. A value after an open word is a quoted string that is adjacent to it.
abbrev pub FindsParam : List TokenSeen → ℕ → ValueKind → List ℕ → List TokenSeen → List TokenSeen → Type 0
FindsParam [] key kind value at after = ⊥
FindsParam (t ∷ tokens) key kind value at after =
    IsSeparateWord t × ((name : List ℕ) × NamesKey name key kind
    × ((SplitsWord t.text name value × IsClosedWord t.text × (at ≡ t ∷ tokens) × (after ≡ tokens)) ⊎ (IsOpenWord t.text name × (at ≡ tokens) × IsValueAfterWord tokens value after)))

-- the tokens begin with a parameter, and these are after it
abbrev pub ReadsParam : List TokenSeen → ℕ × List ℕ → List TokenSeen → Type 0
ReadsParam tokens p after = (kind : ValueKind) × (value : List ℕ) × (at : List TokenSeen) × FindsParam tokens p.0 kind value at after × SpellsValue kind value p.1

abbrev pub ReadsEachParam : List TokenSeen → List (ℕ × List ℕ) → List TokenSeen → Type 0
ReadsEachParam tokens [] rest = tokens ≡ rest
ReadsEachParam tokens (p ∷ params) rest = (middle : List TokenSeen) × ReadsParam tokens p middle × ReadsEachParam middle params rest

-- the tokens before the rest are parameters of different keys
pub record ReadsParams (tokens : List TokenSeen) (params : List (ℕ × List ℕ)) (rest : List TokenSeen) : Type 0 where
  pub read : ReadsEachParam tokens params rest
  pub once : AllPairs (λ p q. p.0 ≢ q.0) params
  pub fitting : HasFittingValues params

-- Tokens spell parameters in any order, each key once. In wire format they are in the order of
-- their keys, and each value is one that its key allows beside the others.
pub record SpellsParams (tokens : List TokenSeen) (octets : List ℕ) : Type 0 where
  pub params : List (ℕ × List ℕ)
  pub spelled : SpellsFirstParams tokens params []
  pub once : AllPairs (λ p q. p.0 ≢ q.0) params
  pub fitting : HasFittingValues params
  pub whole : octets ≡ params_wire params
  pub right : AreRightParams octets
