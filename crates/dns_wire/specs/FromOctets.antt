-- Making names from octets.
use Rattle.std.specs.Prelude.{◌≡◌, ◌≢◌, ◌⊎◌, ℕ, ◌<◌, ◌≤◌, List, [], ◌∷◌, ◌++◌, length, All, Result, Ok, Err}
use Rattle.dns_wire.specs.Wire.{wire, wire_label, IsPlain}
use Rattle.dns_wire.specs.Split.{RefusesLabel, IsCut}
use Rattle.dns_wire.specs.declared.error.SplitLabelError.TheVariants.{Pointer, BadType}
use Rattle.dns_wire.specs.declared.split.Rest.{Rest}
use Rattle.dns_wire.specs.declared.split.Rest.TheVariants.{End, Root, RootAndMore, Refused}
use Rattle.dns_wire.specs.declared.error.NameError.{NameError}
use Rattle.dns_wire.specs.declared.error.NameError.TheVariants.{BadLabel, CompressedName, LongName, TrailingData, ShortInput, Relative, Absolute}
use Rattle.dns_wire.specs.Limits.{max_name, max_relative}

-- no whole label other than the root begins the octets
abbrev pub BeginsNoLabel : List ℕ → Type 0
BeginsNoLabel rest = (label more : List ℕ) → IsPlain label → rest ≡ wire_label label ++ more → ⊥

-- octets as whole labels other than the root, and a rest that begins with none
pub record SplitsIntoLabels (octets : List ℕ) (labels : List (List ℕ)) (rest : List ℕ) : Type 0 where
  pub spelled : octets ≡ wire labels ++ rest
  pub plain : All IsPlain labels
  pub ends : BeginsNoLabel rest

-- the root, and octets after it
abbrev pub IsRootAndMore : List ℕ → Type 0
IsRootAndMore rest = (octet : ℕ) × (more : List ℕ) × (rest ≡ 0 ∷ octet ∷ more)

-- what kind of rest it is
abbrev pub IsRest : List ℕ → Rest → Type 0
IsRest rest End = rest ≡ []
IsRest rest Root = rest ≡ 0 ∷ []
IsRest rest RootAndMore = IsRootAndMore rest
IsRest rest (Refused e) = RefusesLabel e rest × (rest ≢ [])

-- the result of making an absolute name of octets that aren't too many, by their labels and the rest
abbrev pub AnswersLabels : List (List ℕ) → List ℕ → Result (List (List ℕ)) NameError → Type 0
AnswersLabels labels rest (Ok name) = (rest ≡ 0 ∷ []) × (name ≡ labels ++ [] ∷ [])
AnswersLabels labels rest (Err LongName) = ⊥
AnswersLabels labels rest (Err TrailingData) = IsRootAndMore rest
AnswersLabels labels rest (Err ShortInput) = IsCut rest × (rest ≡ [] → labels ≡ [])
AnswersLabels labels rest (Err Relative) = (rest ≡ []) × (labels ≢ [])
AnswersLabels labels rest (Err (BadLabel e)) = RefusesLabel (BadType e) rest
AnswersLabels labels rest (Err CompressedName) = (place : ℕ) × RefusesLabel (Pointer place) rest
AnswersLabels labels rest (Err Absolute) = ⊥

-- the same of a relative name
abbrev pub AnswersRelative : List (List ℕ) → List ℕ → Result (List (List ℕ)) NameError → Type 0
AnswersRelative labels rest (Ok name) = (rest ≡ []) × (name ≡ labels)
AnswersRelative labels rest (Err LongName) = ⊥
AnswersRelative labels rest (Err Absolute) = (more : List ℕ) × (rest ≡ 0 ∷ more)
AnswersRelative labels rest (Err ShortInput) = IsCut rest × (rest ≢ [])
AnswersRelative labels rest (Err (BadLabel e)) = RefusesLabel (BadType e) rest
AnswersRelative labels rest (Err CompressedName) = (place : ℕ) × RefusesLabel (Pointer place) rest
AnswersRelative labels rest (Err TrailingData) = ⊥
AnswersRelative labels rest (Err Relative) = ⊥

-- too many octets are a long name; else the labels and the rest decide, into which octets split in one way
abbrev pub MakesName : List ℕ → Result (List (List ℕ)) NameError → Type 0
MakesName octets result =
    ((max_name < length octets) × (result ≡ Err LongName))
    ⊎ ((length octets ≤ max_name) × ((labels : List (List ℕ)) × (rest : List ℕ) × SplitsIntoLabels octets labels rest × AnswersLabels labels rest result))

abbrev pub MakesRelative : List ℕ → Result (List (List ℕ)) NameError → Type 0
MakesRelative octets result =
    ((max_relative < length octets) × (result ≡ Err LongName))
    ⊎ ((length octets ≤ max_relative) × ((labels : List (List ℕ)) × (rest : List ℕ) × SplitsIntoLabels octets labels rest × AnswersRelative labels rest result))

-- the octets split into labels and a rest of this kind
abbrev pub HasRest : List ℕ → Rest → Type 0
HasRest octets kind = (labels : List (List ℕ)) × (rest : List ℕ) × SplitsIntoLabels octets labels rest × IsRest rest kind
