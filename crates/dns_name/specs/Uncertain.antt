-- Names that are absolute or relative.
use Rattle.std.specs.Prelude.{◌≡◌, ◌≢◌, ◌⊎◌, ℕ, ◌<◌, ◌≤◌, Bool, true, false, List, [], ◌∷◌, ◌++◌, length, map, Result, Ok, Err}
use Rattle.dns_wire.specs.Wire.{wire, IsName, EndsInRoot, HasNoRoot, wire_length}
use Rattle.std.proofs.Common.{ap, sym, refl}
use Rattle.std.specs.List.{flat_map}
use Rattle.std.specs.Hash as fed
use Rattle.std.specs.Cmp.{IsEquivalence}
use Rattle.std.specs.Cmp.Lexicographic.{pointwise_decides, bytes_decides}
use Rattle.std.proofs.lemmas.Cmp.{on_equiv, lists_equiv, nat_list_eq_equiv}
use mathlib.Core.Bool.{true≢false}
use Rattle.dns_octets.specs.Lowered.{lowered}
use Rattle.dns_wire.specs.Order.{lowered_wire, same_name}
use Rattle.dns_wire.proofs.Chains.{chain_name, chain_ends}
use Rattle.dns_wire.specs.FromOctets.{SplitsIntoLabels, IsRootAndMore}
use Rattle.dns_wire.specs.Split.{RefusesLabel, IsCut}
use Rattle.dns_wire.specs.declared.error.SplitLabelError.TheVariants.{Pointer, BadType}
use Rattle.dns_name.specs.declared.name.UncertainName.{UncertainName}
use Rattle.dns_name.specs.declared.name.UncertainName.TheVariants.{Absolute, Relative}
use Rattle.dns_name.specs.declared.name.error.UncertainDnameError.{UncertainDnameError}
use Rattle.dns_name.specs.declared.name.error.UncertainDnameError.TheVariants.{BadLabel, CompressedName, LongName, TrailingData, ShortInput}
use Rattle.dns_wire.specs.Limits.{max_name, max_relative}

module _ {O : Type 0} where
  -- its labels, of either kind
  abbrev pub labels_of : UncertainName O → List (List ℕ)
  labels_of (Absolute name) = name
  labels_of (Relative name) = name

  abbrev pub is_absolute : UncertainName O → Bool
  is_absolute (Absolute name) = true
  is_absolute (Relative name) = false

  -- the same kind, and labels that are equal but for the case of letters
  abbrev pub same_uncertain : UncertainName O → UncertainName O → Bool
  same_uncertain (Absolute a) (Absolute b) = same_name a b
  same_uncertain (Absolute a) (Relative b) = false
  same_uncertain (Relative a) (Absolute b) = false
  same_uncertain (Relative a) (Relative b) = same_name a b

  -- what holds of each name of its kind
  abbrev pub IsUncertain : UncertainName O → Type 0
  IsUncertain (Absolute name) = IsName name × EndsInRoot name
  IsUncertain (Relative name) = IsName name × HasNoRoot name × (wire_length name ≤ max_relative)

  pub is_name_of : (n : UncertainName O) → IsUncertain n → IsName (labels_of n)
  is_name_of (Absolute name) h = h.0
  is_name_of (Relative name) h = h.0

  -- the labels of a chain on it: its own, and if it is relative those of the name after it
  abbrev pub labels_after : UncertainName O → List (List ℕ) → List (List ℕ)
  labels_after (Absolute name) right = name
  labels_after (Relative name) right = name ++ right

  pub after_name : (n : UncertainName O) (right : List (List ℕ)) → IsUncertain n → IsName right → wire_length (labels_after n right) ≤ max_name → IsName (labels_after n right)
  after_name (Absolute name) right h r fits = h.0
  after_name (Relative name) right h r fits = chain_name name right h.0 h.1 r fits

  pub after_ends : (n : UncertainName O) (right : List (List ℕ)) → IsUncertain n → EndsInRoot right → EndsInRoot (labels_after n right)
  after_ends (Absolute name) right h r = h.1
  after_ends (Relative name) right h r = chain_ends name right r

  pub same_uncertain_equiv : IsEquivalence same_uncertain
  same_uncertain_equiv = record { refl = own; symm = symm; congr = congr }
    where
      e : IsEquivalence same_name
      e = on_equiv (map lowered) (lists_equiv nat_list_eq_equiv)

      own : (a : UncertainName O) → same_uncertain a a ≡ true
      own (Absolute a) = e.refl a
      own (Relative a) = e.refl a

      symm : (a b : UncertainName O) → same_uncertain a b ≡ same_uncertain b a
      symm (Absolute a) (Absolute b) = e.symm a b
      symm (Absolute a) (Relative b) = refl
      symm (Relative a) (Absolute b) = refl
      symm (Relative a) (Relative b) = e.symm a b

      congr : (a b c : UncertainName O) → same_uncertain a b ≡ true → same_uncertain a c ≡ same_uncertain b c
      congr (Absolute a) (Absolute b) (Absolute c) p = e.congr a b c p
      congr (Absolute a) (Absolute b) (Relative c) p = refl
      congr (Absolute a) (Relative b) c p = absurd (true≢false (sym p))
      congr (Relative a) (Absolute b) c p = absurd (true≢false (sym p))
      congr (Relative a) (Relative b) (Absolute c) p = refl
      congr (Relative a) (Relative b) (Relative c) p = e.congr a b c p

  pub same_uncertain_hash : (a b : UncertainName O) → same_uncertain a b ≡ true → flat_map fed.u8 (lowered_wire (labels_of a)) ≡ flat_map fed.u8 (lowered_wire (labels_of b))
  same_uncertain_hash (Absolute a) (Absolute b) h = ap (λ x. flat_map fed.u8 (wire x)) ((pointwise_decides bytes_decides (map lowered a) (map lowered b)).0 h)
  same_uncertain_hash (Absolute a) (Relative b) h = absurd (true≢false (sym h))
  same_uncertain_hash (Relative a) (Absolute b) h = absurd (true≢false (sym h))
  same_uncertain_hash (Relative a) (Relative b) h = ap (λ x. flat_map fed.u8 (wire x)) ((pointwise_decides bytes_decides (map lowered a) (map lowered b)).0 h)

  -- the result of making a name from octets if they are few enough, by their number, the labels and the rest
  abbrev pub AnswersUncertain : ℕ → List (List ℕ) → List ℕ → Result (UncertainName O) UncertainDnameError → Type 0
  AnswersUncertain count labels rest (Ok (Absolute name)) = (rest ≡ 0 ∷ []) × (name ≡ labels ++ [] ∷ [])
  AnswersUncertain count labels rest (Ok (Relative name)) = (count ≤ max_relative) × (rest ≡ []) × (labels ≢ []) × (name ≡ labels)
  AnswersUncertain count labels rest (Err LongName) = (max_relative < count) × (rest ≡ [])
  AnswersUncertain count labels rest (Err TrailingData) = IsRootAndMore rest
  AnswersUncertain count labels rest (Err ShortInput) = IsCut rest × (rest ≡ [] → labels ≡ [])
  AnswersUncertain count labels rest (Err (BadLabel e)) = RefusesLabel (BadType e) rest
  AnswersUncertain count labels rest (Err CompressedName) = (place : ℕ) × RefusesLabel (Pointer place) rest

  -- more than 255 octets are too long; else the octets in their one way decide
  abbrev pub MakesUncertain : List ℕ → Result (UncertainName O) UncertainDnameError → Type 0
  MakesUncertain octets result =
      ((max_name < length octets) × (result ≡ Err LongName))
      ⊎ ((length octets ≤ max_name) × ((labels : List (List ℕ)) × (rest : List ℕ) × SplitsIntoLabels octets labels rest × AnswersUncertain (length octets) labels rest result))
