-- Octets make one uncertain name, or have one error.
use Rattle.std.proofs.Common.{◌≡◌, ℕ, zero, suc, List, [], ◌∷◌, ◌++◌, length, refl, sym, ap, ◌∙◌, arith, Result, Ok, Err}
use Rattle.std.specs.Prelude.{if◌then◌else◌}
use Rattle.std.specs.Bool.{nat_lt}
use Rattle.std.proofs.lemmas.Bool.{lt-ltb}
use Rattle.dns_wire.specs.FromOctets.{SplitsIntoLabels}
use Rattle.dns_wire.proofs.OneAnswer.{not_below, refusal, refusal_cut, refusal_bad, refusal_pointer, root_not_cut, by_rest}
use Rattle.dns_name.specs.Uncertain.{AnswersUncertain, MakesUncertain}
use Rattle.dns_name.specs.declared.name.UncertainName.{UncertainName}
use Rattle.dns_name.specs.declared.name.UncertainName.TheVariants.{Absolute, Relative}
use Rattle.dns_name.specs.declared.name.error.UncertainDnameError.{UncertainDnameError}
use Rattle.dns_name.specs.declared.name.error.UncertainDnameError.TheVariants.{BadLabel, CompressedName, LongName, TrailingData, ShortInput}

module _ (O : Type 0) (octets : List ℕ) where
  abbrev count : ℕ
  count = length octets

  abbrev Answer : Type 0
  Answer = Result (UncertainName O) UncertainDnameError

  abbrev refused : ℕ → List ℕ → Answer
  refused = refusal (Err ShortInput) (Err CompressedName) (λ e. Err (BadLabel e))

  -- the one answer, by the labels and the rest
  abbrev answer : List (List ℕ) → List ℕ → Answer
  answer [] [] = Err ShortInput
  answer (label ∷ labels) [] = if nat_lt 254 count then Err LongName else Ok (Relative (label ∷ labels))
  answer labels (zero ∷ []) = Ok (Absolute (labels ++ [] ∷ []))
  answer labels (zero ∷ octet ∷ more) = Err TrailingData
  answer labels (suc n ∷ more) = refused (suc n) more

  answer_one : (labels : List (List ℕ)) (rest : List ℕ) (r : Answer) → SplitsIntoLabels octets labels rest → AnswersUncertain count labels rest r
      → r ≡ answer labels rest
  answer_one labels rest (Ok (Absolute name)) way a = ap (λ n. Ok (Absolute n)) a.1 ∙ ap (answer labels) (sym a.0)
  answer_one [] rest (Ok (Relative name)) way a = absurd (a.2 refl)
  answer_one (label ∷ labels) rest (Ok (Relative name)) way a =
      ap (λ n. Ok (Relative n)) a.3 ∙ rw (not_below 254 count a.0) refl ∙ ap (answer (label ∷ labels)) (sym a.1)
  answer_one [] rest (Err LongName) way a = absurd (omega (arith, a.0, ap length way.spelled, ap length a.1))
  answer_one (label ∷ labels) rest (Err LongName) way a = rw (a.1, lt-ltb 254 count a.0) refl
  answer_one labels rest (Err TrailingData) way a = ap (answer labels) (sym a.2)
  answer_one [] [] (Err ShortInput) way a = refl
  answer_one (label ∷ labels) [] (Err ShortInput) way a = let e = a.1 refl in cc
  answer_one labels (zero ∷ more) (Err ShortInput) way a = absurd (root_not_cut more a.0)
  answer_one labels (suc n ∷ more) (Err ShortInput) way a = refusal_cut (Err ShortInput) (Err CompressedName) (λ e. Err (BadLabel e)) (suc n) more a.0
  answer_one labels [] (Err (BadLabel e)) way a = let x = a.1 in cc
  answer_one labels (zero ∷ more) (Err (BadLabel e)) way a = let z : 0 ≡ e.0 = (let x = a.1 in cc) in absurd (omega (arith, a.2))
  answer_one labels (suc n ∷ more) (Err (BadLabel e)) way a =
      refusal_bad (Err ShortInput) (Err CompressedName) (λ e. Err (BadLabel e)) (suc n) more e a
  answer_one labels [] (Err CompressedName) way a = let x = a.1.3 in cc
  answer_one labels (zero ∷ more) (Err CompressedName) way a = let z : 0 ≡ a.1.0 = (let x = a.1.3 in cc) in absurd (omega (arith, a.1.4))
  answer_one labels (suc n ∷ more) (Err CompressedName) way a =
      refusal_pointer (Err ShortInput) (Err CompressedName) (λ e. Err (BadLabel e)) (suc n) more a.0 a.1

pub uncertain_same : {O : Type 0} (octets : List ℕ) (r s : Result (UncertainName O) UncertainDnameError) → MakesUncertain octets r → MakesUncertain octets s → r ≡ s
uncertain_same {O} octets =
    by_rest octets 255 (Err LongName) (AnswersUncertain {O = O} (length octets)) (answer O octets) (answer_one O octets)
