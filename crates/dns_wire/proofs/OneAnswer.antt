-- Parsing octets has at most one result, by their labels and the rest.
use Rattle.std.proofs.Common.{◌≡◌, ℕ, zero, suc, ◌<◌, ◌≤◌, ◌⊎◌, ⊎_elim, false, List, [], ◌∷◌, ◌++◌, length, refl, sym, ap, ◌∙◌, arith, Result, Ok, Err}
use Rattle.std.specs.Prelude.{if◌then◌else◌}
use Rattle.std.specs.Bool.{nat_lt}
use Rattle.std.proofs.lemmas.Bool.{lt-ltb}
use Rattle.std.proofs.lemmas.Bool.Decides.{nat_tests}
use Rattle.dns_wire.specs.FromOctets.{SplitsIntoLabels, AnswersLabels, AnswersRelative, MakesName, MakesRelative}
use Rattle.dns_wire.specs.Split.{IsCut, RefusesLabel}
use Rattle.dns_wire.specs.Split.IsCut.{cut_lead, cut_label, cut_pointer}
use Rattle.dns_wire.specs.declared.error.LabelTypeError.{LabelTypeError}
use Rattle.dns_wire.specs.declared.error.SplitLabelError.TheVariants.{Pointer, BadType}
use Rattle.dns_wire.specs.declared.error.NameError.{NameError}
use Rattle.dns_wire.specs.declared.error.NameError.TheVariants.{BadLabel, CompressedName, LongName, TrailingData, ShortInput, Relative, Absolute}
use Rattle.dns_wire.proofs.Splitting.{splits_same, cut_none}

pub not_below : (a b : ℕ) → b ≤ a → nat_lt a b ≡ false
not_below a b h = grind (arith, nat_tests)

-- the error of octets that begin with no label, by their lead octet and those after it
module _ {A : Type 0} (short pointer : A) (bad : LabelTypeError → A) where
  abbrev by_next : List ℕ → A
  by_next [] = short
  by_next (next ∷ more) = pointer

  abbrev pub refusal : ℕ → List ℕ → A
  refusal lead more = if nat_lt lead 64 then short else (if nat_lt lead 192 then bad (record { 0 = lead }) else by_next more)

  pub refusal_cut : (lead : ℕ) (more : List ℕ) → IsCut (lead ∷ more) → short ≡ refusal lead more
  refusal_cut lead more (cut_lead h) = cc
  refusal_cut lead more (cut_label other after h low few) =
      let e : lead ≡ other = cc in rw (lt-ltb lead 64 (omega arith)) refl
  refusal_cut lead more (cut_pointer other h high) =
      let e : lead ≡ other = cc in
      let f : more ≡ [] = cc in rw (not_below lead 64 (omega arith), not_below lead 192 (omega arith), f) refl

  pub refusal_bad : (lead : ℕ) (more : List ℕ) (e : LabelTypeError) → RefusesLabel (BadType e) (lead ∷ more) → bad e ≡ refusal lead more
  refusal_bad lead more e h =
      let f : lead ≡ e.0 = (let x = h.1 in cc) in
      rw (not_below lead 64 (omega (arith, h.2)), lt-ltb lead 192 (omega (arith, h.3))) (ap (λ n. bad (record { 0 = n })) (sym f))

  pub refusal_pointer : (lead : ℕ) (more : List ℕ) (place : ℕ) → RefusesLabel (Pointer place) (lead ∷ more) → pointer ≡ refusal lead more
  refusal_pointer lead more place h =
      let e : lead ≡ h.0 = (let x = h.3 in cc) in
      let f : more ≡ h.1 ∷ h.2 = (let x = h.3 in cc) in
      rw (not_below lead 64 (omega (arith, h.4)), not_below lead 192 (omega (arith, h.4)), f) refl

-- the one answer of an absolute name
abbrev name_answer : List (List ℕ) → List ℕ → Result (List (List ℕ)) NameError
name_answer [] [] = Err ShortInput
name_answer (label ∷ labels) [] = Err Relative
name_answer labels (zero ∷ []) = Ok (labels ++ [] ∷ [])
name_answer labels (zero ∷ octet ∷ more) = Err TrailingData
name_answer labels (suc n ∷ more) = refusal (Err ShortInput) (Err CompressedName) (λ e. Err (BadLabel e)) (suc n) more

pub root_not_cut : (more : List ℕ) → IsCut (0 ∷ more) → ⊥
root_not_cut more h = cut_none [] more (omega arith) h

name_one : (labels : List (List ℕ)) (rest : List ℕ) (r : Result (List (List ℕ)) NameError) → AnswersLabels labels rest r → r ≡ name_answer labels rest
name_one labels rest (Ok name) a = ap Ok a.1 ∙ ap (name_answer labels) (sym a.0)
name_one labels rest (Err LongName) a = absurd a
name_one labels rest (Err TrailingData) a = ap (name_answer labels) (sym a.2)
name_one [] [] (Err ShortInput) a = refl
name_one (label ∷ labels) [] (Err ShortInput) a = let e = a.1 refl in cc
name_one labels (zero ∷ more) (Err ShortInput) a = absurd (root_not_cut more a.0)
name_one labels (suc n ∷ more) (Err ShortInput) a = refusal_cut (Err ShortInput) (Err CompressedName) (λ e. Err (BadLabel e)) (suc n) more a.0
name_one [] rest (Err Relative) a = absurd (a.1 refl)
name_one (label ∷ labels) rest (Err Relative) a = ap (name_answer (label ∷ labels)) (sym a.0)
name_one labels [] (Err (BadLabel e)) a = let x = a.1 in cc
name_one labels (zero ∷ more) (Err (BadLabel e)) a = let z : 0 ≡ e.0 = (let x = a.1 in cc) in absurd (omega (arith, a.2))
name_one labels (suc n ∷ more) (Err (BadLabel e)) a =
    refusal_bad (Err ShortInput) (Err CompressedName) (λ e. Err (BadLabel e)) (suc n) more e a
name_one labels [] (Err CompressedName) a = let x = a.1.3 in cc
name_one labels (zero ∷ more) (Err CompressedName) a = let z : 0 ≡ a.1.0 = (let x = a.1.3 in cc) in absurd (omega (arith, a.1.4))
name_one labels (suc n ∷ more) (Err CompressedName) a =
    refusal_pointer (Err ShortInput) (Err CompressedName) (λ e. Err (BadLabel e)) (suc n) more a.0 a.1
name_one labels rest (Err Absolute) a = absurd a

-- the one answer of a relative name
abbrev relative_answer : List (List ℕ) → List ℕ → Result (List (List ℕ)) NameError
relative_answer labels [] = Ok labels
relative_answer labels (zero ∷ more) = Err Absolute
relative_answer labels (suc n ∷ more) = refusal (Err ShortInput) (Err CompressedName) (λ e. Err (BadLabel e)) (suc n) more

relative_one : (labels : List (List ℕ)) (rest : List ℕ) (r : Result (List (List ℕ)) NameError) → AnswersRelative labels rest r → r ≡ relative_answer labels rest
relative_one labels rest (Ok name) a = ap Ok a.1 ∙ ap (relative_answer labels) (sym a.0)
relative_one labels rest (Err LongName) a = absurd a
relative_one labels rest (Err TrailingData) a = absurd a
relative_one labels rest (Err Relative) a = absurd a
relative_one labels rest (Err Absolute) a = ap (relative_answer labels) (sym a.1)
relative_one labels [] (Err ShortInput) a = absurd (a.1 refl)
relative_one labels (zero ∷ more) (Err ShortInput) a = absurd (root_not_cut more a.0)
relative_one labels (suc n ∷ more) (Err ShortInput) a = refusal_cut (Err ShortInput) (Err CompressedName) (λ e. Err (BadLabel e)) (suc n) more a.0
relative_one labels [] (Err (BadLabel e)) a = let x = a.1 in cc
relative_one labels (zero ∷ more) (Err (BadLabel e)) a = let z : 0 ≡ e.0 = (let x = a.1 in cc) in absurd (omega (arith, a.2))
relative_one labels (suc n ∷ more) (Err (BadLabel e)) a =
    refusal_bad (Err ShortInput) (Err CompressedName) (λ e. Err (BadLabel e)) (suc n) more e a
relative_one labels [] (Err CompressedName) a = let x = a.1.3 in cc
relative_one labels (zero ∷ more) (Err CompressedName) a = let z : 0 ≡ a.1.0 = (let x = a.1.3 in cc) in absurd (omega (arith, a.1.4))
relative_one labels (suc n ∷ more) (Err CompressedName) a =
    refusal_pointer (Err ShortInput) (Err CompressedName) (λ e. Err (BadLabel e)) (suc n) more a.0 a.1

-- if the octets are few enough, their one way decides
pub by_rest : {E : Type 0} (octets : List ℕ) (limit : ℕ) (long : E) (answers : List (List ℕ) → List ℕ → E → Type 0) (answer : List (List ℕ) → List ℕ → E)
    → ((labels : List (List ℕ)) (rest : List ℕ) (r : E) → SplitsIntoLabels octets labels rest → answers labels rest r → r ≡ answer labels rest)
    → let Makes : E → Type 0 = (λ r. ((limit < length octets) × (r ≡ long))
    ⊎ ((length octets ≤ limit) × ((labels : List (List ℕ)) × (rest : List ℕ) × SplitsIntoLabels octets labels rest × answers labels rest r))) in
    (r s : E) → Makes r → Makes s → r ≡ s
by_rest octets limit long answers answer one r s p q =
    ⊎_elim
    (λ a. ⊎_elim (λ b. a.1 ∙ sym b.1) (λ b. absurd (omega (arith, a.0, b.0))) q)
    (λ a. ⊎_elim (λ b. absurd (omega (arith, a.0, b.0)))
    (λ b.
    let e = splits_same octets a.1.0 b.1.0 a.1.1 b.1.1 a.1.2 b.1.2 in
    one a.1.0 a.1.1 r a.1.2 a.1.3 ∙ (λ i. answer (e.0 i) (e.1 i)) ∙ sym (one b.1.0 b.1.1 s b.1.2 b.1.3)) q)
    p

pub name_same : (octets : List ℕ) (r s : Result (List (List ℕ)) NameError) → MakesName octets r → MakesName octets s → r ≡ s
name_same octets = by_rest octets 255 (Err LongName) AnswersLabels name_answer (λ labels rest r way. name_one labels rest r)

pub relative_same : (octets : List ℕ) (r s : Result (List (List ℕ)) NameError) → MakesRelative octets r → MakesRelative octets s → r ≡ s
relative_same octets = by_rest octets 254 (Err LongName) AnswersRelative relative_answer (λ labels rest r way. relative_one labels rest r)
