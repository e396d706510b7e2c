-- A text that is a name is parsed as it.
use Rattle.std.proofs.Common.{◌≡◌, ℕ, ◌<◌, ◌≤◌, Bool, true, false, List, [], ◌∷◌, ◌++◌, ⊎_elim, subst, refl, arith, inl, inr, Result, Ok, Err}
use Rattle.std.specs.Prelude.{nat_lt}
use Rattle.std.proofs.lemmas.Bool.Decides.{nat_tests}
use Rattle.dns_octets.specs.Room.{Room}
use Rattle.dns_wire.specs.Wire.{wire_length}
use Rattle.dns_wire.proofs.Wires.{wire_length_append}
use Rattle.dns_name.specs.Uncertain.{labels_of}
use Rattle.dns_symbol.specs.Cause.{Cause, IsCause}
use Rattle.dns_iter.specs.Name.{ReadsToken, AnswersName, invalid_name}
use Rattle.dns_name.specs.Reading.{ReadsAs, ReadsName}
use Rattle.dns_name.specs.declared.name.UncertainName.{UncertainName}
use Rattle.dns_name.specs.declared.name.UncertainName.TheVariants.{Absolute, Relative}
use Rattle.dns_name.specs.declared.name.error.FromStrError.{FromStrError}
use Rattle.dns_name.specs.declared.name.error.FromStrError.TheVariants.{Symbol, BadOctet, BinaryLabel, EmptyLabel, LongLabel, LongName, ShortBuf}
use Rattle.dns_name.proofs.WholeName.{whole_reads}
use Rattle.dns_laws.specs.Names.{ReturnsName}

module _ (O : Type 0) {E : Type 0} (cause : E → Cause) (room : Room) (token : List ℕ) (n : UncertainName O) (is : ReadsAs token n) where
  -- the labels of the name that is read
  abbrev size : ℕ
  size = wire_length (labels_of n)

  -- the same capacity, which is guaranteed to be sufficient
  abbrev enough : Room
  enough = record room { fits = size }

  -- the result of parsing if all of it fits
  ample : (read : Result (UncertainName O) FromStrError) → ReadsName enough token read → read ≡ Ok n
  ample read h = whole_reads token enough n read h is (omega arith)

  refused : (e : FromStrError) → ReadsName {O = O} enough token (Err e) → ⊥
  refused e h = let z = ample (Err e) h in cc

  tight : ReadsName {O = O} room token (Err ShortBuf) → size ≤ room.fits → ⊥
  tight h fits = let z = whole_reads token room n (Err ShortBuf) h is fits in cc

  short : ReadsName {O = O} room token (Err ShortBuf) → room.fits < size
  short h = by (nat_lt room.fits size) refl
    where
      by : (b : Bool) → nat_lt room.fits size ≡ b → room.fits < size
      by true e = let less : room.fits < size = grind (arith, nat_tests) in less
      by false e = absurd (tight h (let fits : size ≤ room.fits = grind (arith, nat_tests) in fits))

  -- any result, from that of the name and the error for lack of capacity
  answered : (r : Result (List (List ℕ)) E) (P : Type 0) → (AnswersName cause room (Ok n) r → P) → (room.fits < size → IsCause cause r invalid_name → P) → ReadsToken O cause room token r → P
  answered r P good lacks (read, h, a) = by read h a
    where
      by : (read : Result (UncertainName O) FromStrError) → ReadsName room token read → AnswersName cause room read r → P
      by (Ok m) h a = let same : m ≡ n = cc (ample (Ok m) h) in good (subst (λ x. AnswersName cause room (Ok x) r) same a)
      by (Err (Symbol e)) h a = absurd (refused (Symbol e) h)
      by (Err BadOctet) h a = absurd (refused BadOctet h)
      by (Err BinaryLabel) h a = absurd (refused BinaryLabel h)
      by (Err EmptyLabel) h a = absurd (refused EmptyLabel h)
      by (Err LongLabel) h a = absurd (refused LongLabel h)
      by (Err LongName) h a = absurd (refused LongName h)
      by (Err ShortBuf) h a = lacks (short h) a

module _ (O : Type 0) {E : Type 0} (cause : E → Cause) (room : Room) (token : List ℕ) (name : List (List ℕ)) where
  pub name_back : ReadsAs {O = O} token (Absolute name) → (r : Result (List (List ℕ)) E) → ReadsToken O cause room token r → ReturnsName cause room name r
  name_back is r = answered O cause room token (Absolute name) is r (ReturnsName cause room name r) (λ a. inl a) (λ less a. inr (a, less))

  -- a relative name gets the root
  pub relative_back : ReadsAs {O = O} token (Relative name) → (name ≡ [] → ⊥) → (r : Result (List (List ℕ)) E) → ReadsToken O cause room token r → ReturnsName cause room (name ++ [] ∷ []) r
  relative_back is some r = answered O cause room token (Relative name) is r (ReturnsName cause room (name ++ [] ∷ []) r)
      (λ a. ⊎_elim (λ none. absurd (some none.0)) (λ b. ⊎_elim (λ ok. inl ok.1) (λ lack. inr (lack.2, omega (arith, lack.1, wire_length_append name ([] ∷ [])))) b) a)
      (λ less a. inr (a, omega (arith, less, wire_length_append name ([] ∷ []))))
