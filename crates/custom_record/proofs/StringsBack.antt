-- Character strings that are all remaining tokens.
use Rattle.std.proofs.Common.{ℕ, ◌≡◌, ◌<◌, ◌≤◌, false, List, [], ◌∷◌, ◌++◌, length, refl, sym, ap, ◌∙◌, arith, subst, ⊎_elim, inl, inr, Vec, Option, Result, Ok, Err}
use Rattle.std.specs.Prelude.{◌≢◌, is_some, All, IsOkAnd, ◌⊎◌}
use Rattle.std.specs.List.{AllZip}
use Rattle.std.proofs.lemmas.List.Elements.{All-cons, All-head, All-nil, All-tail}
use Rattle.dns_octets.specs.Room.{Room, within}
use Rattle.dns_charstr.specs.Limits.{max_string}
use Rattle.dns_charstr.specs.Reading.{HasOctets}
use Rattle.dns_charstr.proofs.ReadBack.{reads_back}
use Rattle.dns_symbol.specs.Cause.{Cause, short_buf}
use Rattle.dns_scan.specs.Join.{LeavesOf}
use Rattle.dns_scan.specs.Octets.{IsPrinted}
use Rattle.dns_scan.specs.Reads.{OctetsRead, ReadsFirstToken, ReadsRest, ReadsRestAs}
use Rattle.dns_scan.specs.Unread.{HasTokens, consumes_first}
use Rattle.dns_scan.specs.Tokens.{Token, Peeks}
use Rattle.dns_scan.proofs.TokensLeft.{none_left}
use Rattle.dns_symbol.specs.Printed.{is_quoted_escape, is_unquoted_escape}
use Rattle.dns_symbol.proofs.PrintedForms.{unquoted_form, quoted_form}
use Rattle.custom_record.specs.FieldLaws.{may_after}
use Rattle.custom_record.specs.ReadsBack.{ReadsBack}
use Rattle.custom_record.specs.Several.{IsString, strings_of}
use Rattle.custom_record.specs.Values.{Value, AreTexts, AreValues, SomeMayLack}

pub known_values : (xs : List (List ℕ)) → All IsString xs → AreValues (strings_of xs)
known_values [] h = tt
known_values (x ∷ xs) h = (All-head IsString x xs h, known_values xs (All-tail IsString x xs h))

-- the values are equal in number to the strings
pub some_strings : (xs : List (List ℕ)) → 0 < length (strings_of xs) → 0 < length xs
some_strings [] h = h
some_strings (x ∷ xs) h = omega arith

pub some_values : (xs : List (List ℕ)) → 0 < length xs → 0 < length (strings_of xs)
some_values [] h = h
some_values (x ∷ xs) h = omega arith

-- if nothing was seen, nothing remains
pub none_stands : {S : Type 0} (next : S → Option Token → S → Type 0) (u v : S) (o : Option Token) (ts : List Token) → Peeks next u v o → false ≡ is_some o → HasTokens next v ts → ts ≡ []
none_stands next u v o ts p none stands = none_left ts o (consumes_first next v ts o p.shown.0 stands p.shown.1).0 none

-- ---- all that remains

short_each : (xs : List (List ℕ)) → AreValues (strings_of xs) → All (λ s. length s ≤ 255) xs
short_each [] is = All-nil (λ s. length s ≤ 255)
short_each (x ∷ xs) is = All-cons (λ s. length s ≤ 255) x xs is.0.1 (short_each xs is.1)

has_octets : (t : Token) (octets : List ℕ) → All (λ o. o < 256) octets → IsPrinted t octets → HasOctets t octets
has_octets t octets all (inl unquoted) = subst (λ (l : Token). HasOctets l octets) (sym unquoted) (reads_back is_unquoted_escape unquoted_form octets all)
has_octets t octets all (inr quoted) = subst (λ (l : Token). HasOctets l octets) (sym quoted) (reads_back is_quoted_escape quoted_form octets all)

texts_read : (xs : List (List ℕ)) (tokens : List Token) → AreValues (strings_of xs) → AreTexts (strings_of xs) tokens [] → AllZip HasOctets tokens xs
texts_read [] [] is texts = tt
texts_read [] (t ∷ ts) is texts = cc
texts_read (x ∷ xs) [] is texts = absurd texts
texts_read (x ∷ xs) (t ∷ ts) is texts = (has_octets t x is.0.0 texts.0, texts_read xs ts is.1 texts.1)

module _ {S E : Type 0} (next : S → Option Token → S → Type 0) (cause : E → Cause) (room : Room) (strings : List (List ℕ)) (past : List Value) (tokens : List Token) (new : S) where
  -- the texts are those of the strings, and so this is
  abbrev Where : Type 0 → Type 0
  Where answered = AllZip HasOctets tokens strings → All (λ s. length s ≤ 255) strings → answered

  pub strings_given : {A : Type 0} (v : Vec (List ℕ) A) (r : Result (List (List ℕ)) E) → AreValues (strings_of strings) → 0 < length (strings_of strings) → AreTexts (strings_of strings) tokens []
      → Where ((v.items ≡ strings) ⊎ ⊥)
      → LeavesOf {V = Vec (List ℕ) A} {E = E} next tokens (Ok v) new → (0 < length v.items → IsOkAnd r (λ s. s ≡ v.items))
      → ReadsBack next cause room strings_of (strings_of strings) (past ++ strings_of strings) [] r new
  strings_given {A} v r valid some texts whole leaves made =
      let is : v.items ≡ strings = ⊎_elim (λ e. e) (λ e. absurd e) (whole (texts_read strings tokens valid texts) (short_each strings valid)) in
      inl (by r is (made (subst (λ (l : List (List ℕ)). 0 < length l) (sym is) (some_strings strings some))), subst (HasTokens next new) (leaves.3 refl) leaves.4)
    where
      by : (r : Result (List (List ℕ)) E) → v.items ≡ strings → IsOkAnd r (λ s. s ≡ v.items) → IsOkAnd r (λ s. strings_of s ≡ strings_of strings)
      by (Ok s) is e = ap strings_of (e ∙ is)
      by (Err x) is e = e

  -- a list may always lack memory
  may_lack : (xs : List (List ℕ)) → 0 < length (strings_of xs) → SomeMayLack room (strings_of xs)
  may_lack [] some = absurd (omega (arith, some))
  may_lack (x ∷ xs) some = inl tt

  pub strings_lack : (e : E) → AreValues (strings_of strings) → 0 < length (strings_of strings) → AreTexts (strings_of strings) tokens [] → Where (⊥ ⊎ (cause e ≡ short_buf))
      → ReadsBack {T = List (List ℕ)} next cause room strings_of (strings_of strings) (past ++ strings_of strings) [] (Err e) new
  strings_lack e valid some texts whole =
      ⊎_elim (λ is. absurd is) (λ lack. inr (inl lack, may_after room past (strings_of strings) (may_lack strings some))) (whole (texts_read strings tokens valid texts) (short_each strings valid))

-- strings that were read of some tokens are some, and are the value
pub strings_read : {E : Type 0} (room : Room) (cause : E → Cause) (tokens rest : List Token) (strings : List (List ℕ)) (r : Result (List (List ℕ)) E) → tokens ≢ []
    → ReadsRest (ReadsFirstToken (OctetsRead (within max_string room))) tokens (Ok strings) rest → (0 < length strings → IsOkAnd r (λ s. s ≡ strings))
    → ReadsRestAs cause (λ s. s) (ReadsFirstToken (OctetsRead (within max_string room))) tokens r rest
strings_read room cause tokens rest [] r some h made = absurd (some (sym h.0))
strings_read room cause tokens rest (x ∷ xs) (Ok s) some h made =
    subst (λ l. ReadsRest (ReadsFirstToken (OctetsRead (within max_string room))) tokens (Ok l) rest) (sym (made (omega arith))) h
strings_read room cause tokens rest (x ∷ xs) (Err e) some h made = absurd (made (omega arith))
