-- If the capacity is known exactly, converting the symbols of a token has one result.
use Rattle.std.proofs.Common.{ℕ, ◌≡◌, ◌<◌, ◌≤◌, ◌+◌, List, [], ◌∷◌, ◌++◌, length, length-append, map, refl, sym, ap, subst, ◌∙◌, arith, append-nil, false, Option, Some, None, Result, Ok, Err, nat_lt}
use Rattle.std.specs.Prelude.{if◌then◌else◌, MatchResult}
use Rattle.std.specs.List.{concat}
use Rattle.std.proofs.lemmas.Bool.{lt-ltb, le-ltb}
use Rattle.dns_octets.specs.Room.{exactly}
use Rattle.dns_symbol.specs.declared.symbol.Symbol.{Symbol}
use Rattle.dns_symbol.specs.declared.error.SymbolCharsError.{SymbolCharsError}
use Rattle.dns_symbol.specs.Symbol.{chars_error_text}
use Rattle.dns_symbol.proofs.Unique.{symbols_same}
use Rattle.dns_scan.specs.Answers.{IsSymbolFault, FirstFault, AllOctetsFit, AnswersOctets}
use Rattle.dns_symbol.specs.Cause.{Cause, custom_text, short_buf}
use Rattle.dns_scan.specs.Reads.{OctetsRead}
use Rattle.dns_scan.specs.Steps.{step_octet}
use Rattle.dns_scan.specs.Tokens.{Token}

module _ (given : Symbol → Result (List ℕ) (List ℕ)) (size : ℕ) where
  -- the first error, as a function of the symbols
  abbrev fault_by : Result (List ℕ) (List ℕ) → ℕ → (ℕ → Option Cause) → Option Cause
  fault_by (Ok o) count more = if nat_lt size (count + length o) then Some short_buf else more (count + length o)
  fault_by (Err text) count more = Some (custom_text text)

  abbrev fault_of : ℕ → List Symbol → Option SymbolCharsError → Option Cause
  fault_of count [] None = None
  fault_of count [] (Some e) = Some (custom_text (chars_error_text e))
  fault_of count (x ∷ xs) error = fault_by (given x) count (λ n. fault_of n xs error)

  -- symbols whose octets fit, before others
  passed : (front rest : List Symbol) (error : Option SymbolCharsError) (parts : List (List ℕ)) (count : ℕ) → map given front ≡ map Ok parts → count + length (concat parts) ≤ size
      → fault_of count (front ++ rest) error ≡ fault_of (count + length (concat parts)) rest error
  passed [] rest error [] count e fits = ap (λ n. fault_of n rest error) (omega arith)
  passed [] rest error (o ∷ parts) count e fits = cc
  passed (x ∷ xs) rest error [] count e fits = cc
  passed (x ∷ xs) rest error (o ∷ parts) count e fits =
      let first : given x ≡ Ok o = cc in
      let others : map given xs ≡ map Ok parts = cc in
      let sum = length-append o (concat parts) in
      let enough : nat_lt size (count + length o) ≡ false = le-ltb size (count + length o) (omega arith) in
      let more = passed xs rest error parts (count + length o) others (omega arith) in
      ap (λ a. fault_by a count (λ n. fault_of n (xs ++ rest) error)) first
      ∙ ap (λ t. if t then Some short_buf else fault_of (count + length o) (xs ++ rest) error) enough
      ∙ more
      ∙ ap (λ n. fault_of n rest error) (omega arith)

  at_fault : (count : ℕ) (rest : List Symbol) (error : Option SymbolCharsError) (why : Cause) → IsSymbolFault given (exactly size) count rest error why → fault_of count rest error ≡ Some why
  at_fault count [] None why h = absurd h
  at_fault count [] (Some e) why h = ap Some (sym h)
  at_fault count (x ∷ xs) error why h = by (given x) h
    where
      by : (q : Result (List ℕ) (List ℕ)) → MatchResult q (λ o. (size < count + length o) × (why ≡ short_buf)) (λ text. why ≡ custom_text text) → fault_by q count (λ n. fault_of n xs error) ≡ Some why
      by (Ok o) k = ap (λ t. if t then Some short_buf else fault_of (count + length o) xs error) (lt-ltb size (count + length o) k.0) ∙ ap Some (sym k.1)
      by (Err text) k = ap Some (sym k)

  refused_by : (symbols : List Symbol) (error : Option SymbolCharsError) (why : Cause) → FirstFault given (exactly size) symbols error why → fault_of 0 symbols error ≡ Some why
  refused_by symbols error why h =
      ap (λ l. fault_of 0 l error) h.whole ∙ passed h.front h.rest error h.parts 0 h.gives (omega (arith, h.fits))
      ∙ at_fault (0 + length (concat h.parts)) h.rest error why (subst (λ n. IsSymbolFault given (exactly size) n h.rest error why) (omega arith) h.fault)

  none_refused : (symbols : List Symbol) (error : Option SymbolCharsError) (octets : List ℕ) → AllOctetsFit given (exactly size) symbols error octets → fault_of 0 symbols error ≡ None
  none_refused symbols error octets h =
      ap (λ l. fault_of 0 l error) (sym (append-nil symbols)) ∙ passed symbols [] error h.parts 0 h.gives (omega (arith, h.fits, ap length h.joined))
      ∙ ap (λ e. fault_of (0 + length (concat h.parts)) [] e) h.ends

  pub same_parts : (symbols : List Symbol) (a b : List (List ℕ)) → map given symbols ≡ map Ok a → map given symbols ≡ map Ok b → a ≡ b
  same_parts [] [] [] h k = refl
  same_parts [] [] (y ∷ b) h k = cc
  same_parts [] (x ∷ a) b h k = cc
  same_parts (s ∷ ss) [] b h k = cc
  same_parts (s ∷ ss) (x ∷ a) [] h k = cc
  same_parts (s ∷ ss) (x ∷ a) (y ∷ b) h k =
      let one : given s ≡ Ok x = cc in
      let other : given s ≡ Ok y = cc in
      let first : x ≡ y = cc (one, other) in
      let more : map given ss ≡ map Ok a = cc in
      let others : map given ss ≡ map Ok b = cc in
      λ i. first i ∷ same_parts ss a b more others i

  clash : (x : Option Cause) (why : Cause) → x ≡ None → x ≡ Some why → ⊥
  clash x why none some = cc

  -- two answers are one
  pub one_answer : (symbols : List Symbol) (error : Option SymbolCharsError) (q r : Result (List ℕ) Cause) → AnswersOctets given (exactly size) (λ why. why) (λ s. s) symbols error q
      → AnswersOctets given (exactly size) (λ why. why) (λ s. s) symbols error r → q ≡ r
  one_answer symbols error (Ok a) (Ok b) h k = ap (λ o. Ok o) (h.joined ∙ ap concat (same_parts symbols h.parts k.parts h.gives k.gives) ∙ sym k.joined)
  one_answer symbols error (Ok a) (Err e) h k = absurd (clash _ e (none_refused symbols error a h) (refused_by symbols error e k))
  one_answer symbols error (Err d) (Ok b) h k = absurd (clash _ d (none_refused symbols error b k) (refused_by symbols error d h))
  one_answer symbols error (Err d) (Err e) h k =
      let same : Some d ≡ Some e = sym (refused_by symbols error d h) ∙ refused_by symbols error e k in
      cc

-- and so are two of one token
pub one_reading : (size : ℕ) (token : Token) (q r : Result (List ℕ) Cause) → OctetsRead (exactly size) token q → OctetsRead (exactly size) token r → q ≡ r
one_reading size token q r h k =
    let same = symbols_same token h.0 k.0 h.1 k.1 h.2 k.2 in
    one_answer step_octet size k.0 k.1 q r
    (subst (λ e. AnswersOctets step_octet (exactly size) (λ why. why) (λ s. s) k.0 e q) same.1 (subst (λ xs. AnswersOctets step_octet (exactly size) (λ why. why) (λ s. s) xs h.1 q) same.0 h.3)) k.3
