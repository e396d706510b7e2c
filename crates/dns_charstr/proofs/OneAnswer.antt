-- If the capacity is known exactly, parsing a text has one result.
use Rattle.std.proofs.Common.{◌≡◌, ℕ, ◌+◌, ◌<◌, ◌≤◌, Bool, true, false, List, [], ◌∷◌, ◌++◌, length, map, refl, sym, ap, ◌∙◌, arith, append_assoc, append-nil, length-append, Option, Some, None}
use Rattle.std.proofs.Common.{Result, Ok, Err}
use Rattle.std.specs.Prelude.{◌==◌, nat_le}
use Rattle.std.proofs.lemmas.Bool.Decides.{nat_tests}
use Rattle.dns_octets.specs.Room.{exactly}
use Rattle.dns_symbol.specs.Symbol.{octet_of}
use Rattle.dns_symbol.specs.Text.{SymbolsOf}
use Rattle.dns_symbol.specs.declared.symbol.Symbol.{Symbol}
use Rattle.dns_symbol.specs.declared.error.SymbolCharsError.{SymbolCharsError}
use Rattle.dns_symbol.specs.declared.error.BadSymbol.{BadSymbol}
use Rattle.dns_symbol.proofs.Unique.{symbols_same}
use Rattle.dns_charstr.specs.Reading.{ReadsText}
use Rattle.dns_charstr.specs.declared.charstr.error.FromStrError.{FromStrError}
use Rattle.dns_charstr.specs.declared.charstr.error.FromStrError.TheVariants.{Presentation, ShortBuf}
use Rattle.dns_charstr.specs.declared.charstr.error.PresentationError.TheVariants.{LongString, SymbolChars, BadSymbol as Bad}

abbrev Answer : Type 0
Answer = Result (List ℕ) FromStrError

-- what a symbol leads to: an error, or what its octet leads to
abbrev took : (full short : Bool) → Result ℕ BadSymbol → (ℕ → Answer) → Answer
took true short octet more = Err (Presentation LongString)
took false short (Err e) more = Err (Presentation (Bad e))
took false true (Ok o) more = Err ShortBuf
took false false (Ok o) more = more o

-- the octets of some symbols after others, or the first error, if `room` octets fit
abbrev answer : ℕ → List ℕ → List Symbol → Option SymbolCharsError → Answer
answer size before [] None = Ok before
answer size before [] (Some e) = Err (Presentation (SymbolChars e))
answer size before (x ∷ xs) e = took (length before == 255) (nat_le size (length before)) (octet_of x) (λ o. answer size (before ++ o ∷ []) xs e)

module _ (size : ℕ) where
  -- a symbol whose octet fits
  goes : (before : List ℕ) (x : Symbol) (o : ℕ) (xs : List Symbol) (e : Option SymbolCharsError) → octet_of x ≡ Ok o → length before < 255 → length before < size
      → answer size before (x ∷ xs) e ≡ answer size (before ++ o ∷ []) xs e
  goes before x o xs e is short fits =
      let a : (length before == 255) ≡ false = grind (arith, nat_tests) in
      let b : nat_le size (length before) ≡ false = grind (arith, nat_tests) in
      rw (a, b, is) refl

  -- symbols whose octets fit
  ran : (front : List Symbol) (before os : List ℕ) (rest : List Symbol) (e : Option SymbolCharsError) → map octet_of front ≡ map Ok os
      → length before + length os ≤ 255 → length before + length os ≤ size → answer size before (front ++ rest) e ≡ answer size (before ++ os) rest e
  ran [] before [] rest e h short fits = ap (λ b. answer size b rest e) (sym (append-nil before))
  ran [] before (o ∷ os) rest e h short fits = cc
  ran (x ∷ xs) before [] rest e h short fits = cc
  ran (x ∷ xs) before (o ∷ os) rest e h short fits =
      let first : octet_of x ≡ Ok o = cc h in
      let others : map octet_of xs ≡ map Ok os = cc h in
      let more : length (before ++ o ∷ []) + length os ≤ 255 = omega (arith, short, length-append before (o ∷ [])) in
      let room_left : length (before ++ o ∷ []) + length os ≤ size = omega (arith, fits, length-append before (o ∷ [])) in
      goes before x o (xs ++ rest) e first (omega (arith, short)) (omega (arith, fits))
      ∙ ran xs (before ++ o ∷ []) os rest e others more room_left
      ∙ ap (λ b. answer size b rest e) (append_assoc before (o ∷ []) os)

  long_next : (before : List ℕ) (x : Symbol) (xs : List Symbol) (e : Option SymbolCharsError) → length before ≡ 255 → answer size before (x ∷ xs) e ≡ Err (Presentation LongString)
  long_next before x xs e full =
      let a : (length before == 255) ≡ true = grind (arith, nat_tests) in rw a refl

  bad_next : (before : List ℕ) (x : Symbol) (xs : List Symbol) (e : Option SymbolCharsError) (b : BadSymbol) → length before < 255 → octet_of x ≡ Err b
      → answer size before (x ∷ xs) e ≡ Err (Presentation (Bad b))
  bad_next before x xs e b short is =
      let a : (length before == 255) ≡ false = grind (arith, nat_tests) in rw (a, is) refl

  none_fits : (before : List ℕ) (x : Symbol) (o : ℕ) (xs : List Symbol) (e : Option SymbolCharsError) → length before < 255 → octet_of x ≡ Ok o → size ≤ length before
      → answer size before (x ∷ xs) e ≡ Err ShortBuf
  none_fits before x o xs e short is full =
      let a : (length before == 255) ≡ false = grind (arith, nat_tests) in
      let b : nat_le size (length before) ≡ true = grind (arith, nat_tests) in
      rw (a, is, b) refl

  -- the result of all symbols, by what follows those whose octets fit
  after : (text : List ℕ) (symbols front rest : List Symbol) (error e : Option SymbolCharsError) (os : List ℕ) → SymbolsOf text symbols error
      → SymbolsOf text (front ++ rest) e → map octet_of front ≡ map Ok os → length os ≤ 255 → length os ≤ size
      → answer size [] symbols error ≡ answer size os rest e
  after text symbols front rest error e os whole part are short fits =
      let same = symbols_same text symbols (front ++ rest) error e whole part in
      (λ i. answer size [] (same.0 i) (same.1 i)) ∙ ran front [] os rest e are (omega (arith, short)) (omega (arith, fits))

  to_end : (text : List ℕ) (symbols front : List Symbol) (error e : Option SymbolCharsError) (os : List ℕ) → SymbolsOf text symbols error
      → SymbolsOf text front e → map octet_of front ≡ map Ok os → length os ≤ 255 → length os ≤ size
      → answer size [] symbols error ≡ answer size os [] e
  to_end text symbols front error e os whole part are short fits =
      after text symbols front [] error e os whole (rw (append-nil front) part) are short fits

  answers : (text : List ℕ) (symbols : List Symbol) (error : Option SymbolCharsError) → SymbolsOf text symbols error
      → (r : Answer) → ReadsText (exactly size) text r → answer size [] symbols error ≡ r
  answers text symbols error whole (Ok os) h =
      to_end text symbols h.0.symbols error None os whole h.0.read h.0.octets_are h.1 h.2
  answers text symbols error whole (Err (Presentation (SymbolChars e))) h =
      to_end text symbols h.1.symbols error (Some e) h.0 whole h.1.read h.1.octets_are h.2 h.3
  answers text symbols error whole (Err (Presentation LongString)) h =
      after text symbols h.2.front (h.1 ∷ h.2.others) error h.2.error h.0 whole h.2.read h.2.octets_are (omega (arith, h.3)) h.4
      ∙ long_next h.0 h.1 h.2.others h.2.error h.3
  answers text symbols error whole (Err (Presentation (Bad e))) h =
      after text symbols h.2.front (h.1 ∷ h.2.others) error h.2.error h.0 whole h.2.read h.2.octets_are (omega (arith, h.3)) h.4
      ∙ bad_next h.0 h.1 h.2.others h.2.error e h.3 h.5
  answers text symbols error whole (Err ShortBuf) h =
      after text symbols h.3.front (h.1 ∷ h.3.others) error h.3.error h.0 whole h.3.read h.3.octets_are (omega (arith, h.4)) h.5
      ∙ none_fits h.0 h.1 h.2 h.3.others h.3.error h.4 h.6 h.7

  -- two answers are one
  pub one_answer : (text : List ℕ) (symbols : List Symbol) (error : Option SymbolCharsError) → SymbolsOf text symbols error
      → (q r : Answer) → ReadsText (exactly size) text q → ReadsText (exactly size) text r → q ≡ r
  one_answer text symbols error whole q r h k = sym (answers text symbols error whole q h) ∙ answers text symbols error whole r k
