-- The texts of fields parse as their values.
use Rattle.std.proofs.Common.{ℕ, ◌+◌, ◌≡◌, ◌<◌, ◌≤◌, ◌^◌, Bool, List, [], ◌∷◌, ◌++◌, length, length-append, map}
use Rattle.std.proofs.Common.{refl, sym, ap, subst, ◌∙◌, arith, zero-add, inl, inr, ⊎_elim, None, Result, Ok, Err}
use Rattle.std.specs.Prelude.{All, MatchResult, encode_utf8_all}
use Rattle.std.specs.List.{concat}
use Rattle.std.specs.Fmt.{decimal}
use Rattle.dns_octets.specs.Room.{Room, exactly, within}
use Rattle.dns_symbol.specs.declared.error.BadSymbol.{BadSymbol}
use Rattle.dns_symbol.specs.declared.symbol.Symbol.{Symbol}
use Rattle.dns_symbol.specs.Symbol.{octet_of}
use Rattle.dns_symbol.specs.Printed.{symbol_of, text_of, is_quoted_escape, is_unquoted_escape}
use Rattle.dns_symbol.proofs.PrintedForms.{IsForm, printed_symbols, printed_octets, unquoted_form, quoted_form}
use Rattle.dns_symbol.proofs.Unique.{symbols_same}
use Rattle.dns_scan.specs.Answers.{AllOctetsFit, AnswersOctets, IsSymbolFault}
use Rattle.dns_symbol.specs.Cause.{Cause, custom_text, short_buf}
use Rattle.dns_scan.specs.Numbers.{greatest, by_cause}
use Rattle.dns_scan.specs.Octets.{IsPrinted}
use Rattle.dns_scan.specs.Reads.{ReadsFirstToken, ReadsBoth, NameReads, NumberReads, OctetsRead}
use Rattle.dns_scan.specs.Steps.{step_octet, bad_or}
use Rattle.dns_scan.specs.Tokens.{Token}
use Rattle.dns_scan.proofs.Answered.{all_given_in, first_fault_in}
use Rattle.dns_scan.proofs.Decimal.{decimal_read}
use Rattle.dns_scan.proofs.Once.{numbers_once}
use Rattle.dns_scan.proofs.OneAnswer.{one_answer}
use Rattle.dns_name.specs.Reading.{ReadsAs}
use Rattle.dns_name.specs.declared.name.UncertainName.TheVariants.{Absolute}
use Rattle.dns_name.proofs.Printing.{zone_reads}
use Rattle.dns_iter.specs.Name.{ReadsToken}
use Rattle.dns_laws.specs.Names.{ReturnsName}
use Rattle.dns_laws.proofs.NameBack.{name_back}
use Rattle.custom_record.specs.ReadsBack.{FieldBack, Lacks}
use Rattle.custom_record.specs.Values.{Value, number8, number16, number32, name, string, long_text, AreValues, AreTexts, MayLack, SomeMayLack}

-- ---- numbers

number_back : (room : Room) (make : ℕ → Value) (limit v : ℕ) (t : Token) (ts others rest : List Token) (r : Result ℕ Cause)
    → v ≤ limit → v < 2 ^ 32 → t ≡ decimal v → ts ≡ others → ReadsFirstToken (NumberReads limit) (t ∷ ts) r rest
    → FieldBack room (λ n. make n ∷ []) (make v ∷ []) others r rest
number_back room make limit v t ts others rest r small fits text end reads =
    let is = decimal_read limit v (omega (arith, fits)) small in
    let read = subst (λ (x : Token). NumberReads limit x r) text reads.0 in
    let same = numbers_once limit (decimal v) r (Ok v) read (record { symbols = is.0; error = None; read = is.1; reads = (is.2, λ i. None) }) in
    by r same
  where
    by : (q : Result ℕ Cause) → q ≡ Ok v → FieldBack room (λ n. make n ∷ []) (make v ∷ []) others q rest
    by (Ok n) e = let value : n ≡ v = cc e in inl (ap (λ x. make x ∷ []) value, reads.1 ∙ end)
    by (Err why) e = cc

pub number8_back : (room : Room) (v : ℕ) (tokens others rest : List Token) (r : Result ℕ Cause) → AreValues (number8 v ∷ []) → AreTexts (number8 v ∷ []) tokens others
    → ReadsFirstToken (NumberReads (greatest 8)) tokens r rest → FieldBack room (λ n. number8 n ∷ []) (number8 v ∷ []) others r rest
number8_back room v [] others rest r is texts reads = absurd texts
number8_back room v (t ∷ ts) others rest r is texts reads = number_back room (λ n. number8 n) (greatest 8) v t ts others rest r (omega (arith, is.0)) (omega (arith, is.0)) texts.0 texts.1 reads

pub number16_back : (room : Room) (v : ℕ) (tokens others rest : List Token) (r : Result ℕ Cause) → AreValues (number16 v ∷ []) → AreTexts (number16 v ∷ []) tokens others
    → ReadsFirstToken (NumberReads (greatest 16)) tokens r rest → FieldBack room (λ n. number16 n ∷ []) (number16 v ∷ []) others r rest
number16_back room v [] others rest r is texts reads = absurd texts
number16_back room v (t ∷ ts) others rest r is texts reads = number_back room (λ n. number16 n) (greatest 16) v t ts others rest r (omega (arith, is.0)) (omega (arith, is.0)) texts.0 texts.1 reads

pub number32_back : (room : Room) (v : ℕ) (tokens others rest : List Token) (r : Result ℕ Cause) → AreValues (number32 v ∷ []) → AreTexts (number32 v ∷ []) tokens others
    → ReadsFirstToken (NumberReads (greatest 32)) tokens r rest → FieldBack room (λ n. number32 n ∷ []) (number32 v ∷ []) others r rest
number32_back room v [] others rest r is texts reads = absurd texts
number32_back room v (t ∷ ts) others rest r is texts reads = number_back room (λ n. number32 n) (greatest 32) v t ts others rest r (omega (arith, is.0)) (omega (arith, is.0)) texts.0 texts.1 reads

-- ---- character strings

-- each symbol has its octet
gives_each : (symbols : List Symbol) (octets : List ℕ) → map octet_of symbols ≡ map Ok octets → map step_octet symbols ≡ map Ok (map (λ o. o ∷ []) octets)
gives_each [] [] e = refl
gives_each [] (o ∷ os) e = cc
gives_each (x ∷ xs) [] e = cc
gives_each (x ∷ xs) (o ∷ os) e =
    let first : octet_of x ≡ Ok o = cc e in
    let others : map octet_of xs ≡ map Ok os = cc e in
    λ i. ap (bad_or (λ n. n ∷ [])) first i ∷ gives_each xs os others i

joined_each : (octets : List ℕ) → octets ≡ concat (map (λ o. o ∷ []) octets)
joined_each [] = refl
joined_each (o ∷ os) = ap (λ l. o ∷ l) (joined_each os)

-- an error at a symbol that has its octet: it didn't fit
fault_short : (room : Room) (front rest : List Symbol) (octets : List ℕ) (parts : List (List ℕ)) (count : ℕ) (why : Cause)
    → map octet_of (front ++ rest) ≡ map Ok octets → map step_octet front ≡ map Ok parts
    → IsSymbolFault step_octet room (count + length (concat parts)) rest None why → room.fits < count + length octets
fault_short room [] [] octets parts count why is gives fault = absurd fault
fault_short room [] (x ∷ xs) [] parts count why is gives fault = cc
fault_short room [] (x ∷ xs) (o ∷ os) [] count why is gives fault =
    let first : octet_of x ≡ Ok o = cc is in
    omega (
      arith,
      (subst (λ (q : Result ℕ BadSymbol). MatchResult (bad_or (λ n. n ∷ []) q) (λ l. (room.fits < count + 0 + length l) × (why ≡ short_buf))
          (λ text. why ≡ custom_text text)) first fault).0,
    )
fault_short room [] (x ∷ xs) (o ∷ os) (p ∷ ps) count why is gives fault = cc
fault_short room (x ∷ xs) rest [] parts count why is gives fault = cc
fault_short room (x ∷ xs) rest (o ∷ os) [] count why is gives fault = cc
fault_short room (x ∷ xs) rest (o ∷ os) (p ∷ ps) count why is gives fault =
    let first : octet_of x ≡ Ok o = cc is in
    let others : map octet_of (xs ++ rest) ≡ map Ok os = cc is in
    let given : step_octet x ≡ Ok p = cc gives in
    let more : map step_octet xs ≡ map Ok ps = cc gives in
    let part : p ≡ o ∷ [] = cc (sym given, ap (bad_or (λ n. n ∷ [])) first) in
    let size = ap length part in
    let sum = length-append p (concat ps) in
    omega (arith, fault_short room xs rest os ps (count + 1) why others more (subst (λ n. IsSymbolFault step_octet room n rest None why) (omega arith) fault))

-- octets that are written as a character string, of a value that may not fit only if they may not
module _ (make : List ℕ → Value) (room : Room) (octets : List ℕ) (lacks : room.fits < length octets → MayLack room (make octets)) where
  -- the capacity for all octets
  abbrev size : ℕ
  size = room.capacity + length octets

  given_all : (symbols : List Symbol) → map octet_of symbols ≡ map Ok octets → AllOctetsFit step_octet (exactly size) symbols None octets
  given_all symbols is = record { parts = map (λ o. o ∷ []) octets; gives = gives_each symbols octets is; joined = joined_each octets; ends = refl; fits = omega arith }

  answered : (others rest : List Token) (symbols : List Symbol) (r : Result (List ℕ) Cause) → map octet_of symbols ≡ map Ok octets → rest ≡ others
      → AnswersOctets step_octet room (λ why. why) (λ s. s) symbols None r → FieldBack room (λ s. make s ∷ []) (make octets ∷ []) others r rest
  answered others rest symbols (Ok s) is end h =
      let same = one_answer step_octet size symbols None (Ok s) (Ok octets) (all_given_in step_octet room size (omega arith) symbols None s h) (given_all symbols is) in
      let value : s ≡ octets = cc same in
      inl (ap (λ x. make x ∷ []) value, end)
  answered others rest symbols (Err why) is end h =
      ⊎_elim
      (λ fault. let same = one_answer step_octet size symbols None (Err why) (Ok octets) fault (given_all symbols is) in let z : ⊥ = cc same in absurd z)
      (λ short. inr (
        inl short,
        inl (lacks (omega (
          arith,
          fault_short room h.front h.rest octets h.parts 0 why (subst (λ l. map octet_of l ≡ map Ok octets) h.whole is) h.gives
              (subst (λ n. IsSymbolFault step_octet room n h.rest None why) (sym (zero-add (length (concat h.parts)))) h.fault),
        ))),
      ))
      (first_fault_in step_octet room size (omega arith) symbols None why h)

  read_back : (f : ℕ → Bool) → IsForm f → All (λ o. o < 256) octets → (others rest : List Token) (r : Result (List ℕ) Cause) → rest ≡ others
      → OctetsRead room (encode_utf8_all (text_of f octets)) r → FieldBack room (λ s. make s ∷ []) (make octets ∷ []) others r rest
  read_back f form all others rest r end (symbols, error, read, answers) =
      let same = symbols_same (encode_utf8_all (text_of f octets)) symbols (map (symbol_of f) octets) error None read (printed_symbols f form octets all) in
      answered others rest (map (symbol_of f) octets) r (printed_octets f octets) end
      (subst (λ e. AnswersOctets step_octet room (λ why. why) (λ s. s) (map (symbol_of f) octets) e r) same.1
      (subst (λ ss. AnswersOctets step_octet room (λ why. why) (λ s. s) ss error r) same.0 answers))

  string_text : (t : Token) (ts others rest : List Token) (r : Result (List ℕ) Cause) → All (λ o. o < 256) octets → IsPrinted t octets → ts ≡ others
      → ReadsFirstToken (OctetsRead room) (t ∷ ts) r rest → FieldBack room (λ s. make s ∷ []) (make octets ∷ []) others r rest
  string_text t ts others rest r all (inl unquoted) end reads =
      read_back is_unquoted_escape unquoted_form all others rest r (reads.1 ∙ end) (subst (λ (x : Token). OctetsRead room x r) unquoted reads.0)
  string_text t ts others rest r all (inr quoted) end reads =
      read_back is_quoted_escape quoted_form all others rest r (reads.1 ∙ end) (subst (λ (x : Token). OctetsRead room x r) quoted reads.0)

pub string_back : (room : Room) (octets : List ℕ) (tokens others rest : List Token) (r : Result (List ℕ) Cause) → AreValues (string octets ∷ []) → AreTexts (string octets ∷ []) tokens others
    → ReadsFirstToken (OctetsRead (within 255 room)) tokens r rest → FieldBack room (λ s. string s ∷ []) (string octets ∷ []) others r rest
string_back room octets [] others rest r is texts reads = absurd texts
string_back room octets (t ∷ ts) others rest r is texts reads =
    ⊎_elim (λ a. inl a) (λ l. inr (l.0, in_room l.1)) (string_text (λ s. string s) (within 255 room) octets (λ less. less) t ts others rest r is.0.0 texts.0 texts.1 reads)
  where
    in_room : SomeMayLack (within 255 room) (string octets ∷ []) → SomeMayLack room (string octets ∷ [])
    in_room (inl less) = inl (omega (arith, less, is.0.1))
    in_room (inr none) = absurd none

-- and a text of any length
pub long_text_back : (room : Room) (octets : List ℕ) (tokens others rest : List Token) (r : Result (List ℕ) Cause) → AreValues (long_text octets ∷ [])
    → AreTexts (long_text octets ∷ []) tokens others
    → ReadsFirstToken (OctetsRead room) tokens r rest → FieldBack room (λ s. long_text s ∷ []) (long_text octets ∷ []) others r rest
long_text_back room octets [] others rest r is texts reads = absurd texts
long_text_back room octets (t ∷ ts) others rest r is texts reads =
    string_text (λ s. long_text s) room octets (λ less. less) t ts others rest r is.0 texts.0 texts.1 reads

-- ---- one field and then another

pub values_parts : (a b : List Value) → AreValues (a ++ b) → AreValues a × AreValues b
values_parts [] b h = (tt, h)
values_parts (x ∷ xs) b h = let more = values_parts xs b h.1 in ((h.0, more.0), more.1)

pub texts_parts : (a b : List Value) (tokens others : List Token) → AreTexts (a ++ b) tokens others → (middle : List Token) × AreTexts a tokens middle × AreTexts b middle others
texts_parts [] b tokens others h = (tokens, refl, h)
texts_parts (x ∷ xs) b [] others h = absurd h
texts_parts (x ∷ xs) b (t ∷ ts) others h = let more = texts_parts xs b ts others h.1 in (more.0, (h.0, more.1), more.2)

pub may_before : (room : Room) (a b : List Value) → SomeMayLack room a → SomeMayLack room (a ++ b)
may_before room [] b h = absurd h
may_before room (x ∷ xs) b (inl h) = inl h
may_before room (x ∷ xs) b (inr h) = inr (may_before room xs b h)

pub may_after : (room : Room) (a b : List Value) → SomeMayLack room b → SomeMayLack room (a ++ b)
may_after room [] b h = h
may_after room (x ∷ xs) b h = inr (may_after room xs b h)

module _ (room : Room) {A B : Type 0} (a_values : A → List Value) (b_values : B → List Value) (a_reads : List Token → Result A Cause → List Token → Type 0)
    (b_reads : List Token → Result B Cause → List Token → Type 0)
    (a_back : (x : A) (tokens others rest : List Token) (r : Result A Cause) → AreValues (a_values x) → AreTexts (a_values x) tokens others → a_reads tokens r rest
    → FieldBack room a_values (a_values x) others r rest)
    (b_back : (x : B) (tokens others rest : List Token) (r : Result B Cause) → AreValues (b_values x) → AreTexts (b_values x) tokens others → b_reads tokens r rest
    → FieldBack room b_values (b_values x) others r rest) where
  pub both_back : (x : A × B) (tokens others rest : List Token) (r : Result (A × B) Cause) → AreValues (a_values x.0 ++ b_values x.1) → AreTexts (a_values x.0 ++ b_values x.1) tokens others
      → ReadsBoth a_reads b_reads tokens r rest → FieldBack room (λ p. a_values p.0 ++ b_values p.1) (a_values x.0 ++ b_values x.1) others r rest
  both_back x tokens others rest r is texts reads = by r reads
    where
      valid : AreValues (a_values x.0) × AreValues (b_values x.1)
      valid = values_parts (a_values x.0) (b_values x.1) is

      parts : (middle : List Token) × AreTexts (a_values x.0) tokens middle × AreTexts (b_values x.1) middle others
      parts = texts_parts (a_values x.0) (b_values x.1) tokens others texts

      -- the second, after the first
      second : (middle : List Token) (q : Result B Cause) → middle ≡ parts.0 → b_reads middle q rest → FieldBack room b_values (b_values x.1) others q rest
      second middle q same h = b_back x.1 middle others rest q valid.1 (subst (λ l. AreTexts (b_values x.1) l others) (sym same) parts.2) h

      lacks_not : {T M : Type 0} (v : T) → Lacks {E = Cause} (λ why. why) (Ok v) × M → ⊥
      lacks_not v l = ⊎_elim (λ e. e) (λ e. e) l.0

      by : (q : Result (A × B) Cause) → ReadsBoth a_reads b_reads tokens q rest → FieldBack room (λ p. a_values p.0 ++ b_values p.1) (a_values x.0 ++ b_values x.1) others q rest
      by (Ok p) h =
          ⊎_elim
          (λ one. ⊎_elim
          (λ two. inl ((λ i. one.0 i ++ two.0 i), two.1))
          (λ l. absurd (lacks_not p.1 l))
          (second h.0 (Ok p.1) one.1 h.2))
          (λ l. absurd (lacks_not p.0 l))
          (a_back x.0 tokens parts.0 h.0 (Ok p.0) valid.0 parts.1 h.1)
      by (Err why) (inl h) =
          ⊎_elim (λ one. absurd one.0) (λ l. inr (l.0, may_before room (a_values x.0) (b_values x.1) l.1)) (a_back x.0 tokens parts.0 rest (Err why) valid.0 parts.1 h)
      by (Err why) (inr h) =
          ⊎_elim
          (λ one. ⊎_elim (λ two. absurd two.0) (λ l. inr (l.0, may_after room (a_values x.0) (b_values x.1) l.1)) (second h.1 (Err why) one.1 h.3))
          (λ l. absurd (lacks_not h.0 l))
          (a_back x.0 tokens parts.0 h.1 (Ok h.0) valid.0 parts.1 h.2)

-- ---- names

module _ (O : Type 0) {E : Type 0} (cause : E → Cause) (room : Room) where
  -- the result of an iterator's scanner for a token
  abbrev Reads : Token → Result (List (List ℕ)) E → Type 0
  Reads = ReadsToken O cause room

  name_given : (labels : List (List ℕ)) (q : Result (List (List ℕ)) E) (r : Result (List (List ℕ)) Cause) (others rest : List Token)
      → rest ≡ others → ReturnsName cause room labels q → r ≡ by_cause cause q
      → FieldBack room (λ n. name n ∷ []) (name labels ∷ []) others r rest
  name_given labels (Ok n) (Ok m) others rest end (inl g) is = let a : n ≡ labels = cc g in let b : m ≡ n = cc is in inl (ap (λ l. name l ∷ []) (b ∙ a), end)
  name_given labels (Ok n) (Err why) others rest end (inl g) is = cc
  name_given labels (Ok n) r others rest end (inr g) is = absurd g.0
  name_given labels (Err e) r others rest end (inl g) is = cc
  name_given labels (Err e) (Ok m) others rest end (inr g) is = cc
  name_given labels (Err e) (Err why) others rest end (inr g) is = let same : why ≡ cause e = cc is in inr (inr (same ∙ g.0), inl g.1)

  pub name_read : (labels : List (List ℕ)) (tokens others rest : List Token) (r : Result (List (List ℕ)) Cause) → AreValues (name labels ∷ []) → AreTexts (name labels ∷ []) tokens others
      → ReadsFirstToken (NameReads cause Reads) tokens r rest → FieldBack room (λ n. name n ∷ []) (name labels ∷ []) others r rest
  name_read labels [] others rest r is texts reads = absurd texts
  name_read labels (t ∷ ts) others rest r is texts reads =
      let text : ReadsAs {O = O} t (Absolute labels) = subst (λ (x : Token). ReadsAs {O = O} x (Absolute labels)) (sym texts.0) (zone_reads {O = O} (Absolute labels) (is.0.0, is.0.1) is.0.2) in
      let one = reads.0 in
      name_given labels one.0 r others rest (reads.1 ∙ texts.1) (name_back O cause room t labels text one.0 one.1) one.2
