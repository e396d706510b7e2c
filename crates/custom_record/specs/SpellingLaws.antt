-- Tokens parse as the values that they spell.
use Rattle.std.proofs.Common.{ℕ, ◌≡◌, List, [], ◌∷◌, ◌++◌, map, refl, sym, ap, subst, ◌∙◌, arith, inl, inr, Option, Result, Ok, Err}
use Rattle.std.specs.List.{concat}
use Rattle.dns_octets.specs.Room.{Room, within}
use Rattle.dns_symbol.specs.declared.error.BadSymbol.{BadSymbol}
use Rattle.dns_symbol.specs.declared.error.SymbolCharsError.{SymbolCharsError}
use Rattle.dns_symbol.specs.declared.symbol.Symbol.{Symbol as PlainSymbol}
use Rattle.dns_symbol.specs.Cause.{Cause}
use Rattle.dns_symbol.specs.Symbol.{octet_of}
use Rattle.dns_symbol.specs.Text.{SymbolsOf}
use Rattle.dns_charstr.specs.Limits.{max_string}
use Rattle.dns_charstr.specs.Reading.{HasOctets}
use Rattle.dns_scan.specs.Numbers.{greatest, by_cause}
use Rattle.dns_scan.specs.Reads.{ReadsFirstToken, ReadsBoth, NameReads, NumberReads, OctetsRead}
use Rattle.dns_scan.specs.Steps.{step_octet, bad_or}
use Rattle.dns_scan.specs.Tokens.{Token}
use Rattle.dns_name.specs.Reading.{ReadsAs, ReadsName}
use Rattle.dns_name.specs.declared.name.UncertainName.{UncertainName}
use Rattle.dns_name.specs.declared.name.UncertainName.TheVariants.{Absolute, Relative}
use Rattle.dns_name.specs.declared.name.error.FromStrError.{FromStrError}
use Rattle.dns_name.specs.declared.name.error.FromStrError.TheVariants.{Symbol, BadOctet, BinaryLabel, EmptyLabel, LongLabel, LongName, ShortBuf}
use Rattle.dns_iter.specs.Name.{AnswersName, ReadsToken}
use Rattle.custom_record.specs.Values.{Value, number8, number16, number32, name, string, long_text}
use Rattle.custom_record.specs.Spellings.{IsDecimalOf, IsNameOf, IsStringOf, IsSpellingOf, AreSpellingsOf}

-- one token of one value
first_spelled : (v : Value) (t : Token) (ts rest : List Token) → IsSpellingOf v (t ∷ []) → rest ≡ ts → AreSpellingsOf (v ∷ []) (t ∷ ts) rest
first_spelled v t ts rest is end = (t ∷ [], ts, refl, is, sym end)

-- ---- numbers

decimal_spelled : (bits n : ℕ) (t : Token) → NumberReads (greatest bits) t (Ok n) → IsDecimalOf bits n t
decimal_spelled bits n t read = (read.symbols, subst (λ (e : Option SymbolCharsError). SymbolsOf t read.symbols e) read.reads.1 read.read, read.reads.0)

number_only : (bits n : ℕ) (v : Value) → ((t : Token) → IsDecimalOf bits n t → IsSpellingOf v (t ∷ [])) → (tokens rest : List Token)
    → ReadsFirstToken (NumberReads (greatest bits)) tokens (Ok n) rest → AreSpellingsOf (v ∷ []) tokens rest
number_only bits n v spells [] rest reads = let no = reads.0 in cc
number_only bits n v spells (t ∷ ts) rest reads = first_spelled v t ts rest (spells t (decimal_spelled bits n t reads.0)) reads.1

pub number8_only : (n : ℕ) (tokens rest : List Token) → ReadsFirstToken (NumberReads (greatest 8)) tokens (Ok n) rest → AreSpellingsOf (number8 n ∷ []) tokens rest
number8_only n tokens rest reads = number_only 8 n (number8 n) (λ t d. (t, refl, d)) tokens rest reads

pub number16_only : (n : ℕ) (tokens rest : List Token) → ReadsFirstToken (NumberReads (greatest 16)) tokens (Ok n) rest → AreSpellingsOf (number16 n ∷ []) tokens rest
number16_only n tokens rest reads = number_only 16 n (number16 n) (λ t d. (t, refl, d)) tokens rest reads

pub number32_only : (n : ℕ) (tokens rest : List Token) → ReadsFirstToken (NumberReads (greatest 32)) tokens (Ok n) rest → AreSpellingsOf (number32 n ∷ []) tokens rest
number32_only n tokens rest reads = number_only 32 n (number32 n) (λ t d. (t, refl, d)) tokens rest reads

-- ---- character strings

one_given : (p : List ℕ) (q : Result ℕ BadSymbol) → bad_or (λ o. o ∷ []) q ≡ Ok p → (o : ℕ) × (q ≡ Ok o) × (p ≡ o ∷ [])
one_given p (Ok o) e = (o, refl, cc e)
one_given p (Err why) e = cc

given_octets : (symbols : List PlainSymbol) (parts : List (List ℕ)) → map step_octet symbols ≡ map Ok parts → map octet_of symbols ≡ map Ok (concat parts)
given_octets [] [] e = refl
given_octets [] (p ∷ ps) e = cc
given_octets (x ∷ xs) [] e = cc
given_octets (x ∷ xs) (p ∷ ps) e =
    let first : step_octet x ≡ Ok p = cc e in
    let others : map step_octet xs ≡ map Ok ps = cc e in
    let one = one_given p (octet_of x) first in
    let more = given_octets xs ps others in
    (λ i. one.1 i ∷ more i) ∙ ap (λ (l : List ℕ). map Ok (l ++ concat ps)) (sym one.2)

octets_spelled : (room : Room) (octets : List ℕ) (t : Token) → OctetsRead room t (Ok octets) → HasOctets t octets
octets_spelled room octets t (symbols, error, read, given) = record {
  symbols = symbols;
  read = subst (λ (e : Option SymbolCharsError). SymbolsOf t symbols e) given.ends read;
  octets_are = given_octets symbols given.parts given.gives ∙ ap (map Ok) (sym given.joined);
}

string_spelled : (room : Room) (octets : List ℕ) (t : Token) → OctetsRead (within max_string room) t (Ok octets) → IsStringOf octets t
string_spelled room octets t read = (octets_spelled (within max_string room) octets t read, let given = read.3 in omega (arith, given.fits))

pub string_only : (room : Room) (octets : List ℕ) (tokens rest : List Token) → ReadsFirstToken (OctetsRead (within max_string room)) tokens (Ok octets) rest
    → AreSpellingsOf (string octets ∷ []) tokens rest
string_only room octets [] rest reads = let no = reads.0 in cc
string_only room octets (t ∷ ts) rest reads = first_spelled (string octets) t ts rest (t, refl, string_spelled room octets t reads.0) reads.1

-- and texts of any length
pub long_text_only : (room : Room) (octets : List ℕ) (tokens rest : List Token) → ReadsFirstToken (OctetsRead room) tokens (Ok octets) rest → AreSpellingsOf (long_text octets ∷ []) tokens rest
long_text_only room octets [] rest reads = let no = reads.0 in cc
long_text_only room octets (t ∷ ts) rest reads = first_spelled (long_text octets) t ts rest (t, refl, octets_spelled room octets t reads.0) reads.1

-- ---- names

module _ (O : Type 0) {E : Type 0} (cause : E → Cause) (room : Room) where
  answer_spelled : (t : Token) (labels : List (List ℕ)) (read : Result (UncertainName O) FromStrError) → ReadsName room t read → AnswersName cause room read (Ok labels) → IsNameOf labels t
  answer_spelled t labels (Ok (Absolute n)) h a = let same : n ≡ labels = cc a in inl (subst (λ (l : List (List ℕ)). ReadsAs {O = ℕ} t (Absolute l)) same h.0)
  answer_spelled t labels (Ok (Relative n)) h (inl a) = absurd a.1
  answer_spelled t labels (Ok (Relative n)) h (inr (inl a)) = inr (n, h.0, a.0, cc a.1)
  answer_spelled t labels (Ok (Relative n)) h (inr (inr a)) = absurd a.2
  answer_spelled t labels (Err (Symbol e)) h a = absurd a
  answer_spelled t labels (Err BadOctet) h a = absurd a
  answer_spelled t labels (Err BinaryLabel) h a = absurd a
  answer_spelled t labels (Err EmptyLabel) h a = absurd a
  answer_spelled t labels (Err LongLabel) h a = absurd a
  answer_spelled t labels (Err LongName) h a = absurd a
  answer_spelled t labels (Err ShortBuf) h a = absurd a

  name_spelled : (t : Token) (labels : List (List ℕ)) (q : Result (List (List ℕ)) E) → ReadsToken O cause room t q → Ok labels ≡ by_cause cause q → IsNameOf labels t
  name_spelled t labels (Ok n) (read, h, a) is = let same : n ≡ labels = cc is in subst (λ (l : List (List ℕ)). IsNameOf l t) same (answer_spelled t n read h a)
  name_spelled t labels (Err e) reads is = cc

  pub name_only : (labels : List (List ℕ)) (tokens rest : List Token) → ReadsFirstToken (NameReads cause (ReadsToken O cause room)) tokens (Ok labels) rest
      → AreSpellingsOf (name labels ∷ []) tokens rest
  name_only labels [] rest reads = let no = reads.0 in cc
  name_only labels (t ∷ ts) rest reads = let one = reads.0 in first_spelled (name labels) t ts rest (t, refl, name_spelled t labels one.0 one.1 one.2) reads.1

-- ---- one field and then another

pub spellings_append : (a b : List Value) (tokens middle others : List Token) → AreSpellingsOf a tokens middle → AreSpellingsOf b middle others → AreSpellingsOf (a ++ b) tokens others
spellings_append [] b tokens middle others e h = subst (λ (l : List Token). AreSpellingsOf b l others) (sym e) h
spellings_append (v ∷ vs) b tokens middle others s h = (s.0, s.1, s.2, s.3, spellings_append vs b s.1 middle others s.4 h)

module _ {A B : Type 0} (a_values : A → List Value) (b_values : B → List Value)
    (a_reads : List Token → Result A Cause → List Token → Type 0) (b_reads : List Token → Result B Cause → List Token → Type 0)
    (a_only : (x : A) (tokens rest : List Token) → a_reads tokens (Ok x) rest → AreSpellingsOf (a_values x) tokens rest)
    (b_only : (x : B) (tokens rest : List Token) → b_reads tokens (Ok x) rest → AreSpellingsOf (b_values x) tokens rest) where
  pub both_only : (x : A × B) (tokens rest : List Token) → ReadsBoth a_reads b_reads tokens (Ok x) rest → AreSpellingsOf (a_values x.0 ++ b_values x.1) tokens rest
  both_only x tokens rest h = spellings_append (a_values x.0) (b_values x.1) tokens h.0 rest (a_only x.0 tokens h.0 h.1) (b_only x.1 h.0 rest h.2)
