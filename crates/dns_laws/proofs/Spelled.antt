-- The tokens that convert to octets are the texts of the encoding, and converters have one result.
use Rattle.std.proofs.Common.{ℕ, ◌≡◌, ◌<◌, List, [], ◌∷◌, ◌++◌}
use Rattle.std.proofs.Common.{length, map, refl, sym, ap, subst, ◌∙◌, arith, append_assoc, ◌⊎◌, inl, inr, ⊎_elim, Option, Some, None, Result, Ok, Err, Bool, true, false}
use Rattle.std.specs.Prelude.{IfOk}
use Rattle.std.specs.List.{list_all, AllByRecursion}
use Rattle.dns_octets.specs.Room.{Room, exactly}
use Rattle.dns_symbol.specs.declared.symbol.Symbol.{Symbol}
use Rattle.dns_symbol.specs.declared.error.BadSymbol.{BadSymbol}
use Rattle.dns_symbol.specs.declared.symbol.Symbol.TheVariants.{Char}
use Rattle.dns_symbol.specs.declared.error.SymbolCharsError.{SymbolCharsError}
use Rattle.dns_symbol.specs.Symbol.{char_of}
use Rattle.dns_symbol.specs.Text.{SymbolsOf}
use Rattle.dns_symbol.proofs.Unique.{symbols_same}
use Rattle.dns_codec.specs.Base.{Base, encoded, IsEncoding}
use Rattle.dns_codec.specs.Group.{Group}
use Rattle.dns_codec.specs.Converting.{char_in, made, convert_char}
use Rattle.dns_codec.specs.Grammar.{Decodes, IsEncodingOf}
use Rattle.dns_codec.proofs.Each.{decodes}
use Rattle.dns_symbol.specs.Cause.{Cause}
use Rattle.dns_scan.specs.Octets.{ReturnsWhere}
use Rattle.dns_scan.specs.Tokens.{Token}
use Rattle.dns_zone.specs.EntryCodecs.{Codec, then_made, then_more, converted_symbols, made_of, ConvertsTo, MadeOf, AnswersConverted, codec_of}
use Rattle.dns_laws.proofs.Converted.{plain_symbols, is_plain, plain_read, plain_alphabet, encoded_plain}

-- a step that went well, and what followed
went_on : (a : Result (List ℕ) (List ℕ)) (go : List ℕ → Result (List ℕ) Cause) (octets : List ℕ) → then_made a go ≡ Ok octets → (o : List ℕ) × (a ≡ Ok o) × (go o ≡ Ok octets)
went_on (Ok o) go octets e = (o, refl, e)
went_on (Err text) go octets e = cc

no_octets : (why : Cause) (octets : List ℕ) → Err why ≡ Ok octets → ⊥
no_octets why octets e = cc

-- a symbol's character, as the converters request it
pub char_there : (x : Symbol) (c : ℕ) → char_of x ≡ Ok c → char_in x ≡ Some c
char_there x c e = rw (e, char_in) refl

pub no_char : (x : Symbol) (e : BadSymbol) → char_of x ≡ Err e → char_in x ≡ None
no_char x e is = rw (is, char_in) refl

pub cases_char : (r : Result ℕ BadSymbol) → ((c : ℕ) × (r ≡ Ok c)) ⊎ ((e : BadSymbol) × (r ≡ Err e))
cases_char (Ok c) = inl (c, refl)
cases_char (Err e) = inr (e, refl)

module _ (codec : Codec) where
  -- a token converts to one thing
  pub converts_once : (token : Token) (q r : Result (List ℕ) Cause) → ConvertsTo codec token q → ConvertsTo codec token r → q ≡ r
  converts_once token q r h k =
      let same = symbols_same token h.0 k.0 h.1 k.1 h.2 k.2 in
      sym h.3 ∙ (λ i. converted_symbols codec codec.start [] (same.0 i) (same.1 i)) ∙ k.3

  -- and so are the octets that are made of it
  made_once : (token : Token) (a b : List ℕ) → MadeOf codec token a → MadeOf codec token b → a ≡ b
  made_once token a b h k =
      let same = symbols_same token h.0 k.0 h.1 k.1 h.2 k.2 in
      h.3 ∙ (λ i. made_of codec codec.start (same.0 i) (same.1 i)) ∙ sym k.3

  -- if no symbol is rejected, all octets are the result
  all_made : (held : codec.Held) (built : List ℕ) (xs : List Symbol) (error : Option SymbolCharsError) (octets : List ℕ) → converted_symbols codec held built xs error ≡ Ok octets
      → octets ≡ built ++ made_of codec held xs error
  all_made held built [] None octets e =
      let last = went_on (codec.tail held) (λ o. Ok (built ++ o)) octets e in
      let is : built ++ last.0 ≡ octets = cc (last.2) in
      sym is ∙ ap (λ a. built ++ made a) (sym last.1)
  all_made held built [] (Some x) octets e = absurd (no_octets _ octets e)
  all_made held built (x ∷ xs) error octets e =
      let one = went_on (codec.step held x).0 (λ o. converted_symbols codec (codec.step held x).1 (built ++ o) xs error) octets e in
      all_made (codec.step held x).1 (built ++ one.0) xs error octets one.2
      ∙ append_assoc built one.0 (made_of codec (codec.step held x).1 xs error)
      ∙ ap (λ a. built ++ then_more a (made_of codec (codec.step held x).1 xs error)) (sym one.1)

  pub octets_made : (token : Token) (built octets : List ℕ) → ConvertsTo codec token (Ok octets) → MadeOf codec token built → built ≡ octets
  octets_made token built octets h k =
      made_once token built octets k (h.0, h.1, h.2, all_made codec.start [] h.0 h.1 octets h.3)

  -- if the capacity is known exactly, there is one result
  pub answers_once : (size : ℕ) (token : Token) (q r : Result (List ℕ) Cause) → AnswersConverted codec (λ why. why) (λ octets. octets) (exactly size) token q
      → AnswersConverted codec (λ why. why) (λ octets. octets) (exactly size) token r → q ≡ r
  answers_once size token (Ok a) (Ok b) h k = converts_once token (Ok a) (Ok b) h.2.0 k.2.0
  answers_once size token (Ok a) (Err e) h k = ⊎_elim
      (λ p. converts_once token (Ok a) (Err e) h.2.0 p.0)
      (λ p. absurd (omega (arith, h.2.1, p.1, ap length (made_once token h.0 k.0 h.1 k.1))))
      k.2
  answers_once size token (Err d) (Ok b) h k = ⊎_elim
      (λ p. converts_once token (Err d) (Ok b) p.0 k.2.0)
      (λ p. absurd (omega (arith, k.2.1, p.1, ap length (made_once token h.0 k.0 h.1 k.1))))
      h.2
  answers_once size token (Err d) (Err e) h k = ⊎_elim
      (λ p. ⊎_elim
      (λ o. converts_once token (Err d) (Err e) p.0 o.0)
      (λ o. absurd (omega (arith, p.1, o.1, ap length (made_once token h.0 k.0 h.1 k.1))))
      k.2)
      (λ p. ⊎_elim
      (λ o. absurd (omega (arith, p.1, o.1, ap length (made_once token h.0 k.0 h.1 k.1))))
      (λ o. ap (λ w. Err w) (p.0 ∙ sym o.0))
      k.2)
      h.2

  -- a token that converts to octets is parsed as them, if they fit
  pub gives_octets : {O E : Type 0} (cause : E → Cause) (value : O → List ℕ) (room : Room) (token : Token) (octets : List ℕ) (r : Result O E) → ConvertsTo codec token (Ok octets)
      → AnswersConverted codec cause value room token r → ReturnsWhere cause value room octets r
  gives_octets cause value room token octets (Ok x) h k =
      let same = converts_once token (Ok (value x)) (Ok octets) k.2.0 h in
      let is : value x ≡ octets = cc same in
      inl is
  gives_octets cause value room token octets (Err e) h k = ⊎_elim
      (λ p. absurd (no_octets (cause e) octets (converts_once token (Err (cause e)) (Ok octets) p.0 h)))
      (λ p. inr (p.0, omega (arith, p.1, ap length (octets_made token k.0 octets h k.1))))
      k.2

  module _ (same_step : (held : codec.Held) (x : Symbol) (c : ℕ) → char_in x ≡ Some c → codec.step held x ≡ codec.step held (Char c))
      (needs_char : (held : codec.Held) (x : Symbol) (o : List ℕ) → char_in x ≡ None → (codec.step held x).0 ≡ Ok o → ⊥) where
    -- symbols convert as their characters
    by_chars : (held : codec.Held) (built : List ℕ) (xs : List Symbol) (text : List ℕ)
        → map char_of xs ≡ map Ok text → converted_symbols codec held built xs None ≡ converted_symbols codec held built (plain_symbols text) None
    by_chars held built [] [] e = refl
    by_chars held built [] (c ∷ cs) e = cc
    by_chars held built (x ∷ xs) [] e = cc
    by_chars held built (x ∷ xs) (c ∷ cs) e =
        let first : char_of x ≡ Ok c = cc in
        let others : map char_of xs ≡ map Ok cs = cc in
        let one = same_step held x c (char_there x c first) in
        (λ i. then_made (one i).0 (λ o. converted_symbols codec (one i).1 (built ++ o) xs None))
        ∙ ap (λ go. then_made (codec.step held (Char c)).0 go) (λ i o. by_chars (codec.step held (Char c)).1 (built ++ o) xs cs others i)

    -- symbols that convert to octets have characters, and nothing follows them
    have_chars : (held : codec.Held) (built : List ℕ) (xs : List Symbol) (error : Option SymbolCharsError) (octets : List ℕ) → converted_symbols codec held built xs error ≡ Ok octets
        → (error ≡ None) × ((text : List ℕ) × (map char_of xs ≡ map Ok text))
    have_chars held built [] None octets e = (refl, ([], refl))
    have_chars held built [] (Some x) octets e = absurd (no_octets _ octets e)
    have_chars held built (x ∷ xs) error octets e =
        let one = went_on (codec.step held x).0 (λ o. converted_symbols codec (codec.step held x).1 (built ++ o) xs error) octets e in
        let more = have_chars (codec.step held x).1 (built ++ one.0) xs error octets one.2 in
        ⊎_elim
        (λ c. (more.0, (c.0 ∷ more.1.0, λ i. c.1 i ∷ more.1.1 i)))
        (λ bad. absurd (needs_char held x one.0 (no_char x bad.0 bad.1) one.1))
        (cases_char (char_of x))

    module _ (b : Base) (texts : (text octets : List ℕ) → Decodes b text octets → converted_symbols codec codec.start [] (plain_symbols text) None ≡ Ok octets)
        (only : (text octets : List ℕ) → converted_symbols codec codec.start [] (plain_symbols text) None ≡ Ok octets → Decodes b text octets) where
      pub spelled : (token : Token) (octets : List ℕ) → ConvertsTo codec token (Ok octets) → IsEncodingOf b token octets
      spelled token octets h =
          let chars = have_chars codec.start [] h.0 h.1 octets h.3 in
          let plain : converted_symbols codec codec.start [] h.0 None ≡ Ok octets = (λ i. converted_symbols codec codec.start [] h.0 (sym chars.0 i)) ∙ h.3 in
          record {
            symbols = h.0;
            read = subst (λ e. SymbolsOf token h.0 e) chars.0 h.2;
            text = chars.1.0;
            chars = chars.1.1;
            decodes = only chars.1.0 octets (sym (by_chars codec.start [] h.0 chars.1.0 chars.1.1) ∙ plain);
          }

      pub converts : (token : Token) (octets : List ℕ) → IsEncodingOf b token octets → ConvertsTo codec token (Ok octets)
      converts token octets h = (h.symbols, None, h.read, by_chars codec.start [] h.symbols h.text h.chars ∙ texts h.text octets h.decodes)

      -- the result of a scanner for a text of the encoding, and for any token
      pub gives_value : {O E : Type 0} (cause : E → Cause) (value : O → List ℕ) (room : Room) (token : Token) (octets : List ℕ) (r : Result O E) → IsEncodingOf b token octets
          → AnswersConverted codec cause value room token r → ReturnsWhere cause value room octets r
      gives_value cause value room token octets r h k = gives_octets cause value room token octets r (converts token octets h) k

      pub gives_only : {O E : Type 0} (cause : E → Cause) (value : O → List ℕ) (room : Room) (token : Token) (r : Result O E) → AnswersConverted codec cause value room token r
          → IfOk r (λ x. IsEncodingOf b token (value x))
      gives_only cause value room token (Ok x) k = spelled token (value x) k.2.0
      gives_only cause value room token (Err e) k = tt

-- the characters of plain symbols
pub plain_chars : (text : List ℕ) → map char_of (plain_symbols text) ≡ map Ok text
plain_chars [] = refl
plain_chars (c ∷ cs) = ap (λ l. Ok c ∷ l) (plain_chars cs)

-- the text of octets is a text of the encoding
plain_encoding : (b : Base) (octets : List ℕ) → list_all is_plain b.alphabet ≡ true → Decodes b (encoded b octets) octets → IsEncodingOf b (encoded b octets) octets
plain_encoding b octets plain d = record {
  symbols = plain_symbols (encoded b octets);
  read = plain_read (encoded b octets) (encoded_plain b octets plain);
  text = encoded b octets;
  chars = plain_chars (encoded b octets);
  decodes = d;
}

pub base_encoding : (b : Base) → IsEncoding b → (octets : List ℕ) → AllByRecursion (λ o. o < 256) octets → IsEncodingOf b (encoded b octets) octets
base_encoding b known octets all = plain_encoding b octets (plain_alphabet b known) (decodes b known octets all)

-- the converters read a symbol's character alone, and reject a symbol without one
refuses : (a : Result (List ℕ) (List ℕ)) (text o : List ℕ) → a ≡ Err text → a ≡ Ok o → ⊥
refuses a text o e is = cc

abbrev char_step : Base → Group → Option ℕ → Result (List ℕ) (List ℕ) × (Group × Bool)
char_step b g o = ((convert_char b g o).answer, ((convert_char b g o).group, (convert_char b g o).failed))

pub base_same : (b : Base) (held : Group × Bool) (x : Symbol) (c : ℕ) → char_in x ≡ Some c → (codec_of b).step held x ≡ (codec_of b).step held (Char c)
base_same b (g, true) x c e = refl
base_same b (g, false) x c e = ap (char_step b g) e

pub base_needs : (b : Base) (held : Group × Bool) (x : Symbol) (o : List ℕ) → char_in x ≡ None → ((codec_of b).step held x).0 ≡ Ok o → ⊥
base_needs b (g, true) x o e is = refuses _ _ o refl is
base_needs b (g, false) x o e is = refuses _ _ o (ap (λ a. (char_step b g a).0) e) is
