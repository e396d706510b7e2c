-- The grammar has one result for symbols, and that is the result of the converters.
use Rattle.std.proofs.Common.{ℕ, ◌≡◌, ◌<◌, ◌≤◌, List, [], ◌∷◌, ◌++◌, length, map}
use Rattle.std.proofs.Common.{refl, sym, ap, subst, ◌∙◌, arith, append-nil, length-append, ◌⊎◌, inl, inr, Option, Some, None, Result, Ok, Err, false}
use Rattle.std.specs.Prelude.{IsErr, IsOk, MatchResult}
use Rattle.dns_octets.specs.Room.{Room}
use Rattle.dns_symbol.specs.declared.symbol.Symbol.{Symbol}
use Rattle.dns_symbol.specs.declared.error.SymbolCharsError.{SymbolCharsError}
use Rattle.dns_symbol.specs.Cause.{Cause, short_buf}
use Rattle.dns_symbol.specs.Symbol.{char_of}
use Rattle.dns_symbol.specs.Text.{SymbolsOf}
use Rattle.dns_symbol.proofs.Unique.{symbols_same}
use Rattle.dns_codec.specs.Base.{Base, IsEncoding}
use Rattle.dns_codec.specs.Grammar.{Decodes}
use Rattle.dns_codec.specs.Group.{fresh}
use Rattle.dns_codec.proofs.Each.{once}
use Rattle.dns_codec.proofs.Numbers.{numbers}
use Rattle.dns_scan.specs.Tokens.{Token}
use Rattle.dns_zone.specs.EntryCodecs.{converted_symbols, AnswersConverted, ConvertsTo, codec_of}
use Rattle.dns_laws.specs.Encodings.{AnswersEncoding, HasGroups, IsRefusedAfter, NoEncoding, ReadsEncoding}
use Rattle.dns_laws.proofs.GrammarReads.{reads_all}

-- lists cut at equal lengths
same_cut : {A : Type 0} (one other rest others : List A) → one ++ rest ≡ other ++ others → length one ≡ length other → (one ≡ other) × (rest ≡ others)
same_cut [] [] rest others e n = (refl, e)
same_cut [] (y ∷ ys) rest others e n = absurd (omega (arith, n))
same_cut (x ∷ xs) [] rest others e n = absurd (omega (arith, n))
same_cut (x ∷ xs) (y ∷ ys) rest others e n =
    let first : x ≡ y = cc in
    let tails : xs ++ rest ≡ ys ++ others = cc in
    let more = same_cut xs ys rest others tails (omega (arith, n)) in
    ((λ i. first i ∷ more.0 i), more.1)

same_chars : (xs : List Symbol) (one other : List ℕ) → map char_of xs ≡ map Ok one → map char_of xs ≡ map Ok other → one ≡ other
same_chars [] [] [] p q = refl
same_chars [] [] (o ∷ os) p q = cc
same_chars [] (t ∷ ts) other p q = cc
same_chars (x ∷ xs) [] other p q = cc
same_chars (x ∷ xs) (t ∷ ts) [] p q = cc
same_chars (x ∷ xs) (t ∷ ts) (o ∷ os) p q =
    let first : t ≡ o = cc (sym p, q) in
    let a : map char_of xs ≡ map Ok ts = cc p in
    let c : map char_of xs ≡ map Ok os = cc q in
    λ i. first i ∷ same_chars xs ts os a c i

not_err : {V E : Type 0} (r : Result V E) → IsOk r → IsErr r → ⊥
not_err (Ok v) ok err = cc
not_err (Err e) ok err = cc

module _ (b : Base) (known : IsEncoding b) where
  groups_once : (text one other : List ℕ) → HasGroups b text one → HasGroups b text other → one ≡ other
  groups_once text one other p q =
      let place = (numbers b known).place in
      let sizes = ap length p.parts ∙ length-append p.groups p.others in
      let others = ap length q.parts ∙ length-append q.groups q.others in
      let rest = sym (place (length text) (length p.groups) (length p.others) sizes p.even p.few) ∙ place (length text) (length q.groups) (length q.others) others q.even q.few in
      let same = same_cut p.groups q.groups p.others q.others (sym p.parts ∙ q.parts) (omega (arith, sizes, others, rest)) in
      once b known q.groups one other (subst (λ (g : List ℕ). Decodes b g one) same.0 p.value) q.value

  refusals_once : (text : List ℕ) (rest : List Symbol) (error : Option SymbolCharsError) (one other : Cause) → IsRefusedAfter b text rest error one → IsRefusedAfter b text rest error other → one ≡ other
  refusals_once text (x ∷ xs) error one other (inl p) (inl q) = p.2 ∙ sym q.2
  refusals_once text (x ∷ xs) error one other (inl p) (inr q) = absurd (not_err (char_of x) p.1 (q.0 p.0))
  refusals_once text (x ∷ xs) error one other (inr p) (inl q) = absurd (not_err (char_of x) q.1 (p.0 q.0))
  refusals_once text (x ∷ xs) error one other (inr p) (inr q) = p.1 ∙ sym q.1
  refusals_once text [] (Some e) one other p q = p ∙ sym q
  refusals_once text [] None one other p q = p.1 ∙ sym q.1

  module _ (symbols : List Symbol) (error : Option SymbolCharsError) where
    one_refusal : (m n : List ℕ) (one other : Cause) → NoEncoding b symbols error m one → NoEncoding b symbols error n other → (m ≡ n) × (one ≡ other)
    one_refusal m n one other p q =
        let below = p.longest q.front q.rest q.text q.parts q.chars q.begins in
        let above = q.longest p.front p.rest p.text p.parts p.chars p.begins in
        let cut = same_cut p.front q.front p.rest q.rest (sym p.parts ∙ q.parts) (omega (arith, below, above)) in
        let text = same_chars q.front p.text q.text (subst (λ (l : List Symbol). map char_of l ≡ map Ok p.text) cut.0 p.chars) q.chars in
        let groups = subst (λ (t : List ℕ). HasGroups b t m) text p.groups in
        let refusal = subst (λ (l : List Symbol). IsRefusedAfter b q.text l error one) cut.1 (subst (λ (t : List ℕ). IsRefusedAfter b t p.rest error one) text p.refusal) in
        (groups_once q.text m n groups q.groups, refusals_once q.text q.rest error one other refusal q.refusal)

    not_refused : (m n octets : List ℕ) (why : Cause) → ReadsEncoding b symbols error m (Ok octets) → NoEncoding b symbols error n why → ⊥
    not_refused m n octets why p q =
        let text = p.2.0 in
        let all = q.longest symbols [] text (sym (append-nil symbols)) p.2.1 ([], octets, rw append-nil p.2.2) in
        let size = ap length q.parts ∙ length-append q.front q.rest in
        by q.rest (omega (arith, all, size)) q.parts q.refusal
      where
        by : (rest : List Symbol) → length rest ≡ 0 → symbols ≡ q.front ++ rest → IsRefusedAfter b q.text rest error why → ⊥
        by (x ∷ xs) none parts refusal = absurd (omega (arith, none))
        by [] none parts refusal =
            let whole : symbols ≡ q.front = parts ∙ append-nil q.front in
            let same = same_chars q.front p.2.0 q.text (subst (λ (l : List Symbol). map char_of l ≡ map Ok p.2.0) whole p.2.1) q.chars in
            let ends : IsRefusedAfter b q.text [] None why = subst (λ (e : Option SymbolCharsError). IsRefusedAfter b q.text [] e why) p.1 refusal in
            ends.0 octets (subst (λ (t : List ℕ). Decodes b t octets) same p.2.2)

    pub reads_once : (m n : List ℕ) (q r : Result (List ℕ) Cause) → ReadsEncoding b symbols error m q → ReadsEncoding b symbols error n r → (m ≡ n) × (q ≡ r)
    reads_once m n (Ok one) (Ok other) h k =
        let text = same_chars symbols h.2.0 k.2.0 h.2.1 k.2.1 in
        let same = once b known k.2.0 one other (subst (λ (t : List ℕ). Decodes b t one) text h.2.2) k.2.2 in
        (h.0 ∙ same ∙ sym k.0, ap (λ l. Ok l) same)
    reads_once m n (Ok one) (Err why) h k = absurd (not_refused m n one why h k)
    reads_once m n (Err why) (Ok other) h k = absurd (not_refused n m other why k h)
    reads_once m n (Err one) (Err other) h k = let same = one_refusal m n one other h k in (same.0, ap (λ w. Err w) same.1)

  -- ---- an answer by the grammar, and one by the converters

  module _ {O E : Type 0} (cause : E → Cause) (value : O → List ℕ) (room : Room) (token : Token) where
    abbrev Found : List ℕ → Result (List ℕ) Cause → Result O E → Type 0
    Found made found r = MatchResult r (λ x. (found ≡ Ok (value x)) × (length made ≤ room.capacity))
        (λ e. ((found ≡ Err (cause e)) × (length made ≤ room.capacity)) ⊎ ((cause e ≡ short_buf) × (room.fits < length made)))

    converts_same : (symbols : List Symbol) (error : Option SymbolCharsError) (r : Result (List ℕ) Cause) → SymbolsOf token symbols error → ConvertsTo (codec_of b) token r
        → converted_symbols (codec_of b) (fresh, false) [] symbols error ≡ r
    converts_same symbols error r read h =
        let same = symbols_same token symbols h.0 error h.1 read h.2 in
        (λ i. converted_symbols (codec_of b) (fresh, false) [] (same.0 i) (same.1 i)) ∙ h.3

    pub by_grammar : (r : Result O E) → AnswersConverted (codec_of b) cause value room token r → AnswersEncoding b cause value room token r
    by_grammar r h =
        let made = h.1 in
        let symbols = made.0 in
        let error = made.1 in
        record {
          symbols = symbols;
          error = error;
          read = made.2;
          made = h.0;
          found = converted_symbols (codec_of b) (fresh, false) [] symbols error;
          reads = rw (made.3) (reads_all b known symbols error);
          answer = by r h.2;
        }
      where
        by : (r : Result O E) → MatchResult r (λ x. ConvertsTo (codec_of b) token (Ok (value x)) × (length h.0 ≤ room.capacity))
            (λ e. (ConvertsTo (codec_of b) token (Err (cause e)) × (length h.0 ≤ room.capacity)) ⊎ ((cause e ≡ short_buf) × (room.fits < length h.0)))
            → Found h.0 (converted_symbols (codec_of b) (fresh, false) [] h.1.0 h.1.1) r
        by (Ok x) k = (converts_same h.1.0 h.1.1 (Ok (value x)) h.1.2 k.0, k.1)
        by (Err e) (inl k) = inl (converts_same h.1.0 h.1.1 (Err (cause e)) h.1.2 k.0, k.1)
        by (Err e) (inr k) = inr k

    pub by_converter : (r : Result O E) → AnswersEncoding b cause value room token r → AnswersConverted (codec_of b) cause value room token r
    by_converter r h =
        let same = reads_once h.symbols h.error h.made _ h.found _ h.reads (reads_all b known h.symbols h.error) in
        (h.made, (h.symbols, h.error, h.read, same.0), by r same.1 h.answer)
      where
        by : (r : Result O E) → h.found ≡ converted_symbols (codec_of b) (fresh, false) [] h.symbols h.error → Found h.made h.found r
            → MatchResult r (λ x. ConvertsTo (codec_of b) token (Ok (value x)) × (length h.made ≤ room.capacity))
            (λ e. (ConvertsTo (codec_of b) token (Err (cause e)) × (length h.made ≤ room.capacity)) ⊎ ((cause e ≡ short_buf) × (room.fits < length h.made)))
        by (Ok x) is k = ((h.symbols, h.error, h.read, sym is ∙ k.0), k.1)
        by (Err e) is (inl k) = inl ((h.symbols, h.error, h.read, sym is ∙ k.0), k.1)
        by (Err e) is (inr k) = inr k
