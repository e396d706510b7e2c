-- Parameters spell themselves as they print.
use Rattle.std.proofs.Common.{ℕ, ◌≡◌, ◌≢◌, ◌<◌, ◌≤◌, ◌⊎◌, List, [], ◌∷◌, ◌++◌, length, refl, sym, subst, ap, ◌∙◌, arith, inl, inr, append-nil}
use Rattle.std.specs.Prelude.{All}
use Rattle.std.specs.Int.{w16, to_be_bytes}
use Rattle.std.specs.List.{flat_map, AllByRecursion}
use Rattle.std.proofs.lemmas.Bool.{ne_eqb}
use Rattle.std.proofs.lemmas.List.Elements.{All-nil, All-cons, All-head, All-tail}
use Rattle.dns_codec.specs.Base.{base64}
use Rattle.rdata_tokens.proofs.Spelling.{printed_spells}
use Rattle.rdata_svcb.specs.Params.{param, params_of}
use Rattle.rdata_svcb.specs.ParamsFaults.{IsRight}
use Rattle.rdata_svcb.specs.Values.{IsParamValue}
use Rattle.rdata_svcb.proofs.ParamLists.{read_back}
use Rattle.rdata_svcb.proofs.Reading.{in_order}
use Rattle.rdata_tokens.specs.Spelling.{AreOctetValues, SpellsOctetList}
use Rattle.rdata_tokens.proofs.FormLaws.{values_front, values_back}
use Rattle.dns_lexer.specs.EntryTokens.{TokenSeen}
use Rattle.dns_lexer.specs.Token.{IsWord}
use Rattle.rdata_svcb.specs.ParamTokens.{SplitsWord, SpellsParam, SpellsFirstParams}
use Rattle.rdata_svcb.specs.ParamValues.{SpellsValue}
use Rattle.rdata_svcb.specs.ParamsBack.{AreShownParams, AreParamsReadBack, AreParamsWords}
use Rattle.rdata_svcb.specs.ShownParams.{key_text, shown_kind, value_text, value_after_key, param_text}
use Rattle.rdata_svcb.specs.declared.keys.ValueKind.{ValueKind}
use Rattle.rdata_svcb.specs.declared.keys.ValueKind.TheVariants.{Keys, Strings, Nothing, Port, Ipv4, Digits, Ipv6, Octets}
use Rattle.rdata_svcb.proofs.ShownKeys.{by_key, high_named, key_no_marks, no_equals}
use Rattle.rdata_svcb.proofs.ShownWords.{param_is_word}
use Rattle.rdata_svcb.proofs.ShownValues.{ipv4_back, ipv6_back, keys_back, port_back, strings_back, unquoted_spells}

-- the text of a value after the equals sign, if there is one
abbrev shown_value : ValueKind → List ℕ → List ℕ
shown_value kind [] = []
shown_value kind (x ∷ octets) = value_text kind (x ∷ octets)

some_shown : (kind : ValueKind) (octets : List ℕ) → octets ≢ [] → shown_value kind octets ≡ value_text kind octets
some_shown kind [] some = absurd (some refl)
some_shown kind (x ∷ octets) some = refl

octets_shown : (octets : List ℕ) → AreOctetValues octets → SpellsOctetList (shown_value Octets octets) octets
octets_shown [] h = unquoted_spells [] h
octets_shown (x ∷ octets) h = unquoted_spells (x ∷ octets) h

some_octets : (octets : List ℕ) → 0 < length octets → octets ≢ []
some_octets octets l e = omega (arith, l, ap length e)

high_kind : (key : ℕ) → 7 ≤ key → shown_kind key ≡ Octets
high_kind key high =
    rw (
      ne_eqb key 0 (λ e. omega (arith, high, e)),
      ne_eqb key 1 (λ e. omega (arith, high, e)),
      ne_eqb key 3 (λ e. omega (arith, high, e)),
      ne_eqb key 4 (λ e. omega (arith, high, e)),
      ne_eqb key 5 (λ e. omega (arith, high, e)),
      ne_eqb key 6 (λ e. omega (arith, high, e)),
    ) refl

module _ (params : List (ℕ × List ℕ)) (octets : List ℕ) (h : AreOctetValues octets) where
  -- a right value of a key is spelled by what the key and the value print as
  abbrev IsShownWell : ℕ → Type 0
  IsShownWell key = key < 65536 → IsParamValue params key octets → SpellsParam (key_text key) (shown_value (shown_kind key) octets) (key, octets)

  mandatory_back : IsShownWell 0
  mandatory_back small is =
      let right = is.mandatory refl in
      (Keys, (refl, refl), subst (λ text. SpellsValue Keys text octets) (sym (some_shown Keys octets right.0)) (keys_back params octets right.0 right.1 h))

  alpn_back : IsShownWell 1
  alpn_back small is =
      let right = is.alpn refl in
      (Strings, (refl, refl), subst (λ text. SpellsValue Strings text octets) (sym (some_shown Strings octets right.0)) (strings_back octets right.0 right.1 h))

  nothing_back : IsShownWell 2
  nothing_back small is = let right = is.no_default_alpn refl in (Nothing, (refl, refl), (ap (shown_value Octets) right.0, right.0))

  port_shown : IsShownWell 3
  port_shown small is =
      let right = is.port refl in
      (Port, (refl, refl), subst (λ text. SpellsValue Port text octets) (sym (some_shown Port octets (some_octets octets (omega (arith, right))))) (port_back octets right h))

  ipv4_shown : IsShownWell 4
  ipv4_shown small is =
      let right = is.ipv4hint refl in
      (Ipv4, (refl, refl), subst (λ text. SpellsValue Ipv4 text octets) (sym (some_shown Ipv4 octets (some_octets octets right.0))) (ipv4_back octets right h))

  ech_back : IsShownWell 5
  ech_back small is =
      let right = is.ech refl in
      (Digits, (refl, refl), subst (λ text. SpellsValue Digits text octets) (sym (some_shown Digits octets right)) (printed_spells base64 (inr (inr refl)) octets h))

  ipv6_shown : IsShownWell 6
  ipv6_shown small is =
      let right = is.ipv6hint refl in
      (Ipv6, (refl, refl), subst (λ text. SpellsValue Ipv6 text octets) (sym (some_shown Ipv6 octets (some_octets octets right.0))) (ipv6_back octets right h))

  high_back : (key : ℕ) → 7 ≤ key → IsShownWell key
  high_back key high small is =
      (Octets, high_named key high small, subst (λ kind. SpellsOctetList (shown_value kind octets) octets) (sym (high_kind key high)) (octets_shown octets h))

  param_back : (key : ℕ) → IsShownWell key
  param_back = by_key IsShownWell mandatory_back alpn_back nothing_back port_shown ipv4_shown ech_back ipv6_shown high_back

-- the word of a parameter is its key, and perhaps an equals sign and its value
word_splits : (p : ℕ × List ℕ) → p.0 < 65536 → SplitsWord (param_text p) (key_text p.0) (shown_value (shown_kind p.0) p.1)
word_splits p small = (no_equals (key_text p.0) (key_no_marks p.0 small), by p.1)
  where
    by : (octets : List ℕ)
        → ((key_text p.0 ++ value_after_key (shown_kind p.0) octets ≡ key_text p.0) × (shown_value (shown_kind p.0) octets ≡ [])) ⊎ (key_text p.0 ++ value_after_key (shown_kind p.0) octets ≡ key_text p.0 ++ 61 ∷ shown_value (shown_kind p.0) octets)
    by [] = inl (append-nil (key_text p.0), refl)
    by (x ∷ octets) = inr refl

words_back : (all ps : List (ℕ × List ℕ)) (tokens : List TokenSeen) → All (λ p. p.0 < 65536) ps → All (IsRight all) ps → All (λ p. AreOctetValues p.1) ps → AreShownParams ps tokens → SpellsFirstParams tokens ps []
words_back all [] [] small right values h = refl
words_back all [] (t ∷ ts) small right values h = absurd h
words_back all (p ∷ ps) [] small right values h = absurd h
words_back all (p ∷ ps) (t ∷ ts) small right values h =
    let low = All-head (λ p. p.0 < 65536) p ps small in (
      ts,
      record {
        name = key_text p.0;
        value = shown_value (shown_kind p.0) p.1;
        split = (h.0, inl (subst (λ text. SplitsWord text (key_text p.0) (shown_value (shown_kind p.0) p.1)) (sym h.1) (word_splits p low), refl));
        spelled = param_back all p.1 (All-head (λ p. AreOctetValues p.1) p ps values) p.0 low (All-head (IsRight all) p ps right);
      },
      words_back all ps ts (All-tail (λ p. p.0 < 65536) p ps small) (All-tail (IsRight all) p ps right) (All-tail (λ p. AreOctetValues p.1) p ps values) h.2,
    )

value_of_param : (key : ℕ) (value : List ℕ) → AreOctetValues (param key value) → AreOctetValues value
unfolding param
value_of_param key value h = values_back (to_be_bytes w16 (length value)) value (values_back (to_be_bytes w16 key) (to_be_bytes w16 (length value) ++ value) h)

values_of : (ps : List (ℕ × List ℕ)) → AreOctetValues (flat_map (λ p. param p.0 p.1) ps) → All (λ p. AreOctetValues p.1) ps
values_of [] h = All-nil (λ p. AreOctetValues p.1)
values_of (p ∷ ps) h =
    let later = flat_map (λ q. param q.0 q.1) ps in
    All-cons (λ p. AreOctetValues p.1) p ps (value_of_param p.0 p.1 (values_front (param p.0 p.1) later h)) (values_of ps (values_back (param p.0 p.1) later h))

pub params_read_back : AreParamsReadBack
params_read_back octets tokens h right shown =
    let ps = params_of octets in
    let b = read_back octets right.0 in
    let whole : octets ≡ flat_map (λ p. param p.0 p.1) ps = sym b.wire ∙ in_order ps b.ascending b.small b.fitting in
    record {
      params = ps;
      spelled = words_back ps ps tokens b.small right.1 (values_of ps (subst AreOctetValues whole h)) shown;
      once = λ i j d l m e. (let up = b.ascending i j d l m in omega (arith, up, e));
      fitting = b.fitting;
      whole = sym b.wire;
      right = right;
    }

words_of : (ps : List (ℕ × List ℕ)) → All (λ p. p.0 < 65536) ps → All (λ p. AreOctetValues p.1) ps → AllByRecursion (λ p. IsWord (param_text p)) ps
words_of [] small values = tt
words_of (p ∷ ps) small values =
    (param_is_word p (All-head (λ p. p.0 < 65536) p ps small) (All-head (λ p. AreOctetValues p.1) p ps values), words_of ps (All-tail (λ p. p.0 < 65536) p ps small) (All-tail (λ p. AreOctetValues p.1) p ps values))

pub params_are_words : AreParamsWords
params_are_words octets h right =
    let b = read_back octets right.0 in
    words_of (params_of octets) b.small (values_of (params_of octets) (subst AreOctetValues (sym b.wire ∙ in_order (params_of octets) b.ascending b.small b.fitting) h))
