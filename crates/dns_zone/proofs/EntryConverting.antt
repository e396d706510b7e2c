-- From the calls of a converter to what a token converts to.
use Rattle.std.proofs.Common.{ℕ, ◌≡◌, ◌+◌, ◌<◌, ◌≤◌, List, [], ◌∷◌, ◌++◌, length, refl, sym, ap, subst, ◌∙◌, arith, append_assoc, length-append, ◌⊎◌, inl, inr, ⊎_elim, Option, Some, None, Result}
use Rattle.std.proofs.Common.{Ok, Err}
use Rattle.std.specs.Prelude.{IsErr, IsOkAnd, MatchResult}
use Rattle.dns_octets.specs.Room.{Room}
use Rattle.dns_symbol.specs.declared.symbol.Symbol.{Symbol}
use Rattle.dns_symbol.specs.declared.error.SymbolCharsError.{SymbolCharsError}
use Rattle.dns_codec.specs.Base.{Base}
use Rattle.dns_codec.specs.Converting.{ConverterState, new_converter, Makes, made, convert, convert_tail}
use Rattle.dns_scan.specs.Asks.{CallsEach, EndsAfterSymbols}
use Rattle.dns_symbol.specs.Cause.{Cause, custom_text, short_buf}
use Rattle.dns_symbol.specs.Convert.{IsAnswer}
use Rattle.dns_scan.specs.Entries.{Converts, ConvertStep, ConvertToken, ConvertTail}
use Rattle.dns_scan.specs.Steps.{Adds}
use Rattle.dns_scan.specs.Tokens.{Token}
use Rattle.dns_zone.specs.EntryCodecs.{Codec, then_made, then_more, finished_symbols, converted_symbols, made_of, ConvertsTo, AnswersConverted}
use Rattle.dns_zone.specs.EntryCodecs.{codec_of}

module _ {E : Type 0} (cause : E → Cause) (room : Room) where
  -- octets that were made and added
  added : (made : Result (List ℕ) E) (answer : Result (List ℕ) (List ℕ)) (b c : List ℕ) → length b ≤ room.capacity → IsAnswer cause made answer → Adds cause room made b (Ok tt) c
      → (o : List ℕ) × (answer ≡ Ok o) × (c ≡ b ++ o) × (length c ≤ room.capacity)
  added (Ok o) (Ok p) b c small is h = ⊎_elim (λ k. (o, ap (λ l. Ok l) (sym is), k.1, fits o k.1 k.2)) (λ k. absurd k.0) h
    where
      fits : (o : List ℕ) → c ≡ b ++ o → (0 < length o → length c ≤ room.capacity) → length c ≤ room.capacity
      fits [] is k = omega (arith, small, ap length is, length-append b [])
      fits (x ∷ xs) is k = k (omega arith)
  added (Ok o) (Err text) b c small is h = absurd is
  added (Err e) answer b c small is h = let z = h.0 in cc

  -- an error, or too little capacity
  not_added : (made : Result (List ℕ) E) (answer : Result (List ℕ) (List ℕ)) (b c : List ℕ) (e : E) → IsAnswer cause made answer → Adds cause room made b (Err e) c
      → ((text : List ℕ) × (answer ≡ Err text) × (cause e ≡ custom_text text)) ⊎ ((o : List ℕ) × (answer ≡ Ok o) × (cause e ≡ short_buf) × (room.fits < length b + length o))
  not_added (Ok o) (Ok p) b c e is h = ⊎_elim (λ k. let z = k.0 in cc) (λ k. inr (o, ap (λ l. Ok l) (sym is), k.0, omega (arith, k.2))) h
  not_added (Ok o) (Err text) b c e is h = absurd is
  not_added (Err f) (Ok p) b c e is h = absurd is
  not_added (Err f) (Err text) b c e is h = let same : e ≡ f = cc in inl (text, refl, ap cause same ∙ is)

  module _ {C : Type 0} (codec : Codec) (takes : C → Symbol → Result (List ℕ) E → C → Type 0) (tail : C → Result (List ℕ) E → C → Type 0) (view : C → codec.Held)
      (steps : (h : C) (x : Symbol) (r : Result (List ℕ) E) (g : C) → takes h x r g → IsAnswer cause r (codec.step (view h) x).0 × (view g ≡ (codec.step (view h) x).1))
      (ends : (h : C) (r : Result (List ℕ) E) (g : C) → tail h r g → IsAnswer cause r (codec.tail (view h))) where
    -- the octets built before symbols, and those made of them
    abbrev whole : List Symbol → Option SymbolCharsError → C × List ℕ → List ℕ
    whole xs error p = p.1 ++ made_of codec (view p.0) xs error

    -- where a run over symbols ends, and why it stops
    abbrev Ran : List Symbol → Option SymbolCharsError → C × List ℕ → C × List ℕ → Result (Unit {0}) E → Type 0
    Ran xs error p q u = MatchResult u
        (λ _. (error ≡ None) × (converted_symbols codec (view p.0) p.1 xs error ≡ finished_symbols codec (view q.0) q.1 None) × (whole xs error p ≡ whole [] None q) × (length q.1 ≤ room.capacity))
        (λ e. ((converted_symbols codec (view p.0) p.1 xs error ≡ Err (cause e)) × (length (whole xs error p) ≤ room.capacity)) ⊎ ((cause e ≡ short_buf) × (room.fits < length (whole xs error p))))

    run : (xs : List Symbol) (error : Option SymbolCharsError) (p : C × List ℕ) (u : Result (Unit {0}) E) (q : C × List ℕ) → length p.1 ≤ room.capacity
        → CallsEach (ConvertStep cause room takes) xs (EndsAfterSymbols cause error) p u q → Ran xs error p q u
    run [] None p (Ok v) q small h =
        (refl, ap (λ (x : C × List ℕ). finished_symbols codec (view x.0) x.1 None) (sym h.0), ap (λ (x : C × List ℕ). whole [] None x) (sym h.0), omega (arith, small, ap (λ (x : C × List ℕ). length x.1) h.0))
    run [] None p (Err e) q small h = let z = h.1 in cc
    run [] (Some x) p (Ok v) q small h = absurd h.1
    run [] (Some x) p (Err e) q small h = inl (ap (λ w. Err w) (sym h.1), omega (arith, small, length-append p.1 []))
    run (x ∷ xs) error p u q small h =
        ⊎_elim
        (λ k.
        let met = steps p.0 x k.1.0 k.0.0 k.1.1 in
        let more = added k.1.0 (codec.step (view p.0) x).0 p.1 k.0.1 small met.0 k.1.2 in
        on u k.0 met.1 more (run xs error k.0 u q more.3 k.2))
        (λ k. stop u k.0 k.1)
        h
      where
        on : (u : Result (Unit {0}) E) (m : C × List ℕ) → view m.0 ≡ (codec.step (view p.0) x).1
            → (o : List ℕ) × ((codec.step (view p.0) x).0 ≡ Ok o) × (m.1 ≡ p.1 ++ o) × (length m.1 ≤ room.capacity) → Ran xs error m q u → Ran (x ∷ xs) error p q u
        on u m held more rest = by u rest
          where
            here : converted_symbols codec (view p.0) p.1 (x ∷ xs) error ≡ converted_symbols codec (view m.0) m.1 xs error
            here =
                ap (λ a. then_made a (λ octets. converted_symbols codec (codec.step (view p.0) x).1 (p.1 ++ octets) xs error)) more.1
                ∙ (λ i. converted_symbols codec (sym held i) (sym more.2 i) xs error)

            same : whole (x ∷ xs) error p ≡ whole xs error m
            same =
                ap (λ a. p.1 ++ then_more a (made_of codec (codec.step (view p.0) x).1 xs error)) more.1
                ∙ sym (append_assoc p.1 more.0 (made_of codec (codec.step (view p.0) x).1 xs error))
                ∙ (λ i. sym more.2 i ++ made_of codec (sym held i) xs error)

            by : (u : Result (Unit {0}) E) → Ran xs error m q u → Ran (x ∷ xs) error p q u
            by (Ok v) rest = (rest.0, here ∙ rest.1, same ∙ rest.2, rest.3)
            by (Err e) rest =
                ⊎_elim
                (λ k. inl (here ∙ k.0, subst (λ l. length l ≤ room.capacity) (sym same) k.1))
                (λ k. inr (k.0, subst (λ l. room.fits < length l) (sym same) k.1))
                rest

        stop : (u : Result (Unit {0}) E) → IsErr u → ConvertStep cause room takes p x u q → Ran (x ∷ xs) error p q u
        stop (Ok v) is step = cc
        stop (Err e) is step =
            ⊎_elim
            (λ k. inl (
              ap (λ a. then_made a (λ octets. converted_symbols codec (codec.step (view p.0) x).1 (p.1 ++ octets) xs error)) k.1 ∙ ap (λ w. Err w) (sym k.2),
              subst (λ a. length (p.1 ++ then_more a later) ≤ room.capacity) (sym k.1) (omega (arith, small, length-append p.1 [])),
            ))
            (λ k. inr (
              k.2,
              subst (λ a. room.fits < length (p.1 ++ then_more a later)) (sym k.1) (omega (arith, k.3, length-append p.1 (k.0 ++ later), length-append k.0 later)),
            ))
            (not_added step.0 (codec.step (view p.0) x).0 p.1 q.1 e (steps p.0 x step.0 q.0 step.1).0 step.2)
          where
            later : List ℕ
            later = made_of codec (codec.step (view p.0) x).1 xs error

    -- the result of a run with its tail is what the token converts to, or exceeds what is guaranteed
    pub converted_answer : {O : Type 0} (octets : O → List ℕ) (t : Token) (convert : C) (r : Result O E) → view convert ≡ codec.start
        → Converts cause room tail octets (λ p a q. ConvertToken cause room takes p t a q) convert r → AnswersConverted codec cause octets room t r
    converted_answer {O} octets t convert r new h = (
      made_of codec (view convert) h.ran.symbols h.ran.error,
      (h.ran.symbols, h.ran.error, h.ran.read, ap (λ k. made_of codec k h.ran.symbols h.ran.error) new),
      by h.answer r h.gives (run h.ran.symbols h.ran.error (convert, []) h.answer h.state (omega arith) h.ran.asked),
    )
      where
        Answered : Result O E → Type 0
        Answered r = MatchResult r
            (λ x. ConvertsTo codec t (Ok (octets x)) × (length (whole h.ran.symbols h.ran.error (convert, [])) ≤ room.capacity))
            (λ e. (ConvertsTo codec t (Err (cause e)) × (length (whole h.ran.symbols h.ran.error (convert, [])) ≤ room.capacity)) ⊎
            ((cause e ≡ short_buf) × (room.fits < length (whole h.ran.symbols h.ran.error (convert, [])))))

        from_start : (a : Result (List ℕ) Cause) → converted_symbols codec (view convert) [] h.ran.symbols h.ran.error ≡ a → ConvertsTo codec t a
        from_start a e = (h.ran.symbols, h.ran.error, h.ran.read, ap (λ k. converted_symbols codec k [] h.ran.symbols h.ran.error) (sym new) ∙ e)

        last : (v : Result (Unit {0}) E) (q : C × List ℕ) (r : Result O E) → ConvertTail cause room tail h.state v q → MatchResult v (λ _. IsOkAnd r (λ x. octets x ≡ q.1)) (λ e. r ≡ Err e)
            → Ran h.ran.symbols h.ran.error (convert, []) h.state (Ok tt) → Answered r
        last (Ok v) q (Ok x) tailed g ran =
            let more = added tailed.0 (codec.tail (view h.state.0)) h.state.1 q.1 ran.3 (ends h.state.0 tailed.0 q.0 tailed.1) tailed.2 in
            let all : whole h.ran.symbols h.ran.error (convert, []) ≡ q.1 = ran.2 ∙ ap (λ a. h.state.1 ++ made a) more.1 ∙ sym more.2 in (
              from_start (Ok (octets x)) (ran.1 ∙ ap (λ a. then_made a (λ octets. Ok (h.state.1 ++ octets))) more.1 ∙ ap (λ l. Ok l) (sym more.2 ∙ sym g)),
              subst (λ l. length l ≤ room.capacity) (sym all) more.3,
            )
        last (Ok v) q (Err e) tailed g ran = absurd g
        last (Err f) q (Ok x) tailed g ran = cc
        last (Err f) q (Err e) tailed g ran =
            let same : e ≡ f = cc in
            ⊎_elim
            (λ k. inl (
              from_start (Err (cause e)) (ran.1 ∙ ap (λ a. then_made a (λ octets. Ok (h.state.1 ++ octets))) k.1 ∙ ap (λ w. Err w) (sym k.2 ∙ ap cause (sym same))),
              subst (λ l. length l ≤ room.capacity) (sym (ran.2 ∙ ap (λ a. h.state.1 ++ made a) k.1)) (omega (arith, ran.3, length-append h.state.1 [])),
            ))
            (λ k. inr (
              ap cause same ∙ k.2,
              subst (λ l. room.fits < length l) (sym (ran.2 ∙ ap (λ a. h.state.1 ++ made a) k.1)) (omega (arith, k.3, length-append h.state.1 k.0)),
            ))
            (not_added tailed.0 (codec.tail (view h.state.0)) h.state.1 q.1 f (ends h.state.0 tailed.0 q.0 tailed.1) tailed.2)

        by : (u : Result (Unit {0}) E) (r : Result O E)
            → MatchResult u (λ _. (v : Result (Unit {0}) E) × (q : C × List ℕ) × ConvertTail cause room tail h.state v q × MatchResult v
            (λ _. IsOkAnd r (λ x. octets x ≡ q.1)) (λ e. r ≡ Err e)) (λ e. r ≡ Err e)
            → Ran h.ran.symbols h.ran.error (convert, []) h.state u → Answered r
        by (Ok v) r g ran = last g.0 g.1 r g.2 g.3 ran
        by (Err f) (Ok x) g ran = cc
        by (Err f) (Err e) g ran =
            let same : e ≡ f = cc in
            ⊎_elim
            (λ k. inl (from_start (Err (cause e)) (k.0 ∙ ap (λ w. Err w) (ap cause (sym same))), k.1))
            (λ k. inr (ap cause same ∙ k.0, k.1))
            ran

    -- the same, if it doesn't matter how much was produced
    pub converts_to : (t : Token) (convert : C) (r : Result (List ℕ) E) → view convert ≡ codec.start
        → Converts cause room tail (λ s. s) (λ p a q. ConvertToken cause room takes p t a q) convert r
        → MatchResult r (λ o. ConvertsTo codec t (Ok o)) (λ e. ConvertsTo codec t (Err (cause e)) ⊎ (cause e ≡ short_buf))
    converts_to t convert r new h = let answer = converted_answer (λ s. s) t convert r new h in by r answer.0 answer.2
      where
        by : (r : Result (List ℕ) E) (n : List ℕ)
            → MatchResult r (λ o. ConvertsTo codec t (Ok o) × (length n ≤ room.capacity))
            (λ e. (ConvertsTo codec t (Err (cause e)) × (length n ≤ room.capacity)) ⊎ ((cause e ≡ short_buf) × (room.fits < length n)))
            → MatchResult r (λ o. ConvertsTo codec t (Ok o)) (λ e. ConvertsTo codec t (Err (cause e)) ⊎ (cause e ≡ short_buf))
        by (Ok o) n k = k.0
        by (Err e) n k = ⊎_elim (λ a. inl a.0) (λ a. inr a.0) k

  -- the octets of a value that was converted
  pub converted_value : {C O : Type 0} (tail : C → Result (List ℕ) E → C → Type 0) (octets : O → List ℕ) (runs : C × List ℕ → Result (Unit {0}) E → C × List ℕ → Type 0) (convert : C) (x : O)
      → Converts cause room tail octets runs convert (Ok x) → Converts cause room tail (λ s. s) runs convert (Ok (octets x))
  converted_value {C} tail octets runs convert x h = record { answer = h.answer; state = h.state; ran = h.ran; gives = by h.answer h.gives }
    where
      by : (u : Result (Unit {0}) E)
          → MatchResult u (λ _. (v : Result (Unit {0}) E) × (q : C × List ℕ) × ConvertTail cause room tail h.state v q × MatchResult v (λ _. octets x ≡ q.1)
          (λ e. Ok x ≡ Err e)) (λ e. Ok x ≡ Err e)
          → MatchResult u (λ _. (v : Result (Unit {0}) E) × (q : C × List ℕ) × ConvertTail cause room tail h.state v q × MatchResult v (λ _. octets x ≡ q.1)
          (λ e. Ok (octets x) ≡ Err e)) (λ e. Ok (octets x) ≡ Err e)
      by (Ok v) g = (g.0, g.1, g.2, last g.0 g.3)
        where
          last : (v : Result (Unit {0}) E) → MatchResult v (λ _. octets x ≡ g.1.1) (λ e. Ok x ≡ Err e) → MatchResult v (λ _. octets x ≡ g.1.1) (λ e. Ok (octets x) ≡ Err e)
          last (Ok w) k = k
          last (Err e) k = cc
      by (Err e) g = cc

  pub converted_refusal : {C O : Type 0} (tail : C → Result (List ℕ) E → C → Type 0) (octets : O → List ℕ) (runs : C × List ℕ → Result (Unit {0}) E → C × List ℕ → Type 0) (convert : C) (e : E)
      → Converts cause room tail octets runs convert (Err e) → Converts cause room tail (λ s. s) runs convert (Err e)
  converted_refusal {C} {O} tail octets runs convert e h = record { answer = h.answer; state = h.state; ran = h.ran; gives = by (Err e) (Err e) refl refl h.answer h.gives }
    where
      by : (r : Result O E) (s : Result (List ℕ) E) → r ≡ Err e → s ≡ Err e → (u : Result (Unit {0}) E)
          → MatchResult u (λ _. (v : Result (Unit {0}) E) × (q : C × List ℕ) × ConvertTail cause room tail h.state v q × MatchResult v
          (λ _. IsOkAnd r (λ x. octets x ≡ q.1)) (λ f. r ≡ Err f)) (λ f. r ≡ Err f)
          → MatchResult u (λ _. (v : Result (Unit {0}) E) × (q : C × List ℕ) × ConvertTail cause room tail h.state v q × MatchResult v (λ _. IsOkAnd s (λ x. x ≡ q.1))
          (λ f. s ≡ Err f)) (λ f. s ≡ Err f)
      by r s is same (Ok v) g = (g.0, g.1, g.2, last g.0 g.3)
        where
          last : (v : Result (Unit {0}) E) → MatchResult v (λ _. IsOkAnd r (λ x. octets x ≡ g.1.1)) (λ f. r ≡ Err f) → MatchResult v (λ _. IsOkAnd s (λ x. x ≡ g.1.1)) (λ f. s ≡ Err f)
          last (Ok w) k = absurd (subst (λ (x : Result O E). IsOkAnd x (λ x. octets x ≡ g.1.1)) is k)
          last (Err f) k = let one : e ≡ f = cc in same ∙ ap (λ w. Err w) one
      by r s is same (Err f) g = let one : e ≡ f = cc in same ∙ ap (λ w. Err w) one

  -- the converters
  pub base_converts : (b : Base) (t : Token) (start : ConverterState) (r : Result (List ℕ) E) → start ≡ new_converter
      → Converts cause room (λ s r after. Makes cause (convert_tail b s.group s.failed) r after) (λ s. s)
      (λ p a q. ConvertToken cause room (λ s x r after. Makes cause (convert b s.group s.failed x) r after) p t a q) start r
      → MatchResult r (λ o. ConvertsTo (codec_of b) t (Ok o)) (λ e. ConvertsTo (codec_of b) t (Err (cause e)) ⊎ (cause e ≡ short_buf))
  base_converts b t start r new h =
      converts_to (codec_of b) (λ s x r after. Makes cause (convert b s.group s.failed x) r after) (λ s r after. Makes cause (convert_tail b s.group s.failed) r after)
      (λ h. (h.group, h.failed)) (λ h x r k t. (t.answers, λ i. (t.group i, t.failed i))) (λ h r k t. t.answers) t start r (ap (λ (h : ConverterState). (h.group, h.failed)) new) h

  -- the same, with what is made before the answer
  pub base_answer : (b : Base) {O : Type 0} (octets : O → List ℕ) (t : Token) (start : ConverterState) (r : Result O E) → start ≡ new_converter
      → Converts cause room (λ s r after. Makes cause (convert_tail b s.group s.failed) r after) octets
      (λ p a q. ConvertToken cause room (λ s x r after. Makes cause (convert b s.group s.failed x) r after) p t a q) start r
      → AnswersConverted (codec_of b) cause octets room t r
  base_answer b octets t start r new h =
      converted_answer (codec_of b) (λ s x r after. Makes cause (convert b s.group s.failed x) r after) (λ s r after. Makes cause (convert_tail b s.group s.failed) r after)
      (λ h. (h.group, h.failed)) (λ h x r k t. (t.answers, λ i. (t.group i, t.failed i))) (λ h r k t. t.answers) octets t start r (ap (λ (h : ConverterState). (h.group, h.failed)) new) h
