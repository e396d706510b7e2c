-- From the calls at the symbols of a token to the result.
use Rattle.std.proofs.Common.{ℕ, ◌≡◌, ◌<◌, ◌≤◌, ◌+◌, List, [], ◌∷◌, ◌++◌}
use Rattle.std.proofs.Common.{length, map, refl, sym, ap, subst, ◌∙◌, arith, append_assoc, append-nil, zero-add, length-append, ◌⊎◌, inl, inr, ⊎_elim, Option, Some, None, Result, Ok, Err}
use Rattle.std.specs.Prelude.{IsOkAnd, IsErr, MatchResult}
use Rattle.std.specs.List.{concat}
use Rattle.dns_octets.specs.Room.{Room, exactly}
use Rattle.dns_symbol.specs.declared.symbol.Symbol.{Symbol}
use Rattle.dns_symbol.specs.declared.error.SymbolCharsError.{SymbolCharsError}
use Rattle.dns_symbol.specs.Text.{SymbolsOf}
use Rattle.dns_symbol.proofs.Unique.{symbols_same}
use Rattle.dns_symbol.specs.Cause.{Cause, custom_text, short_buf}
use Rattle.dns_scan.specs.Tokens.{Token}
use Rattle.dns_scan.specs.Asks.{Builds, CallsEach, EndsAfterSymbols}
use Rattle.dns_scan.specs.Steps.{HasStepOctets, AppendsSymbol}
use Rattle.dns_scan.specs.Answers.{IsSymbolFault, FirstFault, AllOctetsFit, AnswersOctets}

module _ {E : Type 0} (cause : E → Cause) (given : Symbol → Result (List ℕ) (List ℕ)) (room : Room) where
  -- all went well from b on
  record Went (symbols : List Symbol) (error : Option SymbolCharsError) (b c : List ℕ) : Type 0 where
    parts : List (List ℕ)
    gives : map given symbols ≡ map Ok parts
    joined : c ≡ b ++ concat parts
    ends : error ≡ None
    fits : length c ≤ room.capacity

  -- the first error from b on
  record Stopped (symbols : List Symbol) (error : Option SymbolCharsError) (b : List ℕ) (why : Cause) : Type 0 where
    front : List Symbol
    rest : List Symbol
    parts : List (List ℕ)
    whole : symbols ≡ front ++ rest
    gives : map given front ≡ map Ok parts
    fits : length b + length (concat parts) ≤ room.capacity
    fault : IsSymbolFault given room (length b + length (concat parts)) rest error why

  -- a step that succeeded, and one that failed
  stepped : (b c : List ℕ) (q : Result (List ℕ) (List ℕ)) → length b ≤ room.capacity → AppendsSymbol cause room q b (Ok tt) c → (o : List ℕ) × (q ≡ Ok o) × (c ≡ b ++ o) × (length c ≤ room.capacity)
  stepped b c (Ok o) small h = ⊎_elim (λ a. (o, refl, a.1, small_after o a.1 a.2)) (λ a. absurd a.0) h
    where
      small_after : (o : List ℕ) → c ≡ b ++ o → (0 < length o → length c ≤ room.capacity) → length c ≤ room.capacity
      small_after [] is fits = omega (arith, ap length is, length-append b [])
      small_after (x ∷ xs) is fits = fits (omega arith)
  stepped b c (Err text) small h = absurd h.0

  refused : (b c : List ℕ) (e : E) (q : Result (List ℕ) (List ℕ)) → AppendsSymbol cause room q b (Err e) c
      → MatchResult q (λ o. (room.fits < length b + 0 + length o) × (cause e ≡ short_buf)) (λ text. cause e ≡ custom_text text)
  refused b c e (Ok o) h = ⊎_elim (λ a. let z = a.0 in cc) (λ a. (omega (arith, a.2), a.0)) h
  refused b c e (Err text) h = h.0

  run_answer : (symbols : List Symbol) (error : Option SymbolCharsError) (b c : List ℕ) (u : Result (Unit {0}) E) → length b ≤ room.capacity
      → CallsEach (HasStepOctets cause room given) symbols (EndsAfterSymbols cause error) b u c
      → MatchResult u (λ _. Went symbols error b c) (λ e. Stopped symbols error b (cause e))
  run_answer [] None b c (Ok v) small h = record { parts = []; gives = refl; joined = h.0 ∙ sym (append-nil b); ends = refl; fits = omega (arith, ap length h.0) }
  run_answer [] None b c (Err e) small h = let z = h.1 in cc
  run_answer [] (Some x) b c (Ok v) small h = absurd h.1
  run_answer [] (Some x) b c (Err e) small h = record { front = []; rest = []; parts = []; whole = refl; gives = refl; fits = omega arith; fault = h.1 }
  run_answer (x ∷ xs) error b c u small h =
      ⊎_elim
      (λ k. let one = stepped b k.0 (given x) small k.1 in more u k.0 one (run_answer xs error k.0 c u one.3 k.2))
      (λ k. stopped u k.0 k.1)
      h
    where
      more : (u : Result (Unit {0}) E) (m : List ℕ) (one : (o : List ℕ) × (given x ≡ Ok o) × (m ≡ b ++ o) × (length m ≤ room.capacity))
          → MatchResult u (λ _. Went xs error m c) (λ e. Stopped xs error m (cause e))
          → MatchResult u (λ _. Went (x ∷ xs) error b c) (λ e. Stopped (x ∷ xs) error b (cause e))
      more (Ok v) m one rest = record {
        parts = one.0 ∷ rest.parts;
        gives = λ i. one.1 i ∷ rest.gives i;
        joined = rest.joined ∙ ap (λ l. l ++ concat rest.parts) one.2 ∙ append_assoc b one.0 (concat rest.parts);
        ends = rest.ends;
        fits = rest.fits;
      }
      more (Err e) m one rest =
          let count : length m + length (concat rest.parts) ≡ length b + length (concat (one.0 ∷ rest.parts)) = omega
          (arith, ap length one.2, length-append b one.0, length-append one.0 (concat rest.parts)) in
          record {
            front = x ∷ rest.front;
            rest = rest.rest;
            parts = one.0 ∷ rest.parts;
            whole = ap (λ l. x ∷ l) rest.whole;
            gives = λ i. one.1 i ∷ rest.gives i;
            fits = omega (arith, rest.fits, count);
            fault = subst (λ n. IsSymbolFault given room n rest.rest error (cause e)) count rest.fault;
          }

      stopped : (u : Result (Unit {0}) E) → IsErr u → HasStepOctets cause room given b x u c → MatchResult u (λ _. Went (x ∷ xs) error b c) (λ e. Stopped (x ∷ xs) error b (cause e))
      stopped (Ok v) is k = cc
      stopped (Err e) is k = record { front = []; rest = x ∷ xs; parts = []; whole = refl; gives = refl; fits = omega arith; fault = refused b c e (given x) k }

  -- what was built of a token is the answer of its symbols
  pub builds_answer : {O : Type 0} (octets : O → List ℕ) (t : Token) (r : Result O E) → Builds cause (HasStepOctets cause room given) octets t r
      → (symbols : List Symbol) (error : Option SymbolCharsError) → SymbolsOf t symbols error → AnswersOctets given room cause octets symbols error r
  builds_answer {O} octets t r h symbols error read =
      let same = symbols_same t h.asks.symbols symbols h.asks.error error h.asks.read read in
      let ran : CallsEach (HasStepOctets cause room given) symbols (EndsAfterSymbols cause error) [] h.answer h.built =
      subst (λ ss. CallsEach (HasStepOctets cause room given) ss (EndsAfterSymbols cause error) [] h.answer h.built) same.0
      (subst (λ e. CallsEach (HasStepOctets cause room given) h.asks.symbols (EndsAfterSymbols cause e) [] h.answer h.built) same.1 h.asks.asked) in
      by h.answer r h.gives (run_answer symbols error [] h.built h.answer (omega arith) ran)
    where
      by : (u : Result (Unit {0}) E) (r : Result O E) → MatchResult u (λ _. IsOkAnd r (λ x. octets x ≡ h.built)) (λ e. r ≡ Err e)
          → MatchResult u (λ _. Went symbols error [] h.built) (λ e. Stopped symbols error [] (cause e)) → AnswersOctets given room cause octets symbols error r
      by (Ok v) (Ok x) g k = record { parts = k.parts; gives = k.gives; joined = g ∙ k.joined; ends = k.ends; fits = omega (arith, ap length g, k.fits) }
      by (Ok v) (Err e) g k = absurd g
      by (Err f) (Ok x) g k = cc
      by (Err f) (Err e) g k =
          let same : f ≡ e = cc in
          record {
            front = k.front;
            rest = k.rest;
            parts = k.parts;
            whole = k.whole;
            gives = k.gives;
            fits = omega (arith, k.fits);
            fault = subst (λ n. IsSymbolFault given room n k.rest error (cause e)) (zero-add (length (concat k.parts)))
                (subst (λ e. IsSymbolFault given room (0 + length (concat k.parts)) k.rest error (cause e)) same k.fault);
          }

  -- the same, with the symbols that were read
  pub builds_read : {O : Type 0} (octets : O → List ℕ) (t : Token) (r : Result O E) → Builds cause (HasStepOctets cause room given) octets t r
      → (symbols : List Symbol) × (error : Option SymbolCharsError) × SymbolsOf t symbols error × AnswersOctets given room cause octets symbols error r
  builds_read octets t r h = (h.asks.symbols, h.asks.error, h.asks.read, builds_answer octets t r h h.asks.symbols h.asks.error h.asks.read)

-- unless an allocation fails, a builder of smaller guaranteed capacity has the result of a full one
module _ (given : Symbol → Result (List ℕ) (List ℕ)) (room : Room) (size : ℕ) (small : room.capacity ≤ size) (symbols : List Symbol) (error : Option SymbolCharsError) where
  pub all_given_in : (octets : List ℕ) → AllOctetsFit given room symbols error octets → AllOctetsFit given (exactly size) symbols error octets
  all_given_in octets h = record { parts = h.parts; gives = h.gives; joined = h.joined; ends = h.ends; fits = omega (arith, small, h.fits) }

  fault_in : (count : ℕ) (rest : List Symbol) (why : Cause) → IsSymbolFault given room count rest error why → IsSymbolFault given (exactly size) count rest error why ⊎ (why ≡ short_buf)
  fault_in count [] why h = inl (at_end error h)
    where
      at_end : (e : Option SymbolCharsError) → IsSymbolFault given room count [] e why → IsSymbolFault given (exactly size) count [] e why
      at_end None k = k
      at_end (Some x) k = k
  fault_in count (x ∷ xs) why h = by (given x) h
    where
      by : (q : Result (List ℕ) (List ℕ)) → MatchResult q (λ o. (room.fits < count + length o) × (why ≡ short_buf)) (λ text. why ≡ custom_text text)
          → MatchResult q (λ o. (size < count + length o) × (why ≡ short_buf)) (λ text. why ≡ custom_text text) ⊎ (why ≡ short_buf)
      by (Ok o) k = inr k.1
      by (Err text) k = inl k

  pub first_fault_in : (why : Cause) → FirstFault given room symbols error why → FirstFault given (exactly size) symbols error why ⊎ (why ≡ short_buf)
  first_fault_in why h =
      ⊎_elim
      (λ k. inl (record { front = h.front; rest = h.rest; parts = h.parts; whole = h.whole; gives = h.gives; fits = omega (arith, small, h.fits); fault = k }))
      (λ k. inr k)
      (fault_in (length (concat h.parts)) h.rest why h.fault)
