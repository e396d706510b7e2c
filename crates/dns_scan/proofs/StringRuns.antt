-- From the appends at the tokens of an entry to the character strings that they are.
use Rattle.std.proofs.Common.{ℕ, ◌≡◌, ◌<◌, ◌≤◌, ◌+◌, List, [], ◌∷◌, ◌++◌}
use Rattle.std.proofs.Common.{length, refl, sym, ap, subst, ◌∙◌, arith, append_assoc, append-nil, zero-add, length-append, ◌⊎◌, inl, inr, ⊎_elim, Option, Result, Ok, Err}
use Rattle.std.specs.Prelude.{All, IsErr, IsOkAnd, MatchResult}
use Rattle.std.specs.List.{flat_map, AllZip}
use Rattle.std.proofs.lemmas.List.Elements.{All-nil, All-cons}
use Rattle.dns_octets.specs.Room.{Room, within}
use Rattle.dns_symbol.specs.Text.{SymbolsOf}
use Rattle.dns_charstr.specs.Reading.{HasOctets}
use Rattle.dns_charstr.specs.Wire.{wire_of}
use Rattle.dns_scan.specs.Asks.{Builds}
use Rattle.dns_symbol.specs.Cause.{Cause, short_buf, IsCause}
use Rattle.dns_scan.specs.Entries.{BuildsEntry, StringStep}
use Rattle.dns_scan.specs.Join.{CallsTokens, LeavesOf}
use Rattle.dns_scan.specs.Reads.{OctetsRead}
use Rattle.dns_scan.specs.Unread.{HasTokens}
use Rattle.dns_scan.specs.Steps.{HasStepOctets, step_octet}
use Rattle.dns_scan.specs.Strings.{AnswersStrings, IsStringFault}
use Rattle.dns_scan.specs.Tokens.{Token}
use Rattle.dns_scan.proofs.InTurn.{in_turn, leaves, ok_before}
use Rattle.dns_scan.proofs.Reading.{octets_show}
use Rattle.dns_scan.proofs.Whole.{builds_only}

abbrev pub Short : List ℕ → Type 0
Short s = length s ≤ 255

abbrev pub wires : List (List ℕ) → List ℕ
wires = flat_map wire_of

module _ {E : Type 0} (cause : E → Cause) (room : Room) where
  -- all tokens were appended to b
  record Went (tokens : List Token) (b c : List ℕ) : Type 0 where
    strings : List (List ℕ)
    read : AllZip HasOctets tokens strings
    short : All (λ s. length s ≤ 255) strings
    joined : c ≡ b ++ wires strings
    fits : length c ≤ room.capacity

  -- the first that was rejected, from b on
  record Stopped (tokens : List Token) (b : List ℕ) (why : Cause) (rest : List Token) : Type 0 where
    front : List Token
    token : Token
    strings : List (List ℕ)
    whole : tokens ≡ front ++ token ∷ rest
    read : AllZip HasOctets front strings
    short : All (λ s. length s ≤ 255) strings
    fits : length b + length (wires strings) ≤ room.capacity
    fault : IsStringFault room (length b + length (wires strings)) token why

  abbrev reply : Result (Unit {0}) E → List ℕ → Result (List ℕ) E
  reply (Ok u) built = Ok built
  reply (Err e) built = Err e

  replied : (a : Result (Unit {0}) E) (built : List ℕ) → MatchResult a (λ _. IsOkAnd (reply a built) (λ x. x ≡ built)) (λ e. reply a built ≡ Err e)
  replied (Ok u) built = refl
  replied (Err e) built = refl

  -- what a token is read as, from its append to b
  abbrev One : List ℕ → Token → Result (Unit {0}) E → List ℕ → Type 0
  One b t r c = MatchResult r (λ _. (o : List ℕ) × HasOctets t o × (length o ≤ 255) × (c ≡ b ++ wire_of o) × (length c ≤ room.capacity)) (λ e. IsStringFault room (length b) t (cause e))

  step_read : (b : List ℕ) (t : Token) (r : Result (Unit {0}) E) (c : List ℕ) → StringStep cause room b t r c → One b t r c
  step_read b t r c h = by h.answer h.built (record { answer = h.answer; built = h.built; asks = h.asks; gives = replied h.answer h.built }) r h.gives
    where
      by : (a : Result (Unit {0}) E) (built : List ℕ) → Builds cause (HasStepOctets cause (within 255 room) step_octet) (λ s. s) t (reply a built) → (r : Result (Unit {0}) E)
          → MatchResult a (λ _. ((r ≡ Ok tt) × (c ≡ b ++ wire_of built) × (length c ≤ room.capacity)) ⊎ (IsCause cause r short_buf × (room.fits < length b + length (wire_of built))))
          (λ e. (r ≡ Err e) × (c ≡ b))
          → One b t r c
      by (Ok u) built k (Ok v) (inl g) =
          let only = builds_only cause (within 255 room) (λ s. s) t (Ok built) k k.asks.symbols k.asks.error k.asks.read in
          (built, record { symbols = k.asks.symbols; read = subst (λ e. SymbolsOf t k.asks.symbols e) only.0 k.asks.read; octets_are = only.1 }, omega (arith, only.2), g.1, g.2)
      by (Ok u) built k (Ok v) (inr g) = absurd g.0
      by (Ok u) built k (Err e) (inl g) = let z = g.0 in cc
      by (Ok u) built k (Err e) (inr g) = inr (built, octets_show cause (within 255 room) t (Ok built) k, g.0, g.1)
      by (Err d) built k (Ok v) g = let z = g.0 in cc
      by (Err d) built k (Err e) g =
          let same : d ≡ e = let z = g.0 in cc in
          inl (subst (λ x. OctetsRead (within 255 room) t (Err (cause x))) same (octets_show cause (within 255 room) t (Err d) k))

  run : (tokens : List Token) (b : List ℕ) (r : Result (Unit {0}) E) (rest : List Token) (c : List ℕ) → length b ≤ room.capacity → CallsTokens (StringStep cause room) tokens b r rest c
      → MatchResult r (λ _. Went tokens b c × (rest ≡ [])) (λ e. Stopped tokens b (cause e) rest)
  run [] b (Ok u) rest c small h = (record { strings = []; read = tt; short = All-nil Short; joined = h.2 ∙ sym (append-nil b); fits = omega (arith, ap length h.2, small) }, h.1)
  run [] b (Err e) rest c small h = let z = h.0 in cc
  run (t ∷ ts) b r rest c small h =
      ⊎_elim
      (λ k. let one = step_read b t (Ok tt) k.0 k.1 in more r k.0 one (run ts k.0 r rest c one.4 k.2))
      (λ k. stopped r k.0 k.2 (step_read b t r c k.1))
      h
    where
      more : (r : Result (Unit {0}) E) (m : List ℕ) (one : (o : List ℕ) × HasOctets t o × (length o ≤ 255) × (m ≡ b ++ wire_of o) × (length m ≤ room.capacity))
          → MatchResult r (λ _. Went ts m c × (rest ≡ [])) (λ e. Stopped ts m (cause e) rest) → MatchResult r (λ _. Went (t ∷ ts) b c × (rest ≡ [])) (λ e. Stopped (t ∷ ts) b (cause e) rest)
      more (Ok v) m one k = (
        record {
          strings = one.0 ∷ k.0.strings;
          read = (one.1, k.0.read);
          short = All-cons Short one.0 k.0.strings one.2 k.0.short;
          joined = k.0.joined ∙ ap (λ l. l ++ wires k.0.strings) one.3 ∙ append_assoc b (wire_of one.0) (wires k.0.strings);
          fits = k.0.fits;
        },
        k.1,
      )
      more (Err e) m one k =
          let count : length m + length (wires k.strings) ≡ length b + length (wires (one.0 ∷ k.strings)) =
          omega (arith, ap length one.3, length-append b (wire_of one.0), length-append (wire_of one.0) (wires k.strings)) in
          record {
            front = t ∷ k.front;
            token = k.token;
            strings = one.0 ∷ k.strings;
            whole = ap (λ l. t ∷ l) k.whole;
            read = (one.1, k.read);
            short = All-cons Short one.0 k.strings one.2 k.short;
            fits = omega (arith, k.fits, count);
            fault = subst (λ n. IsStringFault room n k.token (cause e)) count k.fault;
          }

      stopped : (r : Result (Unit {0}) E) → IsErr r → rest ≡ ts → One b t r c → MatchResult r (λ _. Went (t ∷ ts) b c × (rest ≡ [])) (λ e. Stopped (t ∷ ts) b (cause e) rest)
      stopped (Ok v) is same k = cc
      stopped (Err e) is same k = record {
        front = [];
        token = t;
        strings = [];
        whole = ap (λ l. t ∷ l) (sym same);
        read = tt;
        short = All-nil Short;
        fits = omega (arith, small);
        fault = subst (λ n. IsStringFault room n t (cause e)) (omega arith) k;
      }

  module _ {S O : Type 0} (next : S → Option Token → S → Type 0) (octets : O → List ℕ) (old : S) (r : Result O E) (new : S) (h : BuildsEntry next (StringStep cause room) octets old r new) where
    pub strings_answer : (tokens : List Token) → HasTokens next old tokens → (rest : List Token) × AnswersStrings room cause octets tokens r rest × HasTokens next new rest
    strings_answer tokens stands =
        let turn = in_turn next (StringStep cause room) old [] h.answer new h.built h.taken tokens stands in
        (turn.0, by turn.0 h.answer r h.gives (run tokens [] h.answer turn.0 h.built (omega arith) turn.1), turn.2)
      where
        by : (rest : List Token) (a : Result (Unit {0}) E) (r : Result O E) → MatchResult a (λ _. IsOkAnd r (λ x. octets x ≡ h.built)) (λ e. r ≡ Err e)
            → MatchResult a (λ _. Went tokens [] h.built × (rest ≡ [])) (λ e. Stopped tokens [] (cause e) rest) → AnswersStrings room cause octets tokens r rest
        by rest (Ok u) (Ok x) g k = (record { strings = k.0.strings; read = k.0.read; short = k.0.short; joined = g ∙ k.0.joined }, omega (arith, ap length g, k.0.fits), k.1)
        by rest (Ok u) (Err e) g k = absurd g
        by rest (Err d) (Ok x) g k = cc
        by rest (Err d) (Err e) g k =
            let same : d ≡ e = cc in
            record {
              front = k.front;
              token = k.token;
              octets = wires k.strings;
              whole = k.whole;
              before = record { strings = k.strings; read = k.read; short = k.short; joined = refl };
              within = omega (arith, k.fits);
              fault =
                  subst (λ n. IsStringFault room n k.token (cause e)) (zero-add (length (wires k.strings)))
                  (subst (λ x. IsStringFault room (0 + length (wires k.strings)) k.token (cause x)) same k.fault);
            }

    pub strings_leave : (tokens : List Token) → HasTokens next old tokens → LeavesOf next tokens r new
    strings_leave = leaves (StringStep cause room) next old [] h.answer new h.built h.taken r (ok_before _ h.answer r h.gives)
