-- Parsing tokens as character strings has one result.
use Rattle.std.proofs.Common.{ℕ, ◌≡◌, ◌<◌, ◌≤◌, ◌+◌, List, [], ◌∷◌, ◌++◌, length, map, refl, sym, ap, subst, ◌∙◌, arith, length-append, inl, inr, ⊎_elim, None, Result, Ok, Err, min}
use Rattle.std.specs.Prelude.{All, MatchResult}
use Rattle.std.specs.List.{concat, AllZip}
use Rattle.std.proofs.lemmas.List.Elements.{All-head, All-tail}
use Rattle.dns_octets.specs.Room.{Room, exactly, within}
use Rattle.dns_symbol.specs.declared.symbol.Symbol.{Symbol}
use Rattle.dns_symbol.specs.Symbol.{octet_of}
use Rattle.dns_symbol.specs.Printed.{symbol_of, is_unquoted_escape, is_quoted_escape}
use Rattle.dns_symbol.proofs.PrintedForms.{printed_symbols, printed_octets, quoted_form, unquoted_form}
use Rattle.dns_symbol.proofs.Unique.{symbols_same}
use Rattle.dns_charstr.specs.Reading.{HasOctets}
use Rattle.dns_charstr.specs.Wire.{wire_of}
use Rattle.dns_scan.specs.Answers.{FirstFault, IsSymbolFault}
use Rattle.dns_symbol.specs.Cause.{Cause, custom_text, short_buf}
use Rattle.dns_scan.specs.Octets.{ReturnsWhere, IsPrinted, quoted_token, unquoted_token}
use Rattle.dns_scan.specs.Steps.{step_octet, bad_or}
use Rattle.dns_scan.specs.Strings.{AnswersStrings, IsStringFault}
use Rattle.dns_scan.specs.Tokens.{Token}
use Rattle.dns_scan.proofs.OneAnswer.{one_reading, same_parts}
use Rattle.dns_scan.proofs.StringRuns.{Short, wires}

-- octets one by one
abbrev ones : List ℕ → List (List ℕ)
ones = map (λ o. o ∷ [])

concat_ones : (os : List ℕ) → concat (ones os) ≡ os
concat_ones [] = refl
concat_ones (o ∷ os) = ap (λ l. o ∷ l) (concat_ones os)

given_ones : (symbols : List Symbol) (os : List ℕ) → map octet_of symbols ≡ map Ok os → map step_octet symbols ≡ map Ok (ones os)
given_ones [] [] e = refl
given_ones [] (o ∷ os) e = cc
given_ones (x ∷ xs) [] e = cc
given_ones (x ∷ xs) (o ∷ os) e =
    let first : octet_of x ≡ Ok o = cc in
    let others : map octet_of xs ≡ map Ok os = cc in
    λ i. bad_or (λ n. n ∷ []) (first i) ∷ given_ones xs os others i

module _ (given : Symbol → Result (List ℕ) (List ℕ)) (room : Room) where
  -- the octets of the symbols after others
  passed : (front rest : List Symbol) (before parts : List (List ℕ)) → map given front ≡ map Ok before → map given (front ++ rest) ≡ map Ok parts
      → (after : List (List ℕ)) × (map given rest ≡ map Ok after) × (length (concat parts) ≡ length (concat before) + length (concat after))
  passed [] rest [] parts e f = (parts, f, omega arith)
  passed [] rest (b ∷ bs) parts e f = cc
  passed (x ∷ xs) rest [] parts e f = cc
  passed (x ∷ xs) rest (b ∷ bs) [] e f = cc
  passed (x ∷ xs) rest (b ∷ bs) (p ∷ ps) e f =
      let one : given x ≡ Ok b = cc in
      let other : given x ≡ Ok p = cc in
      let same : b ≡ p = cc (one, other) in
      let more = passed xs rest bs ps (let others : map given xs ≡ map Ok bs = cc in others) (let others : map given (xs ++ rest) ≡ map Ok ps = cc in others) in
      (more.0, more.1, omega (arith, more.2, ap length same, length-append b (concat bs), length-append p (concat ps)))

  no_room : (rest : List Symbol) (after : List (List ℕ)) (count : ℕ) (why : Cause) → map given rest ≡ map Ok after → IsSymbolFault given room count rest None why
      → (why ≡ short_buf) × (room.fits < count + length (concat after))
  no_room [] after count why e h = absurd h
  no_room (x ∷ xs) [] count why e h = cc
  no_room (x ∷ xs) (o ∷ after) count why e h =
      let first : given x ≡ Ok o = cc in
      let fault = subst (λ q. MatchResult q (λ o. (room.fits < count + length o) × (why ≡ short_buf)) (λ text. why ≡ custom_text text)) first h in
      (fault.1, omega (arith, fault.0, length-append o (concat after)))

  -- if all symbols have octets, only capacity can be lacking
  fault_given : (symbols : List Symbol) (parts : List (List ℕ)) (why : Cause) → map given symbols ≡ map Ok parts → FirstFault given room symbols None why
      → (why ≡ short_buf) × (room.fits < length (concat parts))
  fault_given symbols parts why e h =
      let split = passed h.front h.rest h.parts parts h.gives (ap (map given) (sym h.whole) ∙ e) in
      let short = no_room h.rest split.0 (length (concat h.parts)) why split.1 h.fault in
      (short.0, omega (arith, short.1, split.2))

-- a token has one list of octets
given_same : (symbols : List Symbol) (a b : List ℕ) → map step_octet symbols ≡ map Ok (ones a) → map step_octet symbols ≡ map Ok (ones b) → a ≡ b
given_same symbols a b h k = sym (concat_ones a) ∙ ap concat (same_parts step_octet 0 symbols (ones a) (ones b) h k) ∙ concat_ones b

octets_same : (t : Token) (a b : List ℕ) → HasOctets t a → HasOctets t b → a ≡ b
octets_same t a b h k =
    let same = symbols_same t h.symbols k.symbols None None h.read k.read in
    given_same k.symbols a b (subst (λ ss. map step_octet ss ≡ map Ok (ones a)) same.0 (given_ones h.symbols a h.octets_are)) (given_ones k.symbols b k.octets_are)

pub strings_same : (tokens : List Token) (a b : List (List ℕ)) → AllZip HasOctets tokens a → AllZip HasOctets tokens b → a ≡ b
strings_same [] [] [] h k = refl
strings_same [] [] (y ∷ b) h k = absurd k
strings_same [] (x ∷ a) b h k = absurd h
strings_same (t ∷ ts) [] b h k = absurd h
strings_same (t ∷ ts) (x ∷ a) [] h k = absurd k
strings_same (t ∷ ts) (x ∷ a) (y ∷ b) h k = λ i. octets_same t x y h.0 k.0 i ∷ strings_same ts a b h.1 k.1 i

-- a printed text has its octets
printed_read : (tokens : List Token) (strings : List (List ℕ)) → AllZip IsPrinted tokens strings → All (All (λ o. o < 256)) strings → AllZip HasOctets tokens strings
printed_read [] [] z b = tt
printed_read [] (s ∷ ss) z b = absurd z
printed_read (t ∷ ts) [] z b = absurd z
printed_read (t ∷ ts) (s ∷ ss) z b = (
  ⊎_elim (λ is. subst (λ l. HasOctets l s) (sym is) unquoted) (λ is. subst (λ l. HasOctets l s) (sym is) quoted) z.0,
  printed_read ts ss z.1 (All-tail (All (λ o. o < 256)) s ss b),
)
  where
    bytes : All (λ o. o < 256) s
    bytes = All-head (All (λ o. o < 256)) s ss b

    unquoted : HasOctets (unquoted_token s) s
    unquoted = record { symbols = map (symbol_of is_unquoted_escape) s; read = printed_symbols is_unquoted_escape unquoted_form s bytes; octets_are = printed_octets is_unquoted_escape s }

    quoted : HasOctets (quoted_token s) s
    quoted = record { symbols = map (symbol_of is_quoted_escape) s; read = printed_symbols is_quoted_escape quoted_form s bytes; octets_are = printed_octets is_quoted_escape s }

module _ (room : Room) where
  -- a character string fails only with `ShortBuf`
  pub string_fault : (t : Token) (o : List ℕ) (count : ℕ) (why : Cause) → HasOctets t o → Short o → IsStringFault room count t why → (why ≡ short_buf) × (room.fits < count + length (wire_of o))
  string_fault t o count why has short (inl h) =
      let same = symbols_same t h.0 has.symbols h.1 None h.2 has.read in
      let fault : FirstFault step_octet (within 255 room) has.symbols None why =
      subst (λ ss. FirstFault step_octet (within 255 room) ss None why) same.0 (subst (λ e. FirstFault step_octet (within 255 room) h.0 e why) same.1 h.3) in
      let no = fault_given step_octet (within 255 room) has.symbols (ones o) why (given_ones has.symbols o has.octets_are) fault in
      (no.0, less (length (concat (ones o))) (ap length (concat_ones o)) no.1)
    where
      less : (n : ℕ) → n ≡ length o → min room.fits 255 < n → room.fits < count + length (wire_of o)
      less n is k = omega (arith, is, k, short)
  string_fault t o count why has short (inr h) =
      let same = symbols_same t h.1.0 has.symbols h.1.1 None h.1.2 has.read in
      let given = h.1.3 in
      let gives : map step_octet has.symbols ≡ map Ok given.parts = subst (λ ss. map step_octet ss ≡ map Ok given.parts) same.0 given.gives in
      let parts = same_parts step_octet 0 has.symbols given.parts (ones o) gives (given_ones has.symbols o has.octets_are) in
      let is : h.0 ≡ o = given.joined ∙ ap concat parts ∙ concat_ones o in
      (h.2, omega (arith, h.3, ap length is))

  -- the strings before a token, its own, and those after it
  pub cut_at : (front : List Token) (t : Token) (rest : List Token) (strings : List (List ℕ)) → AllZip HasOctets (front ++ t ∷ rest) strings → All Short strings
      → (before : List (List ℕ)) × (s : List ℕ) × AllZip HasOctets front before × HasOctets t s × Short s × (length (wires before) + length (wire_of s) ≤ length (wires strings))
  cut_at [] t rest [] z short = absurd z
  cut_at [] t rest (s ∷ ss) z short = ([], s, tt, z.0, All-head Short s ss short, omega (arith, length-append (wire_of s) (wires ss)))
  cut_at (x ∷ xs) t rest [] z short = absurd z
  cut_at (x ∷ xs) t rest (s ∷ ss) z short =
      let more = cut_at xs t rest ss z.1 (All-tail Short s ss short) in
      (s ∷ more.0, more.1, (z.0, more.2), more.3, more.4, omega (arith, more.5, length-append (wire_of s) (wires ss), length-append (wire_of s) (wires more.0)))

  -- tokens that are character strings are parsed as their wire formats, or fail with "short buffer"
  pub strings_whole : {O E : Type 0} (cause : E → Cause) (value : O → List ℕ) (tokens : List Token) (strings : List (List ℕ)) (r : Result O E) (rest : List Token)
      → AllZip HasOctets tokens strings → All Short strings → AnswersStrings room cause value tokens r rest → ReturnsWhere cause value room (wires strings) r
  strings_whole cause value tokens strings (Ok x) rest read short h = inl (h.0.joined ∙ ap wires (strings_same tokens h.0.strings strings h.0.read read))
  strings_whole cause value tokens strings (Err e) rest read short h =
      let cut = cut_at h.front h.token rest strings (subst (λ (l : List Token). AllZip HasOctets l strings) h.whole read) short in
      let same = strings_same h.front h.before.strings cut.0 h.before.read cut.2 in
      let no = string_fault h.token cut.1 (length h.octets) (cause e) cut.3 cut.4 h.fault in
      inr (no.0, omega (arith, no.1, cut.5, ap length h.before.joined, ap (λ l. length (wires l)) same))

  pub strings_printed : {O E : Type 0} (cause : E → Cause) (value : O → List ℕ) (tokens : List Token) (strings : List (List ℕ)) (r : Result O E) (rest : List Token)
      → AllZip IsPrinted tokens strings → All (All (λ o. o < 256)) strings → All Short strings → AnswersStrings room cause value tokens r rest → ReturnsWhere cause value room (wires strings) r
  strings_printed cause value tokens strings r rest printed bytes short h = strings_whole cause value tokens strings r rest (printed_read tokens strings printed bytes) short h

-- if the capacity is known exactly, parsing tokens has one result
module _ (size : ℕ) where
  one_fault : (count : ℕ) (t : Token) (a b : Cause) → IsStringFault (exactly size) count t a → IsStringFault (exactly size) count t b → a ≡ b
  one_fault count t a b (inl h) (inl k) = let same = one_reading (min size 255) t (Err a) (Err b) h k in cc
  one_fault count t a b (inl h) (inr k) = let same = one_reading (min size 255) t (Err a) (Ok k.0) h k.1 in cc
  one_fault count t a b (inr h) (inl k) = let same = one_reading (min size 255) t (Ok h.0) (Err b) h.1 k in cc
  one_fault count t a b (inr h) (inr k) = h.2 ∙ sym k.2

  -- no other error precedes a first error
  first_of_two : (front back : List Token) (t u : Token) (rest others : List Token) (before between : List (List ℕ)) (count : ℕ) (a b : Cause) → front ++ t ∷ rest ≡ back ++ u ∷ others
      → AllZip HasOctets front before → AllZip HasOctets back between → All Short before → All Short between → count + length (wires before) ≤ size → count + length (wires between) ≤ size
      → IsStringFault (exactly size) (count + length (wires before)) t a → IsStringFault (exactly size) (count + length (wires between)) u b → (a ≡ b) × (rest ≡ others)
  first_of_two [] [] t u rest others [] [] count a b e z y short small fits room_for h k =
      let same : t ≡ u = cc in
      (one_fault (count + 0) u a b (subst (λ x. IsStringFault (exactly size) (count + 0) x a) same h) k, cc)
  first_of_two [] [] t u rest others (s ∷ ss) between count a b e z y short small fits room_for h k = absurd z
  first_of_two [] [] t u rest others [] (s ∷ ss) count a b e z y short small fits room_for h k = absurd y
  first_of_two [] (x ∷ xs) t u rest others (s ∷ ss) between count a b e z y short small fits room_for h k = absurd z
  first_of_two [] (x ∷ xs) t u rest others [] [] count a b e z y short small fits room_for h k = absurd y
  first_of_two [] (x ∷ xs) t u rest others [] (s ∷ ss) count a b e z y short small fits room_for h k =
      let same : x ≡ t = cc in
      let no = string_fault (exactly size) t s (count + 0) a (subst (λ l. HasOctets l s) same y.0) (All-head Short s ss small) h in
      absurd (omega (arith, no.1, room_for, length-append (wire_of s) (wires ss)))
  first_of_two (x ∷ xs) [] t u rest others [] between count a b e z y short small fits room_for h k = absurd z
  first_of_two (x ∷ xs) [] t u rest others (s ∷ ss) (o ∷ os) count a b e z y short small fits room_for h k = absurd y
  first_of_two (x ∷ xs) [] t u rest others (s ∷ ss) [] count a b e z y short small fits room_for h k =
      let same : x ≡ u = cc in
      let no = string_fault (exactly size) u s (count + 0) b (subst (λ l. HasOctets l s) same z.0) (All-head Short s ss short) k in
      absurd (omega (arith, no.1, fits, length-append (wire_of s) (wires ss)))
  first_of_two (x ∷ xs) (v ∷ vs) t u rest others [] between count a b e z y short small fits room_for h k = absurd z
  first_of_two (x ∷ xs) (v ∷ vs) t u rest others (s ∷ ss) [] count a b e z y short small fits room_for h k = absurd y
  first_of_two (x ∷ xs) (v ∷ vs) t u rest others (s ∷ ss) (o ∷ os) count a b e z y short small fits room_for h k =
      let first : x ≡ v = cc in
      let tails : xs ++ t ∷ rest ≡ vs ++ u ∷ others = cc in
      let same : o ≡ s = octets_same v o s y.0 (subst (λ l. HasOctets l s) first z.0) in
      let count_h : count + length (wires (s ∷ ss)) ≡ count + length (wire_of s) + length (wires ss) = omega (arith, length-append (wire_of s) (wires ss)) in
      let count_k : count + length (wires (o ∷ os)) ≡ count + length (wire_of s) + length (wires os) = omega (arith, length-append (wire_of o) (wires os), ap length same) in
      first_of_two xs vs t u rest others ss os (count + length (wire_of s)) a b tails z.1 y.1 (All-tail Short s ss short) (All-tail Short o os small)
      (omega (arith, fits, count_h)) (omega (arith, room_for, count_k))
      (subst (λ n. IsStringFault (exactly size) n t a) count_h h) (subst (λ n. IsStringFault (exactly size) n u b) count_k k)

  not_both : (tokens : List Token) (a : List ℕ) (e : Cause) (rest others : List Token) → AnswersStrings (exactly size) (λ why. why) (λ s. s) tokens (Ok a) rest
      → AnswersStrings (exactly size) (λ why. why) (λ s. s) tokens (Err e) others → ⊥
  not_both tokens a e rest others h k =
      by (strings_whole (exactly size) (λ why. why) (λ s. s) tokens h.0.strings (Err e) others h.0.read h.0.short k)
    where
      by : ReturnsWhere {O = List ℕ} (λ why. why) (λ s. s) (exactly size) (wires h.0.strings) (Err e) → ⊥
      by (inl is) = absurd is
      by (inr is) = omega (arith, is.1, h.1, ap length h.0.joined)

  pub one_entry : (tokens : List Token) (q r : Result (List ℕ) Cause) (rest others : List Token) → AnswersStrings (exactly size) (λ why. why) (λ s. s) tokens q rest
      → AnswersStrings (exactly size) (λ why. why) (λ s. s) tokens r others → (q ≡ r) × (rest ≡ others)
  one_entry tokens (Ok a) (Ok b) rest others h k =
      (ap (λ o. Ok o) (h.0.joined ∙ ap wires (strings_same tokens h.0.strings k.0.strings h.0.read k.0.read) ∙ sym k.0.joined), h.2 ∙ sym k.2)
  one_entry tokens (Ok a) (Err e) rest others h k = absurd (not_both tokens a e rest others h k)
  one_entry tokens (Err d) (Ok b) rest others h k = absurd (not_both tokens b d others rest k h)
  one_entry tokens (Err d) (Err e) rest others h k =
      let same = first_of_two h.front k.front h.token k.token rest others h.before.strings k.before.strings 0 d e (sym h.whole ∙ k.whole) h.before.read k.before.read h.before.short k.before.short
      (omega (arith, h.within, ap length h.before.joined)) (omega (arith, k.within, ap length k.before.joined))
      (subst (λ n. IsStringFault (exactly size) n h.token d) (omega (arith, ap length h.before.joined)) h.fault)
      (subst (λ n. IsStringFault (exactly size) n k.token e) (omega (arith, ap length k.before.joined)) k.fault) in
      (ap (λ w. Err w) same.0, same.1)
