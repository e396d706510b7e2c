-- Parsing a text of octets returns them if they fit, and has at most one result.
use Rattle.std.proofs.Common.{◌≡◌, ℕ, ◌<◌, ◌≤◌, ◌⊎◌, true, false, List, [], length, refl, sym, ap, ◌∙◌, arith, Option, Some, None, Result, Ok, Err, inl, inr, ⊎_elim}
use Rattle.std.specs.Prelude.{nat_lt, ◌&&◌, if◌then◌else◌}
use Rattle.std.proofs.lemmas.Bool.Decides.{nat_tests}
use Rattle.dns_octets.specs.Room.{Room, exactly}
use Rattle.dns_symbol.specs.Text.{chars_error}
use Rattle.dns_symbol.specs.declared.error.SymbolCharsError.{SymbolCharsError}
use Rattle.dns_charstr.specs.OctetText.{SpellsOctets, ReadsOctetText}
use Rattle.dns_charstr.specs.declared.charstr.error.FromStrError.{FromStrError}
use Rattle.dns_charstr.specs.declared.charstr.error.FromStrError.TheVariants.{Presentation, ShortBuf}
use Rattle.dns_charstr.specs.declared.charstr.error.PresentationError.TheVariants.{LongString, SymbolChars, BadSymbol as Bad}
use Rattle.dns_charstr.proofs.OctetSpellings.{spells_one, spells_longer, spells_all, empty_none, OctetsEnd, end_stops, AllOf}

-- a text that is all spelled octets is parsed as these, or they exceed the guaranteed capacity
pub octets_or_short : (room : Room) (text octets : List ℕ) (r : Result (List ℕ) FromStrError) → ReadsOctetText room text r → SpellsOctets text octets []
    → length octets ≤ 255 → (r ≡ Ok octets) ⊎ ((r ≡ Err ShortBuf) × (room.fits < length octets))
octets_or_short room text octets (Ok os) h whole short = inl (ap Ok (spells_one text os octets h.0 whole))
octets_or_short room text octets (Err (Presentation (SymbolChars e))) h whole short =
    let same = spells_all h.0 octets text h.1.rest [] h.1.front whole empty_none h.1.stops.none in
    absurd (omega (arith, h.1.stops.some, ap length same.1))
octets_or_short room text octets (Err (Presentation LongString)) h whole short =
    absurd (omega (arith, spells_longer h.0 octets text h.1.rest [] h.1.after h.1.next h.1.front whole empty_none h.1.goes_on, h.2, short))
octets_or_short room text octets (Err (Presentation (Bad e))) h whole short = absurd h
octets_or_short room text octets (Err ShortBuf) h whole short =
    inr (refl, omega (arith, spells_longer h.0 octets text h.1.rest [] h.1.after h.1.next h.1.front whole empty_none h.1.goes_on, h.4))

-- so it is parsed if its octets fit the guaranteed capacity
pub octets_are_read : (room : Room) (text octets : List ℕ) (r : Result (List ℕ) FromStrError) → ReadsOctetText room text r → SpellsOctets text octets []
    → length octets ≤ room.fits → length octets ≤ 255 → r ≡ Ok octets
octets_are_read room text octets r h whole fits short =
    ⊎_elim (λ is. is) (λ none. absurd (omega (arith, none.1, fits))) (octets_or_short room text octets r h whole short)

abbrev ended : List ℕ → Option SymbolCharsError → Result (List ℕ) FromStrError
ended octets None = Ok octets
ended octets (Some e) = Err (Presentation (SymbolChars e))

-- the result for all that a text spells, if `size` octets fit
abbrev answer : ℕ → List ℕ → Option SymbolCharsError → Result (List ℕ) FromStrError
answer size octets error = if nat_lt size 255 && nat_lt size (length octets) then Err ShortBuf else (if nat_lt 255 (length octets) then Err (Presentation LongString) else ended octets error)

module _ (size : ℕ) where
  all_fit : (octets : List ℕ) (error : Option SymbolCharsError) → length octets ≤ 255 → length octets ≤ size → answer size octets error ≡ ended octets error
  all_fit octets error short fits =
      let a : (nat_lt size 255 && nat_lt size (length octets)) ≡ false = grind (arith, nat_tests) in
      let b : nat_lt 255 (length octets) ≡ false = grind (arith, nat_tests) in
      rw (a, b) refl

  too_long : (octets : List ℕ) (error : Option SymbolCharsError) → 255 < length octets → 255 ≤ size → answer size octets error ≡ Err (Presentation LongString)
  too_long octets error long fits =
      let a : (nat_lt size 255 && nat_lt size (length octets)) ≡ false = grind (arith, nat_tests) in
      let b : nat_lt 255 (length octets) ≡ true = grind (arith, nat_tests) in
      rw (a, b) refl

  no_room : (octets : List ℕ) (error : Option SymbolCharsError) → size < length octets → size < 255 → answer size octets error ≡ Err ShortBuf
  no_room octets error lacks small =
      let a : (nat_lt size 255 && nat_lt size (length octets)) ≡ true = grind (arith, nat_tests) in
      rw a refl

  same_error : (end rest : List ℕ) (error : Option SymbolCharsError) (e : SymbolCharsError) → OctetsEnd end error → 0 < length rest → rest ≡ end → e ≡ chars_error rest → error ≡ Some e
  same_error end rest None e h some is why = absurd (omega (arith, some, ap length is, ap length h))
  same_error end rest (Some f) e h some is why = let why_too = h.why in ap Some (why_too ∙ ap chars_error (sym is) ∙ sym why)

  answers : (text : List ℕ) → (all : AllOf text) → (r : Result (List ℕ) FromStrError) → ReadsOctetText (exactly size) text r → answer size all.octets all.error ≡ r
  answers text all (Ok os) h =
      let stop = end_stops all.end all.error all.ends in
      let same = spells_all os all.octets text [] all.end h.0 all.spelled stop empty_none in
      let none : all.error ≡ None = no_error all.end all.error all.ends same.1 in
      (λ i. answer size (same.0 i) (none i)) ∙ all_fit os None h.1 h.2
    where
      no_error : (end : List ℕ) (error : Option SymbolCharsError) → OctetsEnd end error → [] ≡ end → error ≡ None
      no_error end None k is = refl
      no_error end (Some f) k is = absurd (omega (arith, k.some, ap length is))
  answers text all (Err (Presentation (SymbolChars e))) h =
      let stop = end_stops all.end all.error all.ends in
      let same = spells_all h.0 all.octets text h.1.rest all.end h.1.front all.spelled stop h.1.stops.none in
      let is : all.error ≡ Some e = same_error all.end h.1.rest all.error e all.ends h.1.stops.some same.1 h.1.stops.why in
      (λ i. answer size (same.0 i) (is i)) ∙ all_fit h.0 (Some e) h.2 h.3
  answers text all (Err (Presentation LongString)) h =
      let stop = end_stops all.end all.error all.ends in
      let more = spells_longer h.0 all.octets text h.1.rest all.end h.1.after h.1.next h.1.front all.spelled stop h.1.goes_on in
      too_long all.octets all.error (omega (arith, more, h.2)) (omega (arith, h.2, h.3))
  answers text all (Err (Presentation (Bad e))) h = absurd h
  answers text all (Err ShortBuf) h =
      let stop = end_stops all.end all.error all.ends in
      let more = spells_longer h.0 all.octets text h.1.rest all.end h.1.after h.1.next h.1.front all.spelled stop h.1.goes_on in
      no_room all.octets all.error (omega (arith, more, h.3, h.4)) (omega (arith, h.2, h.3, h.4))

  -- two answers are one
  pub one_answer_of_octets : (text : List ℕ) → AllOf text → (q r : Result (List ℕ) FromStrError) → ReadsOctetText (exactly size) text q → ReadsOctetText (exactly size) text r → q ≡ r
  one_answer_of_octets text all q r h k = sym (answers text all q h) ∙ answers text all r k
