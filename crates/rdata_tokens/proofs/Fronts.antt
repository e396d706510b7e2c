-- What a text spells first, and what is appended of it.
use Rattle.std.proofs.Common.{ℕ, zero, suc, ◌≡◌, ◌+◌, ◌-◌, ◌<◌, ◌≤◌, true, false, List, [], ◌∷◌, ◌++◌, length, map, take, drop, get_or, refl, sym, ap, subst, ◌∙◌, arith, Ok, append_assoc, length-append, inl, inr}
use Rattle.std.specs.Prelude.{IsTrue}
use Rattle.std.specs.List.{flat_map}
use Rattle.std.proofs.lemmas.Bool.Decides.{nat_tests}
use Rattle.std.proofs.lemmas.List.{take_all, length-drop}
use Rattle.dns_octets.specs.Room.{Room}
use Rattle.dns_octets.specs.Appending.{ExceedsRoom}
use Rattle.dns_symbol.specs.Symbol.{spell}
use Rattle.dns_symbol.specs.declared.escape.EscapedOctet.{EscapedOctet}
use Rattle.dns_symbol.specs.declared.escape.EscapeRule.TheVariants.{AnyOctet}
use Rattle.dns_symbol.specs.declared.symbol.Symbol.{Symbol}
use Rattle.dns_symbol.specs.declared.symbol.Symbol.TheVariants.{Char}
use Rattle.dns_symbol.specs.Escape.{ReadsEscape, escape_symbol, is_spelling, octet_for}
use Rattle.rdata_tokens.specs.Spelling.{SpellsBeginning, SpellsOctetList, BeginsWithOctets, BeginsAfterCount, RefusesOctets, RefusesAfterCount}
use Rattle.rdata_values.specs.declared.error.ErrorKind.{ErrorKind}
use Rattle.rdata_values.specs.declared.error.ErrorKind.TheVariants.{BadEscape, ShortBuf}
use Rattle.dns_symbol.proofs.Spelled.{escape_spelling, escaped_octet_is, spell_some}
use Rattle.rdata_tokens.proofs.Spellings.{AreSpellings, front_none, front_one, front_join, goes_on}

plain_spelling : (o : ℕ) → (o ≡ 92 → ⊥) → is_spelling (Char o) ≡ true
plain_spelling o h = grind (arith, nat_tests)

-- all of a rest
all_of : (xs : List ℕ) (n : ℕ) → n ≡ length xs → take n xs ≡ xs
all_of xs n h = take_all n xs (omega arith)

pub plain_front : (text : List ℕ) → 0 < length text → (get_or text 0 0 ≡ 92 → ⊥) → SpellsBeginning text (get_or text 0 0 ∷ []) (take (length text - 1) (drop 1 text))
plain_front [] some h = absurd (omega arith)
plain_front (x ∷ xs) some h = front_one (Char x) (x ∷ xs) _ (plain_spelling x h) (ap (λ r. x ∷ r) (sym (all_of xs _ (omega arith))))

pub escape_front : (text : List ℕ) (e : EscapedOctet) (n : ℕ) → n ≡ length (spell (escape_symbol e)) → ReadsEscape AnyOctet text (Ok e)
    → SpellsBeginning text (e.octet ∷ []) (take (length text - n) (drop n text))
escape_front text e n same h =
    let s : Symbol = escape_symbol e in
    let rest : drop (length (spell s)) text ≡ take (length text - n) (drop n text) = ap (λ k. drop k text) (sym same) ∙ sym (all_of (drop n text) _ (simp length-drop refl)) in
    subst (λ o. SpellsBeginning text (o ∷ []) (take (length text - n) (drop n text))) (escaped_octet_is e)
    (front_one s text _ (escape_spelling s h.0) (h.1 ∙ ap (λ r. spell s ++ r) rest))

-- octets that are no backslash spell themselves
run_spelled : (text : List ℕ) (n : ℕ) → ((k : ℕ) → k < n → get_or text k 0 ≡ 92 → ⊥) → n ≤ length text
    → (symbols : List Symbol) × AreSpellings symbols × (text ≡ flat_map spell symbols ++ drop n text) × (take n text ≡ map octet_for symbols)
run_spelled text zero h fits = ([], refl, refl, refl)
run_spelled [] (suc n) h fits = absurd (omega arith)
run_spelled (x ∷ xs) (suc n) h fits =
    let more = run_spelled xs n (λ k lt. h (suc k) (omega arith)) (omega arith) in
    let own = plain_spelling x (h zero (omega arith)) in (
      Char x ∷ more.0,
      rw (own, more.1) refl,
      ap (λ r. x ∷ r) more.2,
      ap (λ r. x ∷ r) more.3,
    )

pub run_front : (text : List ℕ) (n : ℕ) → ((k : ℕ) → k < n → get_or text k 0 ≡ 92 → ⊥) → n ≤ length text
    → SpellsBeginning text (take n text) (take (length text - n) (drop n text))
run_front text n h fits =
    let run = run_spelled text n h fits in
    record {
      symbols = run.0;
      each = run.1;
      whole = run.2 ∙ ap (λ r. flat_map spell run.0 ++ r) (sym (all_of (drop n text) _ (simp length-drop refl)));
      octets_are = run.3;
    }

-- an octet is spelled by at least one octet of the text
spellings_length : (symbols : List Symbol) → length (map octet_for symbols) ≤ length (flat_map spell symbols)
spellings_length [] = omega arith
spellings_length (s ∷ ss) = omega (arith, spellings_length ss, spell_some s, length-append (spell s) (flat_map spell ss))

pub front_length : (text front rest : List ℕ) → SpellsBeginning text front rest → length front + length rest ≤ length text
front_length text front rest h =
    omega (arith, spellings_length h.symbols, ap length h.octets_are, ap length h.whole, length-append (flat_map spell h.symbols) rest)

pub count_more : (text front rest after : List ℕ) (o count : ℕ) → SpellsBeginning text front rest → SpellsBeginning rest (o ∷ []) after → count ≡ length front
    → count + length rest ≤ length text
    → (octets : List ℕ) × SpellsBeginning text octets after × (count + 1 ≡ length octets) × (count + 1 + length after ≤ length text)
count_more text front rest after o count h k e fits =
    (front ++ o ∷ [], front_join text front rest (o ∷ []) after h k, omega (arith, e, length-append front (o ∷ [])), omega (arith, fits, front_length rest (o ∷ []) after k))

pub appended_more : (text old front rest run after middle new : List ℕ) → SpellsBeginning text front rest → middle ≡ old ++ front
    → SpellsBeginning rest run after → new ≡ middle ++ run → (octets : List ℕ) × SpellsBeginning text octets after × (new ≡ old ++ octets)
appended_more text old front rest run after middle new h e k f =
    (front ++ run, front_join text front rest run after h k, f ∙ ap (λ x. x ++ run) e ∙ append_assoc old front run)

-- octets that don't fit, with those before them
pub exceeds_front : (room : Room) (text old front rest run after middle : List ℕ) → SpellsBeginning text front rest → middle ≡ old ++ front
    → SpellsBeginning rest run after → (length run ≤ room.fits - length middle → IsTrue false) → ExceedsRoom room (BeginsWithOctets text) old
exceeds_front room text old front rest run after middle h e k short =
    let full : length run ≤ room.fits - length middle → ⊥ = (λ p. let q = short p in cc) in
    let sum = length-append front run in
    let all = ap length e ∙ length-append old front in
    (front ++ run, (after, front_join text front rest run after h k, omega (arith, full, sum)), omega (arith, full, sum, all))

-- the count alone doesn't fit
pub exceeds_count : (room : Room) (count : ℕ) (text old : List ℕ) → (1 ≤ room.fits - length old → IsTrue false) → ExceedsRoom room (BeginsAfterCount count text) old
exceeds_count room count text old short =
    let full : 1 ≤ room.fits - length old → ⊥ = (λ p. let q = short p in cc) in
    (count ∷ [], record { octets = []; rest = text; spelled = front_none text; whole = refl }, omega (arith, full))

-- octets are rejected after their count
pub refused_counted : (room : Room) (count : ℕ) (text old middle : List ℕ) (e : ErrorKind) → middle ≡ old ++ count ∷ [] → RefusesOctets room text middle e → RefusesAfterCount count room text old e
refused_counted room count text old middle BadEscape is h = inl (refl, h)
refused_counted room count text old middle ShortBuf is h =
    let sum = ap length is ∙ length-append old (count ∷ []) in
    inr (refl, (count ∷ h.0, record { octets = h.0; rest = h.1.0; spelled = h.1.1; whole = refl }, omega (arith, sum, h.2)))
refused_counted room count text old middle other is h = absurd h

-- the octets of a beginning are no more than those of the whole text
pub fewer_spelled : (text front rest octets : List ℕ) → SpellsBeginning text front rest → SpellsOctetList text octets → length front ≤ length octets
fewer_spelled text front rest octets h k =
    let on = goes_on text front rest octets h k in omega (arith, ap length on.2, length-append front on.0)
