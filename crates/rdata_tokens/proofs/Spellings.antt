-- A text is spelled in one way.
use Rattle.std.proofs.Common.{ℕ, ◌≡◌, true, List, [], ◌∷◌, ◌++◌, length, map, refl, sym, ap, ◌∙◌, arith, append_assoc, append-nil, length-append}
use Rattle.std.specs.List.{flat_map, list_all}
use Rattle.std.proofs.lemmas.Bool.{and_parts}
use Rattle.std.proofs.lemmas.List.{map-append}
use Rattle.std.proofs.lemmas.List.Folds.{list_all-append}
use Rattle.std.proofs.lemmas.Grind.{flat_map-append}
use Rattle.dns_symbol.specs.Symbol.{spell}
use Rattle.dns_symbol.specs.declared.symbol.Symbol.{Symbol}
use Rattle.dns_symbol.proofs.Spelled.{spell_some, spell_same}
use Rattle.dns_symbol.specs.Escape.{is_spelling, octet_for}
use Rattle.rdata_tokens.specs.Spelling.{SpellsBeginning, SpellsOctetList, BeginsBadEscape, SpellsToBadEscape}

abbrev pub AreSpellings : List Symbol → Type 0
AreSpellings symbols = list_all is_spelling symbols ≡ true

pub spellings_head : (s : Symbol) (ss : List Symbol) → AreSpellings (s ∷ ss) → is_spelling s ≡ true
spellings_head s ss h = (and_parts (is_spelling s) (list_all is_spelling ss) h).0

pub spellings_tail : (s : Symbol) (ss : List Symbol) → AreSpellings (s ∷ ss) → AreSpellings ss
spellings_tail s ss h = (and_parts (is_spelling s) (list_all is_spelling ss) h).1

pub spellings_append : (xs ys : List Symbol) → AreSpellings xs → AreSpellings ys → AreSpellings (xs ++ ys)
spellings_append xs ys h k = rw (list_all-append, h, k) refl

-- symbols that spell a text begin with those that spell its first part
pub symbols_go_on : (xs ys : List Symbol) (rest : List ℕ) → AreSpellings xs → AreSpellings ys → flat_map spell xs ++ rest ≡ flat_map spell ys
    → (zs : List Symbol) × AreSpellings zs × (ys ≡ xs ++ zs) × (rest ≡ flat_map spell zs)
symbols_go_on [] ys rest p q h = (ys, q, refl, h)
symbols_go_on (x ∷ xs) [] rest p q h =
    absurd (omega (arith, spell_some x, length-append (spell x ++ flat_map spell xs) rest, length-append (spell x) (flat_map spell xs), ap length h))
symbols_go_on (x ∷ xs) (y ∷ ys) rest p q h =
    let e = spell_same x y (flat_map spell xs ++ rest) (flat_map spell ys) (spellings_head x xs p) (spellings_head y ys q)
    (sym (append_assoc (spell x) (flat_map spell xs) rest) ∙ h) in
    let more = symbols_go_on xs ys rest (spellings_tail x xs p) (spellings_tail y ys q) e.1 in
    (more.0, more.1, (let f = e.0 in let g = more.2 in cc), more.3)

-- the octets that a text spells begin with those that its first part spells
pub goes_on : (text front rest octets : List ℕ) → SpellsBeginning text front rest → SpellsOctetList text octets
    → (more : List ℕ) × SpellsOctetList rest more × (octets ≡ front ++ more)
goes_on text front rest octets h k =
    let all = symbols_go_on h.symbols k.symbols rest h.each k.each (sym h.whole ∙ k.whole ∙ append-nil (flat_map spell k.symbols)) in (
      map octet_for all.0,
      record { symbols = all.0; each = all.1; whole = all.3 ∙ sym (append-nil (flat_map spell all.0)); octets_are = refl },
      k.octets_are ∙ ap (map octet_for) all.2 ∙ map-append octet_for h.symbols all.0 ∙ ap (λ x. x ++ map octet_for all.0) (sym h.octets_are),
    )

-- two first parts, one after the other
pub front_join : (text front rest octets after : List ℕ) → SpellsBeginning text front rest → SpellsBeginning rest octets after → SpellsBeginning text (front ++ octets) after
front_join text front rest octets after h k = record {
  symbols = h.symbols ++ k.symbols;
  each = spellings_append h.symbols k.symbols h.each k.each;
  whole = h.whole ∙ ap (λ x. flat_map spell h.symbols ++ x) k.whole ∙ sym (append_assoc (flat_map spell h.symbols) (flat_map spell k.symbols) after)
      ∙ ap (λ x. x ++ after) (sym (flat_map-append spell h.symbols k.symbols));
  octets_are = ap (λ x. x ++ octets) h.octets_are ∙ ap (λ x. map octet_for h.symbols ++ x) k.octets_are ∙ sym (map-append octet_for h.symbols k.symbols);
}

pub front_none : (text : List ℕ) → SpellsBeginning text [] text
front_none text = record { symbols = []; each = refl; whole = refl; octets_are = refl }

pub front_one : (s : Symbol) (text rest : List ℕ) → is_spelling s ≡ true → text ≡ spell s ++ rest → SpellsBeginning text (octet_for s ∷ []) rest
front_one s text rest h e = record {
  symbols = s ∷ [];
  each = rw h refl;
  whole = e ∙ ap (λ x. x ++ rest) (sym (append-nil (spell s)));
  octets_are = refl;
}

-- an empty text spells nothing
none_more : (octets : List ℕ) → SpellsOctetList [] octets → octets ≡ []
none_more octets h = none octets h.symbols h.whole h.octets_are
  where
    none : (octets : List ℕ) (symbols : List Symbol) → [] ≡ flat_map spell symbols ++ [] → octets ≡ map octet_for symbols → octets ≡ []
    none octets [] h e = e
    none octets (s ∷ ss) h e =
        absurd (omega (arith, spell_some s, ap length h, length-append (spell s ++ flat_map spell ss) [], length-append (spell s) (flat_map spell ss)))

pub spelled_once : (text a b : List ℕ) → SpellsOctetList text a → SpellsOctetList text b → a ≡ b
spelled_once text a b h k =
    let on = goes_on text a [] b h k in sym (on.2 ∙ ap (λ x. a ++ x) (none_more on.0 on.1) ∙ append-nil a)

-- a text with a bad escape spells no octets
pub none_spelled : (text front rest octets : List ℕ) → SpellsBeginning text front rest → BeginsBadEscape rest → SpellsOctetList text octets → ⊥
none_spelled text front rest octets h bad k =
    let on = goes_on text front rest octets h k in none on.1.symbols on.1.each on.1.whole
  where
    none : (symbols : List Symbol) → AreSpellings symbols → rest ≡ flat_map spell symbols ++ [] → ⊥
    none [] each e = absurd (omega (arith, bad.some, ap length e))
    none (s ∷ ss) each e = bad.none s (flat_map spell ss ++ []) (spellings_head s ss each) (e ∙ append_assoc (spell s) (flat_map spell ss) [])

pub has_bad_escape : (text front rest : List ℕ) → SpellsBeginning text front rest → BeginsBadEscape rest
    → SpellsToBadEscape text × ((octets : List ℕ) → ¬ SpellsOctetList text octets)
has_bad_escape text front rest h bad = ((front, rest, h, bad), λ octets k. none_spelled text front rest octets h bad k)
