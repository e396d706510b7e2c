-- Two beginnings of a text.
use Rattle.std.proofs.Common.{ℕ, ◌≡◌, ◌⊎◌, List, [], ◌∷◌, ◌++◌, length, map, refl, sym, ap, subst, ◌∙◌, inl, inr, arith, append_assoc, append-nil, length-append}
use Rattle.std.specs.List.{flat_map}
use Rattle.std.proofs.lemmas.List.{append_cancel_left, map-append}
use Rattle.std.proofs.lemmas.Grind.{flat_map-append}
use Rattle.dns_symbol.specs.Symbol.{spell}
use Rattle.dns_symbol.specs.declared.symbol.Symbol.{Symbol}
use Rattle.dns_symbol.specs.Escape.{octet_for}
use Rattle.dns_symbol.proofs.Spelled.{spell_some, spell_same}
use Rattle.rdata_tokens.specs.Spelling.{BeginsBadEscape, SpellsBeginning}
use Rattle.rdata_tokens.proofs.Spellings.{AreSpellings, spellings_append, spellings_head, spellings_tail}

-- of two lists of symbols that a text begins with, one begins with the other
symbols_either : (xs ys : List Symbol) (r s : List ℕ) → AreSpellings xs → AreSpellings ys → flat_map spell xs ++ r ≡ flat_map spell ys ++ s
    → ((zs : List Symbol) × AreSpellings zs × (ys ≡ xs ++ zs) × (r ≡ flat_map spell zs ++ s)) ⊎ ((zs : List Symbol) × AreSpellings zs × (xs ≡ ys ++ zs) × (s ≡ flat_map spell zs ++ r))
symbols_either [] ys r s p q h = inl (ys, q, refl, h)
symbols_either (x ∷ xs) [] r s p q h = inr (x ∷ xs, p, refl, sym h)
symbols_either (x ∷ xs) (y ∷ ys) r s p q h =
    let e = spell_same x y (flat_map spell xs ++ r) (flat_map spell ys ++ s) (spellings_head x xs p) (spellings_head y ys q)
    (sym (append_assoc (spell x) (flat_map spell xs) r) ∙ h ∙ append_assoc (spell y) (flat_map spell ys) s) in
    elim (symbols_either xs ys r s (spellings_tail x xs p) (spellings_tail y ys q) e.1) [
      | inl m ↦ inl (m.0, m.1, (let f = e.0 in let g = m.2 in cc), m.3)
      | inr m ↦ inr (m.0, m.1, (let f = e.0 in let g = m.2 in cc), m.3)
    ]

-- a longer beginning of a text is a shorter one, and more after it
abbrev pub FrontGoesOn : List ℕ → List ℕ → List ℕ → List ℕ → Type 0
FrontGoesOn a r b s = (more : List ℕ) × SpellsBeginning r more s × (b ≡ a ++ more)

longer_front : (text a b r s : List ℕ) (h : SpellsBeginning text a r) (k : SpellsBeginning text b s) (zs : List Symbol) → AreSpellings zs → k.symbols ≡ h.symbols ++ zs → r ≡ flat_map spell zs ++ s → FrontGoesOn a r b s
longer_front text a b r s h k zs each is rest = (
  map octet_for zs,
  record { symbols = zs; each = each; whole = rest; octets_are = refl },
  k.octets_are ∙ ap (map octet_for) is ∙ map-append octet_for h.symbols zs ∙ ap (λ x. x ++ map octet_for zs) (sym h.octets_are),
)

pub either_front : (text a b r s : List ℕ) → SpellsBeginning text a r → SpellsBeginning text b s → FrontGoesOn a r b s ⊎ FrontGoesOn b s a r
either_front text a b r s h k =
    elim (symbols_either h.symbols k.symbols r s h.each k.each (sym h.whole ∙ k.whole)) [
      | inl m ↦ inl (longer_front text a b r s h k m.0 m.1 m.2 m.3)
      | inr m ↦ inr (longer_front text b a s r k h m.0 m.1 m.2 m.3)
    ]

-- no octets are between two rests that are the same
pub nothing_between : (r s : List ℕ) → SpellsBeginning r [] s → r ≡ s
nothing_between r s h = by h.symbols h.whole h.octets_are
  where
    by : (symbols : List Symbol) → r ≡ flat_map spell symbols ++ s → [] ≡ map octet_for symbols → r ≡ s
    by [] w o = w
    by (x ∷ xs) w o = absurd cc

-- an empty text begins with no octet
pub empty_begins : (text octets rest : List ℕ) (o : ℕ) → text ≡ [] → SpellsBeginning text (o ∷ octets) rest → ⊥
empty_begins text octets rest o none h = by h.symbols h.whole h.octets_are
  where
    by : (symbols : List Symbol) → text ≡ flat_map spell symbols ++ rest → o ∷ octets ≡ map octet_for symbols → ⊥
    by [] w e = absurd cc
    by (s ∷ ss) w e = omega (arith, spell_some s, ap length none, ap length w, length-append (spell s ++ flat_map spell ss) rest, length-append (spell s) (flat_map spell ss))

-- nor does one that begins with a wrong escape
pub bad_begins : (text octets rest : List ℕ) (o : ℕ) → BeginsBadEscape text → SpellsBeginning text (o ∷ octets) rest → ⊥
bad_begins text octets rest o bad h = by h.symbols h.each h.whole h.octets_are
  where
    by : (symbols : List Symbol) → AreSpellings symbols → text ≡ flat_map spell symbols ++ rest → o ∷ octets ≡ map octet_for symbols → ⊥
    by [] each w e = absurd cc
    by (s ∷ ss) each w e = bad.none s (flat_map spell ss ++ rest) (spellings_head s ss each) (w ∙ append_assoc (spell s) (flat_map spell ss) rest)

-- a list that is itself with more after it has no more
no_more : (a more : List ℕ) → a ≡ a ++ more → more ≡ []
no_more a more e = append_cancel_left a more [] (sym e ∙ sym (append-nil a))

-- after the same octets comes the same rest
pub front_once : (text a r s : List ℕ) → SpellsBeginning text a r → SpellsBeginning text a s → r ≡ s
front_once text a r s h k = elim (either_front text a a r s h k) [
  | inl m ↦ nothing_between r s (subst (λ x. SpellsBeginning r x s) (no_more a m.0 m.2) m.1)
  | inr m ↦ sym (nothing_between s r (subst (λ x. SpellsBeginning s x r) (no_more a m.0 m.2) m.1))
]

-- a text has one first octet
pub first_once : (text x y r s : List ℕ) (a b : ℕ) → SpellsBeginning text (a ∷ x) r → SpellsBeginning text (b ∷ y) s → a ≡ b
first_once text x y r s a b h k = elim (either_front text (a ∷ x) (b ∷ y) r s h k) [
  | inl m ↦ (let e : b ∷ y ≡ a ∷ (x ++ m.0) = m.2 in cc)
  | inr m ↦ (let e : a ∷ x ≡ b ∷ (y ++ m.0) = m.2 in cc)
]

split_symbols : (symbols : List Symbol) (a b : List ℕ) → AreSpellings symbols → a ++ b ≡ map octet_for symbols
    → (xs ys : List Symbol) × AreSpellings xs × AreSpellings ys × (symbols ≡ xs ++ ys) × (a ≡ map octet_for xs) × (b ≡ map octet_for ys)
split_symbols symbols [] b each e = ([], symbols, refl, each, refl, refl, e)
split_symbols [] (x ∷ a) b each e = absurd cc
split_symbols (s ∷ ss) (x ∷ a) b each e =
    let first : x ≡ octet_for s = cc in
    let rest : a ++ b ≡ map octet_for ss = cc in
    let m = split_symbols ss a b (spellings_tail s ss each) rest in
    let head : AreSpellings (s ∷ []) = rw (spellings_head s ss each) refl in
    (s ∷ m.0, m.1, spellings_append (s ∷ []) m.0 head m.2, m.3, ap (λ zs. s ∷ zs) m.4, ap (λ z. z ∷ a) first ∙ ap (λ zs. octet_for s ∷ zs) m.5, m.6)

-- octets that a text begins with are some of them and then the others
pub split_front : (text a b rest : List ℕ) → SpellsBeginning text (a ++ b) rest → (middle : List ℕ) × SpellsBeginning text a middle × SpellsBeginning middle b rest
split_front text a b rest h =
    let m = split_symbols h.symbols a b h.each h.octets_are in
    let middle : List ℕ = flat_map spell m.1 ++ rest in (
      middle,
      record {
        symbols = m.0;
        each = m.2;
        whole = h.whole ∙ ap (λ xs. flat_map spell xs ++ rest) m.4 ∙ ap (λ x. x ++ rest) (flat_map-append spell m.0 m.1) ∙ append_assoc (flat_map spell m.0) (flat_map spell m.1) rest;
        octets_are = m.5;
      },
      record { symbols = m.1; each = m.3; whole = refl; octets_are = m.6 },
    )
