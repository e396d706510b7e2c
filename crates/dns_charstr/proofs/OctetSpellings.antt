-- Octets that a text spells one after another: they exist, and are one list.
use Rattle.std.proofs.Common.{◌≡◌, ℕ, zero, suc, ◌<◌, ◌≤◌, ◌⊎◌, List, [], ◌∷◌, ◌++◌, length, append-nil, length-append, refl, sym, ap, subst, ◌∙◌, arith, Option, Some, None, Result, Ok, Err, inl, inr, ⊎_elim}
use Rattle.std.specs.Prelude.{slice_index}
use Rattle.std.proofs.lemmas.Bool.{cases_eq}
use Rattle.dns_symbol.specs.Escape.{ReadsEscape, octet_for}
use Rattle.dns_symbol.specs.Symbol.{spell}
use Rattle.dns_symbol.specs.declared.escape.EscapedOctet.{EscapedOctet}
use Rattle.dns_symbol.specs.declared.escape.EscapeRule.TheVariants.{AnyOctet}
use Rattle.dns_symbol.specs.declared.error.SymbolCharsError.{SymbolCharsError}
use Rattle.dns_symbol.proofs.Escapes.{escape_read}
use Rattle.dns_symbol.proofs.Spelled.{spell_same, spell_some}
use Rattle.dns_charstr.specs.OctetText.{SpellsOctet, SpellsOctets, SpellsNone}
use Rattle.dns_charstr.proofs.OctetEscapes.{spells_plain, spells_escape, spells_no_escape}

-- a text spells one octet first
pub spells_same : (text m n : List ℕ) (o p : ℕ) → SpellsOctet text o m → SpellsOctet text p n → (o ≡ p) × (m ≡ n)
spells_same text m n o p h k =
    let e = spell_same h.symbol k.symbol m n h.spelling k.spelling (sym h.whole ∙ k.whole) in
    (h.stands_for ∙ ap octet_for e.0 ∙ sym k.stands_for, e.1)

spells_shorter : (text rest : List ℕ) (o : ℕ) → SpellsOctet text o rest → length rest < length text
spells_shorter text rest o h = omega (arith, ap length h.whole, length-append (spell h.symbol) rest, spell_some h.symbol)

-- the empty text isn't a spelling
pub empty_none : (o : ℕ) (rest : List ℕ) → SpellsOctet [] o rest → ⊥
empty_none o rest h = omega (arith, spells_shorter [] rest o h)

-- one octet more
pub spells_one_more : (text octets rest after : List ℕ) (octet : ℕ) → SpellsOctets text octets rest → SpellsOctet rest octet after → SpellsOctets text (octets ++ octet ∷ []) after
spells_one_more text [] rest after octet h next = (after, rw h next, refl)
spells_one_more text (o ∷ os) rest after octet h next = (h.0, h.1, spells_one_more h.0 os rest after octet h.2 next)

-- of all that a text spells, up to the first part that spells none, any octets are the first ones
pub spells_others : (octets all text rest end : List ℕ) → SpellsOctets text octets rest → SpellsOctets text all end
    → ((o : ℕ) (after : List ℕ) → SpellsOctet end o after → ⊥) → (more : List ℕ) × (all ≡ octets ++ more) × SpellsOctets rest more end
spells_others [] all text rest end h k stop = (all, refl, subst (λ t. SpellsOctets t all end) h k)
spells_others (o ∷ os) [] text rest end h k stop = absurd (stop o h.0 (subst (λ t. SpellsOctet t o h.0) k h.1))
spells_others (o ∷ os) (a ∷ all) text rest end h k stop =
    let same = spells_same text h.0 k.0 o a h.1 k.1 in
    let others = spells_others os all h.0 rest end h.2 (subst (λ t. SpellsOctets t all end) (sym same.1) k.2) stop in
    let first : o ≡ a = same.0 in
    let joined : all ≡ os ++ others.0 = others.1 in
    (others.0, cc, others.2)

-- so a text spells one list of octets
pub spells_one : (text xs ys : List ℕ) → SpellsOctets text xs [] → SpellsOctets text ys [] → xs ≡ ys
spells_one text xs ys h k = let others = spells_others xs ys text [] [] h k empty_none in none_left others.0 others.1 others.2
  where
    none_left : (more : List ℕ) → ys ≡ xs ++ more → SpellsOctets [] more [] → xs ≡ ys
    none_left [] e s = sym (e ∙ append-nil xs)
    none_left (o ∷ os) e s = absurd (empty_none o s.0 s.1)

-- if another octet is spelled, there are more
pub spells_longer : (octets all text rest end after : List ℕ) (o : ℕ) → SpellsOctets text octets rest → SpellsOctets text all end
    → ((o : ℕ) (after : List ℕ) → SpellsOctet end o after → ⊥) → SpellsOctet rest o after → length octets < length all
spells_longer octets all text rest end after o h k stop next = let others = spells_others octets all text rest end h k stop in some_left others.0 others.1 others.2
  where
    some_left : (more : List ℕ) → all ≡ octets ++ more → SpellsOctets rest more end → length octets < length all
    some_left [] e s = absurd (stop o after (subst (λ t. SpellsOctet t o after) s next))
    some_left (x ∷ xs) e s = omega (arith, ap length e, length-append octets (x ∷ xs))

-- if the text continues with no spelling, there are no more octets
pub spells_all : (octets all text rest end : List ℕ) → SpellsOctets text octets rest → SpellsOctets text all end
    → ((o : ℕ) (after : List ℕ) → SpellsOctet end o after → ⊥) → ((o : ℕ) (after : List ℕ) → SpellsOctet rest o after → ⊥) → (all ≡ octets) × (rest ≡ end)
spells_all octets all text rest end h k stop none = let others = spells_others octets all text rest end h k stop in none_left others.0 others.1 others.2
  where
    none_left : (more : List ℕ) → all ≡ octets ++ more → SpellsOctets rest more end → (all ≡ octets) × (rest ≡ end)
    none_left [] e s = (e ∙ append-nil octets, s)
    none_left (x ∷ xs) e s = absurd (none x s.0 s.1)

abbrev First : List ℕ → Type 0
First text = ((o : ℕ) × (rest : List ℕ) × SpellsOctet text o rest) ⊎ ((e : SymbolCharsError) × SpellsNone text e)

escaped_or_none : (text : List ℕ) → 0 < length text → slice_index text 0 ≡ 92 → First text
escaped_or_none text some lead = let read = escape_read AnyOctet text some lead in by_answer read.0 read.1
  where
    by_answer : (r : Result EscapedOctet SymbolCharsError) → ReadsEscape AnyOctet text r → First text
    by_answer (Ok e) h = inl (_, _, spells_escape text e h)
    by_answer (Err e) h = inr (e, spells_no_escape text e some lead h)

first_or_none : (text : List ℕ) → 0 < length text → First text
first_or_none text some =
    ⊎_elim (λ lead. escaped_or_none text some lead) (λ isnt. inl (_, _, spells_plain text some isnt)) (cases_eq (slice_index text 0) 92)

-- the end of the octets of a text: its end, or the first part that spells none
abbrev pub OctetsEnd : List ℕ → Option SymbolCharsError → Type 0
OctetsEnd end None = end ≡ []
OctetsEnd end (Some e) = SpellsNone end e

pub end_stops : (end : List ℕ) (error : Option SymbolCharsError) → OctetsEnd end error → (o : ℕ) (after : List ℕ) → SpellsOctet end o after → ⊥
end_stops end None h o after s = empty_none o after (subst (λ t. SpellsOctet t o after) h s)
end_stops end (Some e) h o after s = h.none o after s

-- all that a text spells
pub record AllOf (text : List ℕ) : Type 0 where
  pub octets : List ℕ
  pub end : List ℕ
  pub error : Option SymbolCharsError
  pub spelled : SpellsOctets text octets end
  pub ends : OctetsEnd end error

pub all_of : (n : ℕ) (text : List ℕ) → length text ≤ n → AllOf text
all_of n [] few = record { octets = []; end = []; error = None; spelled = refl; ends = refl }
all_of zero (b ∷ bs) few = absurd (omega (arith, few))
all_of (suc n) (b ∷ bs) few =
    ⊎_elim
    (λ f.
    let more = all_of n f.1 (omega (arith, few, spells_shorter (b ∷ bs) f.1 f.0 f.2)) in
    record { octets = f.0 ∷ more.octets; end = more.end; error = more.error; spelled = (f.1, f.2, more.spelled); ends = more.ends })
    (λ s. record { octets = []; end = b ∷ bs; error = Some s.0; spelled = refl; ends = s.1 })
    (first_or_none (b ∷ bs) (omega arith))
