-- A text has at most one list of octets, and parsing it returns them if they fit.
use Rattle.std.proofs.Common.{◌≡◌, ℕ, suc, ◌<◌, ◌≤◌, List, [], ◌∷◌, ◌++◌, length, map, refl, sym, ap, ◌∙◌, arith, length-append, Some, None, Result, Ok, Err, inl, inr, ⊎_elim, ◌⊎◌}
use Rattle.dns_octets.specs.Room.{Room}
use Rattle.dns_symbol.specs.Symbol.{octet_of}
use Rattle.dns_symbol.specs.declared.symbol.Symbol.{Symbol}
use Rattle.dns_symbol.specs.declared.error.BadSymbol.{BadSymbol}
use Rattle.dns_symbol.proofs.Unique.{symbols_same}
use Rattle.dns_charstr.specs.Reading.{HasOctets, NextSymbolIs, ReadsText}
use Rattle.dns_charstr.specs.declared.charstr.error.FromStrError.{FromStrError}
use Rattle.dns_charstr.specs.declared.charstr.error.FromStrError.TheVariants.{Presentation, ShortBuf}
use Rattle.dns_charstr.specs.declared.charstr.error.PresentationError.TheVariants.{LongString, SymbolChars, BadSymbol as Bad}

-- the symbols are equal in number to the octets
pub octets_count : (symbols : List Symbol) (octets : List ℕ) → map octet_of symbols ≡ map Ok octets → length symbols ≡ length octets
octets_count [] [] h = refl
octets_count [] (o ∷ os) h = cc
octets_count (s ∷ ss) [] h = cc
octets_count (s ∷ ss) (o ∷ os) h = let e : map octet_of ss ≡ map Ok os = cc h in ap suc (octets_count ss os e)

-- each symbol has an octet
pub octets_each : (front : List Symbol) (x : Symbol) (left : List Symbol) (octets : List ℕ) → map octet_of (front ++ x ∷ left) ≡ map Ok octets
    → (o : ℕ) × (octet_of x ≡ Ok o)
octets_each [] x left [] h = cc
octets_each [] x left (o ∷ os) h = (o, cc h)
octets_each (s ∷ ss) x left [] h = cc
octets_each (s ∷ ss) x left (o ∷ os) h = octets_each ss x left os (cc h)

pub same_octets : (xs ys : List ℕ) → map {B = Result ℕ BadSymbol} Ok xs ≡ map Ok ys → xs ≡ ys
same_octets [] [] h = refl
same_octets [] (y ∷ ys) h = cc
same_octets (x ∷ xs) [] h = cc
same_octets (x ∷ xs) (y ∷ ys) h = let rest = same_octets xs ys (cc h) in let first : x ≡ y = cc h in cc

-- a text has the octets of one list
pub one_list : (text xs ys : List ℕ) → HasOctets text xs → HasOctets text ys → xs ≡ ys
one_list text xs ys a b =
    same_octets xs ys (sym a.octets_are ∙ ap (map octet_of) (symbols_same text a.symbols b.symbols None None a.read b.read).0 ∙ b.octets_are)

-- a text that is all symbols with octets, and some of these
count_before : (text octets begun : List ℕ) (x : Symbol) → HasOctets text octets → NextSymbolIs text begun x → length begun < length octets
count_before text octets begun x whole part =
    let same = (symbols_same text whole.symbols (part.front ++ x ∷ part.others) None part.error whole.read part.read).0 in
    let n = octets_count whole.symbols octets whole.octets_are in
    let m = octets_count part.front begun part.octets_are in
    omega (arith, n, m, ap length same, length-append part.front (x ∷ part.others))

octet_next : (text octets begun : List ℕ) (x : Symbol) → HasOctets text octets → NextSymbolIs text begun x → (o : ℕ) × (octet_of x ≡ Ok o)
octet_next text octets begun x whole part =
    let same = (symbols_same text whole.symbols (part.front ++ x ∷ part.others) None part.error whole.read part.read).0 in
    octets_each part.front x part.others octets (sym (ap (map octet_of) same) ∙ whole.octets_are)

-- a text whose symbols all have octets is parsed as these, or they exceed the guaranteed capacity
pub read_or_short : (room : Room) (text octets : List ℕ) (r : Result (List ℕ) FromStrError) → ReadsText room text r → HasOctets text octets
    → length octets ≤ 255 → (r ≡ Ok octets) ⊎ ((r ≡ Err ShortBuf) × (room.fits < length octets))
read_or_short room text octets (Ok os) h whole short = inl (ap Ok (one_list text os octets h.0 whole))
read_or_short room text octets (Err (Presentation (SymbolChars e))) h whole short =
    let same : None ≡ Some e = (symbols_same text whole.symbols h.1.symbols None (Some e) whole.read h.1.read).1 in absurd (cc)
read_or_short room text octets (Err (Presentation LongString)) h whole short =
    absurd (omega (arith, count_before text octets h.0 h.1 whole h.2, h.3, short))
read_or_short room text octets (Err (Presentation (Bad e))) h whole short =
    let o = octet_next text octets h.0 h.1 whole h.2 in let has = o.1 in let none = h.5 in absurd (cc)
read_or_short room text octets (Err ShortBuf) h whole short =
    inr (refl, omega (arith, count_before text octets h.0 h.1 whole h.3, h.7))

-- so it is parsed if its octets fit the guaranteed capacity
pub whole_is_read : (room : Room) (text octets : List ℕ) (r : Result (List ℕ) FromStrError) → ReadsText room text r → HasOctets text octets
    → length octets ≤ room.fits → length octets ≤ 255 → r ≡ Ok octets
whole_is_read room text octets r h whole fits short =
    ⊎_elim (λ is. is) (λ none. absurd (omega (arith, none.1, fits))) (read_or_short room text octets r h whole short)
