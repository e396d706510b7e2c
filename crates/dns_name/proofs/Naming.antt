-- The text of a name that has been parsed in part.
use Rattle.std.proofs.Common.{◌≡◌, ℕ, ◌<◌, ◌≤◌, true, false, List, [], ◌∷◌, ◌++◌, length, map, refl, sym, ap, ◌∙◌, arith, append_assoc, append-nil, length-append, Ok}
use Rattle.std.specs.Prelude.{not}
use Rattle.std.specs.List.{flat_map, AllZip}
use Rattle.std.proofs.lemmas.Grind.{common_steps, flat_map-append}
use Rattle.std.proofs.lemmas.Str.{encode_ascii}
use Rattle.std.proofs.lemmas.List.{map-append}
use Rattle.std.proofs.lemmas.List.Elements.{All-push}
use Rattle.std.proofs.lemmas.List.Folds.{list_all-append}
use Rattle.dns_symbol.specs.Symbol.{bytes, is_readable, octet_of}
use Rattle.dns_symbol.specs.declared.symbol.Symbol.{Symbol}
use Rattle.dns_symbol.specs.declared.symbol.Symbol.TheVariants.{Char}
use Rattle.dns_wire.specs.Wire.{wire_length}
use Rattle.dns_wire.specs.Building.{closed}
use Rattle.dns_name.specs.Reading.{is_dot, bracket, SpellsLabel, dotted, HasNamed}

zip_push : (ps : List (List Symbol)) (ls : List (List ℕ)) (p : List Symbol) (l : List ℕ) → AllZip SpellsLabel ps ls → SpellsLabel p l
    → AllZip SpellsLabel (ps ++ p ∷ []) (ls ++ l ∷ [])
zip_push [] [] p l h k = (k, tt)
zip_push [] (b ∷ ls) p l h k = absurd h
zip_push (a ∷ ps) [] p l h k = absurd h
zip_push (a ∷ ps) (b ∷ ls) p l h k = (h.0, zip_push ps ls p l h.1 k)

pub spelling_none : SpellsLabel [] []
spelling_none = record { octets_are = refl; no_dot = refl; no_binary = λ more h. cc; short = omega arith }

-- one symbol more
pub spelling_more : (spelling : List Symbol) (label : List ℕ) (x : Symbol) (octet : ℕ) → SpellsLabel spelling label → octet_of x ≡ Ok octet → is_dot x ≡ false
    → (label ≡ [] → x ≡ bracket → ⊥) → length label < 63 → SpellsLabel (spelling ++ x ∷ []) (label ++ octet ∷ [])
spelling_more spelling label x octet p is no_dot no_bracket short = record {
  octets_are = map-append octet_of spelling (x ∷ []) ∙ (λ i. p.octets_are i ++ is i ∷ []) ∙ sym (map-append Ok label (octet ∷ []));
  no_dot = list_all-append (λ y. not (is_dot y)) spelling (x ∷ []) ∙ rw (p.no_dot, no_dot) refl;
  no_binary = binary spelling label p.octets_are p.no_binary no_bracket;
  short = omega (arith, length-append label (octet ∷ []));
}
  where
    binary : (spelling : List Symbol) (label : List ℕ) → map octet_of spelling ≡ map Ok label → ((more : List Symbol) → spelling ≡ bracket ∷ more → ⊥)
        → (label ≡ [] → x ≡ bracket → ⊥) → (more : List Symbol) → spelling ++ x ∷ [] ≡ bracket ∷ more → ⊥
    binary [] [] are none first more h = first refl (cc)
    binary [] (o ∷ os) are none first more h = cc
    binary (y ∷ ys) label are none first more h = let e : y ≡ bracket = cc in none ys (ap (λ z. z ∷ ys) e)

pub named_none : HasNamed [] [] [] []
named_none = record {
  symbols = [];
  readable = refl;
  spelled = refl;
  names = record { spellings = []; last = []; joined = refl; finished = tt; opened = spelling_none; some = λ k d h. absurd (omega arith); fits = omega arith };
}

-- one octet more
pub named_octet : (text : List ℕ) (labels : List (List ℕ)) (current : List ℕ) (x : Symbol) (octet : ℕ) → HasNamed text labels current []
    → is_readable x ≡ true → is_dot x ≡ false → (current ≡ [] → x ≡ bracket → ⊥) → octet_of x ≡ Ok octet
    → wire_length (labels ++ closed (current ++ octet ∷ [])) ≤ 254 → length current < 63 → HasNamed (text ++ bytes x) labels (current ++ octet ∷ []) []
named_octet text labels current x octet h readable no_dot no_bracket is fits short = record {
  symbols = h.symbols ++ x ∷ [];
  readable = list_all-append is_readable h.symbols (x ∷ []) ∙ rw (h.readable, readable) refl;
  spelled = ap (λ t. t ++ bytes x) h.spelled ∙ joined;
  names = record {
    spellings = h.names.spellings;
    last = h.names.last ++ x ∷ [];
    joined = ap (λ t. t ++ x ∷ []) h.names.joined ∙ append_assoc (dotted h.names.spellings) h.names.last (x ∷ []);
    finished = h.names.finished;
    opened = spelling_more h.names.last current x octet h.names.opened is no_dot no_bracket short;
    some = h.names.some;
    fits = fits;
  };
}
  where
    joined : (flat_map bytes h.symbols ++ []) ++ bytes x ≡ flat_map bytes (h.symbols ++ x ∷ []) ++ []
    joined = Prim.grind (arith, common_steps, flat_map-append)

pub dot_bytes : bytes (Char 46) ≡ 46 ∷ []
dot_bytes = ap (λ t. t ++ []) (encode_ascii 46 (omega arith))

closed_some : (label : List ℕ) → 0 < length label → closed label ≡ label ∷ []
closed_some [] h = absurd (omega arith)
closed_some (x ∷ xs) h = refl

-- a dot after an open label
pub named_dot : (text : List ℕ) (labels : List (List ℕ)) (current : List ℕ) → HasNamed text labels current [] → 0 < length current
    → HasNamed (text ++ 46 ∷ []) (labels ++ closed current) [] []
named_dot text labels current h some = record {
  symbols = h.symbols ++ Char 46 ∷ [];
  readable = list_all-append is_readable h.symbols (Char 46 ∷ []) ∙ rw h.readable refl;
  spelled = ap (λ t. t ++ 46 ∷ []) h.spelled ∙ joined;
  names = record {
    spellings = h.names.spellings ++ h.names.last ∷ [];
    last = [];
    joined = ap (λ t. t ++ Char 46 ∷ []) h.names.joined ∙ dots;
    finished = rw (closed_some current some) (zip_push h.names.spellings labels h.names.last current h.names.finished h.names.opened);
    opened = spelling_none;
    some = rw (closed_some current some) (All-push (λ label. 0 < length label) labels current h.names.some some);
    fits = rw (append-nil (labels ++ closed current)) h.names.fits;
  };
}
  where
    joined : (flat_map bytes h.symbols ++ []) ++ 46 ∷ [] ≡ flat_map bytes (h.symbols ++ Char 46 ∷ []) ++ []
    joined =
        ap (λ t. t ++ 46 ∷ []) (append-nil (flat_map bytes h.symbols)) ∙ ap (λ t. flat_map bytes h.symbols ++ t) (sym (append-nil (bytes (Char 46)) ∙ dot_bytes))
        ∙ sym (flat_map-append bytes h.symbols (Char 46 ∷ [])) ∙ sym (append-nil (flat_map bytes (h.symbols ++ Char 46 ∷ [])))

    dots : (dotted h.names.spellings ++ h.names.last) ++ Char 46 ∷ [] ≡ dotted (h.names.spellings ++ h.names.last ∷ []) ++ []
    dots =
        append_assoc (dotted h.names.spellings) h.names.last (Char 46 ∷ [])
        ∙ ap (λ t. dotted h.names.spellings ++ t) (sym (append-nil (h.names.last ++ Char 46 ∷ [])))
        ∙ sym (flat_map-append (λ spelling. spelling ++ Char 46 ∷ []) h.names.spellings (h.names.last ∷ [])) ∙ sym (append-nil (dotted (h.names.spellings ++ h.names.last ∷ [])))

-- the name at the end extended by what follows
pub named_on : (text : List ℕ) (labels : List (List ℕ)) (current rest more : List ℕ) → HasNamed text labels current rest → HasNamed (text ++ more) labels current (rest ++ more)
named_on text labels current rest more h = record {
  symbols = h.symbols;
  readable = h.readable;
  spelled = ap (λ t. t ++ more) h.spelled ∙ append_assoc (flat_map bytes h.symbols) rest more;
  names = h.names;
}

-- if nothing was named, nothing was read
no_zip : (ps : List (List Symbol)) → AllZip SpellsLabel ps [] → ps ≡ []
no_zip [] h = refl
no_zip (p ∷ ps) h = absurd h

no_spelling : (spelling : List Symbol) → map octet_of spelling ≡ map Ok [] → spelling ≡ []
no_spelling [] h = refl
no_spelling (x ∷ xs) h = absurd cc

pub named_nothing : (text : List ℕ) → HasNamed text [] [] [] → text ≡ []
named_nothing text h =
    let e : h.symbols ≡ [] = h.names.joined ∙ (λ i. dotted (no_zip h.names.spellings h.names.finished i) ++ no_spelling h.names.last h.names.opened.octets_are i) in
    h.spelled ∙ ap (λ s. flat_map bytes s ++ []) e
