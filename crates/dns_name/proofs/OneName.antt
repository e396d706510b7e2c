-- A text parses as one name, and a text that is a name's fails only with `ShortBuf`.
use Rattle.std.proofs.Common.{◌≡◌, ℕ, ◌+◌, ◌<◌, ◌≤◌, ◌⊎◌, true, List, [], ◌∷◌, ◌++◌, length, refl, sym, ap, subst, ◌∙◌, arith, append_assoc, append-nil, length-append, Some, Result, Ok, Err, inl}
use Rattle.std.proofs.Common.{inr, ⊎_elim}
use Rattle.std.specs.Prelude.{All}
use Rattle.std.specs.List.{flat_map, list_all, AllZip}
use Rattle.std.proofs.lemmas.List.Elements.{All-cons}
use Rattle.std.proofs.lemmas.Bool.{and_parts}
use Rattle.dns_octets.specs.Room.{Room}
use Rattle.dns_symbol.specs.Symbol.{bytes, is_readable, octet_of}
use Rattle.dns_symbol.specs.Text.{EndsAs}
use Rattle.dns_symbol.specs.declared.symbol.Symbol.{Symbol}
use Rattle.dns_symbol.specs.declared.symbol.Symbol.TheVariants.{Char}
use Rattle.dns_symbol.specs.declared.error.BadSymbol.{BadSymbol}
use Rattle.dns_symbol.proofs.Unique.{bytes_same, bytes_some}
use Rattle.dns_wire.specs.Wire.{wire_length}
use Rattle.dns_wire.specs.Building.{closed}
use Rattle.dns_name.specs.Reading.{is_dot, bracket, SpellsLabel, HasNamed, HasNamedBefore, HasNamedNext, ReadsName}
use Rattle.dns_name.specs.declared.name.error.FromStrError.{FromStrError}
use Rattle.dns_name.specs.declared.name.error.FromStrError.TheVariants.{Symbol as NoSymbol, BadOctet, BinaryLabel, EmptyLabel, LongLabel, LongName, ShortBuf}
use Rattle.dns_name.proofs.Naming.{dot_bytes}
use Rattle.dns_name.proofs.Runs.{State, Steps, Runs, Short, size_of, runs_part, runs_same, runs_grow, runs_short, names_run}

-- symbols at the beginning of a text are the first of its symbols
front_symbols : (xs ys : List Symbol) (rest : List ℕ) → list_all is_readable xs ≡ true → list_all is_readable ys ≡ true → flat_map bytes xs ++ rest ≡ flat_map bytes ys
    → (others : List Symbol) × (ys ≡ xs ++ others) × (rest ≡ flat_map bytes others) × (list_all is_readable others ≡ true)
front_symbols [] ys rest p q h = (ys, refl, h, q)
front_symbols (x ∷ xs) [] rest p q h =
    absurd (omega (arith, ap length h, length-append (flat_map bytes (x ∷ xs)) rest, length-append (bytes x) (flat_map bytes xs), bytes_some x))
front_symbols (x ∷ xs) (y ∷ ys) rest p q h =
    let a = and_parts (is_readable x) (list_all is_readable xs) p in
    let b = and_parts (is_readable y) (list_all is_readable ys) q in
    let e = bytes_same x y (flat_map bytes xs ++ rest) (flat_map bytes ys) a.0 b.0 (sym (append_assoc (bytes x) (flat_map bytes xs) rest) ∙ h) in
    let f = front_symbols xs ys rest a.1 b.1 e.1 in
    let s = sym e.0 in
    (f.0, (λ i. s i ∷ f.1 i), f.2, f.3)

pub zip_short : (ps : List (List Symbol)) (ls : List (List ℕ)) → AllZip SpellsLabel ps ls → All (λ label. length label ≤ 63) ls
zip_short [] [] h = λ k d lt. absurd (omega arith)
zip_short [] (l ∷ ls) h = absurd h
zip_short (p ∷ ps) [] h = absurd h
zip_short (p ∷ ps) (l ∷ ls) h = All-cons (λ label. length label ≤ 63) l ls h.0.short (zip_short ps ls h.1)

-- a whole text and its end state
module _ (text : List ℕ) (labels : List (List ℕ)) (current : List ℕ) (whole : HasNamed text labels current []) where
  pub spelled : text ≡ flat_map bytes whole.symbols
  spelled = whole.spelled ∙ append-nil (flat_map bytes whole.symbols)

  abbrev pub end : State
  end = (labels, current)

  short : Short end
  short = (zip_short whole.names.spellings labels whole.names.finished, whole.names.opened.short)

  -- what follows a prefix of it
  pub goes_on : (front : List (List ℕ)) (last rest : List ℕ) → HasNamed text front last rest
      → (others : List Symbol) × (rest ≡ flat_map bytes others) × (list_all is_readable others ≡ true) × Runs (front, last) others end
  goes_on front last rest h =
      let f = front_symbols h.symbols whole.symbols rest h.readable whole.readable (sym h.spelled ∙ spelled) in
      let run = subst (λ l. Runs ([], []) l end) f.1 (names_run whole.symbols labels current whole.names) in
      let p = runs_part h.symbols f.0 ([], []) end run in
      let e = runs_same h.symbols ([], []) p.0 (front, last) p.1 (names_run h.symbols front last h.names) in
      (f.0, f.2, f.3, subst (λ s. Runs s f.0 end) e p.2)

  -- and before one of its symbols
  pub steps_on : (front : List (List ℕ)) (last : List ℕ) (x : Symbol) → HasNamedBefore text front last x
      → (t : State) × Steps (front, last) x t × (size_of t ≤ size_of end) × Short t
  steps_on front last x h = by (goes_on front last (bytes x ++ h.rest) h.named)
    where
      by : (others : List Symbol) × (bytes x ++ h.rest ≡ flat_map bytes others) × (list_all is_readable others ≡ true) × Runs (front, last) others end
          → (t : State) × Steps (front, last) x t × (size_of t ≤ size_of end) × Short t
      by ([], e, r, run) = absurd (omega (arith, ap length e, length-append (bytes x) h.rest, bytes_some x))
      by (y ∷ ys, e, r, run) =
          let a = and_parts (is_readable y) (list_all is_readable ys) r in
          let same = bytes_same x y h.rest (flat_map bytes ys) h.readable a.0 e in
          (run.0, subst (λ z. Steps (front, last) z run.0) (sym same.0) run.1, runs_grow ys run.0 end run.2, runs_short ys run.0 end run.2 short)

same_result : (a b : ℕ) (r : Result ℕ BadSymbol) → r ≡ Ok a → r ≡ Ok b → a ≡ b
same_result a b r p q = let e = sym p ∙ q in cc

module _ (text : List ℕ) (labels : List (List ℕ)) (current : List ℕ) (whole : HasNamed text labels current []) where
  -- the octet of the next symbol
  next_octet : (front : List (List ℕ)) (last : List ℕ) (octet : ℕ) → HasNamedNext text front last octet
      → (wire_length (front ++ closed (last ++ octet ∷ [])) ≤ wire_length (labels ++ closed current)) × (length last < 63)
  next_octet front last octet h =
      let n = steps_on text labels current whole front last h.0 h.1 in
      ⊎_elim
      (λ a. let e = sym a.0 ∙ h.1.no_dot in absurd cc)
      (λ a.
      let o = same_result octet a.1.0 (octet_of h.0) h.3 a.1.1 in
      let t : n.0 ≡ (front, last ++ octet ∷ []) = a.1.3 ∙ ap (λ c. (front, last ++ c ∷ [])) (sym o) in
      let size = subst (λ s. size_of s ≤ size_of (labels, current)) t n.2 in
      let few = (subst Short t n.3).1 in
      (size, omega (arith, few, length-append last (octet ∷ []))))
      n.1

  -- no error but `ShortBuf`
  pub refused_whole : (O : Type 0) (room : Room) (e : FromStrError) → (text ≡ 46 ∷ [] → ⊥) → ReadsName {O = O} room text (Err e)
      → (e ≡ ShortBuf) × ((room.fits < wire_length (labels ++ closed current)) ⊎ ((current ≡ []) × (labels ≡ [] → ⊥) × (room.fits < wire_length labels + 1)))
  refused_whole O room (NoSymbol e) root r =
      let g = goes_on text labels current whole r.0 r.1 r.2 r.3 in absurd (by g.0 r.2 g.1 g.2 r.4)
    where
      by : (others : List Symbol) (rest : List ℕ) → rest ≡ flat_map bytes others → list_all is_readable others ≡ true → EndsAs rest (Some e) → ⊥
      by [] rest is readable ends = omega (arith, ends.0, ap length is)
      by (y ∷ ys) rest is readable ends =
          ends.1 y (flat_map bytes ys) (record { readable = (and_parts (is_readable y) (list_all is_readable ys) readable).0; spelled = is })
  refused_whole O room EmptyLabel root r =
      let g = goes_on text labels current whole r.0 [] (46 ∷ r.1) r.2 in absurd (by g.0 g.1 g.2 g.3)
    where
      by : (others : List Symbol) → 46 ∷ r.1 ≡ flat_map bytes others → list_all is_readable others ≡ true → Runs (r.0, []) others (labels, current) → ⊥
      by [] is readable run = cc
      by (y ∷ ys) is readable run =
          let a = (and_parts (is_readable y) (list_all is_readable ys) readable).0 in
          let same = bytes_same (Char 46) y r.1 (flat_map bytes ys) refl a (ap (λ l. l ++ r.1) dot_bytes ∙ is) in
          ⊎_elim (λ b. omega (arith, b.1.0)) (λ b. let e = ap is_dot same.0 ∙ b.0 in absurd cc) run.1
  refused_whole O room BinaryLabel root r =
      let n = steps_on text labels current whole r.0 [] bracket r.1 in
      absurd (⊎_elim (λ a. let e = sym a.0 ∙ r.1.no_dot in absurd cc) (λ a. a.1.2 refl refl) n.1)
  refused_whole O room BadOctet root r =
      let n = steps_on text labels current whole r.0 r.1 r.2 r.4 in
      absurd (⊎_elim (λ a. let e = sym a.0 ∙ r.4.no_dot in absurd cc) (λ a. let e = sym r.5 ∙ a.1.1 in absurd cc) n.1)
  refused_whole O room LongName root r =
      let n = next_octet r.0 r.1 r.2 r.3 in absurd (omega (arith, n.0, r.4, whole.names.fits))
  refused_whole O room LongLabel root r =
      let n = next_octet r.0 r.1 r.2 r.3 in absurd (omega (arith, n.1, r.5))
  refused_whole O room ShortBuf root r = (
    refl,
    ⊎_elim
        (λ a. let n = next_octet a.0 a.1 a.2 a.3 in inl (omega (arith, n.0, a.7)))
        (λ b. ⊎_elim (λ a. absurd (root a.0))
        (λ a.
        let g = goes_on text labels current whole a.0 [] [] a.1 in
        let e = ends_here g.0 (a.0, []) g.1 g.3 in
        inr (ap (λ s. s.1) (sym e), (λ none. a.2 (ap (λ s. s.0) e ∙ none)), subst (λ l. room.fits < wire_length l + 1) (ap (λ s. s.0) e) a.4)) b)
        r,
  )
    where
      ends_here : (others : List Symbol) (s : State) → [] ≡ flat_map bytes others → Runs s others (labels, current) → s ≡ (labels, current)
      ends_here [] s is run = run
      ends_here (y ∷ ys) s is run = absurd (omega (arith, ap length is, length-append (bytes y) (flat_map bytes ys), bytes_some y))
