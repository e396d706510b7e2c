-- A text that is a name's parses as it, if its octets fit the guaranteed capacity.
use Rattle.std.proofs.Common.{◌≡◌, ℕ, ◌<◌, ◌≤◌, ◌⊎◌, inl, inr, true, List, [], ◌∷◌, ◌++◌, length, refl, sym, ap, subst, ◌∙◌, arith, append_assoc, append-nil, length-append, Result, Ok, Err, ⊎_elim}
use Rattle.std.specs.List.{flat_map, list_all}
use Rattle.std.proofs.lemmas.Bool.{and_parts}
use Rattle.dns_octets.specs.Room.{Room}
use Rattle.dns_symbol.specs.Symbol.{bytes, is_readable}
use Rattle.dns_symbol.specs.declared.symbol.Symbol.{Symbol}
use Rattle.dns_symbol.specs.declared.symbol.Symbol.TheVariants.{Char}
use Rattle.dns_symbol.proofs.Unique.{bytes_same, bytes_some}
use Rattle.dns_wire.specs.Wire.{wire_length}
use Rattle.dns_wire.specs.Building.{closed}
use Rattle.dns_wire.proofs.Wires.{wire_length_append}
use Rattle.dns_name.specs.Uncertain.{labels_of}
use Rattle.dns_name.specs.Reading.{is_dot, HasNamed, HasNamedBefore, ReadsAs, ReadsName}
use Rattle.dns_name.specs.declared.name.UncertainName.{UncertainName}
use Rattle.dns_name.specs.declared.name.UncertainName.TheVariants.{Absolute, Relative}
use Rattle.dns_name.specs.declared.name.error.FromStrError.{FromStrError}
use Rattle.dns_name.specs.declared.name.error.FromStrError.TheVariants.{Symbol as NoSymbol, BadOctet, BinaryLabel, EmptyLabel, LongLabel, LongName, ShortBuf}
use Rattle.dns_name.proofs.Naming.{dot_bytes}
use Rattle.dns_name.proofs.Runs.{State, Runs, names_run}
use Rattle.dns_name.proofs.OneName.{goes_on, refused_whole}

-- nothing precedes the dot of the root
root_front : (labels : List (List ℕ)) (current rest : List ℕ) → HasNamed (46 ∷ []) labels current rest → (labels ≡ []) × (rest ≡ 46 ∷ [])
root_front labels current rest h = by h.symbols h.readable h.spelled (names_run h.symbols labels current h.names)
  where
    by : (xs : List Symbol) → list_all is_readable xs ≡ true → 46 ∷ [] ≡ flat_map bytes xs ++ rest → Runs ([], []) xs (labels, current) → (labels ≡ []) × (rest ≡ 46 ∷ [])
    by [] readable is run = (ap (λ s. s.0) (sym run), sym is)
    by (y ∷ ys) readable is run =
        let a = (and_parts (is_readable y) (list_all is_readable ys) readable).0 in
        let same = bytes_same (Char 46) y [] (flat_map bytes ys ++ rest) refl a
        (ap (λ l. l ++ []) dot_bytes ∙ is ∙ append_assoc (bytes y) (flat_map bytes ys) rest) in
        ⊎_elim (λ b. absurd (omega (arith, b.1.0))) (λ b. let e = ap is_dot same.0 ∙ b.0 in absurd cc) run.1

root_next : (labels : List (List ℕ)) (current : List ℕ) (x : Symbol) → HasNamedBefore (46 ∷ []) labels current x → ⊥
root_next labels current x h =
    let e = (root_front labels current (bytes x ++ h.rest) h.named).1 in
    let same = bytes_same x (Char 46) h.rest [] h.readable refl (e ∙ sym (ap (λ l. l ++ []) dot_bytes)) in
    let f = sym (ap is_dot same.0) ∙ h.no_dot in cc

root_refused : (O : Type 0) (room : Room) (e : FromStrError) → ReadsName {O = O} room (46 ∷ []) (Err e) → (e ≡ ShortBuf) × (room.fits < 1)
root_refused O room (NoSymbol e) r =
    let f = (root_front r.0 r.1 r.2 r.3).1 in
    absurd (r.4.1 (Char 46) [] (record { readable = refl; spelled = f ∙ sym (ap (λ l. l ++ []) dot_bytes) }))
root_refused O room EmptyLabel r =
    let f = root_front r.0 [] (46 ∷ r.1) r.2 in
    let g : r.1 ≡ [] = (let e = f.1 in cc) in absurd (r.3 f.0 g)
root_refused O room BinaryLabel r = absurd (root_next r.0 [] _ r.1)
root_refused O room BadOctet r = absurd (root_next r.0 r.1 r.2 r.4)
root_refused O room LongName r = absurd (root_next r.0 r.1 r.3.0 r.3.1)
root_refused O room LongLabel r = absurd (root_next r.0 r.1 r.3.0 r.3.1)
root_refused O room ShortBuf r = (
  refl,
  ⊎_elim (λ a. absurd (root_next a.0 a.1 a.3.0 a.3.1))
      (⊎_elim (λ a. a.1) (λ a. let f = (root_front a.0 [] [] a.1).1 in absurd cc)) r,
)

-- no text names no labels
pub named_empty : (labels : List (List ℕ)) (current : List ℕ) → HasNamed [] labels current [] → labels ≡ []
named_empty labels current h = by h.symbols h.spelled (names_run h.symbols labels current h.names)
  where
    by : (xs : List Symbol) → [] ≡ flat_map bytes xs ++ [] → Runs ([], []) xs (labels, current) → labels ≡ []
    by [] is run = ap (λ s. s.0) (sym run)
    by (y ∷ ys) is run =
        absurd (omega (arith, ap length is, length-append (flat_map bytes (y ∷ ys)) [], length-append (bytes y) (flat_map bytes ys), bytes_some y))

-- a text names its labels in one way
named_same : (text : List ℕ) (labels others : List (List ℕ)) (current last : List ℕ) → HasNamed text labels current [] → HasNamed text others last []
    → (others ≡ labels) × (last ≡ current)
named_same text labels others current last h k =
    let g = goes_on text labels current h others last [] k in
    let e = by g.0 g.1 g.3 in (ap (λ s. s.0) e, ap (λ s. s.1) e)
  where
    by : (xs : List Symbol) → [] ≡ flat_map bytes xs → Runs (others, last) xs (labels, current) → ◌≡◌ {A = State} (others, last) (labels, current)
    by [] is run = run
    by (y ∷ ys) is run = absurd (omega (arith, ap length is, length-append (bytes y) (flat_map bytes ys), bytes_some y))

no_root : (text : List ℕ) (labels : List (List ℕ)) (current : List ℕ) → HasNamed text labels current [] → text ≡ 46 ∷ [] → ⊥
no_root text labels current h is =
    let f = (root_front labels current [] (subst (λ t. HasNamed t labels current []) is h)).1 in cc

apart : (O : Type 0) (text : List ℕ) (m n : List (List ℕ)) → ReadsAs {O = O} text (Relative m) → ReadsAs {O = O} text (Absolute n) → ⊥
apart O text m n p q =
    ⊎_elim
    (λ a. no_root text p.0 p.1 p.2 a.0)
    (λ b.
    let e = named_same text p.0 b.0 p.1 [] p.2 b.1 in
    b.2 (named_empty b.0 [] (subst (λ t. HasNamed t b.0 [] []) (p.4 (sym e.1)) b.1)))
    q

module _ {O : Type 0} (text : List ℕ) where
  pub one_name : (a b : UncertainName O) → ReadsAs text a → ReadsAs text b → a ≡ b
  one_name (Relative m) (Relative n) p q =
      let e = named_same text p.0 q.0 p.1 q.1 p.2 q.2 in
      let same : m ≡ n = p.3 ∙ (λ i. (sym e.0) i ++ closed ((sym e.1) i)) ∙ sym q.3 in ap Relative same
  one_name (Relative m) (Absolute n) p q = absurd (apart O text m n p q)
  one_name (Absolute m) (Relative n) p q = absurd (apart O text n m q p)
  one_name (Absolute m) (Absolute n) p q =
      ⊎_elim
      (λ a. ⊎_elim (λ b. let same : m ≡ n = a.1 ∙ sym b.1 in ap Absolute same) (λ b. absurd (no_root text b.0 [] b.1 a.0)) q)
      (λ a. ⊎_elim (λ b. absurd (no_root text a.0 [] a.1 b.0))
      (λ b.
      let e = (named_same text a.0 b.0 [] [] a.1 b.1).0 in
      let same : m ≡ n = a.3 ∙ ap (λ l. l ++ [] ∷ []) (sym e) ∙ sym b.3 in ap Absolute same) q)
      p

  pub whole_reads : (room : Room) (name : UncertainName O) (r : Result (UncertainName O) FromStrError) → ReadsName room text r → ReadsAs text name
      → wire_length (labels_of name) ≤ room.fits → r ≡ Ok name
  whole_reads room name (Ok b) r is fits = ap Ok (one_name b name r.0 is)
  whole_reads room (Relative n) (Err e) r is fits =
      let f = refused_whole text is.0 is.1 is.2 O room e (no_root text is.0 is.1 is.2) r in
      absurd (⊎_elim
      (λ a. omega (arith, a, fits, ap wire_length is.3))
      (λ b. b.1 (named_empty is.0 is.1 (subst (λ t. HasNamed t is.0 is.1 []) (is.4 b.0) is.2))) f.1)
  whole_reads room (Absolute n) (Err e) r is fits =
      absurd (⊎_elim
      (λ a.
      let short = (root_refused O room e (subst (λ t. ReadsName {O = O} room t (Err e)) a.0 r)).1 in
      omega (arith, short, fits, ap wire_length a.1))
      (λ b.
      let f = refused_whole text b.0 [] b.1 O room e (no_root text b.0 [] b.1) r in
      let n = wire_length_append b.0 ([] ∷ []) in
      ⊎_elim (λ a. omega (arith, a, fits, ap wire_length b.3, n, ap wire_length (append-nil b.0))) (λ a. omega (arith, a.2, fits, ap wire_length b.3, n)) f.1)
      is)

  -- whatever room there is
  pub whole_or_short : (room : Room) (name : UncertainName O) (r : Result (UncertainName O) FromStrError) → ReadsName room text r → ReadsAs text name
      → (r ≡ Ok name) ⊎ (r ≡ Err ShortBuf)
  whole_or_short room name (Ok b) r is = inl (ap Ok (one_name b name r.0 is))
  whole_or_short room (Relative n) (Err e) r is =
      inr (ap Err (refused_whole text is.0 is.1 is.2 O room e (no_root text is.0 is.1 is.2) r).0)
  whole_or_short room (Absolute n) (Err e) r is =
      inr (ap Err (⊎_elim
      (λ a. (root_refused O room e (subst (λ t. ReadsName {O = O} room t (Err e)) a.0 r)).0)
      (λ b. (refused_whole text b.0 [] b.1 O room e (no_root text b.0 [] b.1) r).0)
      is))
