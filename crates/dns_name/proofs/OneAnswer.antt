-- Parsing a text has one result if the capacity is known exactly.
use Rattle.std.proofs.Common.{◌≡◌, ℕ, ◌+◌, ◌<◌, ◌≤◌, Bool, true, false, List, [], ◌∷◌, ◌++◌, length, refl, sym, ap, subst, ◌∙◌, arith, append_assoc, append-nil, length-append, Some, Result, Ok}
use Rattle.std.proofs.Common.{Err, ⊎_elim}
use Rattle.std.specs.Prelude.{◌==◌, if◌then◌else◌}
use Rattle.std.specs.Bool.{nat_lt}
use Rattle.std.specs.List.{flat_map, list_all}
use Rattle.std.proofs.lemmas.Bool.{and_parts, lt-ltb}
use Rattle.std.proofs.lemmas.Bool.Decides.{nat_tests}
use Rattle.dns_octets.specs.Room.{exactly}
use Rattle.dns_symbol.specs.Symbol.{bytes, is_readable, octet_of}
use Rattle.dns_symbol.specs.Text.{EndsAs}
use Rattle.dns_symbol.specs.Index.{BeginsWith}
use Rattle.dns_symbol.specs.declared.symbol.Symbol.{Symbol}
use Rattle.dns_symbol.specs.declared.symbol.Symbol.TheVariants.{Char, SimpleEscape, DecimalEscape}
use Rattle.dns_symbol.specs.declared.error.SymbolCharsError.{SymbolCharsError}
use Rattle.dns_symbol.specs.declared.error.BadSymbol.{BadSymbol}
use Rattle.dns_symbol.proofs.Unique.{bytes_same, bytes_some, begins_same}
use Rattle.dns_wire.specs.Wire.{wire_length}
use Rattle.dns_wire.specs.Building.{closed}
use Rattle.dns_wire.proofs.Wires.{wire_length_append}
use Rattle.dns_wire.proofs.OneAnswer.{not_below}
use Rattle.dns_name.specs.Reading.{is_dot, bracket, HasNamed, HasNamedNext, ReadsName}
use Rattle.dns_name.specs.declared.name.UncertainName.{UncertainName}
use Rattle.dns_name.specs.declared.name.UncertainName.TheVariants.{Absolute, Relative}
use Rattle.dns_name.specs.declared.name.error.FromStrError.{FromStrError}
use Rattle.dns_name.specs.declared.name.error.FromStrError.TheVariants.{Symbol as NoSymbol, BadOctet, BinaryLabel, EmptyLabel, LongLabel, LongName, ShortBuf}
use Rattle.dns_name.proofs.Naming.{dot_bytes}
use Rattle.dns_name.proofs.Runs.{State, Steps, Runs, Short, size_of, steps_same, runs_grow, runs_short, names_run, same_octet}
use Rattle.dns_name.proofs.OneName.{zip_short}
use Rattle.dns_name.proofs.WholeName.{named_empty}

-- what comes next in a text: nothing, no symbol, or a symbol and what follows it
data Next : Type 0 where
  at_end : Next
  at_error : SymbolCharsError → Next
  at_symbol : Symbol → List ℕ → Next

abbrev IsNext : List ℕ → Next → Type 0
IsNext rest at_end = rest ≡ []
IsNext rest (at_error e) = EndsAs rest (Some e)
IsNext rest (at_symbol x after) = BeginsWith rest x after

next_same : (rest : List ℕ) (a b : Next) → IsNext rest a → IsNext rest b → a ≡ b
next_same rest at_end at_end p q = refl
next_same rest at_end (at_error f) p q = absurd (omega (arith, q.0, ap length p))
next_same rest at_end (at_symbol y after) p q = absurd (omega (arith, ap length p, ap length q.spelled, length-append (bytes y) after, bytes_some y))
next_same rest (at_error e) at_end p q = absurd (omega (arith, p.0, ap length q))
next_same rest (at_error e) (at_error f) p q = ap at_error (p.2 ∙ sym q.2)
next_same rest (at_error e) (at_symbol y after) p q = absurd (p.1 y after q)
next_same rest (at_symbol x more) at_end p q = absurd (omega (arith, ap length q, ap length p.spelled, length-append (bytes x) more, bytes_some x))
next_same rest (at_symbol x more) (at_error f) p q = absurd (q.1 x more p)
next_same rest (at_symbol x more) (at_symbol y after) p q =
    let e = begins_same rest more after x y p q in λ i. at_symbol (e.0 i) (e.1 i)

-- a state within the limits of a name and of the room
abbrev Within : ℕ → State → Type 0
Within size s = (size_of s ≤ 254) × (size_of s ≤ size) × Short s

-- no symbol that comes next leads on within them
abbrev IsStuck : ℕ → State → Next → Type 0
IsStuck size s at_end = Unit {0}
IsStuck size s (at_error e) = Unit {0}
IsStuck size s (at_symbol x after) = (t : State) → Steps s x t → Within size t → ⊥

runs_within : (size : ℕ) (xs : List Symbol) (s t : State) → Runs s xs t → Within size t → Within size s
runs_within size xs s t p h = let g = runs_grow xs s t p in (omega (arith, g, h.0), omega (arith, g, h.1), runs_short xs s t p h.2)

-- the state of a stuck parser
record Stop (size : ℕ) (text : List ℕ) (s : State) (rest : List ℕ) (next : Next) : Type 0 where
  symbols : List Symbol
  readable : list_all is_readable symbols ≡ true
  spelled : text ≡ flat_map bytes symbols ++ rest
  run : Runs ([], []) symbols s
  within : Within size s
  is_next : IsNext rest next
  stuck : IsStuck size s next

not_stuck : (size : ℕ) (rest : List ℕ) (next : Next) (s u t : State) (y : Symbol) (ys : List Symbol) (more : List ℕ) → IsNext rest next → IsStuck size s next
    → list_all is_readable (y ∷ ys) ≡ true → rest ≡ flat_map bytes (y ∷ ys) ++ more → Steps s y u → Runs u ys t → Within size t → ⊥
not_stuck size rest next s u t y ys more is stuck readable spelled step run within =
    let b : BeginsWith rest y (flat_map bytes ys ++ more) = record {
      readable = (and_parts (is_readable y) (list_all is_readable ys) readable).0;
      spelled = spelled ∙ append_assoc (bytes y) (flat_map bytes ys) more;
    } in
    let e = next_same rest next (at_symbol y (flat_map bytes ys ++ more)) is b in
    subst (IsStuck size s) e stuck u step (runs_within size ys u t run within)

stops_same : (size : ℕ) (xs ys : List Symbol) (u s t : State) (rest more : List ℕ) (a b : Next) → list_all is_readable xs ≡ true → list_all is_readable ys ≡ true
    → flat_map bytes xs ++ rest ≡ flat_map bytes ys ++ more → Runs u xs s → Runs u ys t → Within size s → Within size t
    → IsNext rest a → IsNext more b → IsStuck size s a → IsStuck size t b → (s ≡ t) × (rest ≡ more)
stops_same size [] [] u s t rest more a b p q h run other ws wt na nb sa sb = (sym run ∙ other, h)
stops_same size [] (y ∷ ys) u s t rest more a b p q h run other ws wt na nb sa sb =
    absurd (not_stuck size rest a s other.0 t y ys more na sa q h (subst (λ v. Steps v y other.0) run other.1) other.2 wt)
stops_same size (x ∷ xs) [] u s t rest more a b p q h run other ws wt na nb sa sb =
    absurd (not_stuck size more b t run.0 s x xs rest nb sb p (sym h) (subst (λ v. Steps v x run.0) other run.1) run.2 ws)
stops_same size (x ∷ xs) (y ∷ ys) u s t rest more a b p q h run other ws wt na nb sa sb =
    let c = and_parts (is_readable x) (list_all is_readable xs) p in
    let d = and_parts (is_readable y) (list_all is_readable ys) q in
    let e = bytes_same x y (flat_map bytes xs ++ rest) (flat_map bytes ys ++ more) c.0 d.0
    (sym (append_assoc (bytes x) (flat_map bytes xs) rest) ∙ h ∙ append_assoc (bytes y) (flat_map bytes ys) more) in
    let v = steps_same u run.0 other.0 x run.1 (subst (λ z. Steps u z other.0) (sym e.0) other.1) in
    stops_same size xs ys run.0 s t rest more a b c.1 d.1 e.1 run.2 (subst (λ w. Runs w ys t) (sym v) other.2) ws wt na nb sa sb

abbrev is_bracket : Symbol → Bool
is_bracket (Char c) = false
is_bracket (SimpleEscape o) = o == 91
is_bracket (DecimalEscape o) = false

no_bracket : (x : Symbol) → (x ≡ bracket → ⊥) → is_bracket x ≡ false
no_bracket (Char c) h = refl
no_bracket (DecimalEscape o) h = refl
no_bracket (SimpleEscape o) h = by (o == 91) refl
  where
    by : (b : Bool) → (o == 91) ≡ b → b ≡ false
    by false e = refl
    by true e = absurd (h (ap SimpleEscape (Prim.grind (arith, nat_tests))))

dot_stuck : (size : ℕ) (labels : List (List ℕ)) (after : List ℕ) → IsStuck size (labels, []) (at_symbol (Char 46) after)
dot_stuck size labels after t step within = ⊎_elim (λ a. omega (arith, a.1.0)) (λ a. let e = a.0 in cc) step

octet_stuck : (size : ℕ) (labels : List (List ℕ)) (current after : List ℕ) (x : Symbol) (octet : ℕ) → is_dot x ≡ false → octet_of x ≡ Ok octet
    → (Within size (labels, current ++ octet ∷ []) → ⊥) → IsStuck size (labels, current) (at_symbol x after)
octet_stuck size labels current after x octet no_dot is beyond t step within =
    ⊎_elim
    (λ a. let e = sym a.0 ∙ no_dot in absurd cc)
    (λ a.
    let o = same_octet octet a.1.0 (octet_of x) is a.1.1 in
    beyond (subst (Within size) (a.1.3 ∙ ap (λ c. (labels, current ++ c ∷ [])) (sym o)) within))
    step

named_stop : (size : ℕ) (text : List ℕ) (labels : List (List ℕ)) (current rest : List ℕ) (next : Next) → HasNamed text labels current rest
    → wire_length (labels ++ closed current) ≤ size → IsNext rest next → IsStuck size (labels, current) next → Stop size text (labels, current) rest next
named_stop size text labels current rest next h fits is stuck = record {
  symbols = h.symbols;
  readable = h.readable;
  spelled = h.spelled;
  run = names_run h.symbols labels current h.names;
  within = (h.names.fits, fits, (zip_short h.names.spellings labels h.names.finished, h.names.opened.short));
  is_next = is;
  stuck = stuck;
}

begins_dot : (after : List ℕ) → BeginsWith (46 ∷ after) (Char 46) after
begins_dot after = record { readable = refl; spelled = sym (ap (λ l. l ++ after) dot_bytes) }

-- before the dot of the root
root_stop : (size : ℕ) (text : List ℕ) → text ≡ 46 ∷ [] → Stop size text ([], []) text (at_symbol (Char 46) [])
root_stop size text is = record {
  symbols = [];
  readable = refl;
  spelled = refl;
  run = refl;
  within = (omega arith, omega arith, ((λ k d lt. absurd (omega arith)), omega arith));
  is_next = subst (λ t. BeginsWith t (Char 46) []) (sym is) (begins_dot []);
  stuck = dot_stuck size [] [];
}

closed_nil : (labels : List (List ℕ)) (size : ℕ) → wire_length labels ≤ size → wire_length (labels ++ closed []) ≤ size
closed_nil labels size h = rw (append-nil labels) h

module _ (O : Type 0) (size : ℕ) where
  abbrev Answer : Type 0
  Answer = Result (UncertainName O) FromStrError

  -- the one result of a stuck parser, by its state and what comes next
  abbrev end_answer : List (List ℕ) → List ℕ → Answer
  end_answer labels (c ∷ cs) = Ok (Relative (labels ++ (c ∷ cs) ∷ []))
  end_answer [] [] = Ok (Relative [])
  end_answer (l ∷ ls) [] = if nat_lt size (wire_length (l ∷ ls) + 1) then Err ShortBuf else Ok (Absolute ((l ∷ ls) ++ [] ∷ []))

  abbrev dot_answer : List (List ℕ) → List ℕ → Answer
  dot_answer [] [] = if nat_lt size 1 then Err ShortBuf else Ok (Absolute ([] ∷ []))
  dot_answer [] (c ∷ cs) = Err EmptyLabel
  dot_answer (l ∷ ls) after = Err EmptyLabel

  abbrev octet_answer : State → Result ℕ BadSymbol → Answer
  octet_answer s (Err e) = Err BadOctet
  octet_answer s (Ok o) =
      if nat_lt 254 (size_of (s.0, s.1 ++ o ∷ [])) then Err LongName else (if nat_lt 62 (length s.1) then Err LongLabel else Err ShortBuf)

  abbrev symbol_answer : List (List ℕ) → List ℕ → Symbol → Answer
  symbol_answer labels [] x = if is_bracket x then Err BinaryLabel else octet_answer (labels, []) (octet_of x)
  symbol_answer labels (c ∷ cs) x = octet_answer (labels, c ∷ cs) (octet_of x)

  abbrev answer : State → Next → Answer
  answer s at_end = end_answer s.0 s.1
  answer s (at_error e) = Err (NoSymbol e)
  answer s (at_symbol x after) = if is_dot x then dot_answer s.0 after else symbol_answer s.0 s.1 x

  octet_is : (labels : List (List ℕ)) (current : List ℕ) (x : Symbol) → (current ≡ [] → x ≡ bracket → ⊥)
      → octet_answer (labels, current) (octet_of x) ≡ symbol_answer labels current x
  octet_is labels [] x h = rw (no_bracket x (h refl)) refl
  octet_is labels (c ∷ cs) x h = refl

  by_octet : (labels : List (List ℕ)) (current after : List ℕ) (x : Symbol) (r : Result ℕ BadSymbol) → is_dot x ≡ false → (current ≡ [] → x ≡ bracket → ⊥)
      → octet_of x ≡ r → octet_answer (labels, current) r ≡ answer (labels, current) (at_symbol x after)
  by_octet labels current after x r no_dot first is = ap (octet_answer (labels, current)) (sym is) ∙ octet_is labels current x first ∙ rw no_dot refl

  relative_end : (labels : List (List ℕ)) (current : List ℕ) → (current ≡ [] → labels ≡ []) → Ok (Relative (labels ++ closed current)) ≡ end_answer labels current
  relative_end labels (c ∷ cs) h = refl
  relative_end [] [] h = refl
  relative_end (l ∷ ls) [] h = let e = h refl in cc

  absolute_end : (labels : List (List ℕ)) → (labels ≡ [] → ⊥) → wire_length labels + 1 ≤ size → Ok (Absolute (labels ++ [] ∷ [])) ≡ end_answer labels []
  absolute_end [] some h = absurd (some refl)
  absolute_end (l ∷ ls) some h = rw (not_below size (wire_length (l ∷ ls) + 1) h) refl

  short_end : (labels : List (List ℕ)) → (labels ≡ [] → ⊥) → size < wire_length labels + 1 → Err ShortBuf ≡ end_answer labels []
  short_end [] some h = absurd (some refl)
  short_end (l ∷ ls) some h = rw (lt-ltb size (wire_length (l ∷ ls) + 1) h) refl

  empty_label : (labels : List (List ℕ)) (after : List ℕ) → (labels ≡ [] → after ≡ [] → ⊥) → Err EmptyLabel ≡ dot_answer labels after
  empty_label [] [] h = absurd (h refl refl)
  empty_label [] (c ∷ cs) h = refl
  empty_label (l ∷ ls) after h = refl

  module _ (text : List ℕ) where
    -- the state of the parser for a result
    abbrev Stopped : Answer → Type 0
    Stopped r = (s : State) × (rest : List ℕ) × (next : Next) × Stop size text s rest next × (r ≡ answer s next)

    -- before a symbol that has an octet
    octet_stopped : (labels : List (List ℕ)) (current : List ℕ) (octet : ℕ) (r : Answer) → HasNamedNext text labels current octet
        → wire_length (labels ++ closed current) ≤ size → (Within size (labels, current ++ octet ∷ []) → ⊥)
        → r ≡ octet_answer (labels, current) (Ok octet) → Stopped r
    octet_stopped labels current octet r h fits beyond is =
        let x = h.0 in
        let b = h.1 in (
          (labels, current),
          bytes x ++ b.rest,
          at_symbol x b.rest,
          named_stop size text labels current (bytes x ++ b.rest) (at_symbol x b.rest) b.named fits (record { readable = b.readable; spelled = refl })
              (octet_stuck size labels current b.rest x octet b.no_dot h.3 beyond),
          is ∙ by_octet labels current b.rest x (Ok octet) b.no_dot h.2 h.3,
        )

    at_end_stopped : (labels : List (List ℕ)) (current : List ℕ) (r : Answer) → HasNamed text labels current []
        → wire_length (labels ++ closed current) ≤ size → r ≡ end_answer labels current → Stopped r
    at_end_stopped labels current r h fits is =
        ((labels, current), [], at_end, named_stop size text labels current [] at_end h fits refl tt, is)

    stopped : (r : Answer) → ReadsName (exactly size) text r → Stopped r
    stopped (Ok (Relative name)) r =
        let h = r.0 in
        at_end_stopped h.0 h.1 (Ok (Relative name)) h.2 (subst (λ l. wire_length l ≤ size) h.3 r.1)
        (ap (λ n. Ok (Relative n)) h.3
        ∙ relative_end h.0 h.1 (λ none. named_empty h.0 h.1 (subst (λ t. HasNamed t h.0 h.1 []) (h.4 none) h.2)))
    stopped (Ok (Absolute name)) r =
        ⊎_elim
        (λ a. (
          ([], []),
          text,
          at_symbol (Char 46) [],
          root_stop size text a.0,
          ap (λ n. Ok (Absolute n)) a.1 ∙ rw (not_below size 1 (omega (arith, r.1, ap wire_length a.1))) refl,
        ))
        (λ b.
        let n : wire_length b.0 + 1 ≤ size = omega (arith, r.1, ap wire_length b.3, wire_length_append b.0 ([] ∷ [])) in
        at_end_stopped b.0 [] (Ok (Absolute name)) b.1 (closed_nil b.0 size (omega (arith, n))) (ap (λ n. Ok (Absolute n)) b.3 ∙ absolute_end b.0 b.2 n))
        r.0
    stopped (Err (NoSymbol e)) r = ((r.0, r.1), r.2, at_error e, named_stop size text r.0 r.1 r.2 (at_error e) r.3 r.5 r.4 tt, refl)
    stopped (Err EmptyLabel) r = (
      (r.0, []),
      46 ∷ r.1,
      at_symbol (Char 46) r.1,
      named_stop size text r.0 [] (46 ∷ r.1) (at_symbol (Char 46) r.1) r.2 (closed_nil r.0 size r.4) (begins_dot r.1) (dot_stuck size r.0 r.1),
      empty_label r.0 r.1 r.3,
    )
    stopped (Err BinaryLabel) r =
        let b = r.1 in (
          (r.0, []),
          bytes bracket ++ b.rest,
          at_symbol bracket b.rest,
          named_stop size text r.0 [] (bytes bracket ++ b.rest) (at_symbol bracket b.rest) b.named (closed_nil r.0 size r.2)
              (record { readable = b.readable; spelled = refl })
              (λ t step within. ⊎_elim (λ a. let e = a.0 in cc) (λ a. a.1.2 refl refl) step),
          refl,
        )
    stopped (Err BadOctet) r =
        let x = r.2 in
        let b = r.4 in (
          (r.0, r.1),
          bytes x ++ b.rest,
          at_symbol x b.rest,
          named_stop size text r.0 r.1 (bytes x ++ b.rest) (at_symbol x b.rest) b.named r.6 (record { readable = b.readable; spelled = refl })
              (λ t step within. ⊎_elim (λ a. let e = sym a.0 ∙ b.no_dot in absurd cc) (λ a. let e = sym r.5 ∙ a.1.1 in absurd cc) step),
          by_octet r.0 r.1 b.rest x (Err r.3) b.no_dot (λ none is. let e = sym r.5 ∙ ap octet_of is in absurd cc) r.5,
        )
    stopped (Err LongName) r =
        octet_stopped r.0 r.1 r.2 (Err LongName) r.3 r.5 (λ w. omega (arith, r.4, w.0))
        (rw (lt-ltb 254 (wire_length (r.0 ++ closed (r.1 ++ r.2 ∷ []))) r.4) refl)
    stopped (Err LongLabel) r =
        octet_stopped r.0 r.1 r.2 (Err LongLabel) r.3 r.6 (λ w. let n = w.2.1 in omega (arith, r.5, n, length-append r.1 (r.2 ∷ [])))
        (rw (not_below 254 (wire_length (r.0 ++ closed (r.1 ++ r.2 ∷ []))) r.4, lt-ltb 62 (length r.1) (omega (arith, r.5))) refl)
    stopped (Err ShortBuf) r =
        ⊎_elim
        (λ a. octet_stopped a.0 a.1 a.2 (Err ShortBuf) a.3 a.6 (λ w. omega (arith, a.7, w.1))
        (rw (not_below 254 (wire_length (a.0 ++ closed (a.1 ++ a.2 ∷ []))) a.4, not_below 62 (length a.1) (omega (arith, a.5))) refl))
        (⊎_elim
        (λ a. (([], []), text, at_symbol (Char 46) [], root_stop size text a.0, rw (lt-ltb size 1 a.1) refl))
        (λ a. at_end_stopped a.0 [] (Err ShortBuf) a.1 (closed_nil a.0 size a.3) (short_end a.0 a.2 a.4)))
        r

pub one_answer : {O : Type 0} (text : List ℕ) (size : ℕ) (r s : Result (UncertainName O) FromStrError) → ReadsName (exactly size) text r → ReadsName (exactly size) text s → r ≡ s
one_answer {O} text size r s p q =
    let a = stopped O size text r p in
    let b = stopped O size text s q in
    let x = a.3 in
    let y = b.3 in
    let e = stops_same size x.symbols y.symbols ([], []) a.0 b.0 a.1 b.1 a.2 b.2 x.readable y.readable (sym x.spelled ∙ y.spelled) x.run y.run x.within y.within
    x.is_next y.is_next x.stuck y.stuck in
    let n = next_same a.1 a.2 b.2 x.is_next (subst (λ t. IsNext t b.2) (sym e.1) y.is_next) in
    a.4 ∙ (λ i. answer O size (e.0 i) (n i)) ∙ sym b.4
