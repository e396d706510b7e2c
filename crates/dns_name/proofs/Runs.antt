-- The symbols of a name, one after another.
use Rattle.std.proofs.Common.{◌≡◌, ℕ, ◌<◌, ◌≤◌, ◌⊎◌, Bool, true, false, List, [], ◌∷◌, ◌++◌, length, map, refl, sym, ap, subst, ◌∙◌, arith, append_assoc, append-nil, length-append, Result, Ok}
use Rattle.std.proofs.Common.{inl, inr, ⊎_elim}
use Rattle.std.specs.Prelude.{All, not}
use Rattle.std.specs.List.{list_all, AllZip}
use Rattle.std.proofs.lemmas.List.Elements.{All-head, All-tail}
use Rattle.std.proofs.lemmas.Bool.{and_parts}
use Rattle.dns_symbol.specs.Symbol.{octet_of}
use Rattle.dns_symbol.specs.declared.symbol.Symbol.{Symbol}
use Rattle.dns_symbol.specs.declared.symbol.Symbol.TheVariants.{Char}
use Rattle.dns_symbol.specs.declared.error.BadSymbol.{BadSymbol}
use Rattle.dns_wire.specs.Wire.{wire_length}
use Rattle.dns_wire.specs.Building.{closed}
use Rattle.dns_wire.proofs.Wires.{wire_length_append, All-front}
use Rattle.dns_name.specs.Reading.{is_dot, bracket, SpellsLabel, dotted, Names}

-- finished labels, and the open one's octets
abbrev pub State : Type 0
State = List (List ℕ) × List ℕ

abbrev pub EndsLabel : State → State → Type 0
EndsLabel s t = (0 < length s.1) × (t ≡ (s.0 ++ s.1 ∷ [], []))

abbrev pub AddsOctet : State → Symbol → State → Type 0
AddsOctet s x t = (octet : ℕ) × (octet_of x ≡ Ok octet) × (s.1 ≡ [] → x ≡ bracket → ⊥) × (t ≡ (s.0, s.1 ++ octet ∷ []))

-- a symbol leads from one state to another
abbrev pub Steps : State → Symbol → State → Type 0
Steps s x t = ((is_dot x ≡ true) × EndsLabel s t) ⊎ ((is_dot x ≡ false) × AddsOctet s x t)

abbrev pub Runs : State → List Symbol → State → Type 0
Runs s [] t = s ≡ t
Runs s (x ∷ xs) t = (u : State) × Steps s x u × Runs u xs t

pub runs_join : (xs ys : List Symbol) (s t u : State) → Runs s xs t → Runs t ys u → Runs s (xs ++ ys) u
runs_join [] ys s t u p q = subst (λ v. Runs v ys u) (sym p) q
runs_join (x ∷ xs) ys s t u p q = (p.0, p.1, runs_join xs ys p.0 t u p.2 q)

pub runs_part : (xs ys : List Symbol) (s u : State) → Runs s (xs ++ ys) u → (t : State) × Runs s xs t × Runs t ys u
runs_part [] ys s u p = (s, refl, p)
runs_part (x ∷ xs) ys s u p = let q = runs_part xs ys p.0 u p.2 in (q.0, (p.0, p.1, q.1), q.2)

pub same_octet : (a b : ℕ) (r : Result ℕ BadSymbol) → r ≡ Ok a → r ≡ Ok b → a ≡ b
same_octet a b r p q = let e = sym p ∙ q in cc

pub steps_same : (s t u : State) (x : Symbol) → Steps s x t → Steps s x u → t ≡ u
steps_same s t u x p q =
    ⊎_elim
    (λ a. ⊎_elim (λ b. a.1.1 ∙ sym b.1.1) (λ b. let e = sym a.0 ∙ b.0 in absurd cc) q)
    (λ a. ⊎_elim (λ b. let e = sym a.0 ∙ b.0 in absurd cc)
    (λ b. a.1.3 ∙ ap (λ o. (s.0, s.1 ++ o ∷ [])) (same_octet a.1.0 b.1.0 (octet_of x) a.1.1 b.1.1) ∙ sym b.1.3) q)
    p

pub runs_same : (xs : List Symbol) (s t u : State) → Runs s xs t → Runs s xs u → t ≡ u
runs_same [] s t u p q = sym p ∙ q
runs_same (x ∷ xs) s t u p q =
    runs_same xs p.0 t u p.2 (subst (λ v. Runs v xs u) (steps_same s q.0 p.0 x q.1 p.1) q.2)

-- the symbols of a label, from the octets that are there already
spelling_runs : (spelling : List Symbol) (label : List ℕ) (labels : List (List ℕ)) (before : List ℕ) → map octet_of spelling ≡ map Ok label
    → list_all (λ x. not (is_dot x)) spelling ≡ true → (before ≡ [] → (more : List Symbol) → spelling ≡ bracket ∷ more → ⊥)
    → Runs (labels, before) spelling (labels, before ++ label)
spelling_runs [] [] labels before are no_dot first = ap (λ c. (labels, c)) (sym (append-nil before))
spelling_runs [] (o ∷ os) labels before are no_dot first = absurd cc
spelling_runs (x ∷ xs) [] labels before are no_dot first = absurd cc
spelling_runs (x ∷ xs) (o ∷ os) labels before are no_dot first =
    let p = and_parts (not (is_dot x)) (list_all (λ x. not (is_dot x)) xs) no_dot in
    let e : octet_of x ≡ Ok o = cc in
    let more : map octet_of xs ≡ map Ok os = cc in (
      (labels, before ++ o ∷ []),
      inr (not_true (is_dot x) p.0, (o, e, (λ none is. first none xs (ap (λ y. y ∷ xs) is)), refl)),
      subst (λ c. Runs (labels, before ++ o ∷ []) xs (labels, c)) (append_assoc before (o ∷ []) os)
          (spelling_runs xs os labels (before ++ o ∷ []) more p.1 (λ none. absurd (some_after before o none))),
    )
  where
    not_true : (b : Bool) → not b ≡ true → b ≡ false
    not_true true h = absurd cc
    not_true false h = refl

    some_after : (xs : List ℕ) (o : ℕ) → xs ++ o ∷ [] ≡ [] → ⊥
    some_after [] o h = cc
    some_after (y ∷ ys) o h = cc

-- a label's symbols and the dot after them
ended_runs : (spelling : List Symbol) (label : List ℕ) (labels : List (List ℕ)) → SpellsLabel spelling label → 0 < length label
    → Runs (labels, []) (spelling ++ Char 46 ∷ []) (labels ++ label ∷ [], [])
ended_runs spelling label labels p some =
    runs_join spelling (Char 46 ∷ []) (labels, []) (labels, label) (labels ++ label ∷ [], [])
    (spelling_runs spelling label labels [] p.octets_are p.no_dot (λ none. p.no_binary))
    ((labels ++ label ∷ [], []), inl (refl, (some, refl)), refl)

finished_runs : (spellings : List (List Symbol)) (labels before : List (List ℕ)) → AllZip SpellsLabel spellings labels → All (λ label. 0 < length label) labels
    → Runs (before, []) (dotted spellings) (before ++ labels, [])
finished_runs [] [] before zip some = ap (λ l. (l, [])) (sym (append-nil before))
finished_runs [] (l ∷ ls) before zip some = absurd zip
finished_runs (p ∷ ps) [] before zip some = absurd zip
finished_runs (p ∷ ps) (l ∷ ls) before zip some =
    runs_join (p ++ Char 46 ∷ []) (dotted ps) (before, []) (before ++ l ∷ [], []) (before ++ l ∷ ls, [])
    (ended_runs p l before zip.0 (All-head (λ label. 0 < length label) l ls some))
    (subst (λ x. Runs (before ++ l ∷ [], []) (dotted ps) (x, [])) (append_assoc before (l ∷ []) ls)
    (finished_runs ps ls (before ++ l ∷ []) zip.1 (All-tail (λ label. 0 < length label) l ls some)))

-- symbols that name labels lead to them
pub names_run : (symbols : List Symbol) (labels : List (List ℕ)) (current : List ℕ) → Names symbols labels current → Runs ([], []) symbols (labels, current)
names_run symbols labels current n =
    subst (λ x. Runs ([], []) x (labels, current)) (sym n.joined)
    (runs_join (dotted n.spellings) n.last ([], []) (labels, []) (labels, current)
    (finished_runs n.spellings labels [] n.finished n.some)
    (spelling_runs n.last current labels [] n.opened.octets_are n.opened.no_dot (λ none. n.opened.no_binary)))

-- the octets, and the room of each label
abbrev pub size_of : State → ℕ
size_of s = wire_length (s.0 ++ closed s.1)

abbrev pub Short : State → Type 0
Short s = All (λ label. length label ≤ 63) s.0 × (length s.1 ≤ 63)

closed_size : (xs : List ℕ) (o : ℕ) → wire_length (closed xs) ≤ wire_length (closed (xs ++ o ∷ []))
closed_size [] o = omega arith
closed_size (x ∷ xs) o = omega (arith, length-append xs (o ∷ []))

closed_one : (xs : List ℕ) → 0 < length xs → closed xs ≡ xs ∷ []
closed_one [] h = absurd (omega arith)
closed_one (x ∷ xs) h = refl

step_grows : (s t : State) (x : Symbol) → Steps s x t → size_of s ≤ size_of t
step_grows s t x p =
    ⊎_elim
    (λ a. subst (λ u. size_of s ≤ size_of u) (sym a.1.1)
    (subst (λ l. wire_length (s.0 ++ l) ≤ wire_length ((s.0 ++ s.1 ∷ []) ++ [])) (sym (closed_one s.1 a.1.0))
    (subst (λ l. wire_length (s.0 ++ s.1 ∷ []) ≤ wire_length l) (sym (append-nil (s.0 ++ s.1 ∷ []))) (omega arith))))
    (λ a. subst (λ u. size_of s ≤ size_of u) (sym a.1.3)
    (omega (arith, wire_length_append s.0 (closed s.1), wire_length_append s.0 (closed (s.1 ++ a.1.0 ∷ [])), closed_size s.1 a.1.0)))
    p

pub runs_grow : (xs : List Symbol) (s t : State) → Runs s xs t → size_of s ≤ size_of t
runs_grow [] s t p = omega (arith, ap size_of p)
runs_grow (x ∷ xs) s t p = omega (arith, step_grows s p.0 x p.1, runs_grow xs p.0 t p.2)

All-last : (a : List (List ℕ)) (x : List ℕ) → All (λ label. length label ≤ 63) (a ++ x ∷ []) → length x ≤ 63
All-last [] x h = All-head (λ label. length label ≤ 63) x [] h
All-last (y ∷ a) x h = All-last a x (All-tail (λ label. length label ≤ 63) y (a ++ x ∷ []) h)

step_short : (s t : State) (x : Symbol) → Steps s x t → Short t → Short s
step_short s t x p h =
    ⊎_elim
    (λ a. let q = subst Short a.1.1 h in (All-front s.0 (s.1 ∷ []) q.0, All-last s.0 s.1 q.0))
    (λ a. let q = subst Short a.1.3 h in (q.0, omega (arith, q.1, length-append s.1 (a.1.0 ∷ []))))
    p

pub runs_short : (xs : List Symbol) (s t : State) → Runs s xs t → Short t → Short s
runs_short [] s t p h = subst Short (sym p) h
runs_short (x ∷ xs) s t p h = step_short s p.0 x p.1 (runs_short xs p.0 t p.2 h)
