-- A name's text that has been parsed in part, and the results that it can have.
use Rattle.std.proofs.Common.{◌≡◌, ℕ, ◌<◌, ◌≤◌, true, false, List, [], ◌∷◌, ◌++◌, length, drop, refl, sym, ap, subst, ◌∙◌, arith, append_assoc, append-nil, inl, inr, Some, Result, Ok, Err}
use Rattle.std.specs.Prelude.{encode_utf8_all, IsOk}
use Rattle.std.proofs.lemmas.List.{length-drop}
use Rattle.std.specs.List.{flat_map}
use Rattle.dns_octets.specs.Room.{exactly}
use Rattle.dns_symbol.specs.Symbol.{bytes}
use Rattle.dns_symbol.specs.Index.{ReadsAt}
use Rattle.dns_symbol.specs.declared.symbol.Symbol.{Symbol}
use Rattle.dns_symbol.specs.declared.error.SymbolOctetsError.{SymbolOctetsError}
use Rattle.dns_symbol.specs.declared.error.SymbolOctetsError.TheVariants.{BadUtf8 as NoUtf8, BadEscape as NoEscape, ShortInput as Short}
use Rattle.dns_wire.specs.Building.{Naming, all_labels, closed, no_labels, with_octet, AnswersRoot}
use Rattle.dns_wire.specs.Wire.{wire_length}
use Rattle.dns_wire.specs.declared.error.PushError.{PushError}
use Rattle.dns_wire.specs.declared.error.PushError.TheVariants.{LongLabel as NoLabel, LongName, ShortBuf}
use Rattle.dns_name.specs.Reading.{is_dot, HasNamed, ReadsAs}
use Rattle.dns_name.specs.ReadingSteps.{SymbolHasOctet}
use Rattle.dns_name.specs.declared.name.UncertainName.{UncertainName}
use Rattle.dns_name.specs.declared.name.UncertainName.TheVariants.{Absolute, Relative}
use Rattle.dns_name.proofs.Naming.{named_none, named_octet, named_dot, named_on, named_nothing, dot_bytes}
use Rattle.dns_name.proofs.Taking.{dot_spelled}
use Rattle.c_calls.specs.Names.{AppendsNameSymbol, NameStops, ReadsNameText}
use Rattle.c_calls.specs.Strings.{refusal_of}
use Rattle.c_calls.specs.Reports.{CopiesWhole}
use Rattle.c_calls.specs.declared.outcome.Fault.{Fault}
use Rattle.c_calls.specs.declared.outcome.Outcome.{Outcome}
use Rattle.c_calls.specs.declared.outcome.Refusal.{Refusal}
use Rattle.c_calls.specs.declared.outcome.Refusal.TheVariants.{BadSymbol, TooLong, LongLabel, BinaryLabel}

-- the part that was parsed, alone
alone : (text : List ℕ) (labels : List (List ℕ)) (current rest : List ℕ) (h : HasNamed text labels current rest) → HasNamed (flat_map bytes h.symbols) labels current []
alone text labels current rest h = record { symbols = h.symbols; readable = h.readable; spelled = sym (append-nil (flat_map bytes h.symbols)); names = h.names }

pub named_start : (text : List ℕ) (b : Naming) → b ≡ no_labels → HasNamed text b.labels b.current (drop 0 text)
named_start text b is = subst (λ n. HasNamed text n.labels n.current text) (sym is) (named_on [] [] [] [] text named_none)

goes_on : (text front piece rest more : List ℕ) → text ≡ front ++ rest → rest ≡ piece ++ more → (front ++ piece) ++ more ≡ text
goes_on text front piece rest more is e = append_assoc front piece more ∙ ap (λ t. front ++ t) (sym e) ∙ sym is

-- one more octet
pub named_more : (text : List ℕ) (b : Naming) (place after octet : ℕ) (x : Symbol) → HasNamed text b.labels b.current (drop place text)
    → ReadsAt text place (Ok (Some (x, after))) → is_dot x ≡ false → SymbolHasOctet b x octet → wire_length (all_labels (with_octet b octet)) ≤ 254 → length b.current < 63
    → HasNamed text b.labels (b.current ++ octet ∷ []) (drop after text)
named_more text b place after octet x h next no_dot gives fits short =
    subst (λ t. HasNamed t b.labels (b.current ++ octet ∷ []) (drop after text)) (goes_on text (flat_map bytes h.symbols) (bytes x) (drop place text) (drop after text) h.spelled next.0.spelled)
    (named_on (flat_map bytes h.symbols ++ bytes x) b.labels (b.current ++ octet ∷ []) [] (drop after text)
    (named_octet (flat_map bytes h.symbols) b.labels b.current x octet (alone _ _ _ _ h) next.0.readable no_dot gives.1 gives.0 fits short))

-- a plain dot is its octet
pub dot_is : (x : Symbol) → is_dot x ≡ true → bytes x ≡ 46 ∷ []
dot_is x h = ap encode_utf8_all (dot_spelled x h) ∙ dot_bytes

pub dot_stands : (text : List ℕ) (place after : ℕ) (x : Symbol) → ReadsAt text place (Ok (Some (x, after))) → is_dot x ≡ true → drop place text ≡ 46 ∷ drop after text
dot_stands text place after x next dot = next.0.spelled ∙ ap (λ t. t ++ drop after text) (dot_is x dot)

-- a dot after an open label
pub named_ended : (text : List ℕ) (b : Naming) (place after : ℕ) (x : Symbol) → HasNamed text b.labels b.current (drop place text)
    → ReadsAt text place (Ok (Some (x, after))) → is_dot x ≡ true → 0 < length b.current → HasNamed text (all_labels b) [] (drop after text)
named_ended text b place after x h next dot some =
    subst (λ t. HasNamed t (all_labels b) [] (drop after text))
    (goes_on text (flat_map bytes h.symbols) (46 ∷ []) (drop place text) (drop after text) h.spelled (dot_stands text place after x next dot))
    (named_on (flat_map bytes h.symbols ++ 46 ∷ []) (all_labels b) [] [] (drop after text) (named_dot (flat_map bytes h.symbols) b.labels b.current (alone _ _ _ _ h) some))

-- if nothing was parsed, all is left
nothing_read : (text : List ℕ) (b : Naming) (rest : List ℕ) → HasNamed text b.labels b.current rest → b.current ≡ [] → b.labels ≡ [] → text ≡ rest
nothing_read text b rest h none nothing =
    h.spelled ∙ ap (λ t. t ++ rest) (named_nothing (flat_map bytes h.symbols)
    (subst (λ l. HasNamed (flat_map bytes h.symbols) l [] []) nothing (subst (λ c. HasNamed (flat_map bytes h.symbols) b.labels c []) none (alone _ _ _ _ h))))

module _ {O : Type 0} where
  -- a dot alone
  pub read_lone : (text : List ℕ) (b : Naming) (place after : ℕ) (x : Symbol) (name : UncertainName O) → HasNamed text b.labels b.current (drop place text)
      → ReadsAt text place (Ok (Some (x, after))) → is_dot x ≡ true → drop after text ≡ [] → b.current ≡ [] → b.labels ≡ []
      → name ≡ Absolute (all_labels b ++ [] ∷ []) → ReadsAs text name
  read_lone text b place after x name h next dot end none nothing is =
      let whole : text ≡ 46 ∷ [] = nothing_read text b (drop place text) h none nothing ∙ dot_stands text place after x next dot ∙ ap (λ t. 46 ∷ t) end in
      let labels : all_labels b ++ [] ∷ [] ≡ [] ∷ [] = (λ i. (nothing i ++ closed (none i)) ++ [] ∷ []) in
      subst (ReadsAs text) (sym is) (inl (whole, labels))

  -- the end of the text
  pub read_relative : (text : List ℕ) (b : Naming) (rest : List ℕ) (name : UncertainName O) → HasNamed text b.labels b.current rest → rest ≡ []
      → (b.current ≡ [] → b.labels ≡ []) → name ≡ Relative (all_labels b) → ReadsAs text name
  read_relative text b rest name h end none is =
      subst (ReadsAs text) (sym is)
      (b.labels, b.current, subst (λ r. HasNamed text b.labels b.current r) end h, refl, λ e. nothing_read text b rest h e (none e) ∙ end)

  pub read_absolute : (text : List ℕ) (b : Naming) (rest : List ℕ) (name : UncertainName O) → HasNamed text b.labels b.current rest → rest ≡ []
      → b.current ≡ [] → (b.labels ≡ [] → ⊥) → name ≡ Absolute (all_labels b ++ [] ∷ []) → ReadsAs text name
  read_absolute text b rest name h end none some is =
      let all : all_labels b ≡ b.labels = ap (λ c. b.labels ++ closed c) none ∙ append-nil b.labels in
      subst (ReadsAs text) (sym is)
      (inr (b.labels, subst (λ c. HasNamed text b.labels c []) none (subst (λ r. HasNamed text b.labels b.current r) end h), some, ap (λ l. l ++ [] ∷ []) all))

  pub read_end : (text : List ℕ) (b : Naming) (rest : List ℕ) (name : UncertainName O) → HasNamed text b.labels b.current rest → rest ≡ []
      → ((b.current ≡ [] → b.labels ≡ []) → name ≡ Relative (all_labels b))
      → (b.current ≡ [] → (b.labels ≡ [] → ⊥) → name ≡ Absolute (all_labels b ++ [] ∷ [])) → ReadsAs text name
  read_end text b rest name h end relative absolute = by b.labels b.current refl refl
    where
      by : (labels : List (List ℕ)) (current : List ℕ) → b.labels ≡ labels → b.current ≡ current → ReadsAs text name
      by [] current l c = let none : b.current ≡ [] → b.labels ≡ [] = λ _. l in read_relative text b rest name h end none (relative none)
      by (x ∷ xs) [] l c = let some : b.labels ≡ [] → ⊥ = λ e. cc in read_absolute text b rest name h end c some (absolute c some)
      by (x ∷ xs) (o ∷ os) l c = let none : b.current ≡ [] → b.labels ≡ [] = λ e. absurd cc in read_relative text b rest name h end none (relative none)

-- a symbol is rejected
pub name_stops : (text : List ℕ) (b new : Naming) (place after : ℕ) (x : Symbol) (why : Refusal) → HasNamed text b.labels b.current (drop place text)
    → ReadsAt text place (Ok (Some (x, after))) → is_dot x ≡ false → AppendsNameSymbol b x (Err why) new → NameStops text b.labels b.current place why
name_stops text b new place after x BinaryLabel h next no_dot t = (after, subst (λ y. ReadsAt text place (Ok (Some (y, after)))) t.1 next, t.0)
name_stops text b new place after x BadSymbol h next no_dot t = ((x, after), t.0, next, t.1)
name_stops text b new place after x TooLong h next no_dot t = (t.0, ((x, after), next, no_dot, t.1.0, t.1.1), t.2)
name_stops text b new place after x LongLabel h next no_dot t = (t.0, ((x, after), next, no_dot, t.1.0, t.1.1), t.2, omega (arith, t.3, h.names.opened.short))
name_stops text b new place after x other h next no_dot t = absurd t

-- no symbol follows
no_symbol : (text : List ℕ) (b : Naming) (place : ℕ) (e : SymbolOctetsError) → ReadsAt text place (Err e) → NameStops text b.labels b.current place (refusal_of e)
no_symbol text b place NoUtf8 r = (NoUtf8, r, refl)
no_symbol text b place NoEscape r = (NoEscape, r, refl)
no_symbol text b place Short r = (Short, r, refl)

pub name_refused : (text : List ℕ) (b : Naming) (place : ℕ) (fault : Fault) → HasNamed text b.labels b.current (drop place text) → place ≤ length text
    → (e : SymbolOctetsError) × ReadsAt text place (Err e) × (fault ≡ record { refusal = refusal_of e; place = place }) → ReadsNameText text (Err fault)
name_refused text b place fault h within r =
    subst (λ f. ReadsNameText text (Err f)) (sym r.2) (b.labels, b.current, h, within, no_symbol text b place r.0 r.1)

-- the root fits
pub root_fits : (labels : List (List ℕ)) (r : Result (List (List ℕ)) PushError) → wire_length labels ≤ 254 → AnswersRoot labels (exactly 255) r → IsOk r
root_fits labels (Ok name) h a = refl
root_fits labels (Err LongName) h a = absurd a
root_fits labels (Err NoLabel) h a = absurd a
root_fits labels (Err ShortBuf) h a = absurd (omega (arith, a, h))

-- the result for other octets
pub given_as : (octets want old new : List ℕ) (status : ℕ) (outcome : Outcome) → octets ≡ want → CopiesWhole octets old status new outcome → CopiesWhole want old status new outcome
given_as octets want old new status outcome is g = subst (λ o. CopiesWhole o old status new outcome) is g

-- octets are left
pub some_left : (text : List ℕ) (after : ℕ) → after ≤ length text → (after ≡ length text → ⊥) → drop after text ≡ [] → ⊥
some_left text after le not e = omega (arith, le, not, ap length e, length-drop after text)
