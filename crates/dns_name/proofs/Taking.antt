-- Characters that were consumed from a source, and the name that they are a text of.
use Rattle.std.proofs.Common.{◌≡◌, ℕ, ◌+◌, ◌<◌, ◌≤◌, true, false, List, [], ◌∷◌, ◌++◌, length, refl, sym, ap, subst, ◌∙◌, arith, append_assoc, append-nil, length-append, Option, Some, None}
use Rattle.std.proofs.Common.{Result, Ok, Err, inl, inr, ⊎_elim}
use Rattle.std.specs.Prelude.{encode_utf8_all, IsTrue, is_some}
use Rattle.std.specs.Iterator.{Yields}
use Rattle.std.specs.Char.{encode_utf8}
use Rattle.std.proofs.lemmas.Str.{encodes-append, length-encode, len_utf8_bounds}
use Rattle.dns_octets.specs.Room.{Room}
use Rattle.dns_symbol.specs.Symbol.{spell, bytes, is_readable}
use Rattle.dns_symbol.specs.Text.{EndsAs}
use Rattle.dns_symbol.specs.Reading.{ReadsSymbol}
use Rattle.dns_symbol.specs.declared.symbol.Symbol.{Symbol}
use Rattle.dns_symbol.specs.declared.symbol.Symbol.TheVariants.{Char, SimpleEscape, DecimalEscape}
use Rattle.dns_symbol.specs.declared.error.SymbolCharsError.{SymbolCharsError}
use Rattle.dns_symbol.specs.declared.error.SymbolCharsError.TheVariants.{BadEscape, ShortInput}
use Rattle.dns_symbol.proofs.Endings.{cut_ends, cut_ascii, refused_ends}
use Rattle.std.proofs.lemmas.Bool.Decides.{nat_tests}
use Rattle.dns_wire.specs.Wire.{wire_length}
use Rattle.dns_wire.specs.Building.{Naming, closed, all_labels, with_octet, ended, no_labels}
use Rattle.dns_wire.proofs.Wires.{wire_length_append}
use Rattle.dns_name.specs.Reading.{is_dot, HasNamed, HasNamedBefore, ReadsName, ReadsChars}
use Rattle.dns_name.specs.ReadingSteps.{PushesSymbol, SymbolHasOctet, MakesAbsolute, Finishes}
use Rattle.dns_name.specs.declared.name.UncertainName.{UncertainName}
use Rattle.dns_name.specs.declared.name.UncertainName.TheVariants.{Absolute, Relative}
use Rattle.dns_name.specs.declared.name.error.FromStrError.{FromStrError}
use Rattle.dns_name.specs.declared.name.error.FromStrError.TheVariants.{Symbol as NoSymbol, BadOctet, BinaryLabel, EmptyLabel, LongLabel, LongName, ShortBuf}
use Rattle.dns_name.proofs.Naming.{named_none, named_octet, named_dot, named_on, named_nothing, dot_bytes}

module _ {S : Type 0} (steps : S → Option ℕ → S → Type 0) where
  joined : (xs ys : List ℕ) (s t u : S) → Yields steps s xs t → Yields steps t ys u → Yields steps s (xs ++ ys) u
  joined [] ys s t u p q = subst (λ v. Yields steps v ys u) (sym p) q
  joined (x ∷ xs) ys s t u p q = (p.0, p.1, joined xs ys p.0 t u p.2 q)

  -- what was consumed from s to t, and its name
  pub record Taken (room : Room) (s t : S) (b : Naming) : Type 0 where
    pub taken : List ℕ
    pub given : Yields steps s taken t
    pub named : HasNamed (encode_utf8_all taken) b.labels b.current []
    pub within : wire_length (all_labels b) ≤ room.capacity

  module _ (room : Room) (s t u : S) (b : Naming) (h : Taken room s t b) where
    pub taken_octet : (x : Symbol) (octet : ℕ) → (is_readable x ≡ true) × Yields steps t (spell x) u → is_dot x ≡ false → SymbolHasOctet b x octet
        → wire_length (all_labels (with_octet b octet)) ≤ 254 → length b.current < 63 → wire_length (all_labels (with_octet b octet)) ≤ room.capacity
        → Taken room s u (with_octet b octet)
    taken_octet x octet read no_dot gives fits short within = record {
      taken = h.taken ++ spell x;
      given = joined h.taken (spell x) s t u h.given read.1;
      named = subst (λ l. HasNamed l b.labels (b.current ++ octet ∷ []) []) (sym (encodes-append h.taken (spell x)))
          (named_octet (encode_utf8_all h.taken) b.labels b.current x octet h.named read.0 no_dot gives.1 gives.0 fits short);
      within = within;
    }

    encoded_dot : encode_utf8_all (h.taken ++ 46 ∷ []) ≡ encode_utf8_all h.taken ++ 46 ∷ []
    encoded_dot = encodes-append h.taken (46 ∷ []) ∙ ap (λ l. encode_utf8_all h.taken ++ l) dot_bytes

    pub taken_dot : Yields steps t (46 ∷ []) u → 0 < length b.current → Taken room s u (ended b)
    taken_dot given some = record {
      taken = h.taken ++ 46 ∷ [];
      given = joined h.taken (46 ∷ []) s t u h.given given;
      named = subst (λ l. HasNamed l (all_labels b) [] []) (sym encoded_dot) (named_dot (encode_utf8_all h.taken) b.labels b.current h.named some);
      within = subst (λ l. wire_length l ≤ room.capacity) (sym (append-nil (all_labels b))) h.within;
    }

    -- what precedes a symbol that is rejected
    before : (x : Symbol) (more : List ℕ) → is_readable x ≡ true → is_dot x ≡ false
        → HasNamedBefore (encode_utf8_all ((h.taken ++ spell x) ++ more)) b.labels b.current x
    before x more readable no_dot = record {
      rest = encode_utf8_all more;
      named = subst (λ l. HasNamed l b.labels b.current (bytes x ++ encode_utf8_all more))
          (sym (ap encode_utf8_all (append_assoc h.taken (spell x) more) ∙ encodes-append h.taken (spell x ++ more)
          ∙ ap (λ l. encode_utf8_all h.taken ++ l) (encodes-append (spell x) more)))
          (named_on (encode_utf8_all h.taken) b.labels b.current [] (bytes x ++ encode_utf8_all more) h.named);
      readable = readable;
      no_dot = no_dot;
    }

    named_closed : (text rest : List ℕ) → b.current ≡ [] → HasNamed text b.labels b.current rest → HasNamed text b.labels [] rest
    named_closed text rest none named = subst (λ c. HasNamed text b.labels c rest) none named

    within_closed : b.current ≡ [] → wire_length b.labels ≤ room.capacity
    within_closed none = subst (λ l. wire_length l ≤ room.capacity) (ap (λ c. b.labels ++ closed c) none ∙ append-nil b.labels) h.within

    all_closed : b.current ≡ [] → all_labels b ≡ b.labels
    all_closed none = ap (λ c. b.labels ++ closed c) none ∙ append-nil b.labels

    module _ (O : Type 0) where
      pub refused_symbol : (x : Symbol) (e : FromStrError) (new : Naming) → (is_readable x ≡ true) × Yields steps t (spell x) u → is_dot x ≡ false
          → PushesSymbol room b x (Err e) new → ReadsChars {O = O} steps s room (Err e)
      refused_symbol x e new read no_dot refuses =
          (h.taken ++ spell x, inr (u, joined h.taken (spell x) s t u h.given read.1, λ more. by e (before x more read.0 no_dot) refuses))
        where
          by : {text : List ℕ} (e : FromStrError) → HasNamedBefore text b.labels b.current x → PushesSymbol room b x (Err e) new
              → ReadsName {O = O} room text (Err e)
          by {text} BinaryLabel f r =
              (b.labels, subst (λ y. HasNamedBefore text b.labels [] y) r.1 (subst (λ c. HasNamedBefore text b.labels c x) r.0 f), within_closed r.0)
          by BadOctet f r = (b.labels, b.current, x, r.0, f, r.1, h.within)
          by LongName f r = (b.labels, b.current, r.0, (x, f, r.1.1, r.1.0), r.2, h.within)
          by LongLabel f r =
              (b.labels, b.current, r.0, (x, f, r.1.1, r.1.0), r.2, omega (arith, r.3, f.named.names.opened.short), h.within)
          by ShortBuf f r = inl (b.labels, b.current, r.0, (x, f, r.1.1, r.1.0), r.2, r.3, h.within, r.4)
          by EmptyLabel f r = absurd r
          by (NoSymbol c) f r = absurd r

      -- if no symbol follows
      pub refused_text : (e : SymbolCharsError) → ReadsSymbol steps t (Err e) u → ReadsChars {O = O} steps s room (Err (NoSymbol e))
      refused_text ShortInput r =
          let cut = r.0 in (
            h.taken ++ cut,
            inl (
              (u, (r.2.0, joined h.taken cut s t r.2.0 h.given r.2.1, r.2.2)),
              (
                b.labels,
                b.current,
                encode_utf8_all cut,
                subst (λ l. HasNamed l b.labels b.current (encode_utf8_all cut)) (sym (encodes-append h.taken cut))
                    (named_on (encode_utf8_all h.taken) b.labels b.current [] (encode_utf8_all cut) h.named),
                subst (λ l. EndsAs l (Some ShortInput)) (sym (cut_ascii cut r.1)) (cut_ends cut r.1),
                h.within,
              ),
            ),
          )
      refused_text BadEscape r =
          let escape = r.0 in (
            h.taken ++ escape,
            inr (
              u,
              joined h.taken escape s t u h.given r.2,
              λ more. (
                b.labels,
                b.current,
                encode_utf8_all (escape ++ more),
                subst (λ l. HasNamed l b.labels b.current (encode_utf8_all (escape ++ more)))
                    (sym (ap encode_utf8_all (append_assoc h.taken escape more) ∙ encodes-append h.taken (escape ++ more)))
                    (named_on (encode_utf8_all h.taken) b.labels b.current [] (encode_utf8_all (escape ++ more)) h.named),
                refused_ends escape more r.1,
                h.within,
              ),
            ),
          )

      -- a dot without an open label, and characters before or after it
      dot_more : (more : List ℕ) → encode_utf8_all ((h.taken ++ 46 ∷ []) ++ more) ≡ encode_utf8_all h.taken ++ (46 ∷ encode_utf8_all more)
      dot_more more =
          encodes-append (h.taken ++ 46 ∷ []) more ∙ ap (λ l. l ++ encode_utf8_all more) encoded_dot
          ∙ append_assoc (encode_utf8_all h.taken) (46 ∷ []) (encode_utf8_all more)

      dot_before : (more : List ℕ) → b.current ≡ [] → HasNamed (encode_utf8_all ((h.taken ++ 46 ∷ []) ++ more)) b.labels [] (46 ∷ encode_utf8_all more)
      dot_before more none =
          subst (λ l. HasNamed l b.labels [] (46 ∷ encode_utf8_all more)) (sym (dot_more more))
          (named_on (encode_utf8_all h.taken) b.labels [] [] (46 ∷ encode_utf8_all more) (named_closed _ _ none h.named))

      pub refused_dot : Yields steps t (46 ∷ []) u → b.current ≡ [] → (b.labels ≡ [] → ⊥) → ReadsChars {O = O} steps s room (Err EmptyLabel)
      refused_dot given none some = (
        h.taken ++ 46 ∷ [],
        inr (
          u,
          joined h.taken (46 ∷ []) s t u h.given given,
          λ more. (b.labels, encode_utf8_all more, dot_before more none, (λ e. absurd (some e)), within_closed none),
        ),
      )

      pub refused_first : (c : ℕ) (v : S) → Yields steps t (46 ∷ []) u → steps u (Some c) v → b.current ≡ []
          → ReadsChars {O = O} steps s room (Err EmptyLabel)
      refused_first c v given next none = (
        (h.taken ++ 46 ∷ []) ++ c ∷ [],
        inr (
          v,
          joined (h.taken ++ 46 ∷ []) (c ∷ []) s u v (joined h.taken (46 ∷ []) s t u h.given given) (v, next, refl),
          λ more. (
            b.labels,
            encode_utf8_all (c ∷ more),
            subst (λ l. HasNamed (encode_utf8_all l) b.labels [] (46 ∷ encode_utf8_all (c ∷ more)))
                (sym (append_assoc (h.taken ++ 46 ∷ []) (c ∷ []) more)) (dot_before (c ∷ more) none),
            (λ e f. some_bytes c more f),
            within_closed none,
          ),
        ),
      )
        where
          some_bytes : (c : ℕ) (more : List ℕ) → encode_utf8_all (c ∷ more) ≡ [] → ⊥
          some_bytes c more f = omega (arith, ap length f, length-append (encode_utf8 c) (encode_utf8_all more), length-encode c, (len_utf8_bounds c).0)

      -- a dot alone
      pub read_root : (v : S) (r : Result (UncertainName O) FromStrError) → Yields steps t (46 ∷ []) u → steps u None v → b.current ≡ [] → b.labels ≡ []
          → MakesAbsolute room b r → ReadsChars {O = O} steps s room r
      read_root v r given end none nothing makes =
          (h.taken ++ 46 ∷ [], inl ((v, (u, joined h.taken (46 ∷ []) s t u h.given given, end)), by r makes))
        where
          empty : all_labels b ≡ []
          empty = all_closed none ∙ nothing

          text : encode_utf8_all (h.taken ++ 46 ∷ []) ≡ 46 ∷ []
          text =
              encoded_dot ∙ ap (λ l. l ++ 46 ∷ [])
              (named_nothing (encode_utf8_all h.taken) (subst (λ l. HasNamed (encode_utf8_all h.taken) l [] []) nothing (named_closed _ _ none h.named)))

          by : (r : Result (UncertainName O) FromStrError) → MakesAbsolute room b r → ReadsName room (encode_utf8_all (h.taken ++ 46 ∷ [])) r
          by (Ok (Absolute name)) m = (
            inl (text, m.0 ∙ ap (λ l. l ++ [] ∷ []) empty),
            subst (λ l. wire_length l ≤ room.capacity) (sym (m.0 ∙ ap (λ l. l ++ [] ∷ []) empty)) (omega (arith, m.1)),
          )
          by (Ok (Relative name)) m = absurd m
          by (Err ShortBuf) m = inr (inl (text, subst (λ l. room.fits < wire_length l + 1) empty m))
          by (Err BinaryLabel) m = absurd m
          by (Err BadOctet) m = absurd m
          by (Err LongName) m = absurd m
          by (Err LongLabel) m = absurd m
          by (Err EmptyLabel) m = absurd m
          by (Err (NoSymbol e)) m = absurd m

      -- the end
      pub read_end : (r : Result (UncertainName O) FromStrError) → steps t None u → Finishes room b r → ReadsChars {O = O} steps s room r
      read_end r last f = (
        h.taken,
        inl (
          (u, (t, h.given, last)),
          ⊎_elim
              (λ p. subst (λ q. ReadsName room (encode_utf8_all h.taken) q) (sym p.1) (
                (
                  b.labels,
                  b.current,
                  h.named,
                  p.2,
                  λ none. named_nothing _ (subst (λ l. HasNamed (encode_utf8_all h.taken) l [] []) (p.3 none) (named_closed _ _ none h.named)),
                ),
                subst (λ l. wire_length l ≤ room.capacity) (sym p.2) h.within,
              ))
              (λ p. by r p.0 p.1 p.2) f,
        ),
      )
        where
          by : (r : Result (UncertainName O) FromStrError) → b.current ≡ [] → (b.labels ≡ [] → ⊥) → MakesAbsolute room b r
              → ReadsName room (encode_utf8_all h.taken) r
          by (Ok (Absolute name)) none some m =
              let e : name ≡ b.labels ++ [] ∷ [] = m.0 ∙ ap (λ l. l ++ [] ∷ []) (all_closed none) in (
                inr (b.labels, named_closed _ _ none h.named, some, e),
                subst (λ l. wire_length l ≤ room.capacity) (sym m.0) (omega (arith, m.1, wire_length_append (all_labels b) ([] ∷ []))),
              )
          by (Ok (Relative name)) none some m = absurd m
          by (Err ShortBuf) none some m =
              inr (inr (b.labels, named_closed _ _ none h.named, some, within_closed none, subst (λ l. room.fits < wire_length l + 1) (all_closed none) m))
          by (Err BinaryLabel) none some m = absurd m
          by (Err BadOctet) none some m = absurd m
          by (Err LongName) none some m = absurd m
          by (Err LongLabel) none some m = absurd m
          by (Err EmptyLabel) none some m = absurd m
          by (Err (NoSymbol e)) none some m = absurd m

-- before anything was consumed
pub taken_none : {S : Type 0} (steps : S → Option ℕ → S → Type 0) (room : Room) (s : S) (b : Naming) → b ≡ no_labels → Taken steps room s s b
taken_none steps room s b is = subst (λ n. Taken steps room s s n) (sym is) (record { taken = []; given = refl; named = named_none; within = omega arith })

-- a plain dot is spelled by itself
pub dot_spelled : (x : Symbol) → is_dot x ≡ true → spell x ≡ 46 ∷ []
dot_spelled (Char c) h = let e : c ≡ 46 = Prim.grind (arith, nat_tests) in ap (λ n. n ∷ []) e
dot_spelled (SimpleEscape o) h = absurd cc
dot_spelled (DecimalEscape o) h = absurd cc

pub empty_labels : (b : Naming) → all_labels b ≡ [] → b.labels ≡ []
empty_labels b h = by b.labels (closed b.current) h
  where
    by : (xs ys : List (List ℕ)) → xs ++ ys ≡ [] → xs ≡ []
    by [] ys h = refl
    by (x ∷ xs) ys h = absurd cc

pub no_current : (b : Naming) → b.current ≡ [] → b.labels ≡ [] → all_labels b ≡ []
no_current b none nothing = (λ i. nothing i ++ closed (none i))

pub not_open : (xs : List ℕ) → ((xs ≡ [] → ⊥) → IsTrue false) → xs ≡ []
not_open [] h = refl
not_open (x ∷ xs) h = let e : false ≡ true = h (λ q. cc) in absurd cc

pub open_some : (xs : List ℕ) → (xs ≡ [] → ⊥) → 0 < length xs
open_some [] h = absurd (h refl)
open_some (x ∷ xs) h = omega arith

pub some_labels : (b : Naming) → (all_labels b ≡ [] → IsTrue false) → b.current ≡ [] → b.labels ≡ [] → ⊥
some_labels b h none nothing = let e : false ≡ true = h (no_current b none nothing) in cc

-- a call that returned nothing, or something
pub none_given : {S : Type 0} (steps : S → Option ℕ → S → Type 0) (s t : S) (r : Option ℕ) → steps s r t → false ≡ is_some r → steps s None t
none_given steps s t None h e = h
none_given steps s t (Some x) h e = absurd cc

pub some_given : {S : Type 0} (steps : S → Option ℕ → S → Type 0) (s t : S) (r : Option ℕ) → steps s r t → true ≡ is_some r → (c : ℕ) × steps s (Some c) t
some_given steps s t None h e = absurd cc
some_given steps s t (Some x) h e = (x, h)
