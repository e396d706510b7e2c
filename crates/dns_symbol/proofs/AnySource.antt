-- A printed symbol is parsed as itself from any source of characters.
use Rattle.std.proofs.Common.{◌≡◌, ℕ, true, List, [], ◌∷◌, ◌++◌, refl, sym, ap, ◌∙◌, append-nil, Option, Some, None, Result, Ok, Err, ◌⊎◌, inl, inr}
use Rattle.std.specs.Prelude.{encode_utf8_all}
use Rattle.std.specs.Iterator.{Yields, AlwaysYields}
use Rattle.std.proofs.lemmas.Str.{encodes-append}
use Rattle.dns_symbol.specs.Symbol.{spell, bytes, is_readable}
use Rattle.dns_symbol.specs.Reading.{ReadsSymbol, AlwaysBegins}
use Rattle.dns_symbol.specs.declared.symbol.Symbol.{Symbol}
use Rattle.dns_symbol.specs.declared.symbol.Symbol.TheVariants.{Char, SimpleEscape, DecimalEscape}
use Rattle.dns_symbol.specs.declared.error.SymbolCharsError.{SymbolCharsError}
use Rattle.dns_symbol.specs.declared.error.SymbolCharsError.TheVariants.{BadEscape, ShortInput}
use Rattle.dns_symbol.proofs.Unique.{bytes_same}
use Rattle.dns_symbol.proofs.Endings.{cut_ends, cut_ascii}

no_item : (c : ℕ) (o : Option ℕ) → o ≡ None → o ≡ Some c → ⊥
no_item c o none some = cc

module _ {S : Type 0} (steps : S → Option ℕ → S → Type 0) where
  -- of the next characters and the consumed ones, one list is a prefix of the other
  along : (cs ds : List ℕ) (s t : S) → AlwaysBegins steps s cs → Yields steps s ds t
      → ((m : List ℕ) × (cs ≡ ds ++ m) × AlwaysBegins steps t m) ⊎ ((n : List ℕ) × (ds ≡ cs ++ n))
  along cs [] s t h k = inl (cs, refl, rw (← k) h)
  along [] (d ∷ ds) s t h k = inr (d ∷ ds, refl)
  along (c ∷ cs) (d ∷ ds) s t h k =
      let e = h (Some d) k.0 k.1 in
      let same : d ≡ c = cc in
      elim (along cs ds k.0 t e.1 k.2) [
        | inl p ↦ inl (p.0, (λ i. sym same i ∷ p.1 i), p.2)
        | inr p ↦ inr (p.0, λ i. same i ∷ p.1 i)
      ]

  -- so some text begins with both
  meet : (cs ds : List ℕ) (s t : S) → AlwaysBegins steps s cs → Yields steps s ds t → (m : List ℕ) × (n : List ℕ) × (cs ++ m ≡ ds ++ n)
  meet cs ds s t h k = elim (along cs ds s t h k) [
    | inl p ↦ ([], p.0, append-nil cs ∙ p.1)
    | inr p ↦ (p.0, [], sym (p.1) ∙ sym (append-nil ds))
  ]

  -- if the source ends, they were consumed whole
  whole : (cs ds : List ℕ) (s t u : S) → AlwaysBegins steps s cs → Yields steps s ds t → steps t None u → (n : List ℕ) × (ds ≡ cs ++ n)
  whole cs ds s t u h k last = elim (along cs ds s t h k) [ inl p ↦ ended p.0 p.1 p.2 | inr p ↦ p ]
    where
      ended : (m : List ℕ) → cs ≡ ds ++ m → AlwaysBegins steps t m → (n : List ℕ) × (ds ≡ cs ++ n)
      ended [] is more = ([], sym (append-nil ds) ∙ sym is ∙ sym (append-nil cs))
      ended (c ∷ m) is more = absurd (no_item c None refl (more None u last).0)

  encoded : (x : Symbol) (n : List ℕ) → encode_utf8_all (spell x ++ n) ≡ bytes x ++ encode_utf8_all n
  encoded x n = encodes-append (spell x) n

  -- whatever the result of one parse, it is the symbol, and its characters were consumed
  pub read_from_any : (x : Symbol) (s t : S) (q : Result (Option Symbol) SymbolCharsError) → is_readable x ≡ true → AlwaysBegins steps s (spell x)
      → ReadsSymbol steps s q t → (q ≡ Ok (Some x)) × Yields steps s (spell x) t
  read_from_any x s t (Ok None) are h k = absurd (never x h)
    where
      never : (x : Symbol) → AlwaysBegins steps s (spell x) → ⊥
      never (Char c) h = no_item c None refl (h None t k).0
      never (SimpleEscape o) h = no_item 92 None refl (h None t k).0
      never (DecimalEscape o) h = no_item 92 None refl (h None t k).0
  read_from_any x s t (Ok (Some y)) are h k =
      let e = meet (spell x) (spell y) s t h k.1 in
      let texts : bytes x ++ encode_utf8_all e.0 ≡ bytes y ++ encode_utf8_all e.1 = sym (encoded x e.0) ∙ ap encode_utf8_all e.2 ∙ encoded y e.1 in
      let same = bytes_same x y (encode_utf8_all e.0) (encode_utf8_all e.1) are k.0 texts in
      (ap (λ z. Ok (Some z)) (sym same.0), rw same.0 k.1)
  read_from_any x s t (Err ShortInput) are h k =
      let e = whole (spell x) k.0 s k.2.0 t h k.2.1 k.2.2 in
      let text : k.0 ≡ bytes x ++ encode_utf8_all e.0 = sym (cut_ascii k.0 k.1) ∙ ap encode_utf8_all e.1 ∙ encoded x e.0 in
      let ends = cut_ends k.0 k.1 in
      absurd (ends.1 x (encode_utf8_all e.0) (record { readable = are; spelled = text }))
  read_from_any x s t (Err BadEscape) are h k =
      let e = meet (spell x) k.0 s t h k.2 in
      absurd (k.1.5 e.1 e.0 x are (sym e.2))

  -- characters that the source always yields, and those after them
  pub begins_of : (cs rest : List ℕ) (s : S) → AlwaysYields steps (λ c. c) s (cs ++ rest) → AlwaysBegins steps s cs
  begins_of [] rest s h = tt
  begins_of (c ∷ cs) rest s h = λ o t k. one (λ t e. begins_of cs rest t e) o t k
    where
      one : ((t : S) → AlwaysYields steps (λ c. c) t (cs ++ rest) → AlwaysBegins steps t cs)
          → (o : Option ℕ) (t : S) → steps s o t → (o ≡ Some c) × AlwaysBegins steps t cs
      one others None t k = absurd (h.0 t k)
      one others (Some d) t k = let e = h.1 d t k in (ap Some e.0, others t e.1)

  pub left_after : (cs rest : List ℕ) (s t : S) → AlwaysYields steps (λ c. c) s (cs ++ rest) → Yields steps s cs t → AlwaysYields steps (λ c. c) t rest
  left_after [] rest s t h k = rw (← k) h
  left_after (c ∷ cs) rest s t h k = left_after cs rest k.0 t (h.1 c k.0 k.1).1 k.2
