-- A TTL and a class before other tokens are found in one way, if no token is both.
use Rattle.std.proofs.Common.{◌≡◌, ℕ, true, List, [], ◌∷◌, ◌++◌, ◌⊎◌, inl, inr, Option, Some, None, refl, sym, ap, subst, ◌∙◌}
use Rattle.std.specs.Prelude.{is_some}
use Rattle.zone_reader.specs.Headers.{ParsesTtlAndClass, ParsesOptional, NoneNext, IsOptionalWord, EndsHead}

-- one token is parsed in one way
one_once : {T : Type 0} (Says : T → ℕ → Type 0) → ((t : T) (n m : ℕ) → Says t n → Says t m → n ≡ m) → (tokens r s : List T) (v w : Option ℕ) → ParsesOptional Says tokens v r → ParsesOptional Says tokens w s → (v ≡ w) × (r ≡ s)
one_once Says once tokens r s (Some n) (Some m) h k =
    let same : h.0 ∷ r ≡ k.0 ∷ s = sym h.1 ∙ k.1 in
    let first : h.0 ≡ k.0 = cc in
    let rest : r ≡ s = cc in
    (ap Some (once k.0 n m (subst (λ t. Says t n) first h.2) k.2), rest)
one_once Says once tokens r s (Some n) None h k = let none : NoneNext Says (h.0 ∷ r) = subst (NoneNext Says) h.1 k.1 in absurd (none n h.2)
one_once Says once tokens r s None (Some m) h k = let none : NoneNext Says (k.0 ∷ s) = subst (NoneNext Says) k.1 h.1 in absurd (none m k.2)
one_once Says once tokens r s None None h k = (refl, h.0 ∙ sym k.0)

module _ {T : Type 0} (SaysTtl SaysClass : T → ℕ → Type 0)
    (ttl_once : (t : T) (n m : ℕ) → SaysTtl t n → SaysTtl t m → n ≡ m)
    (class_once : (t : T) (n m : ℕ) → SaysClass t n → SaysClass t m → n ≡ m)
    (apart : (t : T) (n m : ℕ) → SaysTtl t n → SaysClass t m → ⊥) where
  -- the TTL comes first
  record TtlFirst (tokens : List T) (ttl class : Option ℕ) (rest : List T) : Type 0 where
    middle : List T
    some : is_some ttl ≡ true
    one : ParsesOptional SaysTtl tokens ttl middle
    two : ParsesOptional SaysClass middle class rest

  -- the class comes first
  record ClassFirst (tokens : List T) (ttl class : Option ℕ) (rest : List T) : Type 0 where
    middle : List T
    none : NoneNext SaysTtl tokens
    some : is_some class ≡ true
    one : ParsesOptional SaysClass tokens class middle
    two : ParsesOptional SaysTtl middle ttl rest

  -- neither
  record Neither (tokens : List T) (ttl class : Option ℕ) (rest : List T) : Type 0 where
    ttl_none : ttl ≡ None
    class_none : class ≡ None
    same : rest ≡ tokens
    no_ttl : NoneNext SaysTtl tokens
    no_class : NoneNext SaysClass tokens

  abbrev Run : List T → Option ℕ → Option ℕ → List T → Type 0
  Run tokens ttl class rest = TtlFirst tokens ttl class rest ⊎ (ClassFirst tokens ttl class rest ⊎ Neither tokens ttl class rest)

  neither : (ttl class : Option ℕ) (rest : List T) → ttl ≡ None → class ≡ None → EndsHead SaysTtl SaysClass ttl class rest → Run rest ttl class rest
  neither ttl class rest p q ends = inr (inr (record { ttl_none = p; class_none = q; same = refl; no_ttl = ends.0 p; no_class = ends.1 q }))

  class_alone : (u : T) (ttl class : Option ℕ) (rest : List T) → ttl ≡ None → IsOptionalWord SaysClass (u ∷ []) class → EndsHead SaysTtl SaysClass ttl class rest → Run (u ∷ rest) ttl class rest
  class_alone u (Some n) class rest p q ends = cc
  class_alone u None None rest p q ends = absurd q
  class_alone u None (Some m) rest p q ends =
      inr (inl (record { middle = rest; none = λ n h. apart u n m h q; some = refl; one = (u, refl, q); two = (refl, ends.0 refl) }))

  ttl_alone : (t : T) (ttl class : Option ℕ) (rest : List T) → IsOptionalWord SaysTtl (t ∷ []) ttl → class ≡ None → EndsHead SaysTtl SaysClass ttl class rest → Run (t ∷ rest) ttl class rest
  ttl_alone t None class rest p q ends = absurd p
  ttl_alone t (Some n) (Some m) rest p q ends = cc
  ttl_alone t (Some n) None rest p q ends = inl (record { middle = rest; some = refl; one = (t, refl, p); two = (refl, ends.1 refl) })

  ttl_then_class : (t u : T) (ttl class : Option ℕ) (rest : List T) → IsOptionalWord SaysTtl (t ∷ []) ttl → IsOptionalWord SaysClass (u ∷ []) class → Run (t ∷ u ∷ rest) ttl class rest
  ttl_then_class t u None class rest p q = absurd p
  ttl_then_class t u (Some n) None rest p q = absurd q
  ttl_then_class t u (Some n) (Some m) rest p q = inl (record { middle = u ∷ rest; some = refl; one = (t, refl, p); two = (u, refl, q) })

  class_then_ttl : (u t : T) (ttl class : Option ℕ) (rest : List T) → IsOptionalWord SaysClass (u ∷ []) class → IsOptionalWord SaysTtl (t ∷ []) ttl → Run (u ∷ t ∷ rest) ttl class rest
  class_then_ttl u t ttl None rest p q = absurd p
  class_then_ttl u t None (Some m) rest p q = absurd q
  class_then_ttl u t (Some n) (Some m) rest p q =
      inr (inl (record { middle = t ∷ rest; none = λ n h. apart u n m h p; some = refl; one = (u, refl, p); two = (t, refl, q) }))

  run_by : (front back rest : List T) (ttl class : Option ℕ) → (IsOptionalWord SaysTtl front ttl × IsOptionalWord SaysClass back class) ⊎ (IsOptionalWord SaysClass front class × IsOptionalWord SaysTtl back ttl)
      → EndsHead SaysTtl SaysClass ttl class rest → Run ((front ++ back) ++ rest) ttl class rest
  run_by [] [] rest ttl class (inl h) ends = neither ttl class rest h.0 h.1 ends
  run_by [] [] rest ttl class (inr h) ends = neither ttl class rest h.1 h.0 ends
  run_by [] (u ∷ []) rest ttl class (inl h) ends = class_alone u ttl class rest h.0 h.1 ends
  run_by [] (t ∷ []) rest ttl class (inr h) ends = ttl_alone t ttl class rest h.1 h.0 ends
  run_by (t ∷ []) [] rest ttl class (inl h) ends = ttl_alone t ttl class rest h.0 h.1 ends
  run_by (u ∷ []) [] rest ttl class (inr h) ends = class_alone u ttl class rest h.1 h.0 ends
  run_by (t ∷ []) (u ∷ []) rest ttl class (inl h) ends = ttl_then_class t u ttl class rest h.0 h.1
  run_by (u ∷ []) (t ∷ []) rest ttl class (inr h) ends = class_then_ttl u t ttl class rest h.0 h.1
  run_by front (x ∷ y ∷ back) rest ttl class (inl h) ends = absurd h.1
  run_by front (x ∷ y ∷ back) rest ttl class (inr h) ends = absurd h.1
  run_by (x ∷ y ∷ front) back rest ttl class (inl h) ends = absurd h.0
  run_by (x ∷ y ∷ front) back rest ttl class (inr h) ends = absurd h.0

  run_of : (tokens rest : List T) (ttl class : Option ℕ) → ParsesTtlAndClass SaysTtl SaysClass tokens ttl class rest → Run tokens ttl class rest
  run_of tokens rest ttl class h =
      subst (λ l. Run l ttl class rest) (sym (h.whole ∙ ap (λ l. l ++ rest) h.is.whole)) (run_by h.is.front h.is.back rest ttl class h.is.order h.ends)

  not_none : (v w : Option ℕ) → is_some v ≡ true → v ≡ w → w ≡ None → ⊥
  not_none None w some same none = cc
  not_none (Some n) w some same none = cc

  module _ (tokens r s : List T) (a b c d : Option ℕ) where
    abbrev Same : Type 0
    Same = (a ≡ c) × (b ≡ d) × (r ≡ s)

    ttl_same : TtlFirst tokens a b r → TtlFirst tokens c d s → Same
    ttl_same h k =
        let one = one_once SaysTtl ttl_once tokens h.middle k.middle a c h.one k.one in
        let two = one_once SaysClass class_once k.middle r s b d (subst (λ l. ParsesOptional SaysClass l b r) one.1 h.two) k.two in
        (one.0, two.0, two.1)

    class_same : ClassFirst tokens a b r → ClassFirst tokens c d s → Same
    class_same h k =
        let one = one_once SaysClass class_once tokens h.middle k.middle b d h.one k.one in
        let two = one_once SaysTtl ttl_once k.middle r s a c (subst (λ l. ParsesOptional SaysTtl l a r) one.1 h.two) k.two in
        (two.0, one.0, two.1)

    no_ttl_first : (ttl : Option ℕ) (middle : List T) → is_some ttl ≡ true → ParsesOptional SaysTtl tokens ttl middle → NoneNext SaysTtl tokens → ⊥
    no_ttl_first ttl middle some h none = not_none ttl None some (one_once SaysTtl ttl_once tokens middle tokens ttl None h (refl, none)).0 refl

    no_class_first : (class : Option ℕ) (middle : List T) → is_some class ≡ true → ParsesOptional SaysClass tokens class middle → NoneNext SaysClass tokens → ⊥
    no_class_first class middle some h none = not_none class None some (one_once SaysClass class_once tokens middle tokens class None h (refl, none)).0 refl

    runs_once : Run tokens a b r → Run tokens c d s → Same
    runs_once (inl h) (inl k) = ttl_same h k
    runs_once (inl h) (inr (inl k)) = absurd (no_ttl_first a h.middle h.some h.one k.none)
    runs_once (inl h) (inr (inr k)) = absurd (no_ttl_first a h.middle h.some h.one k.no_ttl)
    runs_once (inr (inl h)) (inl k) = absurd (no_ttl_first c k.middle k.some k.one h.none)
    runs_once (inr (inl h)) (inr (inl k)) = class_same h k
    runs_once (inr (inl h)) (inr (inr k)) = absurd (no_class_first b h.middle h.some h.one k.no_class)
    runs_once (inr (inr h)) (inl k) = absurd (no_ttl_first c k.middle k.some k.one h.no_ttl)
    runs_once (inr (inr h)) (inr (inl k)) = absurd (no_class_first d k.middle k.some k.one h.no_class)
    runs_once (inr (inr h)) (inr (inr k)) = (h.ttl_none ∙ sym k.ttl_none, h.class_none ∙ sym k.class_none, h.same ∙ sym k.same)

  pub heads_once : (tokens r s : List T) (a b c d : Option ℕ) → ParsesTtlAndClass SaysTtl SaysClass tokens a b r → ParsesTtlAndClass SaysTtl SaysClass tokens c d s → (a ≡ c) × (b ≡ d) × (r ≡ s)
  heads_once tokens r s a b c d h k = runs_once tokens r s a b c d (run_of tokens r a b h) (run_of tokens s c d k)
