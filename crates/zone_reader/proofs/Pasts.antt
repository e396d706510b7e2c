-- The last value of a kind.
use Rattle.std.proofs.Common.{ℕ, ◌≡◌, List, [], ◌∷◌, ◌++◌, Option, Some, None, refl, sym, subst, ap, ◌∙◌, inl, inr}
use Rattle.std.proofs.lemmas.List.{append_assoc}
use Rattle.std.proofs.lemmas.Option.{none-some}
use Rattle.zone_reader.specs.Past.{Declared, NewOrigin, NewOwner, NewDefaultTtl, NewTtl, default_ttl_declared, ttl_declared, NoneDeclared, DeclaredLast, IsTtlAfter, ttls_declared}

some_inside : {X : Type 0} → (x y : X) → Some x ≡ Some y → x ≡ y
some_inside x y e = cc

module _ {X : Type 0} (says : Declared → Option X) where
  pub silent_both : (past later : List Declared) → NoneDeclared says past → NoneDeclared says later → NoneDeclared says (past ++ later)
  silent_both [] later h k = k
  silent_both (s ∷ past) later h k = (h.0, silent_both past later h.1 k)

  silent_at : (before after : List Declared) (at : Declared) → NoneDeclared says (before ++ (at ∷ after)) → says at ≡ None
  silent_at [] after at h = h.0
  silent_at (s ∷ before) after at h = silent_at before after at h.1

  not_silent : (before after : List Declared) (at : Declared) (x : X) → NoneDeclared says (before ++ (at ∷ after)) → says at ≡ Some x → ⊥
  not_silent before after at x h is = none-some x (sym (silent_at before after at h) ∙ is)

  pub not_both : (past : List Declared) (x : X) → NoneDeclared says past → DeclaredLast says past x → ⊥
  not_both past x h last = not_silent last.before last.after last.at x (subst (NoneDeclared says) last.whole h) last.said

  -- after earlier values
  abbrev pub said_behind : (past later : List Declared) (x : X) → DeclaredLast says later x → DeclaredLast says (past ++ later) x
  said_behind past later x last = record {
    before = past ++ last.before;
    at = last.at;
    after = last.after;
    whole = ap (λ l. past ++ l) last.whole ∙ sym (append_assoc past last.before (last.at ∷ last.after));
    said = last.said;
    silent = last.silent;
  }

  -- and if nothing of the kind comes later
  abbrev pub said_then : (past later : List Declared) (x : X) → DeclaredLast says past x → NoneDeclared says later → DeclaredLast says (past ++ later) x
  said_then past later x last quiet = record {
    before = last.before;
    at = last.at;
    after = last.after ++ later;
    whole = ap (λ l. l ++ later) last.whole ∙ append_assoc last.before (last.at ∷ last.after) later;
    said = last.said;
    silent = silent_both last.after later last.silent quiet;
  }

  abbrev pub said_alone : (s : Declared) (x : X) → says s ≡ Some x → DeclaredLast says (s ∷ []) x
  said_alone s x is = record { before = []; at = s; after = []; whole = refl; said = is; silent = tt }

  -- the two places where it may be said are one
  cut_once : (before others after more : List Declared) (at there : Declared) (x y : X) → before ++ (at ∷ after) ≡ others ++ (there ∷ more) → says at ≡ Some x → says there ≡ Some y
      → NoneDeclared says after → NoneDeclared says more → (before ≡ others) × (at ≡ there)
  cut_once [] [] after more at there x y e is and_is quiet still = (refl, cc)
  cut_once [] (o ∷ others) after more at there x y e is and_is quiet still =
      let behind : after ≡ others ++ (there ∷ more) = cc in absurd (not_silent others more there y (subst (NoneDeclared says) behind quiet) and_is)
  cut_once (b ∷ before) [] after more at there x y e is and_is quiet still =
      let behind : more ≡ before ++ (at ∷ after) = cc in absurd (not_silent before after at x (subst (NoneDeclared says) behind still) is)
  cut_once (b ∷ before) (o ∷ others) after more at there x y e is and_is quiet still =
      let same : b ≡ o = cc in
      let behind : before ++ (at ∷ after) ≡ others ++ (there ∷ more) = cc in
      let rest = cut_once before others after more at there x y behind is and_is quiet still in
      ((λ i. same i ∷ rest.0 i), rest.1)

  some_same : (a b : Declared) (x y : X) → a ≡ b → says a ≡ Some x → says b ≡ Some y → x ≡ y
  some_same a b x y e is and_is = some_inside x y (sym is ∙ ap says e ∙ and_is)

  pub said_once : (past : List Declared) (x y : X) (last : DeclaredLast says past x) (other : DeclaredLast says past y) → (last.before ≡ other.before) × (x ≡ y)
  said_once past x y last other =
      let cut = cut_once last.before other.before last.after other.after last.at other.at x y (sym last.whole ∙ other.whole) last.said other.said last.silent other.silent in
      (cut.0, some_same last.at other.at x y cut.1 last.said other.said)

-- ---- the last TTL, as it is found

abbrev pub newer : Option ℕ → Option ℕ → Option ℕ
newer None first = first
newer (Some ttl) first = Some ttl

abbrev pub ttl_after : (Declared → Option ℕ) → Option ℕ → List Declared → Option ℕ
ttl_after says first [] = first
ttl_after says first (s ∷ past) = ttl_after says (newer (says s) first) past

module _ (says : Declared → Option ℕ) where
  both_after : (first : Option ℕ) (past later : List Declared) → ttl_after says first (past ++ later) ≡ ttl_after says (ttl_after says first past) later
  both_after first [] later = refl
  both_after first (s ∷ past) later = both_after (newer (says s) first) past later

  silent_after : (first : Option ℕ) (past : List Declared) → NoneDeclared says past → ttl_after says first past ≡ first
  silent_after first [] h = refl
  silent_after first (s ∷ past) h = silent_after (newer (says s) first) past h.1 ∙ ap (λ o. newer o first) h.0

  pub ttl_is : (first : Option ℕ) (past : List Declared) (ttl : Option ℕ) → IsTtlAfter says first past ttl → ttl ≡ ttl_after says first past
  ttl_is first past ttl (inl h) = h.1 ∙ sym (silent_after first past h.0)
  ttl_is first past ttl (inr h) =
      let last = h.1 in
      h.2 ∙ sym (ap (ttl_after says first) last.whole ∙ both_after first last.before (last.at ∷ last.after)
      ∙ silent_after (newer (says last.at) (ttl_after says first last.before)) last.after last.silent ∙ ap (λ o. newer o (ttl_after says first last.before)) last.said)

  found_more : (first : Option ℕ) (s : Declared) (o : Option ℕ) (past : List Declared) (ttl : Option ℕ) → says s ≡ o → IsTtlAfter says (newer o first) past ttl → IsTtlAfter says first (s ∷ past) ttl
  found_more first s None past ttl is (inl h) = inl ((is, h.0), h.1)
  found_more first s (Some x) past ttl is (inl h) = inr (x, said_then says (s ∷ []) past x (said_alone says s x is) h.0, h.1)
  found_more first s o past ttl is (inr h) = inr (h.0, said_behind says (s ∷ []) past h.0 h.1, h.2)

  found : (first : Option ℕ) (past : List Declared) → IsTtlAfter says first past (ttl_after says first past)
  found first [] = inl (tt, refl)
  found first (s ∷ past) = found_more first s (says s) past (ttl_after says (newer (says s) first) past) refl (found (newer (says s) first) past)

  pub ttl_found : (first : Option ℕ) (past : List Declared) (ttl : Option ℕ) → ttl ≡ ttl_after says first past → IsTtlAfter says first past ttl
  ttl_found first past ttl is = subst (IsTtlAfter says first past) (sym is) (found first past)

  pub ttl_once : (first : Option ℕ) (past : List Declared) (a b : Option ℕ) → IsTtlAfter says first past a → IsTtlAfter says first past b → a ≡ b
  ttl_once first past a b h k = ttl_is first past a h ∙ sym (ttl_is first past b k)

  pub ttl_on : (first middle ttl : Option ℕ) (past later : List Declared) → IsTtlAfter says first past middle → IsTtlAfter says middle later ttl → IsTtlAfter says first (past ++ later) ttl
  ttl_on first middle ttl past later h k =
      ttl_found first (past ++ later) ttl (ttl_is middle later ttl k ∙ ap (λ m. ttl_after says m later) (ttl_is first past middle h) ∙ sym (both_after first past later))

  -- later texts with the same values
  pub ttl_kept : (first ttl : Option ℕ) (past later others : List Declared) → ((m : Option ℕ) → ttl_after says m later ≡ ttl_after says m others) → IsTtlAfter says first (past ++ later) ttl
      → IsTtlAfter says first (past ++ others) ttl
  ttl_kept first ttl past later others same h =
      ttl_found first (past ++ others) ttl (ttl_is first (past ++ later) ttl h ∙ both_after first past later ∙ same (ttl_after says first past) ∙ sym (both_after first past others))

-- names don't count
pub default_stays : (first : Option ℕ) (past : List Declared) → ttl_after default_ttl_declared first past ≡ ttl_after default_ttl_declared first (ttls_declared past)
default_stays first [] = refl
default_stays first (NewOrigin token ∷ past) = default_stays first past
default_stays first (NewOwner token ∷ past) = default_stays first past
default_stays first (NewDefaultTtl ttl ∷ past) = default_stays (Some ttl) past
default_stays first (NewTtl ttl ∷ past) = default_stays first past

pub last_stays : (first : Option ℕ) (past : List Declared) → ttl_after ttl_declared first past ≡ ttl_after ttl_declared first (ttls_declared past)
last_stays first [] = refl
last_stays first (NewOrigin token ∷ past) = last_stays first past
last_stays first (NewOwner token ∷ past) = last_stays first past
last_stays first (NewDefaultTtl ttl ∷ past) = last_stays first past
last_stays first (NewTtl ttl ∷ past) = last_stays (Some ttl) past
