-- Texts apart by commas, one after another.
use Rattle.std.proofs.Common.{ℕ, ◌≡◌, List, [], ◌∷◌, ◌++◌, refl, sym, ap, ◌∙◌, Option, Some, None, append_assoc, append-nil}
use Rattle.std.specs.Prelude.{All, MatchOption}
use Rattle.std.specs.List.{flat_map, AllZip}
use Rattle.std.proofs.lemmas.List.Concat.{flat_map-append}
use Rattle.std.proofs.lemmas.List.Elements.{All-nil, All-cons, All-append}
use Rattle.dns_octets.specs.Appending.{Gains}
use Rattle.rdata_svcb.specs.Items.{IsWithout, SpellsApart, with_commas, unread_text}
use Rattle.rdata_svcb.specs.ParamValues.{SpellsValues}

-- the texts so far, and the rest
pub record TakesApart {V : Type 0} (spells : List ℕ → V → Type 0) (text : List ℕ) (values : List V) (left : Option (List ℕ)) : Type 0 where
  pub texts : List (List ℕ)
  pub apart : All (IsWithout 44) texts
  pub whole : text ++ 44 ∷ [] ≡ with_commas texts ++ unread_text left
  pub each : AllZip spells texts values

pub apart_none : {V : Type 0} (spells : List ℕ → V → Type 0) (text : List ℕ) → TakesApart spells text [] (Some text)
apart_none spells text = record { texts = []; apart = All-nil (IsWithout 44); whole = refl; each = tt }

zip_push : {A B : Type 0} (R : A → B → Type 0) (xs : List A) (ys : List B) (x : A) (y : B) → AllZip R xs ys → R x y → AllZip R (xs ++ x ∷ []) (ys ++ y ∷ [])
zip_push R [] [] x y h r = (r, tt)
zip_push R [] (b ∷ ys) x y h r = absurd h
zip_push R (a ∷ xs) [] x y h r = absurd h
zip_push R (a ∷ xs) (b ∷ ys) x y h r = (h.0, zip_push R xs ys x y h.1 r)

-- a text is split at its first comma
abbrev pub IsSplit : List ℕ → List ℕ → Option (List ℕ) → Type 0
IsSplit rest before behind = MatchOption behind (rest ≡ before) (λ b. rest ≡ before ++ 44 ∷ b)

pub split_left : (rest before : List ℕ) (behind : Option (List ℕ)) → IsSplit rest before behind → rest ++ 44 ∷ [] ≡ (before ++ 44 ∷ []) ++ unread_text behind
split_left rest before None e = ap (λ r. r ++ 44 ∷ []) e ∙ sym (append-nil (before ++ 44 ∷ []))
split_left rest before (Some b) e =
    ap (λ r. r ++ 44 ∷ []) e ∙ append_assoc before (44 ∷ b) (44 ∷ []) ∙ sym (append_assoc before (44 ∷ []) (b ++ 44 ∷ []))

pub apart_more : {V : Type 0} (spells : List ℕ → V → Type 0) (text rest before : List ℕ) (values : List V) (behind : Option (List ℕ)) (v : V)
    → TakesApart spells text values (Some rest) → IsWithout 44 before → IsSplit rest before behind → spells before v → TakesApart spells text (values ++ v ∷ []) behind
apart_more spells text rest before values behind v h without split is = record {
  texts = h.texts ++ before ∷ [];
  apart = All-append (IsWithout 44) h.texts (before ∷ []) h.apart (All-cons (IsWithout 44) before [] without (All-nil (IsWithout 44)));
  whole = h.whole ∙ ap (λ x. with_commas h.texts ++ x) (split_left rest before behind split)
      ∙ sym (append_assoc (with_commas h.texts) (before ++ 44 ∷ []) (unread_text behind))
      ∙ ap (λ x. x ++ unread_text behind) (ap (λ x. with_commas h.texts ++ x) (sym (append-nil (before ++ 44 ∷ []))) ∙ sym (flat_map-append (λ item. item ++ 44 ∷ []) h.texts (before ∷ [])));
  each = zip_push spells h.texts values before v h.each is;
}

pub apart_all : {V : Type 0} (spells : List ℕ → V → Type 0) (text : List ℕ) (values : List V) → TakesApart spells text values None → SpellsApart spells text values
apart_all spells text values h = record { texts = h.texts; apart = h.apart; whole = h.whole ∙ append-nil (with_commas h.texts); each = h.each }

-- values so far, and their octets
pub record TakesEach (spells : List ℕ → List ℕ → Type 0) (text : List ℕ) (left : Option (List ℕ)) (old new : List ℕ) : Type 0 where
  pub values : List (List ℕ)
  pub taken : TakesApart spells text values left
  pub gained : new ≡ old ++ flat_map (λ v. v) values

pub each_none : (spells : List ℕ → List ℕ → Type 0) (text old : List ℕ) → TakesEach spells text (Some text) old old
each_none spells text old = record { values = []; taken = apart_none spells text; gained = sym (append-nil old) }

pub each_more : (spells : List ℕ → List ℕ → Type 0) (text rest before old middle new : List ℕ) (behind : Option (List ℕ))
    → TakesEach spells text (Some rest) old middle → IsWithout 44 before → IsSplit rest before behind → Gains (spells before) middle new → TakesEach spells text behind old new
each_more spells text rest before old middle new behind h without split gains = record {
  values = h.values ++ gains.0 ∷ [];
  taken = apart_more spells text rest before h.values behind gains.0 h.taken without split gains.1;
  gained = gains.2 ∙ ap (λ x. x ++ gains.0) h.gained ∙ append_assoc old (flat_map (λ v. v) h.values) gains.0
      ∙ ap (λ x. old ++ x) (ap (λ x. flat_map (λ v. v) h.values ++ x) (sym (append-nil gains.0)) ∙ sym (flat_map-append (λ v. v) h.values (gains.0 ∷ [])));
}

pub each_all : (spells : List ℕ → List ℕ → Type 0) (text old new : List ℕ) → TakesEach spells text None old new → Gains (SpellsValues spells text) old new
each_all spells text old new h =
    (flat_map (λ v. v) h.values, record { values = h.values; spelled = apart_all spells text h.values h.taken; whole = refl }, h.gained)
