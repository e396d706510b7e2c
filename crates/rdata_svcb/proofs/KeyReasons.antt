-- A text of items apart by commas that spells no values has one reason.
use Rattle.std.proofs.Common.{ℕ, ◌≡◌, ◌≢◌, ◌⊎◌, true, List, [], ◌∷◌, ◌++◌, refl, sym, ap, subst, ◌∙◌, inl, inr, append_assoc, append-nil}
use Rattle.std.specs.Prelude.{All}
use Rattle.std.specs.List.{AllPairs, AllZip}
use Rattle.std.proofs.lemmas.List.Elements.{All-head, All-tail}
use Rattle.rdata_values.specs.Bitmap.{has}
use Rattle.rdata_values.specs.declared.error.ErrorKind.{ErrorKind}
use Rattle.rdata_svcb.specs.Items.{BeginsApart, IsWithout, SpellsApart, with_commas}
use Rattle.rdata_svcb.specs.ParamRefusals.{KeysReason, NextKeyReason, OfSomeItem}
use Rattle.rdata_svcb.specs.ParamValues.{NamesAKey, SpellsKeys, SpellsValues}
use Rattle.rdata_svcb.proofs.KeyRefusals.{a_key_once, new_key}
use Rattle.rdata_svcb.proofs.Refusals.{SpellsOnce, commas_go_on, first_mark, next_value, zip_go_on}

-- ---- texts and their commas

-- of two lists of texts that a text begins with, one begins with the other
commas_either : (a b : List (List ℕ)) (x y : List ℕ) → All (IsWithout 44) a → All (IsWithout 44) b → with_commas a ++ x ≡ with_commas b ++ y
    → ((later : List (List ℕ)) × (b ≡ a ++ later) × (x ≡ with_commas later ++ y) × All (IsWithout 44) later) ⊎ ((later : List (List ℕ)) × (a ≡ b ++ later) × (y ≡ with_commas later ++ x) × All (IsWithout 44) later)
commas_either [] b x y h k e = inl (b, refl, e, k)
commas_either (t ∷ a) [] x y h k e = inr (t ∷ a, refl, sym e, h)
commas_either (t ∷ a) (u ∷ b) x y h k e =
    let same = first_mark 44 t u (with_commas a ++ x) (with_commas b ++ y) (All-head (IsWithout 44) t a h) (All-head (IsWithout 44) u b k)
    (sym (append_assoc t (44 ∷ []) (with_commas a ++ x)) ∙ sym (append_assoc (t ++ 44 ∷ []) (with_commas a) x) ∙ e ∙ append_assoc (u ++ 44 ∷ []) (with_commas b) y ∙ append_assoc u (44 ∷ []) (with_commas b ++ y)) in
    elim (commas_either a b x y (All-tail (IsWithout 44) t a h) (All-tail (IsWithout 44) u b k) same.1) [
      | inl m ↦ inl (m.0, ap (λ z. z ∷ b) (sym same.0) ∙ ap (λ zs. t ∷ zs) m.1, m.2, m.3)
      | inr m ↦ inr (m.0, ap (λ z. z ∷ a) same.0 ∙ ap (λ zs. u ∷ zs) m.1, m.2, m.3)
    ]

module _ {V : Type 0} (spells : List ℕ → V → Type 0) (once : SpellsOnce spells) (text : List ℕ) where
  -- an item spells a value, which comes after these
  abbrev pub IsNextOf : List V → List ℕ → List V → Type 0
  IsNextOf values item all = (v : V) × (more : List V) × (all ≡ values ++ v ∷ more) × spells item v

  -- values of a text begin with those that it begins with, and the item spells the next
  pub begun_goes_on : (values all : List V) (item : List ℕ) → BeginsApart spells text values item → SpellsApart spells text all → IsNextOf values item all
  begun_goes_on values all item h s =
      let left : List ℕ = (item ++ 44 ∷ []) ++ h.rest in
      let on = commas_go_on h.texts s.texts left h.apart s.apart (sym h.whole ∙ s.whole) in
      let zip = zip_go_on spells h.texts on.0 values all once h.each (subst (λ ts. AllZip spells ts all) on.1 s.each) in
      next_value spells item h.rest values all on.0 zip.0 h.next on.2 on.3 zip.1 zip.2

  longer_begun : (values others : List V) (item next : List ℕ) (h : BeginsApart spells text values item) (k : BeginsApart spells text others next) (later : List (List ℕ)) → k.texts ≡ h.texts ++ later
      → (item ++ 44 ∷ []) ++ h.rest ≡ with_commas later ++ ((next ++ 44 ∷ []) ++ k.rest) → All (IsWithout 44) later → IsNextOf values item others ⊎ ((values ≡ others) × (item ≡ next))
  longer_begun values others item next h k later is e apart =
      let zip = zip_go_on spells h.texts later values others once h.each (subst (λ ts. AllZip spells ts others) is k.each) in by later zip.0 e apart zip.1 zip.2
    where
      by : (later : List (List ℕ)) (more : List V) → (item ++ 44 ∷ []) ++ h.rest ≡ with_commas later ++ ((next ++ 44 ∷ []) ++ k.rest) → All (IsWithout 44) later → others ≡ values ++ more → AllZip spells later more
          → IsNextOf values item others ⊎ ((values ≡ others) × (item ≡ next))
      by [] [] e apart all z =
          let same = first_mark 44 item next h.rest k.rest h.next k.next (sym (append_assoc item (44 ∷ []) h.rest) ∙ e ∙ append_assoc next (44 ∷ []) k.rest) in inr (sym (all ∙ append-nil values), same.0)
      by [] (v ∷ more) e apart all z = absurd z
      by (t ∷ later) [] e apart all z = absurd z
      by (t ∷ later) (v ∷ more) e apart all z =
          let behind : List ℕ = with_commas later ++ ((next ++ 44 ∷ []) ++ k.rest) in
          let same = first_mark 44 item t h.rest behind h.next (All-head (IsWithout 44) t later apart)
          (sym (append_assoc item (44 ∷ []) h.rest) ∙ e ∙ append_assoc (t ++ 44 ∷ []) (with_commas later) ((next ++ 44 ∷ []) ++ k.rest) ∙ append_assoc t (44 ∷ []) behind) in
          inl (v, more, all, subst (λ x. spells x v) (sym same.0) z.0)

  -- of two items after values of a text, one spells the next value of the other's; or both are the same
  pub begun_either : (values others : List V) (item next : List ℕ) → BeginsApart spells text values item → BeginsApart spells text others next
      → IsNextOf values item others ⊎ (IsNextOf others next values ⊎ ((values ≡ others) × (item ≡ next)))
  begun_either values others item next h k =
      elim (commas_either h.texts k.texts ((item ++ 44 ∷ []) ++ h.rest) ((next ++ 44 ∷ []) ++ k.rest) h.apart k.apart (sym h.whole ∙ k.whole)) [
        | inl m ↦ (elim (longer_begun values others item next h k m.0 m.1 m.2 m.3) [ inl one ↦ inl one | inr same ↦ inr (inr same) ])
        | inr m ↦ (elim (longer_begun others values next item k h m.0 m.1 m.2 m.3) [ inl one ↦ inr (inl one) | inr same ↦ inr (inr (sym same.0, sym same.1)) ])
      ]

-- ---- keys

next_key_once : (keys item : List ℕ) (a b : ErrorKind) → NextKeyReason keys item a → NextKeyReason keys item b → a ≡ b
next_key_once keys item a b (inl h) (inl k) = h.0 ∙ sym k.0
next_key_once keys item a b (inl h) (inr k) = let of = k.1 in absurd (h.1 of.0 of.1)
next_key_once keys item a b (inr h) (inl k) = let of = h.1 in absurd (k.1 of.0 of.1)
next_key_once keys item a b (inr h) (inr k) = h.0 ∙ sym k.0

-- an item that is one more key has no reason
one_more_key : (keys item all : List ℕ) (e : ErrorKind) → NextKeyReason keys item e → AllPairs (λ a b. a ≢ b) all → (v : ℕ) × (more : List ℕ) × (all ≡ keys ++ v ∷ more) × NamesAKey item v → ⊥
one_more_key keys item all e (inl h) once next = h.1 next.0 next.3
one_more_key keys item all e (inr h) once next =
    let of = h.1 in
    let same : of.0 ≡ next.0 = a_key_once item of.0 next.0 of.1 next.3 in
    new_key keys next.1 next.0 (subst (AllPairs (λ a b. a ≢ b)) next.2 once) (subst (λ key. has keys key ≡ true) same of.2)

pub keys_reason_once : (text : List ℕ) (a b : ErrorKind) → KeysReason text a → KeysReason text b → a ≡ b
keys_reason_once text a b (keys, item, h, once, why) (others, next, k, twice, reason) = elim (begun_either NamesAKey a_key_once text keys others item next h k) [
  | inl on ↦ absurd (one_more_key keys item others a why twice on)
  | inr (inl on) ↦ absurd (one_more_key others next keys b reason once on)
  | inr (inr same) ↦ next_key_once others next a b (subst (λ i. NextKeyReason others i a) same.1 (subst (λ ks. NextKeyReason ks item a) same.0 why)) reason
]

pub keys_apart : (text octets : List ℕ) (e : ErrorKind) → KeysReason text e → SpellsKeys text octets → ⊥
keys_apart text octets e (keys, item, h, once, why) s = one_more_key keys item s.keys e why s.once (begun_goes_on NamesAKey a_key_once text keys s.keys item h s.named)

-- ---- values

pub items_apart : (spells : List ℕ → List ℕ → Type 0) (reason : List ℕ → ErrorKind → Type 0) → SpellsOnce spells → (text octets : List ℕ) (e : ErrorKind) → OfSomeItem spells reason text e → SpellsValues spells text octets → ⊥
items_apart spells reason once text octets e h s = let next = begun_goes_on spells once text h.0 s.values h.1 h.2 s.spelled in h.4 next.0 next.3
