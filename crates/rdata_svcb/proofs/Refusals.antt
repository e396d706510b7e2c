-- Texts apart by commas that spell no values.
use Rattle.std.proofs.Common.{ℕ, suc, ◌≡◌, List, [], ◌∷◌, ◌++◌, length, refl, sym, subst, ap, ◌∙◌, arith, Option, Some, append_assoc, append-nil, inl, inr}
use Rattle.std.specs.Prelude.{All}
use Rattle.std.specs.List.{flat_map, AllZip}
use Rattle.std.proofs.lemmas.List.{length-append}
use Rattle.std.proofs.lemmas.List.Elements.{All-head, All-tail}
use Rattle.dns_octets.specs.Room.{Room}
use Rattle.dns_octets.specs.Appending.{ExceedsRoom, Extends}
use Rattle.rdata_fields.specs.Words.{SpellsAs}
use Rattle.rdata_values.specs.declared.error.ErrorKind.{ErrorKind}
use Rattle.rdata_svcb.specs.Items.{BeginsApart, IsWithout, SpellsApart, with_commas, unread_text}
use Rattle.rdata_svcb.specs.ParamValues.{BeginsValues, SpellsValues}
use Rattle.rdata_svcb.specs.ParamRefusals.{OfSomeItem, RefusesSpelled}
use Rattle.rdata_svcb.proofs.Apart.{TakesApart, TakesEach, IsSplit, split_left}

without_tail : (mark x : ℕ) (xs : List ℕ) → IsWithout mark (x ∷ xs) → IsWithout mark xs
without_tail mark x xs h = λ k l. h (suc k) (omega (arith, l))

-- a text has one first comma
pub first_mark : (mark : ℕ) (a b r s : List ℕ) → IsWithout mark a → IsWithout mark b → a ++ mark ∷ r ≡ b ++ mark ∷ s → (a ≡ b) × (r ≡ s)
first_mark mark [] [] r s h k e = (refl, cc)
first_mark mark [] (y ∷ b) r s h k e = absurd (k 0 (omega arith) (sym cc))
first_mark mark (x ∷ a) [] r s h k e = absurd (h 0 (omega arith) cc)
first_mark mark (x ∷ a) (y ∷ b) r s h k e =
    let first : x ≡ y = cc in let rest : a ++ mark ∷ r ≡ b ++ mark ∷ s = cc in
    let more = first_mark mark a b r s (without_tail mark x a h) (without_tail mark y b k) rest in
    (ap (λ z. z ∷ a) first ∙ ap (λ zs. y ∷ zs) more.0, more.1)

-- all texts begin with the first ones
pub commas_go_on : (texts all : List (List ℕ)) (rest : List ℕ) → All (IsWithout 44) texts → All (IsWithout 44) all → with_commas texts ++ rest ≡ with_commas all
    → (later : List (List ℕ)) × (all ≡ texts ++ later) × All (IsWithout 44) later × (rest ≡ with_commas later)
commas_go_on [] all rest h k e = (all, refl, k, e)
commas_go_on (t ∷ texts) [] rest h k e =
    absurd (omega (arith, ap length e, length-append ((t ++ 44 ∷ []) ++ with_commas texts) rest, length-append (t ++ 44 ∷ []) (with_commas texts), length-append t (44 ∷ [])))
commas_go_on (t ∷ texts) (u ∷ all) rest h k e =
    let same = first_mark 44 t u (with_commas texts ++ rest) (with_commas all) (All-head (IsWithout 44) t texts h) (All-head (IsWithout 44) u all k)
    (sym (append_assoc t (44 ∷ []) (with_commas texts ++ rest)) ∙ sym (append_assoc (t ++ 44 ∷ []) (with_commas texts) rest) ∙ e ∙ append_assoc u (44 ∷ []) (with_commas all)) in
    let more = commas_go_on texts all rest (All-tail (IsWithout 44) t texts h) (All-tail (IsWithout 44) u all k) same.1 in
    (more.0, ap (λ z. z ∷ all) (sym same.0) ∙ ap (λ zs. t ∷ zs) more.1, more.2, more.3)

abbrev pub SpellsOnce : {V : Type 0} → (List ℕ → V → Type 0) → Type 0
SpellsOnce {V} spells = (text : List ℕ) (v w : V) → spells text v → spells text w → v ≡ w

pub zip_go_on : {V : Type 0} (spells : List ℕ → V → Type 0) (texts later : List (List ℕ)) (values all : List V) → SpellsOnce spells → AllZip spells texts values → AllZip spells (texts ++ later) all
    → (more : List V) × (all ≡ values ++ more) × AllZip spells later more
zip_go_on spells [] later [] all once h k = (all, refl, k)
zip_go_on spells [] later (v ∷ values) all once h k = absurd h
zip_go_on spells (t ∷ texts) later [] all once h k = absurd h
zip_go_on spells (t ∷ texts) later (v ∷ values) [] once h k = absurd k
zip_go_on spells (t ∷ texts) later (v ∷ values) (w ∷ all) once h k =
    let rest = zip_go_on spells texts later values all once h.1 k.1 in
    (rest.0, ap (λ x. x ∷ all) (once t w v k.0 h.0) ∙ ap (λ xs. v ∷ xs) rest.1, rest.2)

pub next_value : {V : Type 0} (spells : List ℕ → V → Type 0) (before left : List ℕ) (values all : List V) (later : List (List ℕ)) (more : List V) → IsWithout 44 before → All (IsWithout 44) later
    → (before ++ 44 ∷ []) ++ left ≡ with_commas later → all ≡ values ++ more → AllZip spells later more → (v : V) × (more : List V) × (all ≡ values ++ v ∷ more) × spells before v
next_value spells before left values all [] more without k e is z = absurd (omega (arith, ap length e, length-append (before ++ 44 ∷ []) left, length-append before (44 ∷ [])))
next_value spells before left values all (t ∷ later) [] without k e is z = absurd z
next_value spells before left values all (t ∷ later) (v ∷ more) without k e is z =
    let same = first_mark 44 before t left (with_commas later) without (All-head (IsWithout 44) t later k)
    (sym (append_assoc before (44 ∷ []) left) ∙ e ∙ append_assoc t (44 ∷ []) (with_commas later)) in
    (v, more, is, subst (λ x. spells x v) (sym same.0) z.0)

-- what spells values continues with one that the next text spells
pub apart_goes_on : {V : Type 0} (spells : List ℕ → V → Type 0) (text rest before : List ℕ) (values all : List V) (behind : Option (List ℕ)) → SpellsOnce spells
    → TakesApart spells text values (Some rest) → IsWithout 44 before → IsSplit rest before behind → SpellsApart spells text all → (v : V) × (more : List V) × (all ≡ values ++ v ∷ more) × spells before v
apart_goes_on spells text rest before values all behind once h without split s =
    let on = commas_go_on h.texts s.texts (rest ++ 44 ∷ []) h.apart s.apart (sym h.whole ∙ s.whole) in
    let zip = zip_go_on spells h.texts on.0 values all once h.each (subst (λ ts. AllZip spells ts all) on.1 s.each) in
    next_value spells before (unread_text behind) values all on.0 zip.0 without on.2 (sym (split_left rest before behind split) ∙ on.3) zip.1 zip.2

no_values : {V : Type 0} (spells : List ℕ → V → Type 0) (a b : List V) (later : List (List ℕ)) (more : List V) → [] ≡ with_commas later → b ≡ a ++ more → AllZip spells later more → a ≡ b
no_values spells a b [] [] e is z = sym (is ∙ append-nil a)
no_values spells a b [] (v ∷ more) e is z = absurd z
no_values spells a b (t ∷ later) more e is z = absurd (omega (arith, ap length e, length-append (t ++ 44 ∷ []) (with_commas later), length-append t (44 ∷ [])))

-- all values of a text are these
pub apart_once : {V : Type 0} (spells : List ℕ → V → Type 0) (text : List ℕ) (a b : List V) → SpellsOnce spells → SpellsApart spells text a → SpellsApart spells text b → a ≡ b
apart_once spells text a b once h k =
    let on = commas_go_on h.texts k.texts [] h.apart k.apart (append-nil (with_commas h.texts) ∙ sym h.whole ∙ k.whole) in
    let zip = zip_go_on spells h.texts on.0 a b once h.each (subst (λ ts. AllZip spells ts b) on.1 k.each) in
    no_values spells a b on.0 zip.0 on.3 zip.1 zip.2

pub values_once : (spells : List ℕ → List ℕ → Type 0) → SpellsOnce spells → SpellsOnce (SpellsValues spells)
values_once spells once text a b h k = h.whole ∙ ap (flat_map (λ v. v)) (apart_once spells text h.values k.values once h.spelled k.spelled) ∙ sym k.whole

-- a text continues with the next item
pub apart_next : {V : Type 0} (spells : List ℕ → V → Type 0) (text rest before : List ℕ) (values : List V) (behind : Option (List ℕ)) → TakesApart spells text values (Some rest) → IsWithout 44 before → IsSplit rest before behind
    → BeginsApart spells text values before
apart_next spells text rest before values behind h without split = record {
  texts = h.texts;
  rest = unread_text behind;
  apart = h.apart;
  next = without;
  whole = h.whole ∙ ap (λ x. with_commas h.texts ++ x) (split_left rest before behind split);
  each = h.each;
}

-- a value is rejected after others
pub each_refused : (room : Room) (reason : List ℕ → ErrorKind → Type 0) (spells : List ℕ → List ℕ → Type 0) (text rest before old mid : List ℕ) (behind : Option (List ℕ)) (e : ErrorKind) → SpellsOnce spells
    → TakesEach spells text (Some rest) old mid → IsWithout 44 before → IsSplit rest before behind → RefusesSpelled (ExceedsRoom room (spells before) mid) (spells before) (reason before) e
    → RefusesSpelled (ExceedsRoom room (BeginsValues spells text) old) (SpellsValues spells text) (OfSomeItem spells reason text) e
each_refused room reason spells text rest before old mid behind e once h without split (inl (short, (v, spelled, over))) = inl (
  short,
  (let front = flat_map (λ v. v) h.values in
      (front ++ v, (h.values, before, v, apart_next spells text rest before h.values behind h.taken without split, spelled, refl), omega (arith, over, ap length h.gained, length-append old front, length-append front v))),
)
each_refused room reason spells text rest before old mid behind e once h without split (inr none) = inr (
  (h.values, before, apart_next spells text rest before h.values behind h.taken without split, none.0, none.1),
  λ octets s. (let on = apart_goes_on spells text rest before h.values s.values behind once h.taken without split s.spelled in none.1 on.0 on.3),
)

-- values of words are spelled once
pub once_as : {V : Type 0} (valid : V → Type 0) (spells : List ℕ → V → Type 0) (wire : V → List ℕ) → ((text : List ℕ) (v w : V) → spells text v → spells text w → wire v ≡ wire w) → SpellsOnce (SpellsAs valid spells wire)
once_as valid spells wire once text a b h k = h.3 ∙ once text h.0 k.0 h.2 k.2 ∙ sym k.3

pub more_extends : (old mid new more : List ℕ) → mid ≡ old ++ more → Extends mid new → Extends old new
more_extends old mid new more e h = (more ++ h.0, h.1 ∙ ap (λ x. x ++ h.0) e ∙ append_assoc old more h.0)
