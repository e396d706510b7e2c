-- Octets that begin with a byte order mark.
use Rattle.std.proofs.Common.{◌≡◌, ℕ, ◌≤◌, Bool, true, false, ◌&&◌, ◌||◌, List, [], ◌∷◌, ◌++◌, length, take, drop, refl, sym, ap, ◌∙◌, subst, arith, inl, inr}
use Rattle.std.specs.Prelude.{◌⊎◌, if◌then◌else◌, nat_eq, nat_lt}
use Rattle.std.specs.List.{starts_with}
use Rattle.std.proofs.lemmas.Bool.{cases_Bool}
use Rattle.std.proofs.lemmas.Bool.Decides.{Decides-eqb}
use Rattle.std.proofs.lemmas.List.{take-append-drop}
use Rattle.std.proofs.lemmas.Slice.Eq.{starts_is}
use Rattle.zone_format.specs.Refusal.{begins_order_mark, order_mark_length}

abbrev of_utf8 : List ℕ
of_utf8 = 239 ∷ 187 ∷ 191 ∷ []

abbrev of_utf16 : List ℕ
of_utf16 = 254 ∷ 255 ∷ []

abbrev of_swapped : List ℕ
of_swapped = 255 ∷ 254 ∷ []

abbrev length_by : Bool → Bool → ℕ
length_by a b = if a then 3 else if b then 2 else 0

-- what holds of all octets that begin with a mark holds where one is found
module _ (P : List ℕ → Type 0) (first : (rest : List ℕ) → P (of_utf8 ++ rest)) (second : (rest : List ℕ) → P (of_utf16 ++ rest)) (third : (rest : List ℕ) → P (of_swapped ++ rest)) where
  begun : (t m : List ℕ) → ((rest : List ℕ) → P (m ++ rest)) → starts_with nat_eq t m ≡ true → P t
  begun t m h e = subst P (sym ((starts_is Decides-eqb t m (starts_with nat_eq t m) refl).0 e)) (h (drop (length m) t))

  by_test : (t : List ℕ) (a b c : Bool) → starts_with nat_eq t of_utf8 ≡ a → starts_with nat_eq t of_utf16 ≡ b → starts_with nat_eq t of_swapped ≡ c
      → (length_by a (b || c) ≡ 0) ⊎ P t
  by_test t true b c e f g = inr (begun t of_utf8 first e)
  by_test t false true c e f g = inr (begun t of_utf16 second f)
  by_test t false false true e f g = inr (begun t of_swapped third g)
  by_test t false false false e f g = inl refl

  pub of_marked : (t : List ℕ) → (order_mark_length t ≡ 0) ⊎ P t
  of_marked t = by_test t (starts_with nat_eq t of_utf8) (starts_with nat_eq t of_utf16) (starts_with nat_eq t of_swapped) refl refl refl

-- a mark is within its octets
pub mark_fits : (t : List ℕ) → order_mark_length t ≤ length t
mark_fits t = elim (of_marked (λ t. order_mark_length t ≤ length t) (λ rest. omega arith) (λ rest. omega arith) (λ rest. omega arith) t) [
  | inl none ↦ omega (arith, none)
  | inr some ↦ some
]

-- it is one by itself
pub mark_alone : (t : List ℕ) → begins_order_mark t ≡ true → begins_order_mark (take (order_mark_length t) t) ≡ true
mark_alone t h = elim (of_marked (λ t. begins_order_mark (take (order_mark_length t) t) ≡ true) (λ rest. refl) (λ rest. refl) (λ rest. refl) t) [
  | inl none ↦ let no : false ≡ true = sym (ap (λ n. nat_lt 0 n) none) ∙ h in cc
  | inr some ↦ some
]

-- what begins with fewer octets begins with more
longer : (s rest : List ℕ) → begins_order_mark s ≡ true → begins_order_mark (s ++ rest) ≡ true
longer s rest h = elim (of_marked (λ t. begins_order_mark (t ++ rest) ≡ true) (λ r. refl) (λ r. refl) (λ r. refl) s) [
  | inl none ↦ let no : false ≡ true = sym (ap (λ n. nat_lt 0 n) none) ∙ h in cc
  | inr some ↦ some
]

pub not_before : (e : Bool) (t : List ℕ) (i : ℕ) → (e && begins_order_mark t) ≡ false → (e && begins_order_mark (take i t)) ≡ false
not_before false t i h = refl
not_before true t i h = elim (cases_Bool (begins_order_mark (take i t))) [
  | inl is ↦ let no : false ≡ true = sym h ∙ ap begins_order_mark (sym (take-append-drop i t)) ∙ longer (take i t) (drop i t) is in cc
  | inr is_not ↦ is_not
]
