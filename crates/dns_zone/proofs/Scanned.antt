-- The loops over the items of a document.
use Rattle.std.proofs.Common.{◌≡◌, ℕ, ◌+◌, ◌<◌, ◌≤◌, true, List, [], ◌∷◌, ◌++◌, length, get_or, take, drop, Option, Some, None, IfSome, refl, sym, ap, subst, ◌∙◌, arith, inl, inr}
use Rattle.std.proofs.lemmas.List.{drop_more, take_more, map-append}
use Rattle.std.specs.Prelude.{IfNone}
use Rattle.std.specs.List.{AllByRecursion}
use Rattle.std.proofs.lemmas.Grind.{not_there}
use Rattle.dns_zone.specs.Layout.{Step, token, begin, end, comment, newline, depth}
use Rattle.dns_zone.specs.Documents.{item_step, item_steps, IsDocumentFault, ItemHasNoFault, IsFirstFault, IsProper, IsWellFormed}
use Rattle.dns_zone.specs.Nesting.{is_nested}
use Rattle.dns_zone.specs.Forming.{from_none_test}
use Rattle.dns_zone.proofs.Nested.{nested_more, nested_rest, nested_end, nested_newline}
use Rattle.dns_zone.specs.Writers.{opened}
use Rattle.dns_zone.specs.declared.document.Item.{Item}
use Rattle.dns_zone.specs.declared.error.DocumentError.{DocumentError}

pub depth_more : (x : Step) (past : List Step) → depth (x ∷ past) ≡ opened x (depth past)
depth_more (token bs) past = refl
depth_more begin past = refl
depth_more end past = refl
depth_more (comment bs) past = refl
depth_more newline past = refl

opened_le : (x : Step) (n i : ℕ) → n ≤ i → opened x n ≤ i + 1
opened_le (token bs) n i h = omega arith
opened_le begin n i h = omega arith
opened_le end n i h = omega arith
opened_le (comment bs) n i h = omega arith
opened_le newline n i h = omega arith

-- the rest of the items from an index on
pub rest_more : {A : Type 0} (items : List (Item A)) (i : ℕ) (x : Item A) → i < length items → x ≡ get_or items i x
    → item_steps (drop i items) ≡ item_step x ∷ item_steps (drop (i + 1) items)
rest_more {A} items i x h e = ap item_steps (drop_more items i x h) ∙ ap (λ (y : Item A). item_step y ∷ item_steps (drop (i + 1) items)) (sym e)

pub front_more : {A : Type 0} (items : List (Item A)) (i : ℕ) (x : Item A) → i < length items → x ≡ get_or items i x
    → item_steps (take (i + 1) items) ≡ item_steps (take i items) ++ item_step x ∷ []
front_more {A} items i x h e =
    ap item_steps (take_more items i x h) ∙ (map-append item_step (take i items) (get_or items i x ∷ []) ∙ ap (λ (y : Item A). item_steps (take i items) ++ item_step y ∷ []) (sym e))

-- well-formed from an index on, with `blocks` open blocks
abbrev pub RestFormed : (blocks : ℕ) → List Step → Type 0
RestFormed blocks rest = (is_nested blocks rest ≡ true) × AllByRecursion IsProper rest

-- a proper step that is allowed in its place has no error
pub no_fault : (past : List Step) (x : Step) → IsProper x → (x ≡ end → 0 < depth past) → (x ≡ newline → depth past ≡ 0) → ItemHasNoFault past x
no_fault past (token bs) p h k e q = q.1 p
no_fault past (comment bs) p h k e q = q.1 p
no_fault past begin p h k e q = q
no_fault past end p h k e q = let some = h refl in absurd (omega (arith, some, q.1))
no_fault past newline p h k e q = let none = k refl in absurd (omega (arith, none, q.1))

-- the search for the first fault has come to `rest`
pub record Scanned (xs : List Step) (blocks place : ℕ) (rest : List Step) : Type 0 where
  pub past : List Step
  pub places : length past ≡ place
  pub opens : depth past ≡ blocks
  pub below : blocks ≤ place
  pub fine : RestFormed blocks rest → IsWellFormed xs
  pub fault : (e : DocumentError) → IsFirstFault past rest e → IsFirstFault [] xs e

pub scanned_more : (xs : List Step) (blocks place : ℕ) (x : Step) (rest : List Step) → Scanned xs blocks place (x ∷ rest) → IsProper x → (x ≡ end → 0 < blocks)
    → (x ≡ newline → blocks ≡ 0) → Scanned xs (opened x blocks) (place + 1) rest
scanned_more xs blocks place x rest s p h k = record {
  past = x ∷ s.past;
  places = omega (arith, s.places);
  opens = depth_more x s.past ∙ ap (opened x) s.opens;
  below = opened_le x blocks place s.below;
  fine = λ q. s.fine (nested_more blocks x rest h k q.0, (p, q.1));
  fault = λ e q. s.fault e (inr (no_fault s.past x p (λ is. subst (λ (n : ℕ). 0 < n) (sym s.opens) (h is)) (λ is. s.opens ∙ k is), q));
}

pub scanned_fault : (xs : List Step) (blocks place : ℕ) (x : Step) (rest : List Step) (e : DocumentError) → Scanned xs blocks place (x ∷ rest)
    → ((past : List Step) → length past ≡ place → depth past ≡ blocks → IsDocumentFault past x e) → IsFirstFault [] xs e
scanned_fault xs blocks place x rest e s p = s.fault e (inl (p s.past s.places s.opens))

-- steps with an error are not well-formed
pub fault_refuses : (past xs : List Step) (e : DocumentError) → IsFirstFault past xs e → ¬ RestFormed (depth past) xs
fault_refuses past [] e p q = let k = from_none_test (depth past) q.0 in absurd (omega (arith, p.1, k))
fault_refuses past (x ∷ xs) e (inl p) q = no_fault past x q.1.0 (nested_end _ x xs q.0) (nested_newline _ x xs q.0) e p
fault_refuses past (x ∷ xs) e (inr p) q =
    let rest = subst (λ (k : ℕ). is_nested k xs ≡ true) (sym (depth_more x past)) (nested_rest (depth past) x xs q.0) in
    fault_refuses (x ∷ past) xs e p.1 (rest, q.1.1)

without_fault : (xs : List Step) (o : Option DocumentError) → IfNone o (IsWellFormed xs) → IfSome o (λ e. IsFirstFault [] xs e)
    → ((e : DocumentError) → ¬ IsFirstFault [] xs e) → IsWellFormed xs
without_fault xs None p q r = p
without_fault xs (Some e) p q r = absurd (r e q)

pub well_formed_without_fault : (xs : List Step) (o : Option DocumentError) → IfNone o (IsWellFormed xs) → IfSome o (λ e. IsFirstFault [] xs e)
    → (IsWellFormed xs → (e : DocumentError) → ¬ IsFirstFault [] xs e) × (((e : DocumentError) → ¬ IsFirstFault [] xs e) → IsWellFormed xs)
well_formed_without_fault xs o p q = (λ w e f. fault_refuses [] xs e f w, without_fault xs o p q)

pub surely_well_formed : (xs : List Step) (o : Option DocumentError) → IfNone o (IsWellFormed xs) → IfSome o (λ e. IsFirstFault [] xs e)
    → ∥ IsWellFormed xs ∥₁ → IsWellFormed xs
surely_well_formed xs o p q t = without_fault xs o p q (λ e f. not_there t (fault_refuses [] xs e f))

one_fault : (past : List Step) (x : Step) (e f : DocumentError) → IsDocumentFault past x e → IsDocumentFault past x f → e ≡ f
one_fault past (token bs) e f p q = p.0 ∙ sym q.0
one_fault past (comment bs) e f p q = p.0 ∙ sym q.0
one_fault past begin e f p q = absurd p
one_fault past end e f p q = p.0 ∙ sym q.0
one_fault past newline e f p q = p.0 ∙ sym q.0

pub one_first_fault : (past xs : List Step) (e f : DocumentError) → IsFirstFault past xs e → IsFirstFault past xs f → e ≡ f
one_first_fault past [] e f p q = p.0 ∙ sym q.0
one_first_fault past (x ∷ xs) e f (inl p) (inl q) = one_fault past x e f p q
one_first_fault past (x ∷ xs) e f (inl p) (inr q) = absurd (q.0 e p)
one_first_fault past (x ∷ xs) e f (inr p) (inl q) = absurd (p.0 f q)
one_first_fault past (x ∷ xs) e f (inr p) (inr q) = one_first_fault (x ∷ past) xs e f p.1 q.1
