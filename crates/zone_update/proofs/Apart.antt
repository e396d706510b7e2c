-- Where operations may be cut.
use Rattle.std.proofs.Common.{ℕ, ◌≡◌, ◌<◌, ◌≤◌, ◌+◌, ◌-◌, Bool, true, false, not, List, [], ◌∷◌, ◌++◌, length, take, drop, get_or, sym, ap, ◌∙◌, arith, drop_of_length-le, Bor}
use Rattle.std.proofs.lemmas.Bool.{false≢true}
use Rattle.std.proofs.lemmas.List.{drop_more, get_or-take, get_or_at, length-append, length-take-le, take_more}
use Rattle.std.specs.Bool.{MatchBool}
use Rattle.zone_update.specs.Parts.{AreSeparable, belong_together}
use Rattle.zone_update.specs.declared.operation.Operation.{Operation}

module _ {N O : Type 0} (names : List (Bor (List ℕ))) (ops : List (Operation N O)) (count : ℕ) where
  pub at_end : length ops ≤ count → AreSeparable names (take count ops) (drop count ops)
  at_end le front behind last next e f = absurd (omega (arith, ap length (sym (drop_of_length-le ops le) ∙ f)))

module _ {N O : Type 0} (names : List (Bor (List ℕ))) (ops : List (Operation N O)) (count : ℕ) (l r : Operation N O) (some : 0 < count) (lt : count < length ops)
    (left : l ≡ get_or ops (count - 1) l) (right : r ≡ get_or ops count r) where
  last_is : (front : List (Operation N O)) (last : Operation N O) → take count ops ≡ front ++ last ∷ [] → last ≡ l
  last_is front last e =
      let short : length front ≡ count - 1 = omega (arith, some, ap length e, length-append front (last ∷ []), length-take-le count ops (omega (arith, lt))) in
      sym (get_or_at front last [] l (count - 1) short) ∙ ap (λ xs. get_or xs (count - 1) l) (sym e) ∙ get_or-take count ops (count - 1) l (omega (arith, some)) ∙ sym left

  next_is : (next : Operation N O) (behind : List (Operation N O)) → drop count ops ≡ next ∷ behind → next ≡ r
  next_is next behind f = ap (λ xs. get_or xs 0 r) (sym f ∙ drop_more ops count r lt) ∙ sym right

  apart : belong_together names l r ≡ false → AreSeparable names (take count ops) (drop count ops)
  apart h front behind last next e f = ap (λ x. belong_together names x next) (last_is front last e) ∙ ap (λ y. belong_together names l y) (next_is next behind f) ∙ h

  split : take count ops ≡ take (count - 1) ops ++ l ∷ []
  split =
      let more : count ≡ (count - 1) + 1 = omega (arith, some) in
      ap (λ n. take n ops) more ∙ take_more ops (count - 1) l (omega (arith, lt)) ∙ ap (λ x. take (count - 1) ops ++ x ∷ []) (sym left)

  follows : drop count ops ≡ r ∷ drop (count + 1) ops
  follows = drop_more ops count r lt ∙ ap (λ x. x ∷ drop (count + 1) ops) (sym right)

  joined : belong_together names l r ≡ true → ¬ AreSeparable names (take count ops) (drop count ops)
  joined h a = false≢true (sym (a (take (count - 1) ops) (drop (count + 1) ops) l r split follows) ∙ h)

  pub apart_or_not : (b : Bool) → b ≡ belong_together names l r → MatchBool (not b) (AreSeparable names (take count ops) (drop count ops)) (¬ AreSeparable names (take count ops) (drop count ops))
  apart_or_not true e = joined (sym e)
  apart_or_not false e = apart (sym e)
