-- Operations that are cut into parts, one part after another.
use Rattle.std.proofs.Common.{ℕ, ◌≡◌, ◌<◌, ◌≤◌, List, [], ◌∷◌, ◌++◌, length, take, drop, refl, sym, ap, subst, ◌∙◌, append-nil, arith, Bor}
use Rattle.std.proofs.lemmas.List.{append_assoc, length-take-le, take-append-drop}
use Rattle.zone_update.specs.Parts.{AreSeparable, AreMessageParts, ExceedsLimit, IsLongest, IsMessagePart, wire_sizes}
use Rattle.zone_update.specs.declared.operation.Operation.{Operation}

-- whatever parts the rest has, the parts so far and those are the parts of all operations
pub record CutsSoFar {N O : Type 0} (names : List (Bor (List ℕ))) (limit : ℕ) (operations : List (Operation N O)) (parts : List (List (Operation N O))) (rest : List (Operation N O)) : Type 0 where
  pub before : List (Operation N O)
  pub are : operations ≡ before ++ rest
  pub cut : (more : List (List (Operation N O))) → AreMessageParts names limit rest more → AreMessageParts names limit operations (parts ++ more)

pub nothing_left : {X : Type 0} (xs : List X) → length xs ≡ 0 → xs ≡ []
nothing_left [] e = refl
nothing_left (x ∷ xs) e = absurd (omega (arith, e))

module _ {N O : Type 0} (names : List (Bor (List ℕ))) (limit : ℕ) (operations : List (Operation N O)) where
  pub begins : CutsSoFar names limit operations [] operations
  begins = record { before = []; are = refl; cut = λ more h. h }

  module _ (parts : List (List (Operation N O))) (rest : List (Operation N O)) (h : CutsSoFar names limit operations parts rest) where
    pub ends : rest ≡ [] → AreMessageParts names limit operations parts
    ends e = subst (AreMessageParts names limit operations) (append-nil parts) (h.cut [] e)

    pub exceeds : 0 < length rest → IsLongest names limit rest 0 → ExceedsLimit names limit operations
    exceeds some none = record { before = h.before; after = rest; are = h.are; some = some; none = none }

    module _ (count : ℕ) (some : 0 < count) (within : count ≤ length rest) (fits : wire_sizes (take count rest) ≤ limit)
        (whole : AreSeparable names (take count rest) (drop count rest)) (longest : IsLongest names limit rest count) where
      whole_again : take count rest ++ drop count rest ≡ rest
      whole_again = take-append-drop count rest

      long : length (take count rest) ≡ count
      long = length-take-le count rest within

      part : IsMessagePart names limit (take count rest) (drop count rest)
      part = record {
        some = subst (λ n. 0 < n) (sym long) some;
        fits = fits;
        whole = whole;
        longest = subst (λ l. IsLongest names limit l (length (take count rest))) (sym whole_again) (subst (IsLongest names limit rest) (sym long) longest);
      }

      pub next : (made : List (List (Operation N O))) → made ≡ parts ++ take count rest ∷ [] → CutsSoFar names limit operations made (drop count rest)
      next made e = record {
        before = h.before ++ take count rest;
        are = h.are ∙ ap (λ l. h.before ++ l) (sym whole_again) ∙ sym (append_assoc h.before (take count rest) (drop count rest));
        cut = λ more more_cut.
            subst (AreMessageParts names limit operations) (sym (ap (λ l. l ++ more) e ∙ append_assoc parts (take count rest ∷ []) more))
            (h.cut (take count rest ∷ more) (drop count rest, sym whole_again, part, more_cut));
      }
