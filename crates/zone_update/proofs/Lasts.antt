-- Messages, of which the last has one more operation.
use Rattle.std.proofs.Common.{◌≡◌, Some, List, [], ◌∷◌, ◌++◌, refl, sym, ap, ◌∙◌}
use Rattle.std.proofs.lemmas.List.{map-append}
use Rattle.std.specs.declared.vec.Vec.{Vec}
use Rattle.zone_update.specs.Messages.{sent, with_last}
use Rattle.zone_update.specs.declared.operation.Operation.{Operation}

last_longer : {N O : Type 0} (o : Operation N O) (front : List (List (Operation N O))) (m : List (Operation N O)) → with_last (Some o) (front ++ m ∷ []) ≡ front ++ (m ++ o ∷ []) ∷ []
last_longer o [] m = refl
last_longer o (x ∷ []) m = refl
last_longer o (x ∷ (y ∷ front)) m = ap (λ l. x ∷ l) (last_longer o (y ∷ front) m)

module _ {N O A : Type 0} (o : Operation N O) (old left new : List (Vec (Operation N O) A)) (longer : Vec (Operation N O) A) (pushed : new ≡ left ++ longer ∷ []) where
  shown : sent new ≡ sent left ++ longer.items ∷ []
  shown = ap sent pushed ∙ map-append (λ m. m.items) left (longer ∷ [])

  pub after_some : (m : Vec (Operation N O) A) → longer.items ≡ m.items ++ o ∷ [] → old ≡ left ++ m ∷ [] → sent new ≡ with_last (Some o) (sent old)
  after_some m e was =
      shown ∙ ap (λ l. sent left ++ l ∷ []) e ∙ sym (last_longer o (sent left) m.items)
      ∙ ap (with_last (Some o)) (sym (ap sent was ∙ map-append (λ m. m.items) left (m ∷ [])))

  pub after_none : longer.items ≡ o ∷ [] → old ≡ [] → left ≡ [] → sent new ≡ with_last (Some o) (sent old)
  after_none e was empty =
      shown ∙ ap (λ l. sent left ++ l ∷ []) e ∙ ap (λ l. sent l ++ (o ∷ []) ∷ []) empty ∙ ap (λ l. with_last (Some o) (sent l)) (sym was)
