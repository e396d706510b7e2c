-- What all messages of an update have together.
use Rattle.std.proofs.Common.{ℕ, ◌≡◌, Bool, true, false, not, cond, ◌==◌, Option, Some, None, List, [], ◌∷◌, ◌++◌, map, refl, sym, ap, subst, ◌∙◌, append-nil, Bor}
use Rattle.std.specs.Prelude.{IsPermutation}
use Rattle.std.specs.List.{flat_map}
use Rattle.std.specs.Option.{option_to_list}
use Rattle.std.proofs.lemmas.List.{append_assoc}
use Rattle.std.proofs.lemmas.List.Sorted.{IsPermutation-append, IsPermutation-append_left, IsPermutation-cons, IsPermutation-filter_both, IsPermutation-middle, IsPermutation-refl, IsPermutation-sym, IsPermutation-trans}
use Rattle.zone_update.specs.Messages.{AreMessages, in_phase, in_phases, with_last}
use Rattle.zone_update.specs.Operations.{is_apex_ns}
use Rattle.zone_update.specs.Parts.{AreMessageParts, is_of_servers, servers_first}
use Rattle.zone_update.specs.declared.operation.Operation.{Operation}
use Rattle.zone_update.specs.declared.operation.Operation.TheVariants.{Delete, Add}

module _ {N O : Type 0} where
  abbrev all_of : List (List (Operation N O)) → List (Operation N O)
  all_of messages = flat_map (λ m. m) messages

  -- parts, one after another, are the operations that were cut
  parts_are : (servers : List (Bor (List ℕ))) (limit : ℕ) (ops : List (Operation N O)) (parts : List (List (Operation N O))) → AreMessageParts servers limit ops parts → ops ≡ all_of parts
  parts_are servers limit ops [] h = h
  parts_are servers limit ops (part ∷ parts) (after, e, is, h) = e ∙ ap (λ l. part ++ l) (parts_are servers limit after parts h)

  -- an operation comes into the first phase, the second or the third
  first : (o : Operation N O) (ops a b c : List (Operation N O)) → IsPermutation ops (a ++ b ++ c) → IsPermutation (o ∷ ops) ((o ∷ a) ++ b ++ c)
  first o ops a b c h = IsPermutation-cons o ops (a ++ b ++ c) h

  third : (o : Operation N O) (ops a b c : List (Operation N O)) → IsPermutation ops (a ++ b ++ c) → IsPermutation (o ∷ ops) (a ++ b ++ o ∷ c)
  third o ops a b c h =
      IsPermutation-trans (o ∷ ops) (o ∷ (a ++ b ++ c)) (a ++ b ++ o ∷ c) (IsPermutation-cons o ops (a ++ b ++ c) h)
      (IsPermutation-sym (a ++ b ++ o ∷ c) (o ∷ (a ++ b ++ c)) (IsPermutation-middle (a ++ b) o c))

  second : (o : Operation N O) (ops a b c : List (Operation N O)) → IsPermutation ops (a ++ b ++ c) → IsPermutation (o ∷ ops) (a ++ (o ∷ b) ++ c)
  second o ops a b c h =
      IsPermutation-trans (o ∷ ops) (o ∷ (a ++ b ++ c)) (a ++ (o ∷ b) ++ c) (IsPermutation-cons o ops (a ++ b ++ c) h)
      (IsPermutation-sym (a ++ (o ∷ b) ++ c) (o ∷ (a ++ b ++ c))
      (subst (λ l. IsPermutation l (o ∷ (a ++ b ++ c))) (sym (append_assoc a (o ∷ b) c))
      (subst (λ l. IsPermutation (a ++ o ∷ (b ++ c)) (o ∷ l)) (sym (append_assoc a b c)) (IsPermutation-middle a o (b ++ c)))))

  adds : (is_server : Bool) (o : Operation N O) (ops a b c : List (Operation N O)) → IsPermutation ops (a ++ b ++ c)
      → IsPermutation (o ∷ ops) (cond (cond is_server 0 2 == 0) (o ∷ a) a ++ cond (cond is_server 0 2 == 1) (o ∷ b) b ++ cond (cond is_server 0 2 == 2) (o ∷ c) c)
  adds true o ops a b c h = first o ops a b c h
  adds false o ops a b c h = third o ops a b c h

  in_each_phase : (apex : List (List ℕ)) (ops : List (Operation N O)) → IsPermutation ops (in_phases apex ops)
  in_each_phase apex [] = IsPermutation-refl []
  in_each_phase apex (Delete r ∷ ops) = second (Delete r) ops (in_phase apex 0 ops) (in_phase apex 1 ops) (in_phase apex 2 ops) (in_each_phase apex ops)
  in_each_phase apex (Add r ∷ ops) = adds (is_apex_ns apex r.now) (Add r) ops (in_phase apex 0 ops) (in_phase apex 1 ops) (in_phase apex 2 ops) (in_each_phase apex ops)

  in_each_message : (apex : List (List ℕ)) (parts : List (List (Operation N O))) → IsPermutation (all_of parts) (all_of (map (in_phases apex) parts))
  in_each_message apex [] = IsPermutation-refl []
  in_each_message apex (part ∷ parts) =
      IsPermutation-append part (in_phases apex part) (all_of parts) (all_of (map (in_phases apex) parts)) (in_each_phase apex part) (in_each_message apex parts)

  -- the operation of the SOA comes last
  last_is : (soa : Option (Operation N O)) (messages : List (List (Operation N O))) → all_of (with_last soa messages) ≡ all_of messages ++ option_to_list soa
  last_is None messages = sym (append-nil (all_of messages))
  last_is (Some o) [] = refl
  last_is (Some o) (m ∷ []) = append-nil (m ++ o ∷ []) ∙ ap (λ l. l ++ o ∷ []) (sym (append-nil m))
  last_is (Some o) (m ∷ (n ∷ messages)) = ap (λ l. m ++ l) (last_is (Some o) (n ∷ messages)) ∙ sym (append_assoc m (all_of (n ∷ messages)) (o ∷ []))

  pub all_sent : (apex : List (List ℕ)) (servers : List (Bor (List ℕ))) (limit : ℕ) (ops : List (Operation N O)) (soa : Option (Operation N O)) (messages : List (List (Operation N O)))
      → AreMessages apex servers limit ops soa messages → IsPermutation (ops ++ option_to_list soa) (flat_map (λ m. m) messages)
  all_sent apex servers limit ops soa messages h =
      let ordered : List (Operation N O) = servers_first servers ops in
      let made : List (List (Operation N O)) = map (in_phases apex) h.parts in
      let split : IsPermutation ops ordered = IsPermutation-filter_both (is_of_servers servers) (λ o. not (is_of_servers servers o)) (λ o. refl) ops in
      let phased : IsPermutation ordered (all_of made) = subst (λ l. IsPermutation l (all_of made)) (sym (parts_are servers limit ordered h.parts h.cut)) (in_each_message apex h.parts) in
      subst (IsPermutation (ops ++ option_to_list soa)) (sym (ap all_of h.are ∙ last_is soa made))
      (IsPermutation-append_left (option_to_list soa) ops (all_of made) (IsPermutation-trans ops ordered (all_of made) split phased))
