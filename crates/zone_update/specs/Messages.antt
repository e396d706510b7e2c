-- The messages of an update.
use Rattle.std.specs.Prelude.{⊤, ℕ, ◌≡◌, ◌==◌, if◌then◌else◌, Option, Some, None, List, [], ◌∷◌, ◌++◌, filter, map, IsPermutation}
use Rattle.std.specs.Borrow.{Bor}
use Rattle.std.specs.List.{flat_map}
use Rattle.std.specs.Option.{option_map, option_to_list}
use Rattle.std.specs.declared.vec.Vec.{Vec}
use Rattle.zone_record.specs.declared.record.Record.{Record}
use Rattle.zone_update.specs.Operations.{is_apex_ns}
use Rattle.zone_update.specs.Parts.{AreMessageParts, ExceedsLimit, servers_first}
use Rattle.zone_update.specs.declared.messages.UpdateError.{UpdateError}
use Rattle.zone_update.specs.declared.messages.UpdateError.TheVariants.{OutOfMemory, TooLarge}
use Rattle.zone_update.specs.declared.operation.Operation.{Operation}
use Rattle.zone_update.specs.declared.operation.Operation.TheVariants.{Delete, Add}

-- name servers of the zone are added first (0), then records are deleted (1), then the others are added (2)
abbrev pub phase_of : {N O : Type 0} → List (List ℕ) → Operation N O → ℕ
phase_of apex (Delete r) = 1
phase_of apex (Add r) = if is_apex_ns apex r.now then 0 else 2

abbrev pub in_phase : {N O : Type 0} → List (List ℕ) → ℕ → List (Operation N O) → List (Operation N O)
in_phase apex phase operations = filter (λ o. phase_of apex o == phase) operations

-- the operations of a message, in their order
abbrev pub in_phases : {N O : Type 0} → List (List ℕ) → List (Operation N O) → List (Operation N O)
in_phases apex operations = in_phase apex 0 operations ++ in_phase apex 1 operations ++ in_phase apex 2 operations

-- the operations of each message
abbrev pub sent : {X A : Type 0} → List (Vec X A) → List (List X)
sent messages = map (λ m. m.items) messages

-- one more operation at the end of the last message, or a message of its own if there is none
abbrev pub with_last : {N O : Type 0} → Option (Operation N O) → List (List (Operation N O)) → List (List (Operation N O))
with_last None messages = messages
with_last (Some o) [] = (o ∷ []) ∷ []
with_last (Some o) (m ∷ []) = (m ++ o ∷ []) ∷ []
with_last (Some o) (m ∷ n ∷ messages) = m ∷ with_last (Some o) (n ∷ messages)

-- a record that is added, if there is one
abbrev pub added : {N O : Type 0} → Option (Bor (Record N O)) → Option (Operation N O)
added soa = option_map Add soa

-- the operations, those of the servers first, are cut into parts; each is a message, in the order of the phases; and the SOA is added at the end of the last
pub record AreMessages {N O : Type 0} (apex : List (List ℕ)) (servers : List (Bor (List ℕ))) (limit : ℕ) (operations : List (Operation N O)) (soa : Option (Operation N O)) (messages : List (List (Operation N O))) : Type 0 where
  pub parts : List (List (Operation N O))
  pub cut : AreMessageParts servers limit (servers_first servers operations) parts
  pub are : messages ≡ with_last soa (map (in_phases apex) parts)

-- memory is out, or operations that belong together exceed the limit
abbrev pub IsPartError : {N O : Type 0} → List (Bor (List ℕ)) → ℕ → List (Operation N O) → UpdateError → Type 0
IsPartError servers limit operations OutOfMemory = ⊤
IsPartError servers limit operations TooLarge = ExceedsLimit servers limit operations

abbrev pub IsUpdateError : {N O : Type 0} → List (Bor (List ℕ)) → ℕ → List (Operation N O) → UpdateError → Type 0
IsUpdateError servers limit operations e = IsPartError servers limit (servers_first servers operations) e

-- however operations are cut, their messages together have each of them once, and the operation of the SOA
abbrev pub SendsEachOnce : {N O : Type 0} → List (Operation N O) → Type 0
SendsEachOnce {N} {O} operations =
    (apex : List (List ℕ)) (servers : List (Bor (List ℕ))) (limit : ℕ) (soa : Option (Operation N O)) (messages : List (List (Operation N O))) → AreMessages apex servers limit operations soa messages
    → IsPermutation (operations ++ option_to_list soa) (flat_map (λ m. m) messages)
