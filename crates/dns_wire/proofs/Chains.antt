-- Names one after another.
use Rattle.std.proofs.Common.{◌≡◌, ℕ, ◌+◌, ◌-◌, ◌≤◌, List, [], ◌∷◌, ◌++◌, ap, ◌∙◌, sym, arith, append_assoc, length-append, length, Result, Ok, Err}
use Rattle.std.specs.Prelude.{OnErr}
use Rattle.std.proofs.lemmas.List.Elements.{All-append}
use Rattle.dns_wire.specs.Wire.{wire, wire_length, IsName, HasNoRoot, EndsInRoot}
use Rattle.dns_wire.proofs.Wires.{length_wire, count_le, IsSome, IsName-append, wire_length_append, wire_append}

pub chain_name : (a b : List (List ℕ)) → IsName a → HasNoRoot a → IsName b → wire_length (a ++ b) ≤ 255 → IsName (a ++ b)
chain_name a b na plain nb fits = IsName-append a b na plain nb (omega (arith, wire_length_append a b))

pub chain_ends : (a b : List (List ℕ)) → EndsInRoot b → EndsInRoot (a ++ b)
chain_ends a b h = (a ++ h.0, ap (λ x. a ++ x) h.1 ∙ sym (append_assoc a h.0 ([] ∷ [])))

pub chain_relative : (a b : List (List ℕ)) → HasNoRoot a → HasNoRoot b → HasNoRoot (a ++ b)
chain_relative a b ha hb = All-append IsSome a b ha hb

pub left_of_both : (a b : List (List ℕ)) (written left : List ℕ) → wire a ≡ written ++ left → wire (a ++ b) ≡ written ++ (left ++ wire b)
left_of_both a b written left h = wire_append a b ∙ ap (λ x. x ++ wire b) h ∙ append_assoc written left (wire b)

pub on_err : {T E : Type 0} (r : Result T E) (P : Type 0) → P → OnErr r P
on_err (Ok x) P p = tt
on_err (Err e) P p = p

pub both_few : (a b : List (List ℕ)) → wire_length (a ++ b) ≤ 255 → length a + length b ≤ 255
both_few a b h = omega (arith, count_le a, count_le b, wire_length_append a b)

pub composed_err : {T E : Type 0} (r : Result T E) (a b : List (List ℕ)) (old new : List ℕ)
    → ((written : List ℕ) × (left : List ℕ) × (wire a ≡ written ++ left) × (new ≡ old ++ written))
    → OnErr r ((written : List ℕ) × (left : List ℕ) × (wire (a ++ b) ≡ written ++ left) × (new ≡ old ++ written))
composed_err r a b old new w = on_err r _ (w.0, w.1 ++ wire b, left_of_both a b w.0 w.1 w.2, w.3)

-- if both fit, the second fits after the first
pub second_fits : (a b : List (List ℕ)) (old now : List ℕ) (fits : ℕ) → now ≡ old ++ wire a → wire_length (a ++ b) ≤ fits - length old
    → wire_length b ≤ fits - length now
second_fits a b old now fits e h =
    omega (arith, wire_length_append a b, ap length e, length-append old (wire a), length_wire a)
