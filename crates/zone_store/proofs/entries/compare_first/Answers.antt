use Rattle.std.proofs.Common.{◌≡◌, ℕ, true, List, refl, sym, ap, ◌∙◌}
use Rattle.std.specs.Prelude.{◌||◌, if◌then◌else◌}
use Rattle.std.specs.Ordering.{nat_cmp, ordering_then}
use Rattle.std.specs.declared.cmp.Ordering.{Ordering}
use Rattle.zone_record.specs.AnyData.{any_data_order}
use Rattle.zone_store.specs.Entries.{parts_or_absent}
use Rattle.zone_store.specs.Parts.{begins_other, begins_usual, first_other, first_usual}
use Rattle.zone_store.specs.Stored.{absent_parts, parts_cmp}
use Rattle.zone_store.proofs.entries.compare_first.Goals as goal

usual_parts : (octets : List ℕ) → begins_usual octets ≡ true → parts_or_absent octets ≡ first_usual octets
usual_parts octets h = ap (λ b. if b || begins_other octets then (if b then first_usual octets else first_other octets) else absent_parts) h

-- the types and RDATA of two usual records decide
usual_order : (left right : List ℕ) (rtype other_type : ℕ) (rdata other : List ℕ) (order : Ordering) → begins_usual left ≡ true → begins_usual right ≡ true → rtype ≡ (first_usual left).code
    → other_type ≡ (first_usual right).code → rdata ≡ (first_usual left).rdata → other ≡ (first_usual right).rdata
    → order ≡ ordering_then (nat_cmp rtype other_type) (any_data_order rtype rdata other) → order ≡ parts_cmp (parts_or_absent left) (parts_or_absent right)
usual_order left right rtype other_type rdata other order one two t u d e is =
    is ∙ (λ i. ordering_then (nat_cmp (t i) (u i)) (any_data_order (t i) (d i) (e i))) ∙ sym (λ i. parts_cmp (usual_parts left one i) (usual_parts right two i))

pub returns-in-Some-usual_data : goal.returns-in-Some-usual_data
returns-in-Some-usual_data c =
    let one = c.in-Some in
    let two = c.in-Some-usual_data in
    usual_order c.args.left.now c.args.right.now one.found.rtype two.other.rtype one.found.rdata.now two.other.rdata.now c.compare_data.result (one.ensures.some.0 refl) (two.ensures.some.0 refl) one.ensures.rtype two.ensures.rtype
    one.ensures.rdata two.ensures.rdata c.compare_data.ensures
