use Rattle.std.proofs.Common.{arith, [], ◌∷◌, ◌≡◌, ℕ, List, length}
use Rattle.std.specs.Prelude.{None, slice_get}
use Rattle.dns_wire.specs.Split.IsCut.{cut_lead, cut_label, cut_pointer}
use Rattle.dns_wire.proofs.label.Label.split_from.Goals as goal

is_nil : (xs : List ℕ) → length xs ≡ 0 → xs ≡ []
is_nil [] h = cc
is_nil (x ∷ xs) h = absurd (omega arith)

is_none_nil : (xs : List ℕ) → None ≡ slice_get xs 0 → xs ≡ []
is_none_nil [] h = cc
is_none_nil (x ∷ xs) h = cc

pub returns-in_default : goal.returns-in_default
returns-in_default c = cut_lead (is_nil _ c.in_default.ensures.cases)

pub returns-then-rest-len : goal.returns-then-rest-len
returns-then-rest-len c = cut_label c.in-Some.lead.now c.in-Some.rest.now c.in-Some.ensures.cases.0 (omega arith) (omega arith)

pub returns-in-None : goal.returns-in-None
returns-in-None c =
    let e = is_none_nil c.in-Some.rest.now c.in-None.ensures.value in
    cut_pointer c.in-Some.lead.now (rw e at c.in-Some.ensures.cases.0) (omega arith)
