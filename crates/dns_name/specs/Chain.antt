-- The two names of a chain.
use Rattle.std.specs.Prelude.{◌≡◌, ◌≤◌, ◌+◌, ℕ, List}
use Rattle.dns_wire.specs.Limits.{max_name}
use Rattle.dns_wire.specs.Wire.{wire_length}
use Rattle.dns_wire.specs.declared.to_label_iter.ToLabelIter.{Ghosts}
use Rattle.dns_name.specs.declared.chain.Chain.{Chain}

module _ {L R : Type 0} {l : Ghosts L} {r : Ghosts R} where
  abbrev pub left_of : Chain L R l r → L
  left_of c = c.left

  abbrev pub right_of : Chain L R l r → R
  right_of c = c.right

  -- they are these
  abbrev pub IsChainOf : L → R → Chain L R l r → Type 0
  IsChainOf left right c = (left_of c ≡ left) × (right_of c ≡ right)

-- two names together don't exceed the maximum length of a name
abbrev pub FitTogether : List (List ℕ) → List (List ℕ) → Type 0
FitTogether left right = wire_length left + wire_length right ≤ max_name

-- every value is accepted
abbrev pub NeverFails : {A : Type 0} → (A → Type 0) → Type 0
NeverFails {A} is_infallible = (v : A) → is_infallible v
