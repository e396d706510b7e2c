-- Fields of one word: the texts that spell a value, and the text that it prints as.
use Rattle.std.specs.Prelude.{ℕ, ◌≡◌, List, Result, Ok, MatchResult}
use Rattle.rdata_values.specs.declared.error.ErrorKind.{ErrorKind}

-- the result is a value that the text spells, or this error if the text spells none
abbrev pub ReadsKind : {V : Type 0} → (List ℕ → V → Type 0) → ErrorKind → List ℕ → Result V ErrorKind → Type 0
ReadsKind Spells why text r = MatchResult r (Spells text) (λ e. (e ≡ why) × ((v : _) → Spells text v → ⊥))

-- A value prints as a text that spells it, and a text spells one value. So parsing what was printed
-- returns the value.
pub record IsKind {V : Type 0} (Valid : V → Type 0) (Spells : List ℕ → V → Type 0) (printed : V → List ℕ) : Type 0 where
  pub spelled : (v : V) → Valid v → Spells (printed v) v
  pub once : (text : List ℕ) (v w : V) → Spells text v → Spells text w → v ≡ w
  pub back : (v : V) (why : ErrorKind) (r : Result V ErrorKind) → Valid v → ReadsKind Spells why (printed v) r → r ≡ Ok v
