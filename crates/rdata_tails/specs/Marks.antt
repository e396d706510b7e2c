-- Marks in texts.
use Rattle.std.specs.Prelude.{ℕ, ◌≡◌, ◌≢◌, ◌<◌, List, ◌∷◌, ◌++◌, length, slice_index, Option, MatchOption}
use Rattle.rdata_tails.specs.declared.marks.Parts.{Parts}

-- a text has no such mark
abbrev pub LacksMark : ℕ → List ℕ → Type 0
LacksMark mark text = (k : ℕ) → k < length text → slice_index text k ≢ mark

-- the parts of a text before and after such a mark
abbrev pub ArePartsOf : ℕ → List ℕ → Parts → Type 0
ArePartsOf mark text p = text ≡ p.before.now ++ mark ∷ p.after.now

-- around the first such mark in it, or around the last
abbrev pub FindsFirst : ℕ → List ℕ → Option Parts → Type 0
FindsFirst mark text r = MatchOption r (LacksMark mark text) (λ p. ArePartsOf mark text p × LacksMark mark p.before.now)

abbrev pub FindsLast : ℕ → List ℕ → Option Parts → Type 0
FindsLast mark text r = MatchOption r (LacksMark mark text) (λ p. ArePartsOf mark text p × LacksMark mark p.after.now)
