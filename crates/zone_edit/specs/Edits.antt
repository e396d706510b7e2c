-- Texts in which spans are replaced.
use Rattle.std.specs.Prelude.{⊤, ◌≤◌, ◌<◌, ℕ, zero, suc, ◌-◌, List, [], ◌∷◌, ◌++◌, take, drop}
use Rattle.zone_edit.specs.declared.edit.Edit.{Edit}
use Rattle.zone_edit.specs.declared.edit.EditError.{EditError}
use Rattle.zone_edit.specs.declared.edit.EditError.TheVariants.{OutOfMemory, OutOfOrder, PastEnd, TooLong}

-- octets that begin at an offset of a text: those before the first span, its replacement, and then the rest edited
abbrev pub edited_from : {B : Type 0} → ℕ → List (Edit B) → List ℕ → List ℕ
edited_from at [] octets = octets
edited_from at (e ∷ edits) octets = take (e.start - at) octets ++ (e.text.items ++ edited_from e.end edits (drop (e.end - at) octets))

-- a text with its edits
abbrev pub edited : {B : Type 0} → List (Edit B) → List ℕ → List ℕ
edited edits octets = edited_from 0 edits octets

-- an edit begins at or after an offset, and doesn't end before it begins
abbrev pub IsAfter : {B : Type 0} → ℕ → Edit B → Type 0
IsAfter at e = (at ≤ e.start) × (e.start ≤ e.end)

-- each edit begins at or after the end of the one before
abbrev pub AreApart : {B : Type 0} → ℕ → List (Edit B) → Type 0
AreApart at [] = ⊤
AreApart at (e ∷ edits) = IsAfter at e × AreApart e.end edits

-- each edit ends within a text of this length
abbrev pub EndWithin : {B : Type 0} → ℕ → List (Edit B) → Type 0
EndWithin count [] = ⊤
EndWithin count (e ∷ edits) = (e.end ≤ count) × EndWithin count edits

-- the edit of this index is the first that isn't in order
abbrev pub IsFirstOutOfOrder : {B : Type 0} → ℕ → List (Edit B) → ℕ → Type 0
IsFirstOutOfOrder at [] i = ⊥
IsFirstOutOfOrder at (e ∷ edits) zero = IsAfter at e → ⊥
IsFirstOutOfOrder at (e ∷ edits) (suc i) = IsAfter at e × IsFirstOutOfOrder e.end edits i

-- the edit of this index is the first that ends after a text of this length
abbrev pub IsFirstPastEnd : {B : Type 0} → ℕ → List (Edit B) → ℕ → Type 0
IsFirstPastEnd count [] i = ⊥
IsFirstPastEnd count (e ∷ edits) zero = count < e.end
IsFirstPastEnd count (e ∷ edits) (suc i) = (e.end ≤ count) × IsFirstPastEnd count edits i

-- edits aren't in order
abbrev pub IsOrderError : {B : Type 0} → List (Edit B) → EditError → Type 0
IsOrderError edits (OutOfOrder i) = IsFirstOutOfOrder 0 edits i
IsOrderError edits _ = ⊥

-- an edit ends after a text of this length
abbrev pub IsEndError : {B : Type 0} → ℕ → List (Edit B) → EditError → Type 0
IsEndError count edits (PastEnd i) = IsFirstPastEnd count edits i
IsEndError count edits _ = ⊥

-- why edits can't be applied to a text of this length
abbrev pub IsEditError : {B : Type 0} → ℕ → List (Edit B) → EditError → Type 0
IsEditError count edits OutOfMemory = ⊤
IsEditError count edits (OutOfOrder i) = IsFirstOutOfOrder 0 edits i
IsEditError count edits (PastEnd i) = AreApart 0 edits × IsFirstPastEnd count edits i
IsEditError count edits TooLong = ⊥

-- the texts of edits, one after another
abbrev pub edit_texts : {B : Type 0} → List (Edit B) → List ℕ
edit_texts [] = []
edit_texts (e ∷ edits) = e.text.items ++ edit_texts edits
