-- Texts that are edited in chunks.
use Rattle.std.specs.Prelude.{⊤, ◌≡◌, ◌≤◌, ℕ, ◌+◌, ◌-◌, ◌^◌, List, ◌++◌, length, drop}
use Rattle.dns_octets.specs.Appending.{Extends}
use Rattle.zone_edit.specs.declared.edit.Edit.{Edit}
use Rattle.zone_edit.specs.declared.edit.EditError.{EditError}
use Rattle.zone_edit.specs.declared.edit.EditError.TheVariants.{OutOfMemory, PastEnd, TooLong}
use Rattle.zone_edit.specs.declared.editor.EditProgress.{EditProgress}
use Rattle.zone_edit.specs.Edits.{AreApart, IsFirstPastEnd, edited_from}

-- all edits, and how far they were applied: how many, the offset of the next chunk, and that of the first octet that is neither copied nor replaced yet
pub record Editing (B : Type 0) : Type 0 where
  pub edits : List (Edit B)
  pub reached : EditProgress

-- what is still to be appended, if these octets come next and no others
abbrev pub rest_edited : {B : Type 0} → List (Edit B) → EditProgress → List ℕ → List ℕ
rest_edited edits r rest = edited_from r.from (drop r.done edits) (drop (r.from - r.at) rest)

-- the edits that are left begin at or after the first octet that is neither copied nor replaced
pub record IsReached {B : Type 0} (edits : List (Edit B)) (r : EditProgress) : Type 0 where
  pub begun : r.at ≤ r.from
  pub counted : r.done ≤ length edits
  pub ordered : AreApart r.from (drop r.done edits)

-- a chunk was edited: whatever follows, what was appended and what is still to be appended are together what was to be appended for the chunk and what follows
pub record AppliesChunk {B : Type 0} (edits : List (Edit B)) (old : EditProgress) (chunk front to : List ℕ) (new : EditProgress) : Type 0 where
  pub next : new.at ≡ old.at + length chunk
  pub made : (rest : List ℕ) → to ++ rest_edited edits new rest ≡ front ++ rest_edited edits old (chunk ++ rest)
  pub extends : Extends front to
  pub reached : IsReached edits new

-- a chunk of this length was not added at an offset: an allocation failed, or the text is too long
abbrev pub IsAddError : ℕ → ℕ → EditError → Type 0
IsAddError at count OutOfMemory = ⊤
IsAddError at count TooLong = 2 ^ 64 ≤ at + count
IsAddError at count _ = ⊥

-- the end was not appended: an allocation failed, or an edit ends after the text
abbrev pub IsFinishError : {B : Type 0} → Editing B → EditError → Type 0
IsFinishError e OutOfMemory = ⊤
IsFinishError e (PastEnd i) = IsFirstPastEnd e.reached.at e.edits i
IsFinishError e _ = ⊥
