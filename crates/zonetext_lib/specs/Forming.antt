-- The form of octets that arrive in chunks.
use Rattle.std.specs.Prelude.{⊤, ◌≡◌, ◌≤◌, ◌+◌, ◌^◌, ℕ, List, [], ◌++◌, length, take, Result, Ok, Err}
use Rattle.dns_lexer.specs.Pieces.{AreOctets}
use Rattle.dns_lexer.specs.declared.pieces.Fault.{Fault}
use Rattle.dns_lexer.specs.declared.position.Position.{Position}
use Rattle.zone_format.specs.Blocks.{FormatsEntries, FormedTo}
use Rattle.zone_format.specs.Formats.{Formats}
use Rattle.zone_format.specs.Refusal.{HasFirstError}
use Rattle.zone_format.specs.declared.line_state.Above.{Above}
use Rattle.zone_format.specs.declared.line_state.Above.TheVariants.{Nothing}
use Rattle.zone_format.specs.declared.refusal.Refusal.TheVariants.{Wrong as WrongAt, Nul as NulAt, OrderMark as OrderMarkAt}
use Rattle.zonetext_lib.specs.declared.formatter.FormedCut.{FormedCut}
use Rattle.zonetext_lib.specs.declared.formatter.NoForm.{NoForm}
use Rattle.zonetext_lib.specs.declared.formatter.NoForm.TheVariants.{Wrong, Nul, OrderMark, OutOfMemory, TooLong}
use Rattle.zonetext_lib.specs.declared.blocks.ChunkError.{ChunkError}
use Rattle.zonetext_lib.specs.declared.blocks.ChunkError.TheVariants.{Wrong as WrongHalt, OutOfMemory as OutOfMemoryHalt, TooLong as TooLongHalt}
use Rattle.zone_format.specs.declared.place.LocatedOffset.{LocatedOffset}
use Rattle.zonetext_lib.specs.Blocks.{Holds, Settled}
use Rattle.zonetext_lib.specs.Found.{IsFound, IsFoundAfter}
use Rattle.zonetext_lib.specs.HeldForm.{Forming}
use Rattle.zone_format.specs.Place.{IsAt}

abbrev pub as_no_form : ChunkError → NoForm
as_no_form (WrongHalt f) = Wrong f
as_no_form OutOfMemoryHalt = OutOfMemory
as_no_form TooLongHalt = TooLong

-- what was written of all octets that were added: the form of those that aren't stored, which the form of others continues
pub record FormedSoFar (all written : List ℕ) (f : Forming) : Type 0 where
  pub held : Holds all f.held
  pub formed : FormedTo held.before written f.seam

-- the position of an octet that follows others
abbrev pub HasPosition : LocatedOffset → List ℕ → ℕ → Position → Type 0
HasPosition place octets at p = (before : List ℕ) → IsAt 0 before place.position → IsAt 0 (before ++ take at octets) p

-- the first error of octets that have no form, and its position
abbrev pub HasNoForm : List ℕ → NoForm → Type 0
HasNoForm all (Wrong f) = IsFound all 0 f × HasFirstError Nothing all (WrongAt f.fault)
HasNoForm all (Nul p) = (at : ℕ) × HasFirstError Nothing all (NulAt at) × IsAt 0 (take at all) p
HasNoForm all (OrderMark p) = (at : ℕ) × HasFirstError Nothing all (OrderMarkAt at) × IsAt 0 (take at all) p
HasNoForm all OutOfMemory = ⊤
HasNoForm all TooLong = ⊥

-- the first error of octets that follow others, below lines above, and its position among all
abbrev pub HasNoFormAfter : Above → LocatedOffset → List ℕ → NoForm → Type 0
HasNoFormAfter above place octets (Wrong r) = (f : Fault) × HasFirstError above octets (WrongAt f) × IsFoundAfter place octets f r
HasNoFormAfter above place octets (Nul p) = (at : ℕ) × HasFirstError above octets (NulAt at) × HasPosition place octets at p
HasNoFormAfter above place octets (OrderMark p) = (at : ℕ) × HasFirstError above octets (OrderMarkAt at) × HasPosition place octets at p
HasNoFormAfter above place octets OutOfMemory = ⊤
HasNoFormAfter above place octets TooLong = ⊥

-- a block was added, and what it adds to the form was appended; or all octets with it have no form, whatever follows; or nothing was added
abbrev pub AddsForm : {U : Type 0} → Forming → Forming → List ℕ → List ℕ → List ℕ → Result U NoForm → Type 0
AddsForm old new block from to (Ok u) = (all written : List ℕ) → FormedSoFar all written old → (more : List ℕ) × (to ≡ from ++ more) × FormedSoFar (all ++ block) (written ++ more) new
AddsForm old new block from to (Err OutOfMemory) = new ≡ old
AddsForm old new block from to (Err TooLong) = (new ≡ old) × (2 ^ 62 ≤ old.held.place.at + length old.held.octets + length block + 2)
AddsForm old new block from to (Err why) = (all written more : List ℕ) → FormedSoFar all written old → AreOctets more → HasNoForm ((all ++ block) ++ more) why

-- the form of the entries that have ended was appended, and here they end; or all octets have no form
abbrev pub FormsSettled : Forming → List ℕ → List ℕ → Result FormedCut NoForm → Type 0
FormsSettled f from to (Ok c) = AreOctets f.held.octets × Settled f.held.octets (Ok c.at) × FormatsEntries (take c.at f.held.octets) f.seam from to c.seam
FormsSettled f from to (Err OutOfMemory) = ⊤
FormsSettled f from to (Err TooLong) = ⊥
FormsSettled f from to (Err why) = (all written more : List ℕ) → FormedSoFar all written f → AreOctets more → HasNoForm (all ++ more) why

-- with this all is written, and is the form of all octets
abbrev pub FormsAll : Forming → List ℕ → List ℕ → Type 0
FormsAll f from to = (all written : List ℕ) → FormedSoFar all written f → (more : List ℕ) × (to ≡ from ++ more) × Formats all [] (written ++ more)
