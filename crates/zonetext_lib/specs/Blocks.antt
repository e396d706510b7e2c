-- Octets that arrive in chunks.
use Rattle.std.specs.Prelude.{◌≡◌, ℕ, ◌+◌, ◌*◌, ◌<◌, ◌≤◌, ◌^◌, ◌⊎◌, ◌↔◌, IsTrue, Bool, false, List, [], ◌∷◌, ◌++◌, length, take, drop, map, Option, Some, None, Result, Ok, Err, encode_utf8_all}
use Rattle.dns_lexer.specs.Pieces.{AreOctets, AreItemsOf, end_at}
use Rattle.dns_lexer.specs.Viable.{IsViable}
use Rattle.dns_lexer.specs.declared.pieces.Piece.{Piece}
use Rattle.dns_lexer.specs.declared.pieces.Fault.{Fault}
use Rattle.zonetext_lib.specs.declared.blocks.ChunkError.{ChunkError}
use Rattle.zonetext_lib.specs.declared.blocks.ChunkError.TheVariants.{Wrong as WrongHalt, OutOfMemory, TooLong}
use Rattle.zonetext_lib.specs.declared.check.Found.{Found}
use Rattle.zonetext_lib.specs.Found.{IsFound}
use Rattle.zonetext_lib.specs.Held.{Held}
use Rattle.zone_format.specs.Place.{IsAt}

-- no octets, or octets of the grammar whose last entry has none
abbrev pub EndsEntry : List ℕ → Type 0
EndsEntry octets = (octets ≡ []) ⊎ ((found : List Piece) × (blank : Bool) × AreItemsOf octets (map Ok found ++ Ok (end_at (length octets) blank) ∷ Ok (end_at (length octets) false) ∷ []))

-- of all added octets these are stored: those before them ended with an entry's end, and were dropped
pub record Holds (all : List ℕ) (h : Held) : Type 0 where
  pub before : List ℕ
  pub is : all ≡ before ++ h.octets
  pub octets : AreOctets before
  pub ended : EndsEntry before
  pub at : h.place.at ≡ length before
  pub position : IsAt 0 before h.place.position

-- a block was added; or all octets with it have this error, whatever follows; or nothing changed
abbrev pub AddsBlock : {U : Type 0} → Held → Held → List ℕ → Result U ChunkError → Type 0
AddsBlock old new block (Ok u) = (all : List ℕ) → Holds all old → Holds (all ++ block) new
AddsBlock old new block (Err (WrongHalt f)) = (all : List ℕ) → Holds all old → Holds (all ++ block) new × ((more : List ℕ) → AreOctets more → IsFound ((all ++ block) ++ more) 0 f)
AddsBlock old new block (Err OutOfMemory) = new ≡ old
AddsBlock old new block (Err TooLong) = (new ≡ old) × (2 ^ 64 ≤ old.place.at + length old.octets + length block + 2)

-- other octets are stored, from the same offset on
abbrev pub IsHeld : List ℕ → Held → Held → Type 0
IsHeld octets old new = (new.octets ≡ octets) × (new.place ≡ old.place) × (new.left ≡ old.left)

-- a block is stored too, and parsing is due if twice the octets that were left are stored; or nothing changed
abbrev pub StoresChunk : Held → Held → List ℕ → Result Bool ChunkError → Type 0
StoresChunk old new block (Ok reads) = (new.octets ≡ old.octets ++ block) × (new.place ≡ old.place) × (new.left ≡ old.left) × (IsTrue reads ↔ (2 * old.left ≤ length new.octets))
StoresChunk old new block (Err (WrongHalt f)) = ⊥
StoresChunk old new block (Err OutOfMemory) = new ≡ old
StoresChunk old new block (Err TooLong) = (new ≡ old) × (2 ^ 64 ≤ old.place.at + length old.octets + length block + 2)

-- the first octets are no longer stored
pub record Releases (old new : Held) (cut : ℕ) : Type 0 where
  pub octets : new.octets ≡ drop cut old.octets
  pub left : new.left ≡ length new.octets
  pub at : new.place.at ≡ old.place.at + cut
  pub position : (before : List ℕ) → IsAt 0 before old.place.position → IsAt 0 (before ++ take cut old.octets) new.place.position

-- an entry ends here that is not the last
abbrev pub EndsEntryAt : List ℕ → ℕ → Type 0
EndsEntryAt octets at = (found : List Piece) × (blank : Bool) × (more : List (Result Piece Fault)) × AreItemsOf octets (map Ok found ++ Ok (end_at at blank) ∷ more) × (0 < length more)

-- the items of octets up to here stay the same whatever follows; or their error does
abbrev pub Settled : List ℕ → Result ℕ Fault → Type 0
Settled octets (Ok at) = (at ≤ length octets) × ((at ≡ 0) ⊎ EndsEntryAt octets at)
Settled octets (Err f) = (found : List Piece) × AreItemsOf octets (map Ok found ++ Err f ∷ []) × (f.at < length octets)

-- what is held can be cut here; or all octets have this error, whatever follows
abbrev pub SettlesHeld : Held → Result ℕ Found → Type 0
SettlesHeld h (Ok at) = Settled h.octets (Ok at)
SettlesHeld h (Err f) = (e : Fault) × Settled h.octets (Err e) × ((all more : List ℕ) → Holds all h → AreOctets more → IsFound (all ++ more) 0 f)

-- a block was added, and all octets with it can still become a zone file; or less is stored than twice what was left, and it isn't parsed yet
abbrev pub AddsInTime : {U : Type 0} → Held → Held → List ℕ → Result U ChunkError → Type 0
AddsInTime old new block (Ok u) = ((new.left ≡ length new.octets) × ((all : List ℕ) → Holds all old → IsViable (encode_utf8_all (all ++ block))))
    ⊎ ((new.octets ≡ old.octets ++ block) × (new.left ≡ old.left) × (length new.octets < 2 * old.left))
AddsInTime old new block (Err h) = new.left ≡ old.left

-- octets have this error after their pieces, or none
abbrev pub EndsWith : List ℕ → Option Fault → Type 0
EndsWith octets None = (found : List Piece) × AreItemsOf octets (map Ok found)
EndsWith octets (Some f) = (found : List Piece) × AreItemsOf octets (map Ok found ++ Err f ∷ [])
