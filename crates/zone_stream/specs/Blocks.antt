-- Octets that arrive in blocks, and those of them that are held.
use Rattle.std.specs.Prelude.{◌≡◌, ◌≤◌, ℕ, ◌+◌, Bool, true, false, if◌then◌else◌, List, [], ◌++◌, take, drop, length}
use Rattle.std.specs.Io.BufRead.{drop_through}
use Rattle.dns_symbol.specs.Characters.{line_feed}
use Rattle.dns_lexer.specs.Pieces.{AreOctets}
use Rattle.dns_lexer.specs.declared.position.Position.{Position}
use Rattle.zone_format.specs.Place.{IsAt}
use Rattle.zone_format.specs.declared.place.LocatedOffset.{LocatedOffset}

pub record Blocks : Type 0 where
  -- the octets that are held
  pub octets : List ℕ
  -- place of the first of them in the whole input: offset, line and column
  pub start : LocatedOffset
  -- number of them that were read
  pub next : ℕ
  -- reading continues after the first line feed
  pub in_bad_line : Bool
  -- offset where the last returned entry began, in the whole input
  pub began : ℕ
  -- no more octets are added
  pub is_finished : Bool
  -- number of octets that were scanned without finding an entry's end
  pub left : ℕ
  -- greatest number of octets of an entry
  pub limit : ℕ

abbrev pub no_blocks : ℕ → Blocks
no_blocks limit = record { octets = []; start = record { at = 0; position = record { line = 1; column = 1 } }; next = 0; in_bad_line = false; began = 0; is_finished = false; left = 0; limit = limit }

-- the position of an offset in the whole input
abbrev pub IsPlaceOf : List ℕ → ℕ → Position → Type 0
IsPlaceOf all at p = (at ≤ length all) × IsAt 0 (take at all) p

-- the octets that are held are the last of those that were added
pub record BuffersSuffix (all : List ℕ) (b : Blocks) : Type 0 where
  pub before : List ℕ
  pub is : all ≡ before ++ b.octets
  pub at : b.start.at ≡ length before
  pub position : IsAt 0 before b.start.position

-- offset of the first unread octet in the whole input
abbrev pub place_of_next : Blocks → ℕ
place_of_next b = b.start.at + b.next

-- octets, or those after their first line feed
abbrev pub after_line_if : Bool → List ℕ → List ℕ
after_line_if in_bad_line octets = if in_bad_line then drop_through line_feed octets else octets

-- the part of a text that is left to read
abbrev pub remaining_text : Blocks → List ℕ → List ℕ
remaining_text b text = after_line_if b.in_bad_line (drop (place_of_next b) text)

-- octets may follow those that were added, unless input is finished
abbrev pub MayFollow : Blocks → List ℕ → Type 0
MayFollow b more = AreOctets more × (b.is_finished ≡ true → more ≡ [])

-- the octets that are held and not read, and those that follow
abbrev pub remaining_held : Blocks → List ℕ → List ℕ
remaining_held b more = after_line_if b.in_bad_line (drop b.next b.octets ++ more)
