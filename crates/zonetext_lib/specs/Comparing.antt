-- Two zone files that arrive in chunks, and are compared.
use Rattle.std.specs.Prelude.{ℕ, ◌+◌, ◌≤◌, ◌⊎◌, List, [], ◌∷◌, Option, Some, Ok, Err, encode_utf8_all, take}
use Rattle.dns_lexer.specs.Viable.{IsViable}
use Rattle.dns_lexer.specs.declared.pieces.Fault.{Fault}
use Rattle.zonetext_lib.specs.declared.comparer.Side.{Side}
use Rattle.zonetext_lib.specs.declared.comparer.Side.TheVariants.{First as FirstSide, Second as SecondSide}
use Rattle.zonetext_lib.specs.Blocks.{Holds, EndsEntryAt, Settled}
use Rattle.zonetext_lib.specs.Entries.{ComparedPart, Token, Ends, HasTokenEntries}
use Rattle.zonetext_lib.specs.Held.{Both, Held}

-- what is stored of one file, and the other file
abbrev pub on_side : Side → Both → Held
on_side FirstSide c = c.first
on_side SecondSide c = c.second

abbrev pub opposite : Side → Side
opposite FirstSide = SecondSide
opposite SecondSide = FirstSide

-- of both files these are stored; what came before has the same entries with tokens
pub record Compared (one other : List ℕ) (c : Both) : Type 0 where
  pub first : Holds one c.first
  pub second : Holds other c.second
  pub entries : List ComparedPart
  pub in_first : HasTokenEntries first.before entries
  pub in_second : HasTokenEntries second.before entries

-- the number of entries that end
abbrev pub ends : List ComparedPart → ℕ
ends [] = 0
ends (Token g t ∷ es) = ends es
ends (Ends b ∷ es) = ends es + 1

-- two entries with tokens end, and something follows
abbrev pub HasTwoEntries : List ℕ → Type 0
HasTwoEntries octets = (at : ℕ) × (es : List ComparedPart) × EndsEntryAt octets at × HasTokenEntries (take at octets) es × (2 ≤ ends es)

-- or there is an error that stays
abbrev pub CanCompare : List ℕ → Type 0
CanCompare octets = HasTwoEntries octets ⊎ ((f : Fault) × Settled octets (Err f))

-- what follows may still make it of the grammar, and decides how it compares
abbrev pub NeedsMore : List ℕ → Type 0
NeedsMore octets = IsViable (encode_utf8_all octets) × (HasTwoEntries octets → ⊥)

-- the same entries with tokens end here in both, and something follows in both
abbrev pub SameUntil : List ℕ → List ℕ → ℕ → ℕ → Type 0
SameUntil first second cut there = Settled first (Ok cut) × Settled second (Ok there) × ((es : List ComparedPart) × HasTokenEntries (take cut first) es × HasTokenEntries (take there second) es)

-- the first of two offsets if both are known, or the one before
abbrev pub if_both : Option ℕ → Option ℕ → ℕ → ℕ
if_both (Some here) (Some there) before = here
if_both _ _ before = before
