-- Octets of the grammar of zone files, and the errors of others.
use Rattle.std.specs.Prelude.{⊤, ◌≡◌, ◌≤◌, ◌+◌, ℕ, List, [], ◌++◌, length, take, Option, None, IsSomeAnd, encode_utf8_all}
use Rattle.dns_lexer.specs.Unclosed.{IsOpener}
use Rattle.dns_lexer.specs.Pieces.{IsFault, IsOctetPieces, moved_fault, place_of}
use Rattle.dns_lexer.specs.declared.pieces.Piece.{Piece}
use Rattle.dns_lexer.specs.declared.pieces.Fault.{Fault}
use Rattle.dns_lexer.specs.declared.pieces.Wrong.{Wrong}
use Rattle.dns_lexer.specs.declared.pieces.Wrong.TheVariants.{OpenParenthesis, OpenQuote}
use Rattle.dns_lexer.specs.declared.position.Position.{Position}
use Rattle.zonetext_lib.specs.declared.check.Found.{Found}
use Rattle.zonetext_lib.specs.declared.tokens.CommandError.{CommandError}
use Rattle.zonetext_lib.specs.declared.tokens.CommandError.TheVariants.{Wrong as WrongStop, OutOfMemory}
use Rattle.zone_format.specs.declared.place.LocatedOffset.{LocatedOffset}
use Rattle.zone_format.specs.Place.{IsAt}

-- the characters with these numbers are a text of the grammar
abbrev pub IsZone : List ℕ → Type 0
IsZone octets = (found : List Piece) × IsOctetPieces octets found

-- they are not, and this is their error
pub record IsOctetFault (octets : List ℕ) (f : Fault) : Type 0 where
  pub within : f.at ≤ length octets
  pub is : IsFault (encode_utf8_all octets) (moved_fault (place_of octets) f)

-- the position of the opening double quote, or of the outermost parenthesis that isn't closed, in octets that follow others
abbrev pub IsOpenedAfter : ℕ → List ℕ → List ℕ → Wrong → Option Position → Type 0
IsOpenedAfter lines before octets (OpenQuote i) o = (i ≤ length octets) × IsSomeAnd o (λ p. IsAt lines (before ++ take i octets) p)
IsOpenedAfter lines before octets OpenParenthesis o =
    (i : ℕ) × (i ≤ length octets) × IsOpener (encode_utf8_all octets) (place_of octets i) × IsSomeAnd o (λ p. IsAt lines (before ++ take i octets) p)
IsOpenedAfter lines before octets _ o = o ≡ None

-- the error, and its positions
pub record IsFound (octets : List ℕ) (lines : ℕ) (f : Found) : Type 0 where
  pub fault : IsOctetFault octets f.fault
  pub position : IsAt lines (take f.fault.at octets) f.position
  pub opened : IsOpenedAfter lines [] octets f.fault.wrong f.opened

-- the error of octets that begin at a place, and its positions
pub record IsFoundAfter (place : LocatedOffset) (octets : List ℕ) (f : Fault) (r : Found) : Type 0 where
  pub fault : r.fault ≡ moved_fault (λ i. place.at + i) f
  pub position : (before : List ℕ) → IsAt 0 before place.position → IsAt 0 (before ++ take f.at octets) r.position
  pub opened : (before : List ℕ) → IsAt 0 before place.position → IsOpenedAfter 0 before octets f.wrong r.opened

-- the reason why a command stopped
abbrev pub IsStop : List ℕ → ℕ → CommandError → Type 0
IsStop octets lines (WrongStop f) = IsFound octets lines f
IsStop octets lines OutOfMemory = ⊤
