-- Octets that the machine skips together.
use Rattle.std.specs.Prelude.{◌≡◌, ◌≤◌, ◌<◌, ℕ, ◌+◌, if◌then◌else◌, Bool, true, false, not, nat_lt, nat_le, ◌&&◌, ◌||◌, ◌==◌, List, map, slice_index}
use Rattle.std.specs.Int.{w64, trailing_zeros}
use lib.Lanes.{mask_l}
use Rattle.dns_symbol.specs.Characters.{tab, line_feed, carriage_return, space, double_quote, open_parenthesis, close_parenthesis, semicolon, dot, backslash}
use Rattle.dns_lexer.specs.declared.reader.Within.{Within}
use Rattle.dns_lexer.specs.declared.reader.Within.TheVariants.{InWord, InQuote}
use Rattle.dns_lexer.specs.declared.runs.OctetClass.{OctetClass}
use Rattle.dns_lexer.specs.declared.runs.OctetClass.TheVariants.{Word, Quote, Comment, Blank, Line, Label}

-- not every octet that changes nothing: those that a few comparisons find
abbrev pub is_in : OctetClass → ℕ → Bool
is_in Word c = nat_lt close_parenthesis c && (not (c == semicolon) && not (c == backslash))
is_in Quote c = nat_le space c && (not (c == double_quote) && not (c == backslash))
is_in Comment c = not (c == line_feed) && not (c == carriage_return)
is_in Blank c = c == space || c == tab
is_in Line c = not ((c == line_feed || (c == carriage_return || c == semicolon)) || ((c == double_quote || (c == open_parenthesis || c == close_parenthesis)) || c == backslash))
is_in Label c = not (c == dot) && not (c == backslash)

-- each octet from one offset to before another
abbrev pub EachIn : OctetClass → List ℕ → ℕ → ℕ → Type 0
EachIn k text i j = (n : ℕ) → i ≤ n → n < j → is_in k (slice_index text n) ≡ true

-- the octet at this offset is of another class
abbrev pub StopsAt : OctetClass → List ℕ → ℕ → Type 0
StopsAt k text i = is_in k (slice_index text i) ≡ false

-- of the 16 octets, the first `run` are of the class
abbrev pub RunIn : OctetClass → List ℕ → ℕ → ℕ → Type 0
RunIn k text i run = (run ≤ 16) × EachIn k text i (i + run) × (run < 16 → StopsAt k text (i + run))

-- the bits of marks on octets, the lowest first, and the octets without a mark are those of a class
pub record Marks (k : OctetClass) (octets : List ℕ) (bits : ℕ) : Type 0 where
  pub marked : ℕ → Bool
  pub is : bits ≡ mask_l (map marked octets)
  pub exact : (c : ℕ) → c < 256 → is_in k c ≡ not (marked c)

-- the class in a word, and in a quoted string
abbrev pub class_of : Within → OctetClass
class_of InWord = Word
class_of InQuote = Quote

-- the index of the lowest bit that is set, or 16
abbrev pub first_set : ℕ → ℕ
first_set mask = if mask == 0 then 16 else trailing_zeros w64 mask
