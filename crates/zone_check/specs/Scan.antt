-- Which octets an entry has.
use Rattle.std.specs.Prelude.{◌≡◌, ℕ, ◌<◌, ◌==◌, ◌&&◌, ◌||◌, not, nat_lt, Bool, List, map}
use Rattle.std.specs.List.{list_any}
use lib.Lanes.{mask_l}
use Rattle.dns_symbol.specs.Characters.{tab, line_feed, space, double_quote, open_parenthesis, semicolon, backslash, tilde}
use Rattle.zone_check.specs.declared.scan.OctetKind.{OctetKind}
use Rattle.zone_check.specs.declared.scan.OctetKind.TheVariants.{Marked, Unusual, Parenthesis, Quote, Backslash, Semicolon}
use Rattle.zone_check.specs.declared.scan.OctetScan.{OctetScan}

-- neither printable ASCII nor a tab nor a line feed
abbrev pub is_unusual : ℕ → Bool
is_unusual c = (nat_lt c space && (not (c == tab) && not (c == line_feed))) || nat_lt tilde c

abbrev pub is_kind : OctetKind → ℕ → Bool
is_kind Marked c = is_unusual c || ((c == open_parenthesis || c == double_quote) || (c == backslash || c == semicolon))
is_kind Unusual c = is_unusual c
is_kind Parenthesis c = c == open_parenthesis
is_kind Quote c = c == double_quote
is_kind Backslash c = c == backslash
is_kind Semicolon c = c == semicolon

-- whether octets of each kind are there
abbrev pub scan_of : List ℕ → OctetScan
scan_of octets = record {
  is_plain = not (list_any is_unusual octets);
  has_parenthesis = list_any (λ c. c == open_parenthesis) octets;
  has_quote = list_any (λ c. c == double_quote) octets;
  has_backslash = list_any (λ c. c == backslash) octets;
  has_semicolon = list_any (λ c. c == semicolon) octets;
}

-- the bits of marks on octets, the lowest first, and the octets with a mark are those of a kind
pub record MarksKind (k : OctetKind) (octets : List ℕ) (bits : ℕ) : Type 0 where
  pub marked : ℕ → Bool
  pub is : bits ≡ mask_l (map marked octets)
  pub exact : (c : ℕ) → c < 256 → is_kind k c ≡ marked c
