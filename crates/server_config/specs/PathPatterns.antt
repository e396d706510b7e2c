-- Patterns of paths, as configurations name files that they include: as in glob(3).
use Rattle.std.specs.Prelude.{ℕ, zero, suc, ◌+◌, Bool, true, false, not, ◌&&◌, ◌||◌, ◌==◌, nat_eq, nat_le, if◌then◌else◌, List, [], ◌∷◌, drop, Option, None, Some, codes}
use Rattle.std.specs.List.{list_any, starts_with}

-- `*`, `?` and `[` have a meaning of their own
abbrev pub is_pattern_octet : ℕ → Bool
is_pattern_octet c = (c == 42) || (c == 63) || (c == 91)

abbrev pub is_path_pattern : List ℕ → Bool
is_path_pattern part = list_any is_pattern_octet part

abbrev pub has_slash : List ℕ → Bool
has_slash octets = list_any (λ c. c == 47) octets

-- a name that fits a pattern has no slash, and begins with a dot only if the pattern does
abbrev pub may_fit : List ℕ → List ℕ → Bool
may_fit pattern name = not (has_slash name) && (not (starts_with nat_eq name (codes ".")) || starts_with nat_eq pattern (codes "."))

-- a range of a set has two octets more if a hyphen follows, and then an octet other than `]`
abbrev pub range_more : List ℕ → ℕ
range_more [] = 0
range_more (_ ∷ []) = 0
range_more (hyphen ∷ high ∷ text) = if (hyphen == 45) && not (high == 93) then 2 else 0

-- the last octet of a range that begins with an octet
abbrev pub range_high : ℕ → List ℕ → ℕ
range_high low [] = low
range_high low (_ ∷ []) = low
range_high low (hyphen ∷ high ∷ text) = if (hyphen == 45) && not (high == 93) then high else low

-- the index after the `]` that ends a set: it isn't the first octet of the set, and no octet of a range
abbrev pub set_end : ℕ → ℕ → Bool → List ℕ → Option ℕ
set_end at skipped is_first [] = None
set_end at (suc skipped) is_first (_ ∷ text) = set_end (at + 1) skipped false text
set_end at zero is_first (low ∷ text) =
    if (low == 93) && not is_first then Some (at + 1) else set_end (at + 1) (range_more text) false text

-- whether a range, or one of a set, has an octet
abbrev pub range_has : ℕ → ℕ → List ℕ → Bool
range_has octet low text = nat_le low octet && nat_le octet (range_high low text)

abbrev pub set_has : ℕ → ℕ → Bool → List ℕ → Bool
set_has octet skipped is_first [] = false
set_has octet (suc skipped) is_first (_ ∷ text) = set_has octet skipped false text
set_has octet zero is_first (low ∷ text) =
    if (low == 93) && not is_first then false
    else (range_has octet low text || set_has octet (range_more text) false text)

-- the items of a pattern: any octets, one octet, one octet of a set or outside of it, and one that is given
pub data PatternItem : Type 0 where
  Star : PatternItem
  One : PatternItem
  OneOf : List ℕ → PatternItem
  NoneOf : List ℕ → PatternItem
  Same : ℕ → PatternItem

abbrev pub item_fits : PatternItem → ℕ → Bool
item_fits Star octet = false
item_fits One octet = true
item_fits (OneOf set) octet = set_has octet 0 true set
item_fits (NoneOf set) octet = not (set_has octet 0 true set)
item_fits (Same c) octet = c == octet

-- a set begins after `!` or `^`, if it is of the octets that it doesn't have
abbrev pub is_negated : List ℕ → Bool
is_negated [] = false
is_negated (c ∷ text) = (c == 33) || (c == 94)

abbrev pub set_text : List ℕ → List ℕ
set_text text = if is_negated text then drop 1 text else text

-- what a bracket begins: without an end, it is an octet like any other
abbrev pub bracket_item : Option ℕ → List ℕ → PatternItem
bracket_item None text = Same 91
bracket_item (Some end) text = if is_negated text then NoneOf (set_text text) else OneOf (set_text text)

abbrev pub bracket_more : Option ℕ → List ℕ → ℕ
bracket_more None text = 0
bracket_more (Some end) text = if is_negated text then end + 1 else end

abbrev pub end_of_set : List ℕ → Option ℕ
end_of_set text = set_end 0 0 true (set_text text)

-- the item that begins with an octet before a text, and how many octets of the text are the item's
abbrev pub item_of : ℕ → List ℕ → PatternItem
item_of c text =
    if c == 42 then Star else (if c == 63 then One else (if c == 91 then bracket_item (end_of_set text) text else Same c))

abbrev pub item_more : ℕ → List ℕ → ℕ
item_more c text = if c == 91 then bracket_more (end_of_set text) text else 0

abbrev pub items_after : ℕ → List ℕ → List PatternItem
items_after skipped [] = []
items_after (suc skipped) (_ ∷ text) = items_after skipped text
items_after zero (c ∷ text) = item_of c text ∷ items_after (item_more c text) text

-- the items of a pattern
abbrev pub pattern_items : List ℕ → List PatternItem
pattern_items pattern = items_after 0 pattern

-- a name fits items if it can be cut into parts that fit them, in order
abbrev pub path_fits : List PatternItem → List ℕ → Bool
path_fits [] [] = true
path_fits [] (_ ∷ _) = false
path_fits (Star ∷ items) [] = path_fits items []
path_fits (Star ∷ items) (c ∷ name) = path_fits items (c ∷ name) || path_fits (Star ∷ items) name
path_fits (item ∷ items) [] = false
path_fits (item ∷ items) (c ∷ name) = item_fits item c && path_fits items name

-- a name of a file fits a pattern
abbrev pub fits_pattern : List ℕ → List ℕ → Bool
fits_pattern pattern name = may_fit pattern name && path_fits (pattern_items pattern) name
