-- Lines that are inserted.
use Rattle.std.specs.Prelude.{ℕ, ◌-◌, Bool, false, if◌then◌else◌, ◌||◌, ◌==◌, List, [], ◌∷◌, ◌++◌, length, slice_index_or}
use Rattle.dns_symbol.specs.Characters.{carriage_return, line_feed}

-- whether the last LF follows a CR, after one more octet
abbrev pub cr_after : Bool → Bool → ℕ → Bool
cr_after has_cr is_cr octet = if octet == line_feed then is_cr else has_cr

-- whether the last LF follows a CR, by whether the one before these octets does, and whether they follow a CR
abbrev pub ends_in_cr_lf : Bool → Bool → List ℕ → Bool
ends_in_cr_lf has_cr is_cr [] = has_cr
ends_in_cr_lf has_cr is_cr (octet ∷ octets) = ends_in_cr_lf (cr_after has_cr is_cr octet) (octet == carriage_return) octets

-- the last line end of octets, and LF if they have none
abbrev pub line_end_of : List ℕ → List ℕ
line_end_of octets = if ends_in_cr_lf false false octets then carriage_return ∷ line_feed ∷ [] else line_feed ∷ []

-- there are no octets, or the last is LF
abbrev pub begins_line : List ℕ → Bool
begins_line octets = (length octets == 0) || (slice_index_or octets (length octets - 1) 0 == line_feed)

-- what is inserted after octets for a line of its own
abbrev pub line_after : List ℕ → List ℕ → List ℕ
line_after front line = (if begins_line front then [] else line_end_of front) ++ line ++ line_end_of front
