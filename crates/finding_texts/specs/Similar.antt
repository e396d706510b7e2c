-- Names that differ little from another.
use Rattle.std.specs.Prelude.{ℕ, ◌-◌, ◌*◌, ◌==◌, ◌&&◌, ◌||◌, nat_eq, nat_le, not, if◌then◌else◌, min, Bool, false, List, [], ◌∷◌, length, map, take, Option, Some, None}
use Rattle.std.specs.List.{filter, starts_with}
use Rattle.std.specs.Str.{chars, str_to_ascii_uppercase}
use Rattle.strsim.specs.Edits.{osa_table}
use Rattle.rdata_values.specs.Registry.{Row}
use Rattle.rdata_values.specs.Types.{is_portable, type_rows}
use Rattle.rdata_values.specs.declared.types.RecordType.{RecordType}

-- the least number of edits from one text to another, by optimal string alignment: an edit inserts, deletes or replaces a character, or swaps two adjacent ones
abbrev pub edits_from : (text other : List ℕ) → ℕ
edits_from text other = (osa_table (chars text) (chars other)).last_row (length (chars other))

-- a text begins with another that is not empty, and has at most two octets more
abbrev pub is_extended : (long short : List ℕ) → Bool
is_extended long short = not (length short == 0) && (starts_with nat_eq long short && nat_le (length long - length short) 2)

abbrev pub begin_alike : List ℕ → List ℕ → Bool
begin_alike (a ∷ left) (b ∷ right) = a == b
begin_alike _ _ = false

-- one begins with the other, or they begin alike and are at most one edit apart
abbrev pub is_similar : (word name : List ℕ) → Bool
is_similar word name = is_extended word name || (is_extended name word || (begin_alike word name && nat_le (edits_from word name) 1))

-- a type whose name every reader knows, and which a word in capital letters probably means
abbrev pub is_suggested : (word : List ℕ) → Row → Bool
is_suggested word row = is_portable row.code && is_similar word row.name

abbrev pub suggested_types : List Row → (word : List ℕ) → List RecordType
suggested_types rows word = map (λ (r : Row). r.code) (filter (is_suggested word) rows)

-- the first three of them, for a word of 2 to 16 octets
abbrev pub similar_types : (word : List ℕ) → List RecordType
similar_types word = if nat_le 2 (length word) && nat_le (length word) 16 then take 3 (suggested_types type_rows (str_to_ascii_uppercase word)) else []

-- at most two octets longer or shorter, at most two edits, and at most one for each two octets of the shorter name
abbrev pub are_near : (name other : List ℕ) → Bool
are_near name other = (nat_le (length name - length other) 2 && nat_le (length other - length name) 2)
    && (nat_le (edits_from name other) 2 && nat_le (2 * edits_from name other) (min (length name) (length other)))

abbrev pub edits_between : (name other : List ℕ) → Option ℕ
edits_between name other = if are_near name other then Some (edits_from name other) else None
