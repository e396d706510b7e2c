-- Tag-lists (RFC 6376 section 3.2), as the records of DKIM and DMARC are.
use Rattle.std.specs.Prelude.{ℕ, ◌==◌, ◌&&◌, ◌||◌, not, if◌then◌else◌, nat_eq, Bool, true, false, Option, Some, None, List, [], ◌∷◌, take, drop}
use Rattle.std.specs.Cmp.Lexicographic.{pointwise}
use Rattle.std.specs.List.{list_all, list_any, position_or_len}
use Rattle.std.specs.Option.{option_map_or}
use Rattle.mail_texts.specs.Parts.{is_pair, octets_after, octets_before, parts_between}

-- the octets of FWS: a space, a tab, CR and LF
abbrev pub is_fws : ℕ → Bool
is_fws o = o == 32 || (o == 9 || (o == 13 || o == 10))

abbrev pub is_not_fws : ℕ → Bool
is_not_fws o = not (is_fws o)

-- the octets from the first that is not FWS on
abbrev pub beyond_fws : List ℕ → List ℕ
beyond_fws octets = drop (position_or_len is_not_fws octets) octets

-- [FWS] word [FWS], where the word has no FWS: the word, which may be empty
abbrev pub lone_word : List ℕ → Option (List ℕ)
lone_word octets =
    if list_all is_fws (drop (position_or_len is_fws (beyond_fws octets)) (beyond_fws octets))
    then Some (take (position_or_len is_fws (beyond_fws octets)) (beyond_fws octets))
    else None

-- octets are a word that passes a test, maybe with FWS around it
abbrev pub is_word_of : (List ℕ → Bool) → List ℕ → Bool
is_word_of test octets = option_map_or test (lone_word octets) false

abbrev pub is_exactly : (word octets : List ℕ) → Bool
is_exactly word octets = pointwise nat_eq octets word

abbrev pub is_lone_word : (word octets : List ℕ) → Bool
is_lone_word word octets = is_word_of (is_exactly word) octets

-- tag-list = tag-spec *( ";" tag-spec ) [ ";" ]
abbrev pub tag_parts : List ℕ → List (List ℕ)
tag_parts text = parts_between 59 text

-- tag-spec = [FWS] tag-name [FWS] "=" [FWS] tag-value [FWS]: the value of a tag with a name, with its FWS; names are case-sensitive
abbrev pub tag_value : (name part : List ℕ) → Option (List ℕ)
tag_value name part = if is_lone_word name (octets_before 61 part) then octets_after 61 part else None

abbrev pub is_some_value : Option (List ℕ) → Bool
is_some_value None = false
is_some_value (Some value) = true

abbrev pub or_value : Option (List ℕ) → Option (List ℕ) → Option (List ℕ)
or_value None other = other
or_value (Some value) other = Some value

-- the value of the first tag with a name
abbrev pub first_value : List ℕ → List (List ℕ) → Option (List ℕ)
first_value name [] = None
first_value name (part ∷ parts) = or_value (tag_value name part) (first_value name parts)

abbrev pub has_tag : List ℕ → List (List ℕ) → Bool
has_tag name parts = is_some_value (first_value name parts)

-- a tag-spec with a name, whose value is a word
abbrev pub is_tag_with : (name word part : List ℕ) → Bool
is_tag_with name word part = is_pair 61 (is_lone_word name) (is_lone_word word) part

-- a part that is not FWS alone has no "="
abbrev pub lacks_value : List ℕ → Bool
lacks_value part = not (list_all is_fws part) && not (is_some_value (octets_after 61 part))

abbrev pub has_part_without_value : List (List ℕ) → Bool
has_part_without_value parts = list_any lacks_value parts

-- the name of a tag-spec, if it is a word
abbrev pub tag_name : List ℕ → Option (List ℕ)
tag_name part = if is_some_value (octets_after 61 part) then lone_word (octets_before 61 part) else None

-- a tag with its name comes after it
abbrev pub recurs : (part : List ℕ) → List (List ℕ) → Bool
recurs part parts = option_map_or (λ name. has_tag name parts) (tag_name part) false

-- tags with duplicate names must not occur
abbrev pub has_tag_twice : List (List ℕ) → Bool
has_tag_twice [] = false
has_tag_twice (part ∷ parts) = recurs part parts || has_tag_twice parts

-- a tag whose name and value fail a test
abbrev pub is_failing_tag : (test : List ℕ → List ℕ → Bool) → List ℕ → Bool
is_failing_tag test part = option_map_or (λ value. option_map_or (λ name. not (test name value)) (lone_word (octets_before 61 part)) false) (octets_after 61 part) false
