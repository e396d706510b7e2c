-- The path of a zone's file in nsd.conf.
use Rattle.std.specs.Prelude.{ℕ, zero, suc, ◌+◌, ◌-◌, ◌==◌, if◌then◌else◌, List, [], ◌∷◌, ◌++◌, length, slice_index, take, drop, Option, None, Some}
use Rattle.dns_octets.specs.Lowered.{lowered}
use Rattle.server_config.specs.declared.zone_path.PathPlace.{PathPlace}
use Rattle.server_config.specs.declared.zone_path.PathPlace.TheVariants.{Character, Label, Name}

abbrev pub label_dot : ℕ
label_dot = 46

abbrev pub percent : ℕ
percent = 37

-- what replaces a percent sign and an octet: for s the name, for 1 to 3 a character, and for z, y, x a label from the last
abbrev pub path_place_of : ℕ → Option PathPlace
path_place_of c =
    if c == 115 then Some Name
    else (if c == 49 then Some (Character 0)
    else (if c == 50 then Some (Character 1)
    else (if c == 51 then Some (Character 2)
    else (if c == 122 then Some (Label 0)
    else (if c == 121 then Some (Label 1)
    else (if c == 120 then Some (Label 2) else None))))))

-- a name without the dot at its end
abbrev pub without_dot : List ℕ → List ℕ
without_dot name =
    if length name == 0 then name else (if slice_index name (length name - 1) == label_dot then take (length name - 1) name else name)

-- the index after the last dot, or else the one that is given
abbrev pub last_start : ℕ → ℕ → List ℕ → ℕ
last_start start at [] = start
last_start start at (c ∷ name) = last_start (if c == label_dot then at + 1 else start) (at + 1) name

-- the last label, and the name without it
abbrev pub last_label : List ℕ → List ℕ
last_label name = drop (last_start 0 0 name) name

abbrev pub without_last : List ℕ → List ℕ
without_last name = take (last_start 0 0 name - 1) name

-- the label of an index, from the last
abbrev pub end_label : ℕ → List ℕ → List ℕ
end_label zero name = last_label name
end_label (suc index) name = end_label index (without_last name)

-- what is missing is a dot
abbrev pub or_dot : List ℕ → List ℕ
or_dot [] = label_dot ∷ []
or_dot (c ∷ text) = c ∷ text

abbrev pub name_character : ℕ → List ℕ → List ℕ
name_character index name = take 1 (drop index name)

-- a part of a name
abbrev pub path_place_text : List ℕ → PathPlace → List ℕ
path_place_text name Name = name
path_place_text name (Character index) = or_dot (name_character index name)
path_place_text name (Label index) = lowered (or_dot (end_label index (without_dot name)))

-- what replaces an octet and the one after it
abbrev pub place_after : ℕ → List ℕ → Option PathPlace
place_after c [] = None
place_after c (d ∷ path) = if c == percent then path_place_of d else None

-- a percent sign and the octet after it are replaced, if something replaces them; or else the first octet stays
abbrev pub replaced_or : List ℕ → ℕ → Option PathPlace → List ℕ → List ℕ → List ℕ
replaced_or name c (Some place) two one = path_place_text name place ++ two
replaced_or name c None two one = c ∷ one

abbrev pub expanded_path : List ℕ → List ℕ → List ℕ
expanded_path name [] = []
expanded_path name (c ∷ []) = c ∷ []
expanded_path name (c ∷ d ∷ path) = replaced_or name c (place_after c (d ∷ path)) (expanded_path name path) (expanded_path name (d ∷ path))
