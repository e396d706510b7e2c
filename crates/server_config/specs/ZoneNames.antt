-- The zone that the name of a file has, by a form such as `*.zone`.
use Rattle.std.specs.Prelude.{ℕ, suc, ◌+◌, ◌-◌, Bool, ◌&&◌, ◌||◌, ◌==◌, nat_eq, nat_le, nat_lt, if◌then◌else◌, List, [], ◌∷◌, length, take, drop, Option, None, Some, codes}
use Rattle.std.specs.List.{starts_with, ends_with, list_all}
use Rattle.dns_octets.specs.Lowered.{same_lowered}
use Rattle.server_config.specs.declared.zone_name.TextSpan.{TextSpan}

-- a percent sign or a star in a form is the zone
abbrev pub is_zone_mark : ℕ → Bool
is_zone_mark c = (c == 37) || (c == 42)

-- the index of the first of them, or the length
abbrev pub zone_mark : List ℕ → ℕ
zone_mark [] = 0
zone_mark (c ∷ form) = if is_zone_mark c then 0 else suc (zone_mark form)

-- what comes before it and after it
abbrev pub before_mark : List ℕ → List ℕ
before_mark form = take (zone_mark form) form

abbrev pub after_mark : List ℕ → List ℕ
after_mark form = drop (zone_mark form + 1) form

-- a form has one of them
abbrev pub is_name_form : List ℕ → Bool
is_name_form form = nat_lt (zone_mark form) (length form) && (zone_mark (after_mark form) == length (after_mark form))

-- a name that begins as the form and ends as it, with octets between
abbrev pub fits_form : List ℕ → List ℕ → Bool
fits_form form name =
    nat_lt (zone_mark form) (length form) && nat_le (length form) (length name) && starts_with nat_eq name (before_mark form) && ends_with nat_eq name (after_mark form)

-- the octets between are the zone
abbrev pub zone_in_name : List ℕ → List ℕ → Option TextSpan
zone_in_name form name = if fits_form form name then Some (record { at = zone_mark form; end = length name - length (after_mark form) }) else None

-- the index after the last slash, or else the one that is given
abbrev pub base_start : ℕ → ℕ → List ℕ → ℕ
base_start start at [] = start
base_start start at (c ∷ path) = base_start (if c == 47 then at + 1 else start) (at + 1) path

-- the length of the ending of a zone file's name
abbrev pub zone_ending_len : List ℕ → ℕ
zone_ending_len name = if ends_with nat_eq name (codes ".zone") then 5 else (if ends_with nat_eq name (codes ".db") then 3 else 0)

-- a path has its zone after the last slash, before the ending
abbrev pub zone_in_path : List ℕ → TextSpan
zone_in_path path = record { at = base_start 0 0 path; end = length path - zone_ending_len (drop (base_start 0 0 path) path) }

-- names of files that are no zone files: hidden ones, and what editors, servers and signers leave beside them
abbrev pub is_side_file : List ℕ → Bool
is_side_file name =
    starts_with nat_eq name (codes ".") || ends_with nat_eq name (codes "~") || ends_with nat_eq name (codes ".jnl") || ends_with nat_eq name (codes ".jbk")
    || ends_with nat_eq name (codes ".signed")

abbrev pub is_digit_or_dot : ℕ → Bool
is_digit_or_dot c = (nat_le 48 c && nat_le c 57) || (c == 46)

-- a name that is more often an abbreviation than a zone: of digits and dots alone, or `root`, `local` or `empty`
abbrev pub is_doubtful_zone : List ℕ → Bool
is_doubtful_zone zone =
    list_all is_digit_or_dot zone || same_lowered zone (codes "root") || same_lowered zone (codes "local") || same_lowered zone (codes "empty")
