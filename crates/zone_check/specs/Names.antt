-- Names as they are spelled.
use Rattle.std.specs.Prelude.{◌==◌, ℕ, ◌-◌, ◌&&◌, ◌||◌, nat_le, if◌then◌else◌, Bool, false, List, [], ◌∷◌, length, drop, slice_index}
use Rattle.dns_octets.specs.Lowered.{same_lowered}

-- a backslash escapes the octet after it
abbrev pub passed_with : ℕ → ℕ
passed_with c = if c == 92 then 2 else 1

-- the last octet is a dot, and no backslash escapes it
abbrev pub ends_in_dot : List ℕ → Bool
ends_in_dot [] = false
ends_in_dot (c ∷ []) = c == 46
ends_in_dot (c ∷ d ∷ cs) = if c == 92 then ends_in_dot cs else ends_in_dot (d ∷ cs)

-- at the start, or after a dot
abbrev pub begins_label : List ℕ → (at : ℕ) → Bool
begins_label text at = at == 0 || slice_index text (at - 1) == 46

-- a text ends in another, ignoring letter case, at its start or after a dot
abbrev pub ends_like : (text other : List ℕ) → Bool
ends_like text other = nat_le (length other) (length text) && (begins_label text (length text - length other) && same_lowered (drop (length text - length other) text) other)
