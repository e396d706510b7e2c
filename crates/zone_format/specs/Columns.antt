-- The columns of a line, counted in characters from 1.
use Rattle.std.specs.Prelude.{ℕ, ◌+◌, ◌-◌, ◌*◌, ◌/◌, max, Bool, true, false, if◌then◌else◌, ◌==◌, ◌&&◌, ◌||◌, not, nat_lt, nat_le, List, [], ◌∷◌, codes}
use Rattle.std.specs.List.{count_by, list_all}
use Rattle.dns_symbol.specs.Characters.{semicolon}
use Rattle.dns_symbol.specs.Symbol.{is_digit}
use Rattle.dns_lexer.specs.Run.{is_blank}
use Rattle.zone_format.specs.Place.{begins_character}
use Rattle.zone_format.specs.declared.columns.Role.{Role}
use Rattle.zone_format.specs.declared.columns.Role.TheVariants.{Ttl, Class, RecordType}
use Rattle.zone_format.specs.declared.columns.Turn.{Turn}
use Rattle.zone_format.specs.declared.columns.Turn.TheVariants.{Edge, Led, Inside, Owned, Head, Typed, Rest}

-- the number of characters of octets
abbrev pub width_of : List ℕ → ℕ
width_of octets = count_by begins_character octets

-- the least multiple of 8 that is at least n
abbrev pub next_eighth : ℕ → ℕ
next_eighth n = (n + 7) / 8 * 8

-- letters in lower or in upper case
abbrev pub spells : List ℕ → List ℕ → Bool
spells [] [] = true
spells (l ∷ ls) (c ∷ cs) = (c == l || c + 32 == l) && spells ls cs
spells _ _ = false

abbrev pub begins_digit : List ℕ → Bool
begins_digit [] = false
begins_digit (c ∷ cs) = is_digit c

abbrev pub begins_dollar : List ℕ → Bool
begins_dollar [] = false
begins_dollar (c ∷ cs) = c == 36

-- CLASS followed by digits
abbrev pub is_numbered_class : List ℕ → Bool
is_numbered_class (a ∷ b ∷ c ∷ d ∷ e ∷ f ∷ ds) = spells (codes "class") (a ∷ b ∷ c ∷ d ∷ e ∷ []) && list_all is_digit (f ∷ ds)
is_numbered_class _ = false

abbrev pub is_class : List ℕ → Bool
is_class t = spells (codes "in") t || spells (codes "ch") t || spells (codes "hs") t || is_numbered_class t

-- the role of a token before the RDATA: a TTL and a class come once each
abbrev pub role_of : Bool → Bool → List ℕ → Role
role_of has_ttl has_class t = if not has_ttl && begins_digit t then Ttl else if not has_class && is_class t then Class else RecordType

-- how far the columns of a line move right for the first token after e characters: the least multiple of 8 for which a blank remains
abbrev pub moved_by : Role → ℕ → ℕ → ℕ
moved_by Ttl e n = next_eighth ((e + n + 2) - 31)
moved_by Class e n = next_eighth ((e + 2) - 32)
moved_by RecordType e n = next_eighth ((e + 2) - 35)

-- the column of that token: a TTL ends at 30, a class begins at 32, a type at 35, all moved
abbrev pub first_column : Role → ℕ → ℕ → ℕ
first_column Ttl e n = (31 + moved_by Ttl e n) - n
first_column Class e n = 32 + moved_by Class e n
first_column RecordType e n = 35 + moved_by RecordType e n

-- the column of a later token: its own, or one blank after the item before it
abbrev pub later_column : Role → ℕ → ℕ → ℕ
later_column Ttl moved e = e + 2
later_column Class moved e = max (32 + moved) (e + 2)
later_column RecordType moved e = max (35 + moved) (e + 2)

-- the column of a token that isn't adjacent to the item before it
abbrev pub parted_column : Turn → ℕ → List ℕ → ℕ
parted_column Edge e t = 1
parted_column Inside e t = 41
parted_column Led e t = first_column (role_of false false t) e (width_of t)
parted_column Owned e t = first_column (role_of false false t) e (width_of t)
parted_column (Head moved has_ttl has_class) e t = later_column (role_of has_ttl has_class t) moved e
parted_column (Typed moved) e t = max (41 + moved) (e + 2)
parted_column Rest e t = e + 2

-- the column of a token after e characters
abbrev pub token_column : Turn → ℕ → Bool → List ℕ → ℕ
token_column turn e true t = e + 1
token_column turn e false t = parted_column turn e t

abbrev pub head_after : Role → ℕ → Bool → Bool → Turn
head_after Ttl moved has_ttl has_class = Head moved true has_class
head_after Class moved has_ttl has_class = Head moved has_ttl true
head_after RecordType moved has_ttl has_class = Typed moved

-- an adjacent token moves no columns
abbrev pub first_moved : Bool → Role → ℕ → ℕ → ℕ
first_moved true r e n = 0
first_moved false r e n = moved_by r e n

-- what may come after a token
abbrev pub after_token : Turn → ℕ → Bool → List ℕ → Turn
after_token Edge e glued t = if begins_dollar t then Rest else Owned
after_token Inside e glued t = Rest
after_token Led e glued t = head_after (role_of false false t) (first_moved glued (role_of false false t) e (width_of t)) false false
after_token Owned e glued t = head_after (role_of false false t) (first_moved glued (role_of false false t) e (width_of t)) false false
after_token (Head moved has_ttl has_class) e glued t = head_after (role_of has_ttl has_class t) moved has_ttl has_class
after_token (Typed moved) e glued t = Rest
after_token Rest e glued t = Rest

-- the column of a parenthesis after e characters
abbrev pub parenthesis_column : Turn → ℕ → ℕ
parenthesis_column Edge e = 1
parenthesis_column Inside e = 41
parenthesis_column _ e = e + 2

-- a semicolon after a blank
abbrev pub has_second : List ℕ → Bool
has_second (a ∷ b ∷ cs) = (is_blank a && (b == semicolon)) || has_second (b ∷ cs)
has_second _ = false

-- a comment line has the column of the comment above, unless there is none, or it is a commented-out value
abbrev pub under : ℕ → List ℕ → ℕ → ℕ
under above t column = if nat_lt 1 above && nat_le above 97 && not (has_second t) then above else column

-- the column of a comment after e characters
abbrev pub note_column : ℕ → Turn → ℕ → List ℕ → ℕ
note_column above Edge e t = 1
note_column above Led e t = under above t 9
note_column above Inside e t = under above t 41
note_column above _ e t = 57 + next_eighth ((e + 2) - 57)

-- by how much the columns of a line are moved
abbrev pub moved_in : Turn → ℕ
moved_in (Head moved has_ttl has_class) = moved
moved_in (Typed moved) = moved
moved_in _ = 0
