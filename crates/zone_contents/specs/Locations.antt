-- Positions of records in their files, as numbers.
use Rattle.std.specs.Prelude.{◌≡◌, ◌==◌, nat_lt, ℕ, ◌+◌, ◌-◌, ◌*◌, ◌/◌, ◌%◌, ◌^◌, ◌++◌, if◌then◌else◌, false, List, get_or, None}
use Rattle.zone_contents.specs.declared.locations.Location.{Location}

-- the location of a record that is not generated
abbrev pub location : ℕ → ℕ → ℕ → ℕ → Location
location line column target_line target_column =
    record { line = line; column = column; target_line = target_line; target_column = target_column; generated = None }

-- a record at column 1 with a target on its line, or a record without a target
abbrev pub near_location : ℕ → ℕ → Location
near_location line code =
    if nat_lt code 128 then location line 1 line (code + 1) else location line (code - 126) line (code - 126)

abbrev pub near_code : Location → ℕ
near_code l = if l.column == 1 then l.target_column - 1 else l.column + 126

-- a line, a column, the lines from the record to its target, and the target's column
abbrev pub far_location : ℕ → Location
far_location n =
    location (n / 2 ^ 28) (n / 2 ^ 18 % 2 ^ 10) (n / 2 ^ 28 + n / 2 ^ 12 % 2 ^ 6) (n % 2 ^ 12)

abbrev pub far_number : Location → ℕ
far_number l =
    (((l.line * 2 ^ 10 + l.column) * 2 ^ 6 + (l.target_line - l.line)) * 2 ^ 12 + l.target_column) * 256 + 255

-- the location that a number has alone
abbrev pub unpacked : ℕ → Location
unpacked n = if n % 256 == 255 then far_location (n / 256) else near_location (n / 256) (n % 256)

-- the number of the location with an index among others
abbrev pub index_number : ℕ → ℕ
index_number index = index * 256 + 254

-- the location of a number
abbrev pub located : List Location → ℕ → Location
located others n = if n % 256 == 254 then get_or others (n / 256) (location 0 0 0 0) else unpacked n

-- a number has a location alone
abbrev pub Packs : Location → ℕ → Type 0
Packs l n = (n % 256 == 254 ≡ false) × (unpacked n ≡ l)

-- locations stay the same, and others may follow them
abbrev pub KeepsLocated : List Location → List Location → Type 0
KeepsLocated old new = (more : List Location) × (new ≡ old ++ more)
