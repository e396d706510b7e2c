-- The result of making data of TXT with any octets (RFC 1035 section 3.3.14).
use Rattle.std.specs.Prelude.{◌≡◌, ◌≢◌, ◌+◌, ◌-◌, ◌/◌, ◌<◌, ◌≤◌, ℕ, List, [], ◌∷◌, ◌++◌, length, All}
use Rattle.std.specs.List.{concat, flat_map}
use Rattle.c_calls.specs.DataText.{PutsAt}
use Rattle.c_calls.specs.Reports.{CopiesWhole}
use Rattle.c_calls.specs.declared.outcome.Outcome.{Outcome}

-- the number of octets of the strings of n octets: each has 255 of them, and the last one the rest, after its length
abbrev pub strings_length : ℕ → ℕ
strings_length n = n + (n - 1) / 255 + 1

-- there are more octets than data can have, and nothing was written
abbrev pub RefusesTexts : ℕ → List ℕ → List ℕ → Outcome → Type 0
RefusesTexts status old new outcome = (status ≡ 7) × (outcome ≡ record { length = 0; place = 65279 }) × (new ≡ old)

-- the length of the strings of n octets is reported
abbrev pub ReportsTexts : ℕ → Outcome → Type 0
ReportsTexts n outcome = outcome ≡ record { length = strings_length n; place = 0 }

-- where the strings of these octets don't fit, that is the status, and nothing was written
abbrev pub LacksTexts : List ℕ → List ℕ → ℕ → List ℕ → Type 0
LacksTexts octets old status new = length old < strings_length (length octets) → (status ≡ 2) × (new ≡ old)

-- a character string in wire format: its length, and its octets (RFC 1035 section 3.3)
abbrev pub string_wire : List ℕ → List ℕ
string_wire string = length string ∷ string

-- the octets are those of the strings: each has 255 of them, and the last one the rest. No octets are one empty string
pub record AreStringsOf (octets : List ℕ) (strings : List (List ℕ)) : Type 0 where
  pub full : List (List ℕ)
  pub last : List ℕ
  pub are : strings ≡ full ++ last ∷ []
  pub whole : concat strings ≡ octets
  pub each : All (λ string. length string ≡ 255) full
  pub short : length last ≤ 255
  pub some : full ≢ [] → last ≢ []

-- the strings of these octets are at the start, and the octets after them are unchanged
abbrev pub PutsStrings : List ℕ → List ℕ → List ℕ → Type 0
PutsStrings octets old new = (strings : List (List ℕ)) × AreStringsOf octets strings × PutsAt (flat_map string_wire strings) 0 old new

-- where the strings of these octets fit RDATA and the buffer, they are returned
abbrev pub FitsTexts : List ℕ → List ℕ → ℕ → List ℕ → Outcome → Type 0
FitsTexts octets old status new outcome =
    length octets ≤ 65279 → strings_length (length octets) ≤ length old → (strings : List (List ℕ)) × AreStringsOf octets strings × CopiesWhole (flat_map string_wire strings) old status new outcome
