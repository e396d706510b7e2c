-- Registries of codes and their names.
use Rattle.std.specs.Prelude.{ℕ, ◌≡◌, ◌≤◌, ◌==◌, List, ◌++◌, length, take, drop, find, map, Option, MatchOption, Some, unwrap_or}
use Rattle.std.specs.Fmt.{decimal}
use Rattle.std.specs.Option.{option_map}
use Rattle.std.specs.Str.{bytes_eq}
use Rattle.dns_octets.specs.Lowered.{lowered}
use Rattle.rdata_values.specs.Numbers.{SpellsNumber}
use Rattle.rdata_values.specs.declared.registry.Named.{Named}

-- a code and its name
pub record Row : Type 0 where
  pub code : ℕ
  pub name : List ℕ

abbrev pub code_row : ℕ → List ℕ → Row
code_row c n = record { code = c; name = n }

abbrev pub code_rows : List Named → List Row
code_rows = map (λ (n : Named). code_row n.0 n.1.now)

-- the code of the row with this name, in any case
abbrev pub row_code : List Row → List ℕ → Option ℕ
row_code table text = option_map (λ (r : Row). r.code) (find (λ (r : Row). bytes_eq (lowered r.name) (lowered text)) table)

-- the name of the row with this code
abbrev pub row_name : List Row → ℕ → Option (List ℕ)
row_name table code = option_map (λ (r : Row). r.name) (find (λ (r : Row). r.code == code) table)

-- a prefix in any case, and a number that is at most `most`
abbrev pub IsNumbered : List ℕ → ℕ → List ℕ → ℕ → Type 0
IsNumbered prefix most text code =
    (lowered (take (length prefix) text) ≡ lowered prefix) × SpellsNumber (drop (length prefix) text) code × (code ≤ most)

-- a text names a code: that of the row with this name, or without such a row by the prefix and the
-- code
abbrev pub SpellsCode : List Row → List ℕ → ℕ → List ℕ → ℕ → Type 0
SpellsCode table prefix most text code = MatchOption (row_code table text) (IsNumbered prefix most text code) (λ c. code ≡ c)

-- the code that a search finds, or there is none
abbrev pub FindsNumbered : List ℕ → ℕ → List ℕ → Option ℕ → Type 0
FindsNumbered prefix most text r = MatchOption r ((code : ℕ) → IsNumbered prefix most text code → ⊥) (IsNumbered prefix most text)

abbrev pub FindsCode : List Row → List ℕ → ℕ → List ℕ → Option ℕ → Type 0
FindsCode table prefix most text r = MatchOption (row_code table text) (FindsNumbered prefix most text r) (λ code. r ≡ Some code)

-- how a code is written: its row's name, or else the prefix and its number
abbrev pub code_text : List Row → List ℕ → ℕ → List ℕ
code_text table prefix code = unwrap_or (row_name table code) (prefix ++ decimal code)
