-- The keys and the lines of a baseline.
use Rattle.std.specs.Prelude.{◌≡◌, ℕ, suc, ◌<◌, ◌==◌, if◌then◌else◌, List, [], ◌∷◌, ◌++◌, codes}
use Rattle.std.specs.Fmt.{decimal}

-- code, zone, owner and type, with tabs between
abbrev pub baseline_key : (code zone owner rtype : List ℕ) → List ℕ
baseline_key code zone owner rtype = code ++ codes "\t" ++ zone ++ codes "\t" ++ owner ++ codes "\t" ++ rtype

-- a key and a number, with a tab between
abbrev pub baseline_text : (key : List ℕ) → (number : ℕ) → List ℕ
baseline_text key number = key ++ codes "\t" ++ decimal number ++ codes "\n"

abbrev pub tab_count : List ℕ → ℕ
tab_count [] = 0
tab_count (c ∷ octets) = if c == 9 then suc (tab_count octets) else tab_count octets

-- a line is a key of four fields, a tab, and a number from 1 on
pub record BaselineSplit (line key : List ℕ) (number : ℕ) : Type 0 where
  pub digits : List ℕ
  pub split : line ≡ key ++ 9 ∷ digits
  pub fields : tab_count key ≡ 3
  pub positive : 0 < number
