-- Codes are found by their names.
use Rattle.std.proofs.Common.{◌≡◌, ◌∙◌, Bool, true, false, List, [], ◌∷◌, refl, sym, subst, cond}
use Rattle.std.specs.Prelude.{ℕ, Some, IfSome, find, option_map}
use Rattle.std.specs.List.{list_all}
use Rattle.std.specs.Str.{bytes_eq}
use Rattle.std.proofs.lemmas.Bool.{and_parts}
use Rattle.std.proofs.lemmas.Slice.Eq.{bytes_eq-Decides}
use Rattle.finding_codes.specs.declared.code.Code.{Code}
use Rattle.finding_codes.specs.declared.code.Code.TheVariants.{OpenQuote}
use Rattle.finding_codes.specs.Code.{code_name, code_named}
use Rattle.finding_codes.specs.Table.{FindingRow, finding_rows, first_rows, later_rows}

-- the row is that of its code
abbrev is_own : FindingRow → Bool
is_own r = bytes_eq (code_name r.code) r.name

all_own : list_all is_own finding_rows ≡ true
unfolding finding_rows first_rows later_rows
all_own = refl

one_more : (t : List ℕ) (r : FindingRow) (rs : List FindingRow) (b : Bool) → b ≡ bytes_eq r.name t → is_own r ≡ true → IfSome (code_named rs t) (λ c. code_name c ≡ t)
    → IfSome (option_map (λ (r : FindingRow). r.code) (cond b (Some r) (find (λ (s : FindingRow). bytes_eq s.name t) rs))) (λ c. code_name c ≡ t)
one_more t r rs true e n h = (bytes_eq-Decides (code_name r.code) r.name).0 n ∙ (bytes_eq-Decides r.name t).0 (sym e)
one_more t r rs false e n h = h

-- the first code with a name has it
found_in : (t : List ℕ) (rs : List FindingRow) → list_all is_own rs ≡ true → IfSome (code_named rs t) (λ c. code_name c ≡ t)
found_in t [] own = tt
found_in t (r ∷ rs) own = one_more t r rs (bytes_eq r.name t) refl (and_parts (is_own r) (list_all is_own rs) own).0 (found_in t rs (and_parts (is_own r) (list_all is_own rs) own).1)

pub found_has_name : (t : List ℕ) → IfSome (code_named finding_rows t) (λ c. code_name c ≡ t)
found_has_name t = found_in t finding_rows all_own

-- each code is the first of all with its name
first_of_all : (c : Code) → code_named finding_rows (code_name c) ≡ Some c
unfolding finding_rows first_rows later_rows
first_of_all OpenQuote = refl
first_of_all _ = refl

pub named_is_found : (t : List ℕ) (c : Code) → code_name c ≡ t → code_named finding_rows t ≡ Some c
named_is_found t c e = subst (λ (u : List ℕ). code_named finding_rows u ≡ Some c) e (first_of_all c)
