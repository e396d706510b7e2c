-- A row of the tables by its index, and the first with a name.
use Rattle.std.proofs.Common.{ℕ, zero, suc, ◌≡◌, ◌∙◌, ◌<◌, ◌≤◌, ◌-◌, List, [], ◌∷◌, ◌++◌, refl, sym, ap, subst, length, map, get_or}
use Rattle.std.specs.Prelude.{Option, Some, None, find, option_map}
use Rattle.std.specs.Option.{option_or}
use Rattle.std.specs.Str.{bytes_eq}
use Rattle.std.proofs.lemmas.List.{get_or_append_left, get_or-append_right}
use Rattle.std.proofs.lemmas.List.Folds.{find-append}
use Rattle.finding_codes.specs.declared.code.Code.{Code}
use Rattle.finding_codes.specs.declared.table.Row.{Row}
use Rattle.finding_codes.specs.Code.{code_named}
use Rattle.finding_codes.specs.Table.{FindingRow, finding_rows, first_rows, later_rows, no_row, row_seen}

pub indexed : (rows : List Row) (d : Row) (at : ℕ) → row_seen d ≡ no_row → row_seen (get_or rows at d) ≡ get_or (map row_seen rows) at no_row
indexed [] d at h = h
indexed (r ∷ rs) d zero h = refl
indexed (r ∷ rs) d (suc at) h = indexed rs d at h

first_count : length first_rows ≡ 67
unfolding first_rows
first_count = refl

pub count : length finding_rows ≡ 132
unfolding finding_rows first_rows later_rows
count = refl

in_two : finding_rows ≡ first_rows ++ later_rows
unfolding finding_rows
in_two = refl

pub in_first : (at : ℕ) → at < 67 → get_or finding_rows at no_row ≡ get_or first_rows at no_row
in_first at h = ap (λ rs. get_or rs at no_row) in_two ∙ get_or_append_left first_rows later_rows no_row at (subst (λ n. at < n) (sym first_count) h)

pub in_later : (at : ℕ) → 67 ≤ at → get_or finding_rows at no_row ≡ get_or later_rows (at - 67) no_row
in_later at h = ap (λ rs. get_or rs at no_row) in_two ∙ get_or-append_right first_rows later_rows 67 at no_row first_count h

code_of_either : (a b : Option FindingRow) → option_map (λ (r : FindingRow). r.code) (option_or a b) ≡ option_or (option_map (λ (r : FindingRow). r.code) a) (option_map (λ (r : FindingRow). r.code) b)
code_of_either None b = refl
code_of_either (Some r) b = refl

-- the first of all is that of the first rows, or else that of the others
named_in_two : (name : List ℕ) → code_named finding_rows name ≡ option_or (code_named first_rows name) (code_named later_rows name)
named_in_two name = ap (λ rs. code_named rs name) in_two
    ∙ ap (λ r. option_map (λ (r : FindingRow). r.code) r) (find-append (λ (r : FindingRow). bytes_eq r.name name) first_rows later_rows)
    ∙ code_of_either (find (λ (r : FindingRow). bytes_eq r.name name) first_rows) (find (λ (r : FindingRow). bytes_eq r.name name) later_rows)

some_first : (a b : Option Code) → (a ≡ None → ⊥) → option_or a b ≡ a
some_first None b h = absurd (h refl)
some_first (Some c) b h = refl

pub named_first : (name : List ℕ) → (code_named first_rows name ≡ None → ⊥) → code_named finding_rows name ≡ code_named first_rows name
named_first name h = named_in_two name ∙ some_first (code_named first_rows name) (code_named later_rows name) h

pub named_later : (name : List ℕ) → code_named first_rows name ≡ None → code_named finding_rows name ≡ code_named later_rows name
named_later name h = named_in_two name ∙ ap (λ a. option_or a (code_named later_rows name)) h
