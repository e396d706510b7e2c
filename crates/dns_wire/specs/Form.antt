-- How names and their labels are printed.
use Rattle.std.specs.Prelude.{ℕ, Bool, true, false, List, ◌∷◌}
use Rattle.dns_symbol.specs.Characters.{dot}
use Rattle.dns_wire.specs.Printed.{label_text, dotted_by, undotted_by}
use Rattle.dns_wire.specs.ZoneText.{zone_label}
use Rattle.dns_wire.specs.declared.display.Form.{Form}
use Rattle.dns_wire.specs.declared.display.Form.TheVariants.{Label, Zone}

-- the characters of a label
abbrev pub form_text : Form → List ℕ → List ℕ
form_text Label = label_text
form_text Zone = zone_label

-- with a dot before them, but for the first label of a name
abbrev pub next_text : Form → Bool → List ℕ → List ℕ
next_text form true label = form_text form label
next_text form false label = dot ∷ form_text form label

-- the characters of a name, whose root at the end has its dot or not
abbrev pub name_text : Form → Bool → List (List ℕ) → List ℕ
name_text form true = dotted_by (form_text form)
name_text form false = undotted_by (form_text form)
