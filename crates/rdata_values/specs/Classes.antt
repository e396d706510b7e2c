-- The classes of records (RFC 1035 section 3.2.4).
use Rattle.std.specs.Prelude.{ℕ, ◌<◌, ◌^◌, List, [], ◌∷◌, codes}
use Rattle.rdata_values.specs.Kind.{IsKind}
use Rattle.rdata_values.specs.Registry.{Row, code_row, SpellsCode, code_text}
use Rattle.rdata_values.specs.declared.classes.Class.{Class}

abbrev pub class_prefix : List ℕ
class_prefix = codes "CLASS"

-- the class of the internet, IN
abbrev pub internet : Class
internet = 1

abbrev pub class_rows : List Row
class_rows =
    code_row 1 (codes "IN") ∷
    code_row 3 (codes "CH") ∷
    code_row 4 (codes "HS") ∷
    []

-- a class's name in any case, or `CLASS` and its code
abbrev pub SpellsClass : List ℕ → Class → Type 0
SpellsClass text c = SpellsCode class_rows class_prefix 65535 text c

abbrev pub class_text : Class → List ℕ
class_text c = code_text class_rows class_prefix c

abbrev pub ClassesAreKind : Type 0
ClassesAreKind = IsKind (λ c. c < 2 ^ 16) SpellsClass class_text
