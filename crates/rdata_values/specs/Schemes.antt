-- The schemes of generalized notifications, as IANA's registry has them.
use Rattle.std.specs.Prelude.{ℕ, ◌<◌, ◌^◌, List, [], ◌∷◌, codes}
use Rattle.rdata_values.specs.Kind.{IsKind}
use Rattle.rdata_values.specs.Registry.{Row, code_row, SpellsCode, code_text}
use Rattle.rdata_values.specs.declared.schemes.SyncScheme.{SyncScheme}

abbrev pub scheme_rows : List Row
scheme_rows = code_row 1 (codes "NOTIFY") ∷ []

-- a scheme's name in any case, or its number
abbrev pub SpellsScheme : List ℕ → SyncScheme → Type 0
SpellsScheme text s = SpellsCode scheme_rows [] 255 text s.0

abbrev pub scheme_text : SyncScheme → List ℕ
scheme_text s = code_text scheme_rows [] s.0

abbrev pub SchemesAreKind : Type 0
SchemesAreKind = IsKind (λ s. s.0 < 2 ^ 8) SpellsScheme scheme_text
