-- Entry lines: the lists of fields that are lines, and their documents.
use Rattle.std.specs.Prelude.{◌≡◌, ℕ, true, List, [], ◌∷◌, ◌++◌, length, map, refl}
use Rattle.std.specs.List.{AllByRecursion}
use Rattle.dns_zone.specs.Layout.{Step, token, begin, end}
use Rattle.dns_zone.specs.Nesting.{is_nested, IsNested}
use Rattle.dns_zone.specs.EntryFields.{Content, IsContent, IsPrintable, field_text}

-- every field can be a token
abbrev pub IsLine : List Content → Type 0
IsLine fields = AllByRecursion IsPrintable fields

-- what holds of any list of fields
abbrev pub AreContents : List Content → Type 0
AreContents fields = AllByRecursion IsContent fields

-- the index of the first field that can't be a token
pub record IsFirstEmpty (fields : List Content) (place : ℕ) : Type 0 where
  pub front : List Content
  pub next : Content
  pub rest : List Content
  pub whole : fields ≡ front ++ next ∷ rest
  pub counted : length front ≡ place
  pub printable : IsLine front
  pub empty : ¬ IsPrintable next

-- the token of a field
abbrev pub field_step : Content → Step
field_step field = token (field_text field)

-- a block with a token for each field
abbrev pub line_document : List Content → List Step
line_document fields = begin ∷ (map field_step fields ++ end ∷ [])

tokens_nest : (fields : List Content) → is_nested 1 (map field_step fields ++ end ∷ []) ≡ true
tokens_nest [] = refl
tokens_nest (field ∷ fields) = tokens_nest fields

-- its block closes, and holds no line end
pub line_nests : (fields : List Content) → IsNested (line_document fields)
line_nests fields = tokens_nest fields
