-- The entries of a document, and the document of entries.
use Rattle.std.specs.Prelude.{ℕ, List, [], ◌∷◌, ◌++◌, ◌≡◌, Result, IfOk, IsOk}
use Rattle.dns_lexer.specs.Splitting.{Entries, with_token, SplitsOnlyInto}
use Rattle.dns_zone.specs.Layout.{Step, token, begin, end, comment, newline, layout, simple_piece}
use Rattle.dns_zone.specs.Documents.{item_steps}
use Rattle.dns_zone.specs.DocumentSteps.{document_steps}
use Rattle.dns_zone.specs.declared.document.Document.{Document}
use Rattle.dns_zone.specs.declared.document.Item.{Item}

-- the tokens, cut at line ends: one entry more than there are line ends, empty ones too
abbrev pub document_entries : List Step → Entries
document_entries [] = [] ∷ []
document_entries (token t ∷ steps) = with_token t (document_entries steps)
document_entries (newline ∷ steps) = [] ∷ document_entries steps
document_entries (begin ∷ steps) = document_entries steps
document_entries (end ∷ steps) = document_entries steps
document_entries (comment t ∷ steps) = document_entries steps

-- a step for each token
abbrev pub tokens : List (List ℕ) → List Step
tokens [] = []
tokens (t ∷ ts) = token t ∷ tokens ts

-- the tokens of each entry, with a line end between entries
abbrev pub document_of : Entries → List Step
document_of [] = []
document_of (ts ∷ []) = tokens ts
document_of (ts ∷ us ∷ es) = tokens ts ++ newline ∷ document_of (us ∷ es)

-- the simple layout of that document
abbrev pub normal_text : Entries → List ℕ
normal_text e = layout simple_piece (document_of e)

-- a text splits into the entries of the document, and into nothing else
abbrev pub MeansOnly : List ℕ → List Step → Type 0
MeansOnly text steps = SplitsOnlyInto text (document_entries steps)

-- the entries of a list of items
abbrev pub item_entries : {A : Type 0} → List (Item A) → Entries
item_entries items = document_entries (item_steps items)

-- a text is accepted as a document, whose one step is the token of that text
abbrev pub IsAcceptedAlone : {A E : Type 0} → List ℕ → Result (Document A) E → Type 0
IsAcceptedAlone text taken = IsOk taken × IfOk taken (λ document. document_steps document ≡ token text ∷ [])
