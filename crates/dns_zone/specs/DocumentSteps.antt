-- The steps of a document.
use Rattle.std.specs.Prelude.{List, true}
use Rattle.std.proofs.Math.Logic.{∥∥₁_elim}
use mathlib.Core.Bool.{Bool-set}
use Rattle.dns_zone.specs.Layout.{Step}
use Rattle.dns_zone.specs.Documents.{item_steps}
use Rattle.dns_zone.specs.Nesting.{IsNested}
use Rattle.dns_zone.specs.declared.document.Document.{Document}

-- the steps of a document's items
abbrev pub document_steps : {A : Type 0} → Document A → List Step
document_steps d = item_steps d.items.items

-- they nest
pub document_nests : {A : Type 0} (d : Document A) → IsNested (document_steps d)
document_nests d = ∥∥₁_elim d.well_formed (Bool-set _ true) (λ h. h.0)
