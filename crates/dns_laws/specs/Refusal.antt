-- The errors of printing and splitting a list of items.
use Rattle.std.specs.Prelude.{⊤, ℕ, List}
use Rattle.dns_lexer.specs.Answer.{split_error_text}
use Rattle.dns_lexer.specs.declared.error.SplitError.TheVariants.{BadText, ShortBuf}
use Rattle.dns_zone.specs.Layout.{Step}
use Rattle.dns_zone.specs.Documents.{IsFaultIn, fault_text}
use Rattle.dns_laws.specs.declared.layouts.Refusal.{Refusal}
use Rattle.dns_laws.specs.declared.layouts.Refusal.TheVariants.{Document, Split}

-- the list's first error, or out of memory; splitting a printed text never fails otherwise
abbrev pub IsDocumentRefusal : List Step → Refusal → Type 0
IsDocumentRefusal steps (Document fault) = IsFaultIn steps fault
IsDocumentRefusal steps (Split ShortBuf) = ⊤
IsDocumentRefusal steps (Split (BadText i)) = ⊥

-- the text that it prints: that of the document's error, or of the error of splitting
abbrev pub refusal_text : Refusal → List ℕ
refusal_text (Document fault) = fault_text fault
refusal_text (Split error) = split_error_text error
