-- The text of a record's RDATA is one entry.
use Rattle.std.proofs.Common.{ℕ, ◌≡◌, List, [], ◌∷◌, ap, sym, subst, ◌∙◌, Vec, String}
use Rattle.dns_lexer.specs.Answer.{texts, entries_of}
use Rattle.dns_lexer.specs.Splitting.{Entries, Splits, SplitsOnlyInto}
use Rattle.dns_zone.specs.Documents.{IsWellFormed}
use Rattle.dns_zone.specs.Layout.{Step}
use Rattle.dns_laws.specs.Entries.{document_entries}
use Rattle.custom_record.specs.Parts.{Part, IsLaidOut, steps_of, values_of}
use Rattle.custom_record.specs.Values.{AreValues}
use Rattle.custom_record.proofs.Parts.{parts_entry, parts_formed, tokens_of}

-- the entries that such a text splits into
pub record_entry : (ps : List Part) (document : List Step) (text : List ℕ) (found : Entries) → document ≡ steps_of ps → AreValues (values_of ps) → IsLaidOut ps
    → (IsWellFormed document → SplitsOnlyInto text (document_entries document)) → Splits text found → found ≡ tokens_of ps ∷ []
record_entry ps document text found is valid laid only splits =
    let formed = subst IsWellFormed (sym is) (parts_formed ps valid laid) in
    (only formed found).0 splits ∙ ap document_entries is ∙ parts_entry ps

pub first_of : {A : Type 0} (es : List (Vec (String A) A)) (x : Vec (String A) A) (rest : List (Vec (String A) A)) (ts : List (List ℕ)) → es ≡ x ∷ rest → entries_of es ≡ ts ∷ [] → texts x.items ≡ ts
first_of es x rest ts is e = let f : entries_of (x ∷ rest) ≡ ts ∷ [] = ap entries_of (sym is) ∙ e in cc
