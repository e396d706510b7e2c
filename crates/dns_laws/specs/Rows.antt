-- Entries of example documents.
use Rattle.std.specs.Prelude.{◌≡◌, [], ◌∷◌, codes, refl}
use Rattle.dns_zone.specs.Layout.{token, begin, end, comment, newline}
use Rattle.dns_zone.specs.Rows.{ds_steps, ds_data, nested}
use Rattle.dns_laws.specs.Entries.{document_entries, document_of}

ds_entries : document_entries ds_steps
    ≡ (codes "example.com." ∷ codes "3600" ∷ codes "IN" ∷ codes "DS" ∷ codes "5414" ∷ codes "15" ∷ codes "2" ∷ codes "DEADBEEF" ∷ []) ∷ []
ds_entries = refl

ds_data_entries : document_entries ds_data ≡ (codes "5414" ∷ codes "15" ∷ codes "2" ∷ codes "DEADBEEF" ∷ []) ∷ []
ds_data_entries = refl

no_steps : document_entries [] ≡ [] ∷ []
no_steps = refl

two_line_ends : document_entries (newline ∷ newline ∷ []) ≡ [] ∷ [] ∷ [] ∷ []
two_line_ends = refl

nested_entries : document_entries nested ≡ (codes "a" ∷ codes "b" ∷ codes "c" ∷ codes "d" ∷ []) ∷ (codes "e" ∷ []) ∷ []
nested_entries = refl

comment_first : document_entries (begin ∷ comment (codes "k") ∷ token (codes "a") ∷ end ∷ []) ≡ (codes "a" ∷ []) ∷ []
comment_first = refl

nested_again : document_of (document_entries nested)
    ≡ token (codes "a") ∷ token (codes "b") ∷ token (codes "c") ∷ token (codes "d") ∷ newline ∷ token (codes "e") ∷ []
nested_again = refl
