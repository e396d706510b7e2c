-- A document of lines has a line end if one of them has.
use Rattle.std.proofs.Common.{◌≡◌, ℕ, true, List, [], ◌∷◌, ◌++◌, refl}
use Rattle.dns_zone.specs.Layout.{Step, token, begin, end, comment, newline}
use Rattle.dns_zone.specs.Nesting.{Fits, has_line}
use Rattle.zone_record.specs.Records.{record_document}
use Rattle.zone_record.specs.declared.record.Record.{Record}
use Rattle.zone_stream.specs.Heads.{line_of}

line_first : (xs ys : List Step) → has_line xs ≡ true → has_line (xs ++ ys) ≡ true
line_first [] ys h = cc
line_first (token bs ∷ xs) ys h = line_first xs ys h
line_first (comment bs ∷ xs) ys h = line_first xs ys h
line_first (begin ∷ xs) ys h = line_first xs ys h
line_first (end ∷ xs) ys h = line_first xs ys h
line_first (newline ∷ xs) ys h = refl

line_last : (xs ys : List Step) → has_line ys ≡ true → has_line (xs ++ ys) ≡ true
line_last [] ys h = h
line_last (token bs ∷ xs) ys h = line_last xs ys h
line_last (comment bs ∷ xs) ys h = line_last xs ys h
line_last (begin ∷ xs) ys h = line_last xs ys h
line_last (end ∷ xs) ys h = line_last xs ys h
line_last (newline ∷ xs) ys h = refl

-- a document that fits has two halves that do
pub fits_first : (xs ys : List Step) (blocks : ℕ) → Fits (xs ++ ys) blocks → Fits xs blocks
fits_first xs ys blocks fits = λ h. fits (line_first xs ys h)

pub fits_last : (xs ys : List Step) (blocks : ℕ) → Fits (xs ++ ys) blocks → Fits ys blocks
fits_last xs ys blocks fits = λ h. fits (line_last xs ys h)

-- the line of a record has a line end
pub record_has_line : {N O : Type 0} (r : Record N O) → has_line (line_of r) ≡ true
record_has_line r = line_last (record_document r) (newline ∷ []) refl
