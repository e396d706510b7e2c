-- Zone files with each entry on a separate line.
use Rattle.std.specs.Prelude.{⊤, ◌≡◌, ℕ, ◌||◌, ◌&&◌, not, if◌then◌else◌, Bool, true, false, List, [], ◌∷◌, ◌++◌, Result, Ok, Err}
use Rattle.dns_symbol.specs.Characters.{tab, line_feed, space}
use Rattle.zonetext_lib.specs.declared.layout.Gap.{Gap}
use Rattle.zonetext_lib.specs.declared.layout.Gap.TheVariants.{Space, Tab}
use Rattle.zonetext_lib.specs.Entries.{ComparedPart, Token, Ends, HasEntries}

abbrev pub gap_octet : Gap → ℕ
gap_octet Space = space
gap_octet Tab = tab

-- a gap, or none
abbrev pub gap_if : Gap → Bool → List ℕ
gap_if gap b = if b then gap_octet gap ∷ [] else []

-- whether the first entry begins with a blank
abbrev pub leads : List ComparedPart → Bool
leads [] = false
leads (Token g t ∷ es) = leads es
leads (Ends b ∷ es) = b

-- a line end, if an entry follows
abbrev pub feed_before : List ComparedPart → List ℕ
feed_before [] = []
feed_before (e ∷ es) = line_feed ∷ []

-- tokens separated by gaps unless they are adjacent, after a gap if the entry begins with a blank; the first entry has tokens already, or not
abbrev pub laid_out : Gap → Bool → List ComparedPart → List ℕ
laid_out gap inside [] = []
laid_out gap inside (Token g t ∷ es) = gap_if gap (not g && (inside || leads es)) ++ (t ++ laid_out gap true es)
laid_out gap inside (Ends b ∷ es) = gap_if gap (not inside && b) ++ (feed_before es ++ laid_out gap false es)

-- the entries of octets were appended
abbrev pub LaysOut : {U E : Type 0} → List ℕ → Gap → List ℕ → List ℕ → Result U E → Type 0
LaysOut octets gap old new (Ok u) = (es : List ComparedPart) × HasEntries octets es × (new ≡ old ++ laid_out gap false es)
LaysOut octets gap old new (Err e) = ⊤

-- the end of a line, if it is due
abbrev pub feed_if : Bool → List ℕ
feed_if b = if b then 10 ∷ [] else []
