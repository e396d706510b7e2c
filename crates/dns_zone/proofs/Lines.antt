-- Values printed with a line end after each.
use Rattle.std.proofs.Common.{◌≡◌, ℕ, ◌+◌, ◌<◌, true, List, [], ◌∷◌, ◌++◌, length, take, get_or, refl, ap, ◌∙◌, arith, append-nil}
use Rattle.std.proofs.lemmas.List.{take_more}
use Rattle.std.proofs.lemmas.Grind.{flat_map-append}
use Rattle.dns_zone.specs.Layout.{Step, token, begin, end, comment, newline}
use Rattle.dns_zone.specs.Nesting.{has_line, lines_of}

-- one value more
pub lines_more : {T : Type 0} (document : T → List Step) (xs : List T) (i : ℕ) (d : T) → i < length xs
    → lines_of document (take (i + 1) xs) ≡ lines_of document (take i xs) ++ (document (get_or xs i d) ++ newline ∷ [])
lines_more document xs i d h =
    ap (lines_of document) (take_more xs i d h) ∙ flat_map-append (λ x. document x ++ newline ∷ []) (take i xs) (get_or xs i d ∷ [])
    ∙ ap (λ l. lines_of document (take i xs) ++ l) (append-nil (document (get_or xs i d) ++ newline ∷ []))

line_within : (xs ys : List Step) → has_line ((xs ++ newline ∷ []) ++ ys) ≡ true
line_within [] ys = refl
line_within (token bs ∷ xs) ys = line_within xs ys
line_within (comment bs ∷ xs) ys = line_within xs ys
line_within (begin ∷ xs) ys = line_within xs ys
line_within (end ∷ xs) ys = line_within xs ys
line_within (newline ∷ xs) ys = refl

-- any value has its line end
pub lines_have_line : {T : Type 0} (document : T → List Step) (xs : List T) → 0 < length xs → has_line (lines_of document xs) ≡ true
lines_have_line document [] h = absurd (omega arith)
lines_have_line document (x ∷ xs) h = line_within (document x) (lines_of document xs)
