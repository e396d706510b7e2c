-- Suggested types, one row after another.
use Rattle.std.proofs.Common.{ℕ, ◌≡◌, ◌+◌, ◌<◌, Bool, true, false, cond, List, [], ◌∷◌, ◌++◌, length, map, take, get_or, refl, sym, ap, ◌∙◌, ◌≤◌, ◌&&◌, leb}
use Rattle.std.specs.List.{filter}
use Rattle.std.proofs.lemmas.Bool.{le-leb}
use Rattle.std.proofs.lemmas.List.{map-append, take_more}
use Rattle.std.proofs.lemmas.List.Elements.{filter-append}
use Rattle.rdata_values.specs.Registry.{Row, code_row, code_rows}
use Rattle.rdata_values.specs.declared.registry.Named.{Named}
use Rattle.finding_texts.specs.Similar.{is_suggested, suggested_types}

abbrev pub row_of : Named → Row
row_of n = code_row n.0 n.1.now

code_if : (b : Bool) (r : Row) → map (λ (r : Row). r.code) (cond b (r ∷ []) []) ≡ cond b (r.code ∷ []) []
code_if true r = refl
code_if false r = refl

suggested-append : (xs ys : List Row) (word : List ℕ) → suggested_types (xs ++ ys) word ≡ suggested_types xs word ++ suggested_types ys word
suggested-append xs ys word = ap (map (λ (r : Row). r.code)) (filter-append (is_suggested word) xs ys) ∙ map-append (λ (r : Row). r.code) (filter (is_suggested word) xs) (filter (is_suggested word) ys)

pub suggested_more : (word : List ℕ) (rows : List Named) (i : ℕ) (d : Named) → i < length rows
    → suggested_types (code_rows (take (i + 1) rows)) word ≡ suggested_types (code_rows (take i rows)) word ++ cond (is_suggested word (row_of (get_or rows i d))) ((get_or rows i d).0 ∷ []) []
suggested_more word rows i d lt =
    ap (λ l. suggested_types (code_rows l) word) (take_more rows i d lt)
    ∙ ap (λ l. suggested_types l word) (map-append row_of (take i rows) (get_or rows i d ∷ []))
    ∙ suggested-append (code_rows (take i rows)) (row_of (get_or rows i d) ∷ []) word
    ∙ ap (λ l. suggested_types (code_rows (take i rows)) word ++ l) (code_if (is_suggested word (row_of (get_or rows i d))) (row_of (get_or rows i d)))

pub more_if : (word : List ℕ) (rows : List Named) (i : ℕ) (d : Named) → i < length rows → (old new : List ℕ) → old ≡ suggested_types (code_rows (take i rows)) word
    → (b : Bool) → b ≡ is_suggested word (row_of (get_or rows i d)) → new ≡ old ++ cond b ((get_or rows i d).0 ∷ []) [] → new ≡ suggested_types (code_rows (take (i + 1) rows)) word
more_if word rows i d lt old new was b is pushed =
    pushed ∙ ap (λ l. l ++ cond b ((get_or rows i d).0 ∷ []) []) was
    ∙ ap (λ c. suggested_types (code_rows (take i rows)) word ++ cond c ((get_or rows i d).0 ∷ []) []) is ∙ sym (suggested_more word rows i d lt)

pub is_between : (low n high : ℕ) → low ≤ n → n ≤ high → (leb low n && leb n high) ≡ true
is_between low n high le ge = ap (λ b. b && leb n high) (le-leb low n le) ∙ le-leb n high ge
