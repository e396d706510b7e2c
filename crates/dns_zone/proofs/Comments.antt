-- The test for comments.
use Rattle.std.proofs.Common.{◌≡◌, ℕ, ◌==◌, ◌||◌, not, Bool, true, List, [], ◌∷◌, refl, subst}
use Rattle.std.specs.List.{list_all}
use Rattle.std.specs.Str.{chars, IsUtf8}
use Rattle.std.proofs.lemmas.Str.{encodes-chars, scalars-chars, chars_from_encodes}
use lib.Utf8.{scalars}
use Rattle.dns_symbol.specs.Characters.{carriage_return, line_feed}
use Rattle.dns_lexer.specs.Lexeme.{is_note_char}
use Rattle.dns_zone.specs.Documents.{IsCommentText}
use Rattle.dns_zone.specs.Forming.{both_true, both_parts}

-- neither LF nor CR
abbrev pub is_in_line : ℕ → Bool
is_in_line c = not (c == line_feed || c == carriage_return)

plain_chars : (cs : List ℕ) → scalars cs ≡ true → list_all is_in_line cs ≡ true → list_all is_note_char cs ≡ true
plain_chars [] p q = refl
plain_chars (c ∷ cs) p q =
    let s = both_parts _ _ p in
    let l = both_parts _ _ q in
    both_true _ _ (both_true _ _ s.0 (l.0)) (plain_chars cs s.1 l.1)

in_line_chars : (cs : List ℕ) → list_all is_note_char cs ≡ true → list_all is_in_line cs ≡ true
in_line_chars [] p = refl
in_line_chars (c ∷ cs) p =
    let s = both_parts _ _ p in
    both_true _ _ ((both_parts _ _ s.0).1) (in_line_chars cs s.1)

pub comment_has : (bs : List ℕ) → IsUtf8 bs → (list_all is_in_line (chars bs) ≡ true → IsCommentText bs) × (IsCommentText bs → list_all is_in_line (chars bs) ≡ true)
comment_has bs u = (
  λ p. record { characters = chars bs; plain = plain_chars (chars bs) (scalars-chars bs u) p; spelled = encodes-chars bs u },
  λ k. subst (λ (cs : List ℕ). list_all is_in_line cs ≡ true) (chars_from_encodes k.characters bs u k.spelled) (in_line_chars k.characters k.plain),
)
