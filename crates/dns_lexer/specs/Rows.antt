-- Computed examples: the lexemes that spell each text, and its entries.
use Rattle.std.specs.Prelude.{[], ◌∷◌, codes, true, false, refl}
use lib.Utf8.{encode}
use Rattle.dns_symbol.specs.declared.symbol.Symbol.TheVariants.{Char, SimpleEscape}
use Rattle.dns_lexer.specs.Lexeme.{Blank, Line, Open, Close, Note, Word, Quote}
use Rattle.dns_lexer.specs.Splitting.{Splits}

empty : Splits [] ([] ∷ [])
empty = record { lexemes = []; spelled = refl; valid = refl; nested = refl; cut = refl }

side_by_side : Splits (codes "a\"b c\"") ((codes "a" ∷ codes "\"b c\"" ∷ []) ∷ [])
unfolding encode
side_by_side = record { lexemes = Word (Char 97) [] ∷ Quote (Char 98 ∷ Char 32 ∷ Char 99 ∷ []) ∷ []; spelled = refl; valid = refl; nested = refl; cut = refl }

comment_line : Splits (codes ";x\ny") ([] ∷ (codes "y" ∷ []) ∷ [])
unfolding encode
comment_line = record { lexemes = Note (120 ∷ []) ∷ Line false ∷ Word (Char 121) [] ∷ []; spelled = refl; valid = refl; nested = refl; cut = refl }

comment_last : Splits (codes "a;b c") ((codes "a" ∷ []) ∷ [])
unfolding encode
comment_last = record { lexemes = Word (Char 97) [] ∷ Note (codes "b c") ∷ []; spelled = refl; valid = refl; nested = refl; cut = refl }

joined_lines : Splits (codes "(a\n\tb)") ((codes "a" ∷ codes "b" ∷ []) ∷ [])
unfolding encode
joined_lines = record { lexemes = Open ∷ Word (Char 97) [] ∷ Line false ∷ Blank true ∷ Word (Char 98) [] ∷ Close ∷ []; spelled = refl; valid = refl; nested = refl; cut = refl }

escaped_parentheses : Splits (codes "\\(a\\)") ((codes "\\(a\\)" ∷ []) ∷ [])
unfolding encode
escaped_parentheses = record { lexemes = Word (SimpleEscape 40) (Char 97 ∷ SimpleEscape 41 ∷ []) ∷ []; spelled = refl; valid = refl; nested = refl; cut = refl }

carriage_return : Splits (codes "a\r\nb") ((codes "a" ∷ []) ∷ (codes "b" ∷ []) ∷ [])
unfolding encode
carriage_return = record { lexemes = Word (Char 97) [] ∷ Line true ∷ Word (Char 98) [] ∷ []; spelled = refl; valid = refl; nested = refl; cut = refl }
