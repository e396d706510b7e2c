-- Computed examples of texts that don't split: the length of the longest viable prefix of each.
use Rattle.std.proofs.Common.{[], ◌∷◌, refl, codes}
use lib.Utf8.{encode}
use Rattle.dns_lexer.specs.declared.reader.Mode.TheVariants.{Outside, Quoted, Return, Escape, OneDigit}
use Rattle.dns_lexer.specs.Viable.{IsBad}
use Rattle.dns_lexer.proofs.Viable.{stops, ends}
use Rattle.dns_lexer.specs.declared.reader.Within.TheVariants.{InWord}

close_alone : IsBad (codes "a)") 1
unfolding encode
close_alone = stops _ (97 ∷ []) [] 41 (Outside, 0) refl refl refl refl

open_alone : IsBad (codes "(a") 2
unfolding encode
open_alone = ends _ (40 ∷ 97 ∷ []) (Outside, 1) refl refl refl refl

open_quote : IsBad (codes "\"a") 2
unfolding encode
open_quote = ends _ (34 ∷ 97 ∷ []) (Quoted, 0) refl refl refl refl

large_digit : IsBad (codes "\\3") 1
unfolding encode
large_digit = stops _ (92 ∷ []) [] 51 (Escape InWord, 0) refl refl refl refl

large_digits : IsBad (codes "\\26") 2
unfolding encode
large_digits = stops _ (92 ∷ 50 ∷ []) [] 54 (OneDigit InWord 2, 0) refl refl refl refl

carriage_alone : IsBad (codes ";x\ry") 3
unfolding encode
carriage_alone = stops _ (59 ∷ 120 ∷ 13 ∷ []) [] 121 (Return, 0) refl refl refl refl

escape_alone : IsBad (0xC3 ∷ 0xA9 ∷ codes "\\") 3
unfolding encode
escape_alone = ends _ (233 ∷ 92 ∷ []) (Escape InWord, 0) refl refl refl refl

line_in_quote : IsBad (codes "\"a\n") 2
unfolding encode
line_in_quote = stops _ (34 ∷ 97 ∷ []) [] 10 (Quoted, 0) refl refl refl refl
