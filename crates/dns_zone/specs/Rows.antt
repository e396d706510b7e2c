-- Computed examples of the three layouts, and of lists that are documents or aren't.
use Rattle.std.specs.Prelude.{◌≡◌, ◌<◌, ℕ, ◌-◌, Bool, true, false, List, [], ◌∷◌, ◌++◌, replicate, codes, refl}
use lib.Utf8.{encode}
use Rattle.std.proofs.Common.{inl, inr, arith, length-append}
use Rattle.dns_symbol.specs.Characters.{open_parenthesis, space}
use Rattle.dns_symbol.specs.declared.symbol.Symbol.TheVariants.{Char, SimpleEscape}
use Rattle.dns_lexer.specs.Token.{IsToken}
use Rattle.dns_zone.specs.Documents.{IsFirstFault, IsWellFormed}
use Rattle.dns_zone.specs.declared.error.DocumentError.TheVariants.{EndWithoutBegin, LineInBlock, OpenBlock}
use Rattle.dns_zone.specs.Layout.{Step, token, begin, end, comment, newline, layout, simple_piece, tabbed_piece, multiline_piece, depth, row, is_row_start, line_width}
use Rattle.dns_zone.specs.Multiline.{MultilinePasses}
use Rattle.dns_zone.specs.Sinks.{greatest_usize}
use Rattle.dns_zone.specs.Writers.{BlocksPass}

abbrev pub ds_steps : List Step
ds_steps =
    token (codes "example.com.") ∷ token (codes "3600") ∷ token (codes "IN") ∷ token (codes "DS") ∷ begin ∷ token (codes "5414")
    ∷ comment (codes "key tag") ∷ token (codes "15") ∷ comment (codes "algorithm: ED25519") ∷ token (codes "2")
    ∷ comment (codes "digest type: SHA-256") ∷ token (codes "DEADBEEF") ∷ end ∷ []

ds_multiline : layout multiline_piece ds_steps ≡
    codes "example.com. 3600 IN DS ( 5414\t; key tag\n" ++ (replicate 26 32 ++ (codes "15\t; algorithm: ED25519\n" ++ (replicate 26 32
    ++ (codes "2\t; digest type: SHA-256\n" ++ (replicate 26 32 ++ codes "DEADBEEF )")))))
ds_multiline = refl

ds_tabbed : layout tabbed_piece ds_steps ≡ codes "example.com.\t3600\tIN\tDS\t5414 15 2 DEADBEEF"
ds_tabbed = refl

ds_simple : layout simple_piece ds_steps ≡ codes "example.com. 3600 IN DS 5414 15 2 DEADBEEF"
ds_simple = refl

abbrev pub ds_data : List Step
ds_data =
    begin ∷ token (codes "5414") ∷ comment (codes "key tag") ∷ token (codes "15") ∷ comment (codes "algorithm: ED25519") ∷ token (codes "2")
    ∷ comment (codes "digest type: SHA-256") ∷ token (codes "DEADBEEF") ∷ end ∷ []

ds_data_tabbed : layout tabbed_piece ds_data ≡ codes "5414 15 2 DEADBEEF"
ds_data_tabbed = refl

abbrev pub ds_bare : List Step
ds_bare = begin ∷ token (codes "5414") ∷ token (codes "15") ∷ token (codes "2") ∷ token (codes "DEADBEEF") ∷ end ∷ []

ds_bare_multiline : layout multiline_piece ds_bare ≡ codes "( 5414 15 2 DEADBEEF )"
ds_bare_multiline = refl

two_lines : (layout simple_piece (newline ∷ newline ∷ []) ≡ codes "\n\n") × (layout tabbed_piece (newline ∷ newline ∷ []) ≡ codes "\n\n")
    × (layout multiline_piece (newline ∷ newline ∷ []) ≡ codes "\n\n")
two_lines = (refl, refl, refl)

no_steps : (layout simple_piece [] ≡ []) × (layout tabbed_piece [] ≡ []) × (layout multiline_piece [] ≡ [])
no_steps = (refl, refl, refl)

abbrev pub nested : List Step
nested =
    token (codes "a") ∷ begin ∷ token (codes "b") ∷ begin ∷ token (codes "c") ∷ comment (codes "x") ∷ end ∷ comment (codes "y")
    ∷ token (codes "d") ∷ end ∷ newline ∷ token (codes "e") ∷ []

nested_multiline : layout multiline_piece nested ≡ codes "a ( b ( c\t; x\n" ++ (replicate 8 32 ++ codes ") d )\ne")
nested_multiline = refl

nested_tabbed : layout tabbed_piece nested ≡ codes "a\tb c d\ne"
nested_tabbed = refl

nested_simple : layout simple_piece nested ≡ codes "a b c d\ne"
nested_simple = refl

comment_first : layout multiline_piece (begin ∷ comment (codes "k") ∷ token (codes "a") ∷ end ∷ []) ≡ codes "(\t; k\n  a )"
comment_first = refl

two_bytes : layout multiline_piece (token (0xC3 ∷ 0xA9 ∷ []) ∷ begin ∷ comment (codes "c") ∷ token (codes "x") ∷ end ∷ [])
    ≡ 0xC3 ∷ 0xA9 ∷ codes " (\t; c\n     x )"
two_bytes = refl

-- on a row with words, whose bytes are the greatest count: no token fits
line_is_full : (past : List Step) → is_row_start past ≡ false → line_width past ≡ greatest_usize → MultilinePasses greatest_usize past (token (codes "a"))
line_is_full past some wide = rw some (omega (arith, wide, length-append (row past) (space ∷ codes "a")))

-- two bytes less: a token of one octet fits, and a begin doesn't, by the indent of its block
two_are_left : (past : List Step) → is_row_start past ≡ false → line_width past ≡ greatest_usize - 2 → (¬ MultilinePasses greatest_usize past (token (codes "a"))) × MultilinePasses greatest_usize past begin
two_are_left past some wide = (
  rw some (λ h. absurd (omega (arith, wide, h, length-append (row past) (space ∷ codes "a")))),
  inr (rw some (omega (arith, wide, length-append (row past) (space ∷ open_parenthesis ∷ [])))),
)

-- three bytes less: a begin fits, if one more block can be counted
three_are_left : (past : List Step) → is_row_start past ≡ false → line_width past ≡ greatest_usize - 3 → depth past < greatest_usize → ¬ MultilinePasses greatest_usize past begin
three_are_left past some wide few (inl h) = absurd (omega (arith, few, h))
three_are_left past some wide few (inr h) =
    let k = rw some at h in absurd (omega (arith, wide, k, length-append (row past) (space ∷ open_parenthesis ∷ [])))

-- if the open blocks are the greatest count, no writer begins another
blocks_are_full : (past : List Step) → depth past ≡ greatest_usize → BlocksPass greatest_usize past begin × MultilinePasses greatest_usize past begin
blocks_are_full past full = (omega (arith, full), inl (omega (arith, full)))

line_in_block : IsFirstFault [] (begin ∷ newline ∷ end ∷ []) (LineInBlock 1)
line_in_block = inr (λ f p. p, inl (refl, omega arith))

end_without_begin : IsFirstFault [] (end ∷ begin ∷ []) (EndWithoutBegin 0)
end_without_begin = inl (refl, refl)

open_block : IsFirstFault [] (begin ∷ []) OpenBlock
open_block = inr (λ f p. p, (refl, omega arith))

quoted_token : IsWellFormed (token (codes "\"a b\"") ∷ [])
unfolding encode
quoted_token = (refl, (inr (record { symbols = Char 97 ∷ Char 32 ∷ Char 98 ∷ []; valid = refl; spelled = refl }), tt))

empty_quoted_token : IsWellFormed (token (codes "\"\"") ∷ [])
empty_quoted_token = (refl, (inr (record { symbols = []; valid = refl; spelled = refl }), tt))

escaped_semicolon : IsWellFormed (token (codes "a\\;b") ∷ [])
unfolding encode
escaped_semicolon = (refl, (inl (record { symbols = Char 97 ∷ SimpleEscape 59 ∷ Char 98 ∷ []; some = omega arith; valid = refl; spelled = refl }), tt))

-- a flag as a word
abbrev pub flag_text : Bool → List ℕ
flag_text true = codes "yes"
flag_text false = codes "no"

pub flag_token : (set : Bool) → IsToken (flag_text set)
unfolding encode
flag_token true = inl (record { symbols = Char 121 ∷ Char 101 ∷ Char 115 ∷ []; some = omega arith; valid = refl; spelled = refl })
flag_token false = inl (record { symbols = Char 110 ∷ Char 111 ∷ []; some = omega arith; valid = refl; spelled = refl })
