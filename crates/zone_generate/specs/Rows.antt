-- Worked examples of the definitions, each computed. The texts are those that BIND 9.18 writes.
use Rattle.std.specs.Prelude.{◌≡◌, ℕ, true, false, List, [], ◌∷◌, map, None, Some, Result, Ok, Err, codes, refl}
use Rattle.std.specs.Fmt.{digits}
use Rattle.dns_lexer.specs.EntryTokens.{TokenSeen, token_at}
use Rattle.zone_generate.specs.Directives.{Generating, entry_text, generate_of, words_before_type}
use Rattle.zone_generate.specs.Parts.{side_parts, parts_or_none, side_text}
use Rattle.zone_generate.specs.Tokens.{directive_end, is_directive_word, parenthesis_from}
use Rattle.zone_generate.specs.declared.tokens.TextMode.TheVariants.{Plain}
use Rattle.zone_generate.specs.Ranges.{range_count, number_at, range_of}
use Rattle.zone_generate.specs.declared.error.GenerateError.{GenerateError}
use Rattle.zone_generate.specs.declared.error.GenerateErrorKind.TheVariants.{BadBase, BadOffset, BadRange, BadWidth, LargeNumber, LargeOffset, LargeSum, LargeWidth, LineBreak, MissingToken, OpenBrace, OpenEscape, PlainAfterOffset, QuotedToken, StartAfterStop, TooManyEntries, TrailingToken, ZeroStep}
use Rattle.zone_generate.specs.declared.part.Part.{Part}
use Rattle.zone_generate.specs.declared.range.GenerateRange.{GenerateRange}
use Rattle.zone_generate.specs.declared.side.SideError.{SideError}

-- ranges, of at most 1,000 numbers
ranges : map (range_of 1000) (codes "1-3" ∷ codes "0-9/3" ∷ codes "0005-6" ∷ codes "2147483646-2147483647/2" ∷ codes "7-7" ∷ [])
    ≡ Ok (record { first = 1; last = 3; step = 1 }) ∷ Ok (record { first = 0; last = 9; step = 3 }) ∷ Ok (record { first = 5; last = 6; step = 1 })
    ∷ Ok (record { first = 2147483646; last = 2147483647; step = 2 }) ∷ Ok (record { first = 7; last = 7; step = 1 }) ∷ []
ranges = refl

rejected_ranges : map (range_of 1000) (codes "1" ∷ codes "+1-2" ∷ codes "1-2x" ∷ codes "1-2/" ∷ codes "-" ∷ codes "1-2147483648" ∷ codes "1-2/0" ∷ codes "3-1" ∷ codes "0-1000" ∷ [])
    ≡ Err BadRange ∷ Err BadRange ∷ Err BadRange ∷ Err BadRange ∷ Err BadRange ∷ Err LargeNumber ∷ Err ZeroStep ∷ Err StartAfterStop ∷ Err TooManyEntries ∷ []
rejected_ranges = refl

-- the numbers of `0-9/3`, and of `2147483646-2147483647/2`
abbrev by_threes : GenerateRange
by_threes = record { first = 0; last = 9; step = 3 }

numbers : map (number_at by_threes) (0 ∷ 1 ∷ 2 ∷ 3 ∷ 4 ∷ []) ≡ Some 0 ∷ Some 3 ∷ Some 6 ∷ Some 9 ∷ None ∷ []
numbers = refl

number_count : range_count by_threes ≡ 4
number_count = refl

one_number : range_count (record { first = 2147483646; last = 2147483647; step = 2 }) ≡ 1
one_number = refl

-- what is written for a number of a word, and of a quoted string
abbrev word_for : ℕ → List ℕ → List ℕ
word_for n text = side_text n (parts_or_none (side_parts n false text))

abbrev quoted_for : ℕ → List ℕ → List ℕ
quoted_for n text = side_text n (parts_or_none (side_parts n true text))

words : map (word_for 17) (codes "h$" ∷ codes "$-$" ∷ codes "$$x$" ∷ codes "\\$x$" ∷ codes "a\\${1}b" ∷ codes "$${1}" ∷ codes "$$$" ∷ codes "\\\\$" ∷ codes "x\\\"y" ∷ [])
    ≡ codes "h17" ∷ codes "17-17" ∷ codes "\\$x17" ∷ codes "\\$x17" ∷ codes "a\\${1}b" ∷ codes "\\${1}" ∷ codes "\\$17" ∷ codes "\\\\17" ∷ codes "x\\\"y" ∷ []
unfolding digits
words = refl

quoted : map (quoted_for 1) (codes "10 m$" ∷ codes "\\\"x y$\\\"" ∷ codes "\\065 ; $" ∷ []) ≡ codes "10 m1" ∷ codes "\"x y1\"" ∷ codes "\\065 ; 1" ∷ []
unfolding digits
quoted = refl

-- offsets, widths and bases
of_one : map (word_for 1) (codes "${-3,4}" ∷ codes "${-3,4,x}" ∷ codes "${-1,3,o}" ∷ codes "${-1,3,X}" ∷ codes "${254,1,X}" ∷ codes "${9,1,o}" ∷ codes "${+1}" ∷ codes "${0001}" ∷ codes "${-0}" ∷ [])
    ≡ codes "-002" ∷ codes "fffffffe" ∷ codes "000" ∷ codes "000" ∷ codes "FF" ∷ codes "12" ∷ codes "2" ∷ codes "2" ∷ codes "1" ∷ []
unfolding digits
of_one = refl

of_zero : map (word_for 0) (codes "${-1,3,x}" ∷ codes "${-1,0,n}" ∷ codes "${4660,7,n}" ∷ codes "${48879,7,N}" ∷ codes "${1,8,n}" ∷ codes "${0,0,n}" ∷ codes "${0,1,n}" ∷ codes "${0,2,n}" ∷ codes "${0,3,d}" ∷ [])
    ≡ codes "ffffffff" ∷ codes "f.f.f.f.f.f.f.f" ∷ codes "4.3.2.1" ∷ codes "F.E.E.B" ∷ codes "1.0.0.0." ∷ codes "0" ∷ codes "0" ∷ codes "0." ∷ codes "000" ∷ []
unfolding digits
of_zero = refl

-- errors, at the dollar sign or the backslash
abbrev error_of : List ℕ → Result (List Part) SideError
error_of text = side_parts 5 false text

rejected : map error_of (codes "${}" ∷ codes "${ 1}" ∷ codes "a${,2}" ∷ codes "${0x10}" ∷ codes "${1,}" ∷ codes "${1,+2}" ∷ codes "${1,128}" ∷ codes "${1,2,}" ∷ codes "${1,2,D}" ∷ codes "${1,2,d,}" ∷ [])
    ≡ map (λ e. Err e) (record { offset = 0; kind = BadOffset } ∷ record { offset = 0; kind = BadOffset } ∷ record { offset = 1; kind = BadOffset } ∷ record { offset = 0; kind = BadOffset }
    ∷ record { offset = 0; kind = BadWidth } ∷ record { offset = 0; kind = BadWidth } ∷ record { offset = 0; kind = LargeWidth } ∷ record { offset = 0; kind = BadBase } ∷ record { offset = 0; kind = BadBase }
    ∷ record { offset = 0; kind = BadBase } ∷ [])
rejected = refl

rejected_too : map error_of (codes "ab${1" ∷ codes "${2147483648}" ∷ codes "${-2147483649}" ∷ codes "${2147483643}" ∷ codes "x\\" ∷ codes "a\n" ∷ codes "\\\n" ∷ [])
    ≡ map (λ e. Err e) (record { offset = 2; kind = OpenBrace } ∷ record { offset = 0; kind = LargeOffset } ∷ record { offset = 0; kind = LargeOffset } ∷ record { offset = 0; kind = LargeSum }
    ∷ record { offset = 1; kind = OpenEscape } ∷ record { offset = 1; kind = LineBreak } ∷ record { offset = 0; kind = LineBreak } ∷ [])
rejected_too = refl

-- the entries of a directive for number 2
abbrev entry_for_two : Result Generating GenerateError → List ℕ
entry_for_two (Ok g) = entry_text 2 g
entry_for_two (Err e) = []

abbrev word : ℕ → List ℕ → TokenSeen
word at text = token_at text false at None

abbrev quote : ℕ → List ℕ → TokenSeen
quote at text = token_at text true at None

entries : map (λ ts. entry_for_two (generate_of 1000 99 ts))
    ((word 10 (codes "1-3") ∷ word 14 (codes "h$") ∷ word 17 (codes "A") ∷ word 19 (codes "192.0.2.$") ∷ [])
    ∷ (word 10 (codes "1-3") ∷ word 14 (codes "h$") ∷ word 17 (codes "1h") ∷ word 20 (codes "in") ∷ word 23 (codes "MX") ∷ quote 26 (codes "10 m$") ∷ []) ∷ [])
    ≡ codes "h2 A 192.0.2.2\n" ∷ codes "h2 1h in MX 10 m2\n" ∷ []
unfolding digits
entries = refl

-- RDATA of several tokens, a quoted owner, no RDATA, and a bad part of the RDATA
rejected_directives : map (generate_of 1000 99)
    ((word 10 (codes "1-3") ∷ word 14 (codes "h$") ∷ word 17 (codes "MX") ∷ word 20 (codes "10") ∷ word 23 (codes "m$") ∷ [])
    ∷ (word 10 (codes "1-3") ∷ quote 14 (codes "h$") ∷ word 19 (codes "A") ∷ word 21 (codes "192.0.2.$") ∷ [])
    ∷ (word 10 (codes "1-3") ∷ word 14 (codes "h$") ∷ word 17 (codes "A") ∷ [])
    ∷ (word 10 (codes "3-1") ∷ word 14 (codes "h$") ∷ [])
    ∷ (word 10 (codes "1-3") ∷ word 14 (codes "h$") ∷ word 17 (codes "A") ∷ word 19 (codes "192.0.2.${") ∷ []) ∷ [])
    ≡ map (λ e. Err e) (record { at = 23; offset = 0; kind = TrailingToken } ∷ record { at = 14; offset = 0; kind = QuotedToken } ∷ record { at = 99; offset = 0; kind = MissingToken }
    ∷ record { at = 10; offset = 0; kind = StartAfterStop } ∷ record { at = 19; offset = 8; kind = OpenBrace } ∷ [])
rejected_directives = refl

-- the offset of a format is in effect for dollar signs without braces after it
after_offsets : map error_of (codes "a${1}$" ∷ codes "${-1}${0}$$${2}-$" ∷ []) ≡ map (λ e. Err e) (record { offset = 5; kind = PlainAfterOffset } ∷ record { offset = 16; kind = PlainAfterOffset } ∷ [])
after_offsets = refl

without_offsets : word_for 17 (codes "${0}$-${1}${0}$") ≡ codes "1717-181717"
unfolding digits
without_offsets = refl

-- parentheses between tokens
parentheses : map (parenthesis_from Plain 0) (codes "$GENERATE (1" ∷ codes "a \"(\\\"(\" ; (" ∷ codes "a\\( b" ∷ codes "a ;(\n)" ∷ []) ≡ Some 10 ∷ None ∷ None ∷ Some 5 ∷ []
parentheses = refl

-- the word of a directive, and where its last token ends
first_words : map is_directive_word ((word 0 (codes "$Generate") ∷ []) ∷ (word 1 (codes "$GENERATE") ∷ []) ∷ (quote 0 (codes "$GENERATE") ∷ []) ∷ [] ∷ []) ≡ true ∷ false ∷ false ∷ false ∷ []
first_words = refl

last_end : directive_end 0 (word 0 (codes "$GENERATE") ∷ quote 10 (codes "1-2") ∷ []) ≡ 15
last_end = refl

-- at most two words come before the type
third_word : words_before_type (word 0 (codes "1") ∷ word 2 (codes "IN") ∷ word 5 (codes "2") ∷ word 7 (codes "A") ∷ []) ≡ 2
third_word = refl
