-- Worked examples.
use Rattle.std.specs.Prelude.{◌≡◌, true, false, [], ◌∷◌, ◌++◌, codes, Some, refl, replicate}
use Rattle.std.specs.Fmt.{digits}
use Rattle.std.specs.List.{flat_map}
use Rattle.finding_codes.specs.declared.code.Severity.TheVariants.{Error, Warning}
use Rattle.zone_format.specs.Columns.{width_of}
use Rattle.finding_formats.specs.Escape.{escaped_octet, has_noncharacter}
use Rattle.finding_formats.specs.Excerpt.{caret_line, first_shown, mark_width, near_column, near_part}
use Rattle.finding_formats.specs.Laws.{after_string}
use Rattle.finding_formats.specs.Lines.{opened_text, place_text, severity_text}
use Rattle.finding_formats.specs.Octets.{json_octet}
use Rattle.finding_formats.specs.Shown.{has_c1, shown_text}
use Rattle.finding_formats.specs.declared.escape.Context.TheVariants.{Json, Xml, Github, GithubProperty, Uri}

quotes : flat_map (escaped_octet Json true) (codes "a\"b\\c\n") ≡ codes "a\\\"b\\\\c\\u000a"
quotes = refl

umlaut : flat_map (escaped_octet Json true) (195 ∷ 188 ∷ 127 ∷ []) ≡ 195 ∷ 188 ∷ codes "\\u007f"
umlaut = refl

latin1 : flat_map (escaped_octet Json false) (109 ∷ 252 ∷ []) ≡ codes "m\\\\252"
latin1 = refl

markup : flat_map (escaped_octet Xml true) (codes "a<b> & \"c\"\t") ≡ codes "a&lt;b&gt; &amp; &quot;c&quot;&#9;"
markup = refl

escape_octet : flat_map (escaped_octet Xml true) (27 ∷ codes "[1m") ≡ codes "\\027[1m"
escape_octet = refl

two_lines : flat_map (escaped_octet Github true) (codes "50%: a,b\r\n") ≡ codes "50%25: a,b%0D%0A"
two_lines = refl

property : flat_map (escaped_octet GithubProperty true) (codes "a:b,c%") ≡ codes "a%3Ab%2Cc%25"
property = refl

path : flat_map (escaped_octet Uri true) (codes "zones/a b:" ++ 195 ∷ 188 ∷ codes ".db") ≡ codes "zones/a%20b%3A%C3%BC.db"
path = refl

noncharacter : has_noncharacter (97 ∷ 239 ∷ 191 ∷ 190 ∷ []) ≡ true
noncharacter = refl

replacement_character : has_noncharacter (239 ∷ 191 ∷ 189 ∷ []) ≡ false
replacement_character = refl

closed : after_string false (codes "a\\\"b\", c") ≡ codes ", c"
closed = refl

place : place_text false (codes "zone.db") (record { line = 7; column = 22 }) ++ severity_text false Error ≡ codes "zone.db:7:22: error: "
unfolding digits
place = refl

coloured_place : place_text true (codes "z") (record { line = 1; column = 1 }) ++ severity_text true Warning ≡ 27 ∷ codes "[1mz:1:1:" ++ 27 ∷ codes "[0m " ++ 27 ∷ codes "[1;35mwarning:" ++ 27 ∷ codes "[0m "
unfolding digits
coloured_place = refl

opened : opened_text (Some (record { line = 2; column = 2 })) ≡ codes ", opened at 2:2"
unfolding digits
opened = refl

octet_escapes : flat_map json_octet (codes "a\"b\\c\n") ≡ codes "a\\\"b\\\\c\\u000a"
octet_escapes = refl

octets_of_umlaut : flat_map json_octet (195 ∷ 188 ∷ 127 ∷ []) ≡ codes "\\u00c3\\u00bc\\u007f"
octets_of_umlaut = refl

controls : shown_text true (9 ∷ 97 ∷ 1 ∷ 195 ∷ 188 ∷ 127 ∷ []) ≡ codes " a?" ++ 195 ∷ 188 ∷ codes "?"
controls = refl

no_utf8 : shown_text false (98 ∷ 195 ∷ 188 ∷ 252 ∷ []) ≡ codes "b??"
no_utf8 = refl

three_characters : width_of (98 ∷ 195 ∷ 188 ∷ 252 ∷ []) ≡ 3
three_characters = refl

sequence_introducer : has_c1 (97 ∷ 194 ∷ 155 ∷ []) ≡ true
sequence_introducer = refl

no_break_space : has_c1 (97 ∷ 194 ∷ 160 ∷ 155 ∷ []) ≡ false
no_break_space = refl

under_the_third : caret_line false 2 4 ≡ codes "  ^~~~\n"
under_the_third = refl

green_caret : caret_line true 0 1 ≡ 27 ∷ codes "[1;32m^" ++ 27 ∷ codes "[0m\n"
green_caret = refl

marked_to_the_end : mark_width 12 7 10 ≡ 3
marked_to_the_end = refl

marked_at_the_end : mark_width 1 10 10 ≡ 1
marked_at_the_end = refl

middle_of_a_long_line : first_shown (replicate 300 97) 151 ≡ 50
middle_of_a_long_line = refl

end_of_a_long_line : first_shown (replicate 300 97) 300 ≡ 100
end_of_a_long_line = refl

whole_line : first_shown (replicate 200 97) 180 ≡ 0
whole_line = refl

part_of_short_line : near_part (codes "abc") 2 ≡ codes "abc"
part_of_short_line = refl

column_in_part : near_column (98 ∷ 195 ∷ 188 ∷ 252 ∷ []) 3 ≡ 3
column_in_part = refl
