-- Worked examples: quoted tokens, mistakes, names that differ little.
use Rattle.std.specs.Prelude.{◌≡◌, true, false, [], ◌∷◌, codes, Some, None, refl}
use Rattle.std.specs.Str.{chars}
use Rattle.strsim.specs.Edits.{cost_at, osa_from, osa_row}
use Rattle.finding_texts.specs.Ascii.{is_listed_letter, may_be_in_label}
use Rattle.finding_texts.specs.Mistakes.{count_spelled, foreign_mark, high_escape, quotation_mark, spelled_after}
use Rattle.finding_texts.specs.Similar.{edits_between, is_similar}
use Rattle.finding_texts.specs.Word.{word_octet}

shell : foreign_mark (codes "#web") ≡ Some (codes "#")
shell = refl

slashes : foreign_mark (codes "// web") ≡ Some (codes "//")
slashes = refl

one_slash : foreign_mark (codes "/web") ≡ None
one_slash = refl

double_quote_above : quotation_mark (226 ∷ 128 ∷ 156 ∷ 97 ∷ []) ≡ 3
double_quote_above = refl

guillemet : quotation_mark (194 ∷ 171 ∷ 97 ∷ []) ≡ 2
guillemet = refl

umlaut : quotation_mark (195 ∷ 188 ∷ []) ≡ 0
umlaut = refl

bell : word_octet true 7 ≡ codes "\\007"
bell = refl

high_kept : word_octet true 195 ≡ 195 ∷ []
high_kept = refl

high_escaped : word_octet false 195 ≡ codes "\\195"
high_escaped = refl

dns_escape : high_escape (codes "a\\300") ≡ Some 1
unfolding spelled_after
dns_escape = refl

escape_of_an_octet : high_escape (codes "a\\200") ≡ None
unfolding spelled_after
escape_of_an_octet = refl

-- the backslash is escaped, and the digits are not
escaped_backslash : high_escape (codes "\\\\300") ≡ None
unfolding spelled_after
escaped_backslash = refl

five_octets : count_spelled (codes "a\\.b\\032c") ≡ 5
unfolding spelled_after
five_octets = refl

one_edit : edits_between (codes "mail") (codes "mial") ≡ Some 1
unfolding chars osa_from osa_row cost_at
one_edit = refl

-- one edit needs names of two octets
short_name : edits_between (codes "a") (codes "b") ≡ None
unfolding chars osa_from osa_row cost_at
short_name = refl

four_a : is_similar (codes "AAA") (codes "AAAA") ≡ true
unfolding chars osa_from osa_row cost_at
four_a = refl

mixed_up : is_similar (codes "CNMAE") (codes "CNAME") ≡ true
unfolding chars osa_from osa_row cost_at
mixed_up = refl

other_type : is_similar (codes "TXT") (codes "MX") ≡ false
unfolding chars osa_from osa_row cost_at
other_type = refl

middle_dot : is_listed_letter 183 ≡ true
middle_dot = refl

en_dash : is_listed_letter 8211 ≡ false
en_dash = refl

plain_hyphen : may_be_in_label 45 ≡ true
plain_hyphen = refl
