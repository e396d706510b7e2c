-- Worked examples: codes, counts and texts.
use Rattle.std.specs.Prelude.{◌≡◌, true, false, [], ◌∷◌, codes, Some, None, refl}
use Rattle.std.specs.Fmt.{digits}
use Rattle.finding_codes.specs.Code.{code_name, code_named, default_severity, finding_text, is_of_text, is_text_fault}
use Rattle.finding_codes.specs.Table.{finding_rows, first_rows, later_rows}
use Rattle.finding_codes.specs.Tally.{shows, summary}
use Rattle.finding_codes.specs.declared.code.Code.TheVariants.{BadEscape, Crlf, Glue, MaxTtl, NoNs, OpenQuote, UnusedAllow}
use Rattle.finding_codes.specs.declared.code.Severity.TheVariants.{Error, Warning}

named : code_name NoNs ≡ codes "no-ns"
unfolding finding_rows first_rows later_rows
named = refl

last_named : code_named finding_rows (codes "unused-allow") ≡ Some UnusedAllow
unfolding finding_rows first_rows later_rows
last_named = refl

not_named : code_named finding_rows (codes "no-nss") ≡ None
unfolding finding_rows first_rows later_rows
not_named = refl

fault : is_text_fault BadEscape ≡ true
unfolding finding_rows first_rows later_rows
fault = refl

no_fault : is_text_fault Crlf ≡ false
unfolding finding_rows first_rows later_rows
no_fault = refl

of_text : is_of_text Crlf ≡ true
unfolding finding_rows first_rows later_rows
of_text = refl

of_a_limit : is_of_text MaxTtl ≡ false
unfolding finding_rows first_rows later_rows
of_a_limit = refl

loaded : default_severity Glue ≡ Warning
unfolding finding_rows first_rows later_rows
loaded = refl

rejected : default_severity NoNs ≡ Error
unfolding finding_rows first_rows later_rows
rejected = refl

own_message : finding_text Crlf ≡ codes "lines end in CR LF: Knot rejects the file"
unfolding finding_rows first_rows later_rows
own_message = refl

name_as_message : finding_text OpenQuote ≡ codes "open-quote"
unfolding finding_rows first_rows later_rows
name_as_message = refl

counts : summary 2 3 1 ≡ codes "3 errors, 1 warning, 2 not shown\n"
unfolding digits
counts = refl

one_of_each : summary 20 1 1 ≡ codes "1 error, 1 warning\n"
unfolding digits
one_of_each = refl

nothing_found : summary 20 0 0 ≡ []
nothing_found = refl

second_of_two : shows 2 (Error ∷ []) ≡ true
second_of_two = refl

third_of_two : shows 2 (Error ∷ Warning ∷ []) ≡ false
third_of_two = refl
