-- The texts of statuses.
use Rattle.std.specs.Prelude.{ℕ, ◌==◌, if◌then◌else◌, List, codes, None}
use Rattle.dns_lexer.specs.declared.pieces.Wrong.TheVariants.{Closing, OpenParenthesis, OpenQuote, LoneReturn, BadEscape}
use Rattle.error_texts.specs.Errors.{kind_text, syntax_error_text}
use Rattle.rdata_values.specs.declared.error.ErrorKind.TheVariants.{ExpectedTtl, UnknownType, UnknownClass, NotSupported, NoOrigin, NoOwner, RefusedOwner, NoTtl}

-- the text of a status, by its number; of errors that have a kind or are of the syntax, the text of these
abbrev pub status_text : ℕ → List ℕ
status_text n =
    if n == 0 then codes "well" else (if n == 1 then codes "nothing is left" else (if n == 2 then codes "no room" else (
    if n == 3 then syntax_error_text BadEscape else (if n == 4 then codes "unexpected end of data" else (
    if n == 5 then codes "illegal UTF-8 sequence" else (if n == 6 then codes "octet outside printable ASCII" else (
    if n == 7 then codes "too many octets" else (if n == 8 then codes "not of the encoding" else (
    if n == 9 then syntax_error_text Closing else (if n == 10 then syntax_error_text OpenParenthesis else (
    if n == 11 then syntax_error_text (OpenQuote 0) else (if n == 12 then syntax_error_text LoneReturn else (
    if n == 13 then codes "cursor past the end" else (if n == 14 then codes "label without octets" else (
    if n == 15 then codes "more than 63 octets in a label" else (if n == 16 then codes "binary label" else (
    if n == 17 then codes "unknown type of label" else (if n == 18 then codes "pointer in place of a label" else (
    if n == 19 then codes "octets after the root" else (if n == 20 then codes "no decimal digit" else (
    if n == 21 then codes "number too great" else (if n == 22 then codes "place past the end" else (
    if n == 23 then kind_text None ExpectedTtl else (if n == 24 then kind_text None UnknownType else (
    if n == 25 then kind_text None UnknownClass else (if n == 26 then codes "a file to include" else (
    if n == 27 then codes "directive, or words in front of data, refused" else (if n == 28 then kind_text None NotSupported else (
    if n == 29 then codes "name refused" else (if n == 30 then kind_text None NoOrigin else (
    if n == 31 then kind_text None NoOwner else (if n == 32 then kind_text None RefusedOwner else (
    if n == 33 then codes "data refused" else (if n == 34 then kind_text None NoTtl else (
    if n == 35 then codes "name without the root at its end" else (if n == 36 then codes "a $GENERATE directive" else (
    if n == 37 then codes "$GENERATE refused" else codes "unknown status")))))))))))))))))))))))))))))))))))))
