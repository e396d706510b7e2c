-- The codes of findings in entries.
use Rattle.std.specs.Prelude.{Bool, true, false, Option, Some, None}
use Rattle.rdata_fields.specs.declared.record_error.RecordError.{RecordError}
use Rattle.rdata_values.specs.declared.error.ErrorKind.{ErrorKind}
use Rattle.rdata_values.specs.declared.error.ErrorKind.TheVariants.{Syntax, EndOfEntry, Quoted, ExpectedTtl, UnknownType, NoOrigin as WithoutOrigin, NoOwner as WithoutOwner, RefusedOwner, NoTtl as WithoutTtl}
use Rattle.rdata_values.specs.declared.types.RecordType.{RecordType as TypeOfRecord}
use Rattle.dns_lexer.specs.declared.pieces.Wrong.{Wrong}
use Rattle.dns_lexer.specs.declared.pieces.Wrong.TheVariants.{Closing, OpenParenthesis as OpenWrong, OpenQuote as QuoteWrong, LoneReturn as ReturnWrong, BadEscape as EscapeWrong}
use Rattle.finding_codes.specs.declared.code.Code.{Code}
use Rattle.finding_codes.specs.declared.code.Code.TheVariants.{OpenQuote, OpenParenthesis, ClosingParenthesis, LoneReturn, BadEscape, Directive, Owner, Ttl, RecordType, Data, NoOwner, NoTtl, NoOrigin}

-- each syntax error has a code of its own
abbrev pub code_of_fault : Wrong → Code
code_of_fault Closing = ClosingParenthesis
code_of_fault OpenWrong = OpenParenthesis
code_of_fault (QuoteWrong at) = OpenQuote
code_of_fault ReturnWrong = LoneReturn
code_of_fault EscapeWrong = BadEscape

-- in the fields before a record's data, a word that begins with a digit is a wrong TTL, and any other word a wrong type; an error of a name is one of the owner
abbrev pub code_in_header : ErrorKind → Code
code_in_header ExpectedTtl = Ttl
code_in_header EndOfEntry = RecordType
code_in_header Quoted = RecordType
code_in_header UnknownType = RecordType
code_in_header _ = Owner

-- an error of data has the type of the data
abbrev pub code_of_record : Option TypeOfRecord → ErrorKind → Code
code_of_record (Some rtype) kind = Data
code_of_record None kind = code_in_header kind

-- a rejected directive has one code, whatever part of it is wrong; for a record the rejected part counts
abbrev pub code_of_part : (is_directive : Bool) → RecordError → Code
code_of_part true e = Directive
code_of_part false e = code_of_record e.rtype e.kind

-- a syntax error, a relative name without an origin, and missing parts have codes of their own, wherever they are
abbrev pub code_of_kind : ErrorKind → (other : Code) → Code
code_of_kind (Syntax wrong) other = code_of_fault wrong
code_of_kind WithoutOrigin other = NoOrigin
code_of_kind WithoutOwner other = NoOwner
code_of_kind RefusedOwner other = NoOwner
code_of_kind WithoutTtl other = NoTtl
code_of_kind _ other = other

abbrev pub code_of_entry : (is_directive : Bool) → RecordError → Code
code_of_entry is_directive e = code_of_kind e.kind (code_of_part is_directive e)
