-- The messages of errors.
use Rattle.std.specs.Prelude.{ℕ, List, codes}
use Rattle.dns_lexer.specs.declared.pieces.Wrong.{Wrong}
use Rattle.dns_lexer.specs.declared.pieces.Wrong.TheVariants.{BadEscape, Closing, LoneReturn, OpenParenthesis, OpenQuote}
use Rattle.zone_generate.specs.declared.error.GenerateErrorKind.{GenerateErrorKind}
use Rattle.zone_generate.specs.declared.error.GenerateErrorKind.TheVariants.{BadBase, BadOffset, BadRange, BadWidth, LargeNumber, LargeOffset, LargeSum, LargeWidth, LineBreak, MissingToken, NotGenerate, OpenBrace, OpenEscape, Parenthesis, PlainAfterOffset, QuotedToken, StartAfterStop, Syntax, TooManyEntries, TrailingToken, ZeroStep}

abbrev pub directive_syntax_text : Wrong → List ℕ
directive_syntax_text Closing = codes "closing parenthesis, and none is open"
directive_syntax_text OpenParenthesis = codes "parenthesis is not closed"
directive_syntax_text (OpenQuote at) = codes "quoted text is not closed"
directive_syntax_text LoneReturn = codes "CR without LF"
directive_syntax_text BadEscape = codes "illegal escape sequence"

abbrev pub generate_error_text : GenerateErrorKind → List ℕ
generate_error_text MissingToken = codes "range, owner, type or RDATA is missing"
generate_error_text QuotedToken = codes "expected word without quotes"
generate_error_text TrailingToken = codes "RDATA of several tokens: quote them as one"
generate_error_text BadRange = codes "range is not START-STOP or START-STOP/STEP"
generate_error_text LargeNumber = codes "number of the range exceeds 2147483647"
generate_error_text ZeroStep = codes "step of the range is 0"
generate_error_text StartAfterStop = codes "start of the range exceeds its stop"
generate_error_text TooManyEntries = codes "range has too many numbers"
generate_error_text BadOffset = codes "offset in braces is not a number"
generate_error_text LargeOffset = codes "offset in braces is outside of 32 bits"
generate_error_text BadWidth = codes "width in braces is not a number"
generate_error_text LargeWidth = codes "width in braces exceeds 127"
generate_error_text BadBase = codes "base in braces is not d, o, x, X, n or N"
generate_error_text OpenBrace = codes "brace is not closed"
generate_error_text LargeSum = codes "number plus offset exceeds 2147483647"
generate_error_text PlainAfterOffset = codes "$ after an offset, which BIND adds to it: write ${0}"
generate_error_text OpenEscape = codes "backslash at the end"
generate_error_text LineBreak = codes "line break in quotes"
generate_error_text Parenthesis = codes "parenthesis in $GENERATE"
generate_error_text (Syntax wrong) = directive_syntax_text wrong
generate_error_text NotGenerate = codes "expected $GENERATE"
