-- The messages of the errors.
use Rattle.std.specs.Prelude.{ℕ, List, codes, ◌==◌, if◌then◌else◌}
use Rattle.dns_lexer.specs.declared.pieces.Wrong.{Wrong}
use Rattle.dns_lexer.specs.declared.pieces.Wrong.TheVariants.{Closing, OpenParenthesis, OpenQuote, LoneReturn, BadEscape as WrongEscape}
use Rattle.rdata_values.specs.declared.error.ErrorKind.{ErrorKind}
use Rattle.rdata_values.specs.declared.error.ErrorKind.TheVariants.{ShortBuf, Syntax, EndOfEntry, TrailingToken, Quoted, QuotedName, NotQuoted, ExpectedNumber, NumberOverflow, ExpectedIpv4, ExpectedIpv6, ExpectedTtl, ExpectedInterval, ExpectedTime, UnknownType, UnknownClass, UnknownAlgorithm, UnknownCertificate, UnknownScheme, ExpectedEui48, ExpectedEui64, ExpectedLocator, ExpectedSalt, ExpectedPsdnAddress, BadEscape, LongString, BadTag, EmptyLabel, LongLabel, LongName, NoOrigin, ExpectedHex, UnevenHex, IllegalBase64, TrailingBase64, IncompleteBase64, IllegalBase32, ShortBase32, LongHash, ExpectedLatitude, ExpectedLongitude, ExpectedAltitude, ExpectedSize, ExpectedEnd, ExpectedPrefix, ExpectedNsap, ExpectedGateway, UnknownGateway, ExpectedHit, LongKey, QuotedParam, GluedParam, UnknownKey, UnexpectedValue, RepeatedKey, LongValue, RepeatedParam, ListString, ListEscape, ShortParams, ParamOrder, ParamValue, MissingParam, TypeZero, NotOfType, NoDataType, NoTextForm, WrongLength, TrailingArgument, NotSupported, UnknownDirective, NoOwner, RefusedOwner, NoTtl}

-- the message of a syntax error
abbrev pub syntax_text : Wrong → List ℕ
syntax_text Closing = codes "closing parenthesis, and none is open"
syntax_text OpenParenthesis = codes "parenthesis is not closed"
syntax_text (OpenQuote start) = codes "quoted text is not closed"
syntax_text LoneReturn = codes "CR without LF"
syntax_text WrongEscape = codes "bad escape"

-- the message for a key that the value of `mandatory` lists and that is missing
abbrev pub missing_key_text : ℕ → List ℕ
missing_key_text key =
    if key == 1 then codes "mandatory names alpn, which is missing" else (if key == 2 then codes "mandatory names no-default-alpn, which is missing" else (
    if key == 3 then codes "mandatory names port, which is missing" else (if key == 4 then codes "mandatory names ipv4hint, which is missing" else (
    if key == 5 then codes "mandatory names ech, which is missing" else (if key == 6 then codes "mandatory names ipv6hint, which is missing" else (
    if key == 7 then codes "mandatory names dohpath, which is missing" else (if key == 8 then codes "mandatory names ohttp, which is missing" else codes "mandatory names a key that is missing")))))))

abbrev pub error_kind_text : ErrorKind → List ℕ
error_kind_text ShortBuf = codes "buffer size exceeded"
error_kind_text (Syntax wrong) = syntax_text wrong
error_kind_text EndOfEntry = codes "unexpected end of entry"
error_kind_text TrailingToken = codes "unexpected token behind the data"
error_kind_text Quoted = codes "expected word without quotes"
error_kind_text QuotedName = codes "expected word without quotes"
error_kind_text NotQuoted = codes "expected text in quotes"
error_kind_text ExpectedNumber = codes "expected decimal number"
error_kind_text (NumberOverflow most) = codes "decimal number overflow"
error_kind_text ExpectedIpv4 = codes "expected IPv4 address"
error_kind_text ExpectedIpv6 = codes "expected IPv6 address"
error_kind_text ExpectedTtl = codes "expected TTL"
error_kind_text ExpectedInterval = codes "expected interval"
error_kind_text ExpectedTime = codes "expected signature time"
error_kind_text UnknownType = codes "unknown record type"
error_kind_text UnknownClass = codes "unknown class"
error_kind_text UnknownAlgorithm = codes "unknown algorithm"
error_kind_text UnknownCertificate = codes "unknown certificate type"
error_kind_text UnknownScheme = codes "unknown scheme"
error_kind_text ExpectedEui48 = codes "expected EUI-48"
error_kind_text ExpectedEui64 = codes "expected EUI-64"
error_kind_text ExpectedLocator = codes "expected locator"
error_kind_text ExpectedSalt = codes "expected salt"
error_kind_text ExpectedPsdnAddress = codes "expected 4 to 255 digits"
error_kind_text BadEscape = codes "illegal escape sequence"
error_kind_text LongString = codes "character string with more than 255 octets"
error_kind_text BadTag = codes "expected tag of letters and digits"
error_kind_text EmptyLabel = codes "empty label"
error_kind_text LongLabel = codes "long label"
error_kind_text LongName = codes "long domain name"
error_kind_text NoOrigin = codes "relative name, and no origin"
error_kind_text ExpectedHex = codes "expected hex digits"
error_kind_text UnevenHex = codes "uneven number of hex digits"
error_kind_text IllegalBase64 = codes "illegal Base 64 data"
error_kind_text TrailingBase64 = codes "trailing Base 64 data"
error_kind_text IncompleteBase64 = codes "incomplete Base 64 data"
error_kind_text IllegalBase32 = codes "illegal Base 32 data"
error_kind_text ShortBase32 = codes "short Base 32 input"
error_kind_text LongHash = codes "hash too long"
error_kind_text ExpectedLatitude = codes "expected latitude"
error_kind_text ExpectedLongitude = codes "expected longitude"
error_kind_text ExpectedAltitude = codes "expected altitude"
error_kind_text ExpectedSize = codes "expected size"
error_kind_text ExpectedEnd = codes "expected end of entry"
error_kind_text ExpectedPrefix = codes "expected address prefix"
error_kind_text ExpectedNsap = codes "expected 0x and hex digits"
error_kind_text ExpectedGateway = codes "expected gateway"
error_kind_text UnknownGateway = codes "unknown gateway type"
error_kind_text ExpectedHit = codes "expected 1 to 255 octets in hex"
error_kind_text LongKey = codes "key with more than 65535 octets"
error_kind_text QuotedParam = codes "expected service parameter without quotes"
error_kind_text GluedParam = codes "token touches a service parameter"
error_kind_text UnknownKey = codes "unknown key of a service parameter"
error_kind_text UnexpectedValue = codes "service parameter takes no value"
error_kind_text RepeatedKey = codes "repeated key in a value"
error_kind_text LongValue = codes "value of a service parameter with more than 65535 octets"
error_kind_text RepeatedParam = codes "repeated service parameter"
error_kind_text ListString = codes "string of a list without 1 to 255 octets"
error_kind_text ListEscape = codes "illegal escape in a list"
error_kind_text ShortParams = codes "service parameters are cut off"
error_kind_text (ParamOrder key) = codes "service parameter out of order"
error_kind_text (ParamValue key) = codes "wrong value of a service parameter"
error_kind_text (MissingParam key) = missing_key_text key
error_kind_text TypeZero = codes "type 0 in a list of types"
error_kind_text NotOfType = codes "these octets are no data of the type"
error_kind_text NoDataType = codes "type has no data in zones"
error_kind_text NoTextForm = codes "give its data as \\#"
error_kind_text (WrongLength found wanted) = codes "wrong number of octets"
error_kind_text TrailingArgument = codes "unexpected token behind the directive"
error_kind_text NotSupported = codes "not supported: expand it first"
error_kind_text UnknownDirective = codes "unknown directive"
error_kind_text NoOwner = codes "no owner"
error_kind_text RefusedOwner = codes "the owner before is refused"
error_kind_text NoTtl = codes "no TTL"
