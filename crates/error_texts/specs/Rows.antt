-- Worked examples of the definitions, each computed.
use Rattle.std.specs.Prelude.{◌≡◌, ℕ, List, [], ◌∷◌, ◌++◌, map, codes, decimal, Some, None, refl}
use Rattle.std.specs.Fmt.{digits}
use Rattle.dns_lexer.specs.declared.pieces.Wrong.TheVariants.{Closing, OpenParenthesis, OpenQuote, LoneReturn, BadEscape as WrongEscape}
use Rattle.rdata_values.specs.Rtype as Rtype
use Rattle.rdata_values.specs.Types.{type_rows}
use Rattle.rdata_values.specs.declared.error.ErrorKind.{ErrorKind}
use Rattle.rdata_values.specs.declared.error.ErrorKind.TheVariants.{ShortBuf, Syntax, EndOfEntry, TrailingToken, Quoted, QuotedName, NotQuoted, ExpectedNumber, NumberOverflow, ExpectedIpv4, ExpectedIpv6, ExpectedTtl, ExpectedInterval, ExpectedTime, UnknownType, UnknownClass, UnknownAlgorithm, UnknownCertificate, UnknownScheme, ExpectedEui48, ExpectedEui64, ExpectedLocator, ExpectedSalt, ExpectedPsdnAddress, BadEscape, LongString, BadTag, EmptyLabel, LongLabel, LongName, NoOrigin, ExpectedHex, UnevenHex, IllegalBase64, TrailingBase64, IncompleteBase64, IllegalBase32, ShortBase32, LongHash, ExpectedLatitude, ExpectedLongitude, ExpectedAltitude, ExpectedSize, ExpectedEnd, ExpectedPrefix, ExpectedNsap, ExpectedGateway, UnknownGateway, ExpectedHit, LongKey, QuotedParam, GluedParam, UnknownKey, UnexpectedValue, RepeatedKey, LongValue, RepeatedParam, ListString, ListEscape, ShortParams, ParamOrder, ParamValue, MissingParam, TypeZero, NotOfType, NoDataType, NoTextForm, WrongLength, TrailingArgument, NotSupported, UnknownDirective, NoOwner, RefusedOwner, NoTtl}
use Rattle.error_texts.specs.Contents.{digest_text, high_escape_text, long_string_text}
use Rattle.error_texts.specs.Digests.{digest_name, digest_place}
use Rattle.error_texts.specs.Errors.{error_type_prefix, kind_text, line_end_text, part_prefix}

-- the text of each kind of error
abbrev texts : List (ErrorKind × List ℕ)
texts =
    (ShortBuf, codes "file name exceeds 65535 octets") ∷
    (Syntax Closing, codes "closing parenthesis, and none is open") ∷
    (Syntax OpenParenthesis, codes "parenthesis is not closed") ∷
    (Syntax (OpenQuote 0), codes "quoted text is not closed") ∷
    (Syntax LoneReturn, codes "CR without LF") ∷
    (Syntax WrongEscape, codes "illegal escape sequence") ∷
    (EndOfEntry, codes "unexpected end of entry") ∷
    (TrailingToken, codes "unexpected token behind the data") ∷
    (Quoted, codes "expected word without quotes") ∷
    (QuotedName, codes "expected word without quotes") ∷
    (NotQuoted, codes "expected text in quotes") ∷
    (ExpectedNumber, codes "expected decimal number") ∷
    (NumberOverflow 255, codes "decimal number overflow") ∷
    (ExpectedIpv4, codes "expected IPv4 address") ∷
    (ExpectedIpv6, codes "expected IPv6 address") ∷
    (ExpectedTtl, codes "expected TTL") ∷
    (ExpectedInterval, codes "expected interval") ∷
    (ExpectedTime, codes "expected signature time") ∷
    (UnknownType, codes "unknown record type") ∷
    (UnknownClass, codes "unknown class") ∷
    (UnknownAlgorithm, codes "unknown algorithm") ∷
    (UnknownCertificate, codes "unknown certificate type") ∷
    (UnknownScheme, codes "unknown scheme") ∷
    (ExpectedEui48, codes "expected EUI-48") ∷
    (ExpectedEui64, codes "expected EUI-64") ∷
    (ExpectedLocator, codes "expected locator") ∷
    (ExpectedSalt, codes "expected salt") ∷
    (ExpectedPsdnAddress, codes "expected 4 to 255 digits") ∷
    (BadEscape, codes "illegal escape sequence") ∷
    (LongString, codes "character string with more than 255 octets") ∷
    (BadTag, codes "expected tag of letters and digits") ∷
    (EmptyLabel, codes "empty label") ∷
    (LongLabel, codes "long label") ∷
    (LongName, codes "long domain name") ∷
    (NoOrigin, codes "relative name, and no origin") ∷
    (ExpectedHex, codes "expected hex digits") ∷
    (UnevenHex, codes "uneven number of hex digits") ∷
    (IllegalBase64, codes "illegal Base 64 data") ∷
    (TrailingBase64, codes "trailing Base 64 data") ∷
    (IncompleteBase64, codes "incomplete Base 64 data") ∷
    (IllegalBase32, codes "illegal Base 32 data") ∷
    (ShortBase32, codes "short Base 32 input") ∷
    (LongHash, codes "hash too long") ∷
    (ExpectedLatitude, codes "expected latitude") ∷
    (ExpectedLongitude, codes "expected longitude") ∷
    (ExpectedAltitude, codes "expected altitude") ∷
    (ExpectedSize, codes "expected size") ∷
    (ExpectedEnd, codes "expected end of entry") ∷
    (ExpectedPrefix, codes "expected address prefix") ∷
    (ExpectedNsap, codes "expected 0x and hex digits") ∷
    (ExpectedGateway, codes "expected gateway") ∷
    (UnknownGateway, codes "unknown gateway type") ∷
    (ExpectedHit, codes "expected 1 to 255 octets in hex") ∷
    (LongKey, codes "key with more than 65535 octets") ∷
    (QuotedParam, codes "expected service parameter without quotes") ∷
    (GluedParam, codes "token touches a service parameter") ∷
    (UnknownKey, codes "unknown key of a service parameter") ∷
    (UnexpectedValue, codes "service parameter takes no value") ∷
    (RepeatedKey, codes "repeated key in a value") ∷
    (LongValue, codes "value of a service parameter with more than 65535 octets") ∷
    (RepeatedParam, codes "repeated service parameter") ∷
    (ListString, codes "string of a list without 1 to 255 octets") ∷
    (ListEscape, codes "illegal escape in a list") ∷
    (ShortParams, codes "service parameters are cut off") ∷
    (ParamOrder 4, codes "service parameter out of order") ∷
    (ParamValue 4, codes "wrong value of a service parameter") ∷
    (MissingParam 1, codes "mandatory names alpn, which is missing") ∷
    (MissingParam 2, codes "mandatory names no-default-alpn, which is missing") ∷
    (MissingParam 3, codes "mandatory names port, which is missing") ∷
    (MissingParam 4, codes "mandatory names ipv4hint, which is missing") ∷
    (MissingParam 5, codes "mandatory names ech, which is missing") ∷
    (MissingParam 6, codes "mandatory names ipv6hint, which is missing") ∷
    (MissingParam 7, codes "mandatory names dohpath, which is missing") ∷
    (MissingParam 8, codes "mandatory names ohttp, which is missing") ∷
    (MissingParam 9, codes "mandatory names a key that is missing") ∷
    (TypeZero, codes "type 0 in a list of types") ∷
    (NotOfType, codes "these octets are no data of the type") ∷
    (NoDataType, codes "type has no data in zones") ∷
    (NoTextForm, codes "give its data as \\#") ∷
    (WrongLength 3 32, codes "wrong number of octets") ∷
    (TrailingArgument, codes "unexpected token behind the directive") ∷
    (NotSupported, codes "not supported: expand it first") ∷
    (UnknownDirective, codes "unknown directive") ∷
    (NoOwner, codes "no owner") ∷
    (RefusedOwner, codes "the owner before is refused") ∷
    (NoTtl, codes "no TTL") ∷
    []

every_kind : map (λ (row : ErrorKind × List ℕ). kind_text None row.0) texts ≡ map (λ (row : ErrorKind × List ℕ). row.1) texts
every_kind = refl

-- RDATA whose octets don't fit has a text of its own, and no other kind has
long_data : map (kind_text (Some Rtype.mx)) (ShortBuf ∷ EndOfEntry ∷ NoOrigin ∷ []) ≡ codes "RDATA exceeds 65535 octets" ∷ codes "unexpected end of entry" ∷ codes "relative name, and no origin" ∷ []
long_data = refl

-- the types before the text, with and without a name, and none
types : map error_type_prefix (Some Rtype.mx ∷ Some 65280 ∷ None ∷ []) ≡ codes "MX: " ∷ (codes "TYPE" ++ decimal 65280 ++ codes ": ") ∷ [] ∷ []
unfolding type_rows
types = refl

ends_of_lines : map line_end_text (Some Rtype.mx ∷ None ∷ []) ≡ codes "MX: the data end at the end of the line" ∷ codes "the data end at the end of the line" ∷ []
unfolding type_rows
ends_of_lines = refl

parts : map part_prefix (Some (codes "preference") ∷ None ∷ []) ≡ codes "preference: " ∷ [] ∷ []
parts = refl

long_string : long_string_text 360 ≡ codes "character string of " ++ decimal 360 ++ codes " octets (at most 255)"
long_string = refl

high_escape : high_escape_text (codes "\\300") ≡ codes "escape \\300 is above \\255"
high_escape = refl

-- as in `digest of 3 octets; type 2 (SHA-256) has 32`
short_digest : digest_text Rtype.ds 2 3 32 ≡ codes "digest of " ++ decimal 3 ++ codes " octets; type " ++ decimal 2 ++ codes " (SHA-256) has " ++ decimal 32
unfolding digits
short_digest = refl

unknown_digest : digest_text Rtype.sshfp 9 3 32 ≡ codes "digest of " ++ decimal 3 ++ codes " octets; type " ++ decimal 9 ++ codes " has " ++ decimal 32
unfolding digits
unknown_digest = refl

delegation : digest_name Rtype.ds 2 ≡ Some (codes "SHA-256")
delegation = refl

fingerprint : digest_name Rtype.sshfp 3 ≡ None
fingerprint = refl

fingerprint_field : digest_place Rtype.sshfp ≡ Some 1
fingerprint_field = refl
