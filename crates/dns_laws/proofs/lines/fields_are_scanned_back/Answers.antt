use Rattle.std.proofs.Common.{◌∙◌, ◌∷◌, Ok, Err, rules}
use Rattle.std.proofs.lemmas.Result.{err_from_is_err_and}
use Rattle.dns_laws.proofs.LineTokens.{number_field, hex_field, base64_field, text_field}
use Rattle.dns_laws.proofs.lines.fields_are_scanned_back.Goals as goal

pub returns-in_ok-scan-in-Number-clause-takes : goal.returns-in_ok-scan-in-Number-clause-takes
returns-in_ok-scan-in-Number-clause-takes g c = λ token others stands. (
  λ field is can kind scanned. number_field g.S.Error.ScannerError.cause g.S.Octets.AsOctets.octets g.S.OctetsBuilder.OctetsBuilder.room token field
      (Ok c.in_ok-scan-in-Number.field-0) is (kind ∙ c.in-Number.is) scanned (c.in_ok-scan-in-Number.ensures.reads (token ∷ others) stands).1.0,
  search rules,
)

pub returns-in_err-scan-in-Number-clause-takes : goal.returns-in_err-scan-in-Number-clause-takes
returns-in_err-scan-in-Number-clause-takes g c = λ token others stands. (
  λ field is can kind scanned.
      let p = err_from_is_err_and c.from_residual.result c.from_residual.ensures.1 in
      rw (p.1, p.2) (number_field g.S.Error.ScannerError.cause g.S.Octets.AsOctets.octets g.S.OctetsBuilder.OctetsBuilder.room token field
      (Err c.in_err-scan-in-Number.field-0.0) is (kind ∙ c.in-Number.is) scanned (c.in_err-scan-in-Number.ensures.reads (token ∷ others) stands).1.0),
  search rules,
)

pub returns-in_ok-hex_is_scanned_back-in-Hex-clause-takes : goal.returns-in_ok-hex_is_scanned_back-in-Hex-clause-takes
returns-in_ok-hex_is_scanned_back-in-Hex-clause-takes g c = λ token others stands. (
  λ field is can kind scanned. hex_field g.S.Error.ScannerError.cause g.S.Octets.AsOctets.octets g.S.OctetsBuilder.OctetsBuilder.room token field
      (Ok c.in_ok-hex_is_scanned_back-in-Hex.field-0) is can (kind ∙ c.in-Hex.is) scanned (c.in_ok-hex_is_scanned_back-in-Hex.ensures.takes token others stands).0,
  (c.in_ok-hex_is_scanned_back-in-Hex.ensures.takes token others stands).1,
)

pub returns-in_err-hex_is_scanned_back-in-Hex-clause-takes : goal.returns-in_err-hex_is_scanned_back-in-Hex-clause-takes
returns-in_err-hex_is_scanned_back-in-Hex-clause-takes g c = λ token others stands. (
  λ field is can kind scanned.
      let p = err_from_is_err_and c.from_residual-in_err-hex_is_scanned_back-in-Hex.result c.from_residual-in_err-hex_is_scanned_back-in-Hex.ensures.1 in
      rw (p.1, p.2) (hex_field g.S.Error.ScannerError.cause g.S.Octets.AsOctets.octets g.S.OctetsBuilder.OctetsBuilder.room token field
      (Err c.in_err-hex_is_scanned_back-in-Hex.field-0.0) is can (kind ∙ c.in-Hex.is) scanned (c.in_err-hex_is_scanned_back-in-Hex.ensures.takes token others stands).0),
  (c.in_err-hex_is_scanned_back-in-Hex.ensures.takes token others stands).1,
)

pub returns-in_ok-base64_is_scanned_back-in-Base64-clause-takes : goal.returns-in_ok-base64_is_scanned_back-in-Base64-clause-takes
returns-in_ok-base64_is_scanned_back-in-Base64-clause-takes g c = λ token others stands. (
  λ field is can kind scanned. base64_field g.S.Error.ScannerError.cause g.S.Octets.AsOctets.octets g.S.OctetsBuilder.OctetsBuilder.room token field
      (Ok c.in_ok-base64_is_scanned_back-in-Base64.field-0) is can (kind ∙ c.in-Base64.is) scanned (c.in_ok-base64_is_scanned_back-in-Base64.ensures.takes token others stands).0,
  (c.in_ok-base64_is_scanned_back-in-Base64.ensures.takes token others stands).1,
)

pub returns-in_err-base64_is_scanned_back-in-Base64-clause-takes : goal.returns-in_err-base64_is_scanned_back-in-Base64-clause-takes
returns-in_err-base64_is_scanned_back-in-Base64-clause-takes g c = λ token others stands. (
  λ field is can kind scanned.
      let p = err_from_is_err_and c.from_residual-in_err-base64_is_scanned_back-in-Base64.result c.from_residual-in_err-base64_is_scanned_back-in-Base64.ensures.1 in
      rw (p.1, p.2) (base64_field g.S.Error.ScannerError.cause g.S.Octets.AsOctets.octets g.S.OctetsBuilder.OctetsBuilder.room token field
      (Err c.in_err-base64_is_scanned_back-in-Base64.field-0.0) is can (kind ∙ c.in-Base64.is) scanned (c.in_err-base64_is_scanned_back-in-Base64.ensures.takes token others stands).0),
  (c.in_err-base64_is_scanned_back-in-Base64.ensures.takes token others stands).1,
)

pub returns-in_ok-character_strings_are_scanned_back-in-Text-clause-takes : goal.returns-in_ok-character_strings_are_scanned_back-in-Text-clause-takes
returns-in_ok-character_strings_are_scanned_back-in-Text-clause-takes g c = λ token others stands. (
  λ field is can kind scanned. text_field g.S.Error.ScannerError.cause g.S.Octets.AsOctets.octets g.S.OctetsBuilder.OctetsBuilder.room token field
      (Ok c.in_ok-character_strings_are_scanned_back-in-Text.field-0) is (kind ∙ c.in-Text.is) scanned (c.in_ok-character_strings_are_scanned_back-in-Text.ensures.takes token others stands).0,
  (c.in_ok-character_strings_are_scanned_back-in-Text.ensures.takes token others stands).1,
)

pub returns-in_err-character_strings_are_scanned_back-in-Text-clause-takes : goal.returns-in_err-character_strings_are_scanned_back-in-Text-clause-takes
returns-in_err-character_strings_are_scanned_back-in-Text-clause-takes g c = λ token others stands. (
  λ field is can kind scanned.
      let p = err_from_is_err_and c.from_residual-in_err-character_strings_are_scanned_back-in-Text.result c.from_residual-in_err-character_strings_are_scanned_back-in-Text.ensures.1 in
      rw (p.1, p.2) (text_field g.S.Error.ScannerError.cause g.S.Octets.AsOctets.octets g.S.OctetsBuilder.OctetsBuilder.room token field
      (Err c.in_err-character_strings_are_scanned_back-in-Text.field-0.0) is (kind ∙ c.in-Text.is) scanned (c.in_err-character_strings_are_scanned_back-in-Text.ensures.takes token others stands).0),
  (c.in_err-character_strings_are_scanned_back-in-Text.ensures.takes token others stands).1,
)
