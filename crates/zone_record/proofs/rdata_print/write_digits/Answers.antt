use Rattle.std.proofs.Common.{ap, ◌∙◌, length, sym}
use Rattle.std.proofs.lemmas.Bool.{eqb-false}
use Rattle.std.proofs.lemmas.Result.{on_err_weaker}
use Rattle.dns_codec.specs.Base.{base16, base64}
use Rattle.rdata_tokens.specs.Spelled.{base_of}
use Rattle.rdata.specs.Digits.{printed_digits}
use Rattle.zone_record.proofs.PrintedTokens.{digit_word, digits_token, one_failed}
use Rattle.zone_record.proofs.rdata_print.write_digits.Goals as goal

pub returns-in-Hex-clause-fails : goal.returns-in-Hex-clause-fails
returns-in-Hex-clause-fails g c =
    let octets = c.args.octets.now in
    let some = eqb-false (length octets) 0 (sym c.is_empty.ensures ∙ c.if-is_empty.false) in
    let is = ap (λ kind. printed_digits (base_of kind) octets) c.in-Hex.is ∙ digits_token base16 octets some ∙ ap (digit_word base16) (sym c.encode_display.ensures) in
    on_err_weaker c.write_token.result (one_failed _ _ _ _ _ _ is) c.write_token.ensures.fails

pub returns-in-Base64-clause-fails : goal.returns-in-Base64-clause-fails
returns-in-Base64-clause-fails g c =
    let octets = c.args.octets.now in
    let some = eqb-false (length octets) 0 (sym c.is_empty.ensures ∙ c.if-is_empty.false) in
    let is = ap (λ kind. printed_digits (base_of kind) octets) c.in-Base64.is ∙ digits_token base64 octets some ∙ ap (digit_word base64) (sym c.encode_display-in-Base64.ensures) in
    on_err_weaker c.write_token-in-Base64.result (one_failed _ _ _ _ _ _ is) c.write_token-in-Base64.ensures.fails
