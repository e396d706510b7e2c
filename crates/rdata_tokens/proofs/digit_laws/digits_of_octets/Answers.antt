use Rattle.rdata_tokens.proofs.Together.{hex_digits, base64_digits, base32hex_digits}
use Rattle.rdata_tokens.proofs.digit_laws.digits_of_octets.Goals as goal

pub returns : goal.returns
returns c = record { hex = hex_digits; base64 = base64_digits; base32hex = base32hex_digits }
