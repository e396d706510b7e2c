use Rattle.std.proofs.Common.{[], ◌∷◌, refl}
use Rattle.std.specs.Int.{to_be_bytes, w16, w32}
use Rattle.dns_laws.proofs.ReaderNumbers.{number_spelled, number_read, field_spelled, field_read}
use Rattle.dns_laws.proofs.readers.numbers_are_read_alike.Goals as goal

pub returns-clause-number : goal.returns-clause-number
returns-clause-number c = λ limit n token some. (number_spelled limit token n some, λ h. number_read limit token n h.0 h.1)

pub returns-clause-eight : goal.returns-clause-eight
returns-clause-eight c = λ origin token octets some. (λ h. (refl, field_spelled 8 (λ n. n ∷ []) token octets some h), λ h. field_read 8 (λ n. n ∷ []) token octets h.1)

pub returns-clause-sixteen : goal.returns-clause-sixteen
returns-clause-sixteen c = λ origin token octets some. (λ h. (refl, field_spelled 16 (to_be_bytes w16) token octets some h), λ h. field_read 16 (to_be_bytes w16) token octets h.1)

pub returns-clause-thirty_two : goal.returns-clause-thirty_two
returns-clause-thirty_two c = λ origin token octets some. (λ h. (refl, field_spelled 32 (to_be_bytes w32) token octets some h), λ h. field_read 32 (to_be_bytes w32) token octets h.1)
