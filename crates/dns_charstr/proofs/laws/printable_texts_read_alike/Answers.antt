use Rattle.dns_charstr.proofs.PrintableTexts.{octets_of_characters, read_as_octets, read_as_characters}
use Rattle.dns_charstr.proofs.laws.printable_texts_read_alike.Goals as goal

pub returns-clause-alike : goal.returns-clause-alike
returns-clause-alike c = λ room r p. (λ h. read_as_octets room c.args.text.now r p h, λ h. read_as_characters room c.args.text.now r p h)

pub returns-clause-octets : goal.returns-clause-octets
returns-clause-octets c = λ octets h. octets_of_characters c.args.text.now octets h
