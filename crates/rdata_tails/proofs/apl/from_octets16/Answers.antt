use Rattle.std.proofs.Common.{◌∙◌, ◌<◌, ap, rules}
use Rattle.std.specs.Net.Addr.{octets_of}
use Rattle.rdata_values.proofs.LocatorLaws.{octets_back}
use Rattle.std.proofs.lemmas.List.Elements.{All-from_get_or}
use Rattle.rdata_tails.specs.Prefixes.{address_octets}
use Rattle.rdata_tails.proofs.apl.from_octets16.Goals as goal

pub returns-clause-octets : goal.returns-clause-octets
returns-clause-octets c = ap address_octets c.from_ipv6.ensures.value ∙ ap octets_of c.from_octets.ensures ∙ octets_back 8 c.args.octets.now (search rules) (All-from_get_or (λ o. o < 256) c.args.octets.now 0 (λ i here. c.fits-octets i))
