use Rattle.std.proofs.Common.{sym, subst, ◌∙◌}
use Rattle.zone_record.specs.TypeData.{IsTypeData}
use Rattle.zone_contents.proofs.Listings.{valid_at}
use Rattle.zone_contents.proofs.records.data_at.Goals as goal

pub from_valid_octets-requires : goal.from_valid_octets-requires
from_valid_octets-requires g c =
    let is = (valid_at c.args._apex.now c.args.store.now c.requires.are c.args.place c.requires.place).rdata in
    subst (λ p. IsTypeData p.code p.rdata) (sym c.entry-entry.ensures) is

pub returns : goal.returns
returns g c = c.from_valid_octets.ensures ∙ (λ i. record { rtype = (c.entry-entry.ensures i).code; octets = (c.entry-entry.ensures i).rdata })
