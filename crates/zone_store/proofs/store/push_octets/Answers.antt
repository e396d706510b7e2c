use Rattle.std.proofs.Common.{arith}
use Rattle.zone_store.specs.Parts.{PartsFit, record_parts}
use Rattle.zone_store.proofs.EntriesRead.{entry_is}
use Rattle.zone_store.proofs.KeyPrefixes.{all_octets}
use Rattle.zone_store.proofs.store.push_octets.Goals as goal

pub returns-in-Some-clause-ok : goal.returns-in-Some-clause-ok
returns-in-Some-clause-ok g c =
    let parts = record_parts c.args.added.now in
    let fits : PartsFit parts = record { code = c.header_fits.ensures.rtype; class = c.header_fits.ensures.class; ttl = c.header_fits.ensures.ttl; file = c.header_fits.ensures.file; offset = c.header_fits.ensures.offset; rdata = c.requires.rdata } in
    entry_is c.args.octets.now.items c.push_record.new.octets.items c.in-Some.entry c.key_prefix.result c.count_of-offset.result c.args.key.now parts
    c.requires.key (all_octets c.args.key.now (λ i. omega (arith, c.type_inv.key i))) fits c.in_ok-push_record.ensures.ok c.key_prefix.ensures.value c.count_of-offset.ensures c.in-Some.ensures.fits
