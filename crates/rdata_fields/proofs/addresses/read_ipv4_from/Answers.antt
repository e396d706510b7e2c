use Rattle.std.proofs.Common.{sym}
use Rattle.rdata_fields.proofs.AddressReads.{ipv4_if_none, ipv4_without_dot}
use Rattle.rdata_fields.proofs.addresses.read_ipv4_from.Goals.{else-fits-via-then-fits+else-begins_with_dot, else-fits-via-else-fits}
use Rattle.rdata_fields.proofs.addresses.read_ipv4_from.Goals as goal

pub returns-else-fits : goal.returns-else-fits
returns-else-fits c begins =
    elim c.else-fits.branch [
      | else-fits-via-then-fits+else-begins_with_dot w ↦ sym (ipv4_if_none c.args.fits c.args.group.now (ipv4_without_dot c.args.group.now c.args.rest.now begins (λ dot. let no = w.if-begins_with_dot.ensures.1 dot in cc)))
      | else-fits-via-else-fits w ↦ rw w.if-fits.false
    ]
