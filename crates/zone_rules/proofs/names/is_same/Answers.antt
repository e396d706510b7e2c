use Rattle.dns_wire.proofs.Comparing.{same_octets}
use Rattle.zone_rules.proofs.names.is_same.Goals as goal

pub returns : goal.returns
returns c =
    same_octets c.args.left.now c.args.right.now _ _ _ c.as_slice.ensures.is_name.short c.as_slice-2.ensures.is_name.short
    c.as_slice.ensures.value c.as_slice-2.ensures.value c.same_octets.ensures
