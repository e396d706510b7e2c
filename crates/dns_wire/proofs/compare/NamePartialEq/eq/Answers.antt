use Rattle.dns_wire.proofs.Comparing.{same_octets}
use Rattle.dns_wire.proofs.compare.NamePartialEq.eq.Goals as goal

pub returns : goal.returns
returns g c =
    same_octets c.args.self.now c.args.other.now _ _ _ c.as_slice.ensures.is_name.short c.as_slice-2.ensures.is_name.short
    c.as_slice.ensures.value c.as_slice-2.ensures.value c.same_octets.ensures
