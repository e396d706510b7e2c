use Rattle.std.proofs.Common.{◌≡◌, ◌≤◌, length, take, refl, ap, subst, arith}
use Rattle.dns_wire.specs.Wire.{wire}
use Rattle.dns_wire.proofs.Wires.{length_wire}
use Rattle.c_calls.proofs.KeptNames.{held}
use Rattle.c_calls.proofs.kept.keep_name.Goals as goal

pub returns-in-Name : goal.returns-in-Name
returns-in-Name c =
    let octets = c.put_over.new.over in
    let labels = c.in-Name.name in
    let value = c.as_slice-octets.ensures.value in
    let put : take (length (wire labels)) octets ≡ wire labels = subst (λ o. take (length o) octets ≡ o) value c.put_over.ensures.put in
    let few : length (wire labels) ≤ length octets = omega (arith, length_wire labels) in
    let h = held octets (length c.as_slice-octets.result.now) labels (ap length value) put few c.as_slice-octets.ensures.is_name c.as_slice-octets.ensures.absolute in
    record {
      holds = rw c.in-Name.is (refl, h.0, h.1);
      flag = omega arith;
      rejected = λ some. absurd (some refl);
      rest = c.put_over.ensures.rest;
    }
