use Rattle.std.proofs.Common.{inr, ap, length, arith}
use Rattle.dns_wire.proofs.Splitting.{rooted, rooted_is, rooted_name}
use Rattle.dns_wire.proofs.name.Name.from_octets.Goals as goal

pub invariant_of-result : goal.invariant_of-result
invariant_of-result g c = (rooted _ (rw c.as_slice-slice.ensures.value at c.in-Root.ensures), tt)

pub invariant_of-result-in-Root : goal.invariant_of-result-in-Root
invariant_of-result-in-Root g c =
    rooted_name _ (rw c.as_slice-slice.ensures.value at c.in-Root.ensures) c.result-1.given.0 (omega (arith, ap length c.as_slice-slice.ensures.value))

pub returns-in-Root : goal.returns-in-Root
returns-in-Root g c =
    let s = rw c.as_slice-slice.ensures.value at c.in-Root.ensures in
    inr (omega (arith, ap length c.as_slice-slice.ensures.value), (s.0, s.1, s.2, (s.3, rooted_is _ s c.result-1.given.0)))

pub returns-in-Refused-ShortInput : goal.returns-in-Refused-ShortInput
returns-in-Refused-ShortInput g c =
    let s = rw c.as_slice-slice.ensures.value at c.in-Refused-ShortInput.ensures in
    inr (omega (arith, ap length c.as_slice-slice.ensures.value), (s.0, s.1, s.2, (rw c.in-Refused-ShortInput.field-0-is at s.3.0, λ h. absurd (s.3.1 h))))
