use Rattle.std.proofs.Common.{inr, ap, length, arith}
use Rattle.dns_wire.proofs.Splitting.{unrooted, unrooted_is, unrooted_name}
use Rattle.dns_wire.proofs.relative.RelativeName.from_octets.Goals as goal

pub invariant_of-result : goal.invariant_of-result
invariant_of-result g c = (unrooted _ (rw c.as_slice-slice.ensures.value at c.in-End.ensures), tt)

pub invariant_of-result-in-End : goal.invariant_of-result-in-End
invariant_of-result-in-End g c =
    unrooted_name _ (rw c.as_slice-slice.ensures.value at c.in-End.ensures) c.result-1.given.0 (omega (arith, ap length c.as_slice-slice.ensures.value))

pub returns-in-End : goal.returns-in-End
returns-in-End g c =
    let s = rw c.as_slice-slice.ensures.value at c.in-End.ensures in
    inr (omega (arith, ap length c.as_slice-slice.ensures.value), (s.0, s.1, s.2, (s.3, unrooted_is _ s c.result-1.given.0)))

pub returns-in-Refused-ShortInput : goal.returns-in-Refused-ShortInput
returns-in-Refused-ShortInput g c =
    let s = rw c.as_slice-slice.ensures.value at c.in-Refused-ShortInput.ensures in
    inr (omega (arith, ap length c.as_slice-slice.ensures.value), (s.0, s.1, s.2, (rw c.in-Refused-ShortInput.field-0-is at s.3.0, λ h. absurd (s.3.1 h))))
