use Rattle.std.proofs.Common.{inr, ap, length, arith}
use Rattle.dns_name.proofs.FromOctets.{name_of_root, relative_of_end}
use Rattle.dns_name.proofs.name.UncertainName.from_octets.Goals as goal

pub returns-in-Root : goal.returns-in-Root
returns-in-Root g c =
    absurd (name_of_root _ c.in-Err.field-0 (omega (arith, ap length c.as_slice-slice.ensures.value)) (rw c.as_slice-slice.ensures.value at c.in-Root.ensures) c.in-Err.ensures)

pub returns-in-End : goal.returns-in-End
returns-in-End g c =
    let s = rw c.as_slice-slice.ensures.value at c.in-End.ensures in
    inr (omega (arith, ap length c.as_slice-slice.ensures.value), (s.0, s.1, s.2, (relative_of_end _ c.in-Err-from_octets.field-0 s c.in-Err-from_octets.ensures, s.3)))

pub returns-in-Refused-ShortInput : goal.returns-in-Refused-ShortInput
returns-in-Refused-ShortInput g c =
    let s = rw c.as_slice-slice.ensures.value at c.in-Refused-ShortInput.ensures in
    inr (omega (arith, ap length c.as_slice-slice.ensures.value), (s.0, s.1, s.2, (rw c.in-Refused-ShortInput.field-0-is at s.3.0, λ h. absurd (s.3.1 h))))
