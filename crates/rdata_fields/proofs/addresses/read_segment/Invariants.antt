use Rattle.std.proofs.Common.{◌≡◌, ◌≤◌, take}
use Rattle.std.specs.Str.Parse.{AllDigits, digits_value}
use Rattle.rdata_fields.proofs.addresses.read_segment.Given as goal

abbrev pub invariant-loop-octet : goal.invariant-loop-octet
invariant-loop-octet l =
    (l.len ≡ l.octet-index) × AllDigits 16 (take l.len l.text) × (l.value ≡ digits_value 16 (take l.len l.text)) × (l.len ≤ 4)
