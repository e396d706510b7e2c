use Rattle.std.proofs.Common.{take, not, eqb}
use Rattle.std.specs.Prelude.{encode_utf8_all}
use Rattle.std.specs.Fmt.{HasWritten, IsPlainFormatter}
use Rattle.dns_charstr.specs.Printed.{hex_text, hex_digits}
use Rattle.dns_charstr.proofs.charstr.display.HexDisplayDisplay.fmt.Given as goal

abbrev pub invariant-loop-octet : goal.invariant-loop-octet
invariant-loop-octet g l =
    IsPlainFormatter l.initial.f → HasWritten g.W.Write.write_str_gives l.initial.f (encode_utf8_all (hex_text (hex_digits (not (eqb g.row.IS_UPPER 0))) (take l.octet-index l.octet-items))) l.f
