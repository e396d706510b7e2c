use Rattle.std.proofs.Common.{take}
use Rattle.std.specs.Fmt.{HasWritten, IsPlainFormatter}
use Rattle.dns_symbol.specs.Printed.{text_of, is_unquoted_escape}
use Rattle.rdata_svcb.specs.Texts.{item_text}
use Rattle.rdata_svcb.proofs.shown.write_string.Given as goal

abbrev pub invariant-loop-octet : goal.invariant-loop-octet
invariant-loop-octet g l =
    IsPlainFormatter l.initial.f → HasWritten g.W.Write.write_str_gives l.initial.f (text_of is_unquoted_escape (item_text (take l.octet-index l.string))) l.f
