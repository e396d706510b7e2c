use Rattle.std.proofs.Common.{◌≡◌, ◌*◌, ◌+◌, ◌≤◌, ◌++◌, length, take}
use Rattle.dns_symbol.specs.Printed.{text_of}
use Rattle.c_calls.specs.Strings.{escape_of}
use Rattle.c_calls.proofs.strings.put_octets.Given as goal

abbrev pub invariant-loop-octet : goal.invariant-loop-octet
invariant-loop-octet l = record {
  text : l.text.items ≡ l.initial.text.items ++ text_of (escape_of l.form) (take l.octet-index l.octets);
  few : length l.text.items ≤ length l.initial.text.items + 4 * l.octet-index;
}
