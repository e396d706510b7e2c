use Rattle.std.proofs.Common.{◌≡◌, ◌+◌, ◌*◌, ◌≤◌, take, ◌++◌}
use Rattle.dns_symbol.specs.Printed.{text_of}
use Rattle.dns_symbol.proofs.form.put_octets.Given as goal

abbrev pub invariant-loop-octet : goal.invariant-loop-octet
invariant-loop-octet g l = record {
  text : take l.end l.text ≡ take l.fn.at l.fn.text ++ text_of g.F.Form.is_escape (take l.octet-index l.octets);
  room : l.end ≤ l.fn.at + 4 * l.octet-index;
}
