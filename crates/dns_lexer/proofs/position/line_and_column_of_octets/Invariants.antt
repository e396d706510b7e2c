use Rattle.std.proofs.Common.{◌+◌, ◌≤◌, take}
use Rattle.dns_lexer.specs.Position.{IsPosition}
use Rattle.dns_lexer.proofs.position.line_and_column_of_octets.Given as goal

abbrev pub invariant-loop-octet : goal.invariant-loop-octet
invariant-loop-octet l = record {
  short : l.line ≤ l.octet-index + 1;
  narrow : l.column ≤ l.octet-index + 1;
  is : IsPosition (take l.octet-index l.octet-items) l.line l.column;
}
