use Rattle.std.proofs.Common.{◌≡◌, ◌+◌, ◌≤◌, ◌++◌, length, take}
use Rattle.std.specs.Prelude.{encode_utf8_all}
use Rattle.std.specs.Str.Iter.{chars_rest}
use Rattle.dns_lexer.specs.Position.{IsPosition}
use Rattle.dns_lexer.proofs.position.line_and_column.Given as goal

abbrev pub invariant-loop-c : goal.invariant-loop-c
invariant-loop-c l = record {
  text : encode_utf8_all l.yielded ++ chars_rest l.c-iterator ≡ take l.fn.at l.fn.text;
  short : l.line ≤ length l.yielded + 1;
  narrow : l.column ≤ length l.yielded + 1;
  is : IsPosition l.yielded l.line l.column;
}
