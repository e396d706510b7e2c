use Rattle.std.proofs.Common.{◌≡◌, ◌+◌, drop}
use Rattle.zone_generate.specs.Numerals.{octet_index}
use Rattle.zone_generate.proofs.numeral.octet_index.Given as goal

abbrev pub invariant-loop-next : goal.invariant-loop-next
invariant-loop-next l = record {
  counted : l.index ≡ l.next-index;
  value : octet_index l.octet l.text ≡ l.next-index + octet_index l.octet (drop l.next-index l.text);
}
