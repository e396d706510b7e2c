use Rattle.std.proofs.Common.{◌≡◌, drop}
use Rattle.zone_edit.specs.Places.{first_soa}
use Rattle.zone_edit.proofs.place.first_soa.Given as goal

abbrev pub invariant-loop-one : goal.invariant-loop-one
invariant-loop-one l = record {
  counted : l.index ≡ l.one-index;
  value : first_soa l.index (drop l.one-index l.records) ≡ first_soa 0 l.records;
}
