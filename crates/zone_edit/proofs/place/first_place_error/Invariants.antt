use Rattle.std.proofs.Common.{◌≡◌, drop}
use Rattle.zone_edit.specs.Places.{first_place_error}
use Rattle.zone_edit.proofs.place.first_place_error.Given as goal

abbrev pub invariant-loop-one : goal.invariant-loop-one
invariant-loop-one l = record {
  counted : l.index ≡ l.one-index;
  value : first_place_error l.index (drop l.one-index l.records) ≡ first_place_error 0 l.records;
}
