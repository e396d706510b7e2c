use Rattle.std.proofs.Common.{◌≡◌, ◌<◌, length}
use Rattle.std.specs.List.{flat_map, range_with_len}
use Rattle.zone_delegations.specs.Hidden.{hidden_if, is_hidden_at}
use Rattle.zone_delegations.specs.Owners.{IsBelowAt}
use Rattle.zone_delegations.proofs.hidden.hidden_by.Given as goal

abbrev pub invariant-loop-place : goal.invariant-loop-place
invariant-loop-place g l = record {
  within : l.before < length (g.Z.ZoneRecords.contents l.records);
  known : IsBelowAt l.origin (g.Z.ZoneRecords.contents l.records) l.before l.is_below;
  found : l.found.items ≡ flat_map (λ place. hidden_if (is_hidden_at l.origin (g.Z.ZoneRecords.contents l.records) l.refused place) place) (range_with_len 0 l.place);
}
