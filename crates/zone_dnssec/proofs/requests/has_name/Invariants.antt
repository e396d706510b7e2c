use Rattle.std.proofs.Common.{◌≡◌, drop}
use Rattle.std.specs.List.{list_any}
use Rattle.zone_dnssec.specs.KeyRequests.{is_of_name}
use Rattle.zone_dnssec.proofs.requests.has_name.Given as goal

abbrev pub invariant-loop-key : goal.invariant-loop-key
invariant-loop-key l = list_any (is_of_name l.name) (drop l.key-index l.keys) ≡ list_any (is_of_name l.name) l.keys
