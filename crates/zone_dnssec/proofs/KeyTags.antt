-- The sum of a key tag, octet by octet.
use Rattle.std.proofs.Common.{ℕ, ◌≡◌, ◌+◌, ◌<◌, List, length, drop, get_or, ap}
use Rattle.std.proofs.lemmas.List.{drop_more}
use Rattle.zone_dnssec.specs.ZoneKeys.{weighed, weighed_sum}

pub weighed_step : (index : ℕ) (octets : List ℕ) → index < length octets
    → weighed_sum index (drop index octets) ≡ weighed index (get_or octets index 0) + weighed_sum (index + 1) (drop (index + 1) octets)
weighed_step index octets lt = ap (weighed_sum index) (drop_more octets index 0 lt)
