-- RRsets with a signature that is valid at an instant.
use Rattle.std.specs.Prelude.{ℕ, ◌&&◌, not, Bool, List}
use Rattle.std.specs.List.{list_any}
use Rattle.dns_wire.specs.Order.{same_name}
use Rattle.rdata_values.specs.declared.types.RecordType.{RecordType}
use Rattle.zone_record.specs.declared.record.Record.{Record}
use Rattle.zone_rules.specs.Zones.{set_type}
use Rattle.zone_dnssec.specs.SignatureTimes.{has_reversed_times, is_early, is_expired}
use Rattle.zone_dnssec.specs.SigningAlgorithms.{validly_covers}
use Rattle.zone_dnssec.specs.declared.keys.Key.{Key}

-- an instant is within the times of an RRSIG (RFC 4034 section 3.1.5)
abbrev pub is_current : {N O : Type 0} → ℕ → Record N O → Bool
is_current instant r = not (has_reversed_times r) && (not (is_expired instant r) && not (is_early instant r))

-- an RRSIG covers a type, fits a key, and is valid at an instant
abbrev pub covers_at : {N O : Type 0} → List Key → RecordType → ℕ → Record N O → Bool
covers_at keys rtype instant r = validly_covers keys rtype r && is_current instant r

-- the RRset that an RRSIG covers has such an RRSIG
abbrev pub is_beside_current : {N O M P : Type 0} → List Key → ℕ → List (Record N O) → Record M P → Bool
is_beside_current keys instant records r = list_any (λ s. same_name s.owner r.owner && covers_at keys (set_type r) instant s) records
