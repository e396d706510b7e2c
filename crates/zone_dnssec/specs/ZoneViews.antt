-- A signed zone.
use Rattle.std.specs.Prelude.{ℕ, List}
use Rattle.zone_record.specs.declared.record.Record.{Record}

-- the name of its apex, and its records
pub record ZoneView (N O : Type 0) : Type 0 where
  pub origin : List (List ℕ)
  pub records : List (Record N O)

abbrev pub zone_with : {N O : Type 0} → List (List ℕ) → List (Record N O) → ZoneView N O
zone_with origin records = record { origin = origin; records = records }
