-- The numbers of NSEC3 records of a chain by their Opt-Out flag: words for private functions.
use Rattle.std.specs.Prelude.{◌≡◌, ℕ, Bool, true, false, List, slice_get}
use Rattle.std.specs.Option.{option_map_or}
use Rattle.zone_record.specs.declared.record.Record.{Record}
use Rattle.zone_dnssec.specs.OptOutFlags.{flag_count, is_flagged_link}
use Rattle.zone_dnssec.specs.declared.flags.FlagCounts.{FlagCounts}

-- the record at an index is an NSEC3 of a chain with the flag set, or clear
abbrev pub is_flagged_in : {N O M P : Type 0} → Record M P → Bool → List (Record N O) → ℕ → Bool
is_flagged_in chain is_set records place = option_map_or (is_flagged_link chain is_set) (slice_get records place) false

-- the numbers of a chain
pub record AreFlagCounts {N O M P : Type 0} (chain : Record M P) (records : List (Record N O)) (counts : FlagCounts) : Type 0 where
  pub set : counts.set ≡ flag_count chain true records
  pub clear : counts.clear ≡ flag_count chain false records
