-- The Opt-Out flags of a chain of NSEC3 records (RFC 5155 section 6).
use Rattle.std.specs.Prelude.{ℕ, ◌==◌, ◌&&◌, nat_le, not, Bool, true, false, List}
use Rattle.std.specs.List.{count_by}
use Rattle.rdata_values.specs.Rtype as Rtype
use Rattle.zone_record.specs.declared.record.Record.{Record}
use Rattle.zone_rules.specs.Zones.{type_of}
use Rattle.zone_dnssec.specs.HashedLinks.{is_bounded}
use Rattle.zone_dnssec.specs.Nsec3Chain.{is_link, opts_out, some_chain}
use Rattle.zone_dnssec.specs.ZoneViews.{ZoneView}

-- the Opt-Out flag of an NSEC3 is set, or clear
abbrev pub has_flag : {N O : Type 0} → Bool → Record N O → Bool
has_flag true r = opts_out r
has_flag false r = not (opts_out r)

-- an NSEC3 of a chain with the flag set, or clear
abbrev pub is_flagged_link : {N O M P : Type 0} → Record M P → Bool → Record N O → Bool
is_flagged_link chain is_set r = is_link chain r && has_flag is_set r

-- the number of NSEC3 records of a chain with the flag set, or clear
abbrev pub flag_count : {N O M P : Type 0} → Record M P → Bool → List (Record N O) → ℕ
flag_count chain is_set records = count_by (is_flagged_link chain is_set) records

-- one NSEC3 of a chain has a flag, and two or more have the other
abbrev pub is_flag_lone : {N O M P : Type 0} → Record M P → Bool → List (Record N O) → Bool
is_flag_lone chain is_set records = flag_count chain is_set records == 1 && nat_le 2 (flag_count chain (not is_set) records)

-- an NSEC3 of a chain of at most 150 iterations is the only one with its flag
abbrev pub is_lone_flag : {N O M P R S : Type 0} → List (Record N O) → Record R S → Record M P → Bool
is_lone_flag records r chain = is_link chain r && (is_bounded chain && is_flag_lone chain (opts_out r) records)

-- the same of some chain
abbrev pub has_own_flag : {N O M P : Type 0} → ZoneView N O → Record M P → Bool
has_own_flag zone r = type_of r == Rtype.nsec3 && some_chain (is_lone_flag zone.records r) zone
