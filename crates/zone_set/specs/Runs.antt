-- Records as the octets of a run.
use Rattle.std.specs.Prelude.{ℕ, ◌≡◌, List, ◌++◌, length}
use Rattle.std.specs.Int.{to_be_bytes, w16, w32}
use Rattle.zone_record.specs.Records.{data_of}
use Rattle.zone_record.specs.declared.record.Record.{Record}
use Rattle.dns_wire.specs.Wire.{wire}

-- octets after their number
abbrev pub length_prefixed : List ℕ → List ℕ
length_prefixed octets = to_be_bytes w16 (length octets) ++ octets

-- the TTL, the class, the type, the owner and the data
abbrev pub run_octets : {N O : Type 0} → Record N O → List ℕ
run_octets r =
    to_be_bytes w32 r.ttl ++ to_be_bytes w16 r.class ++ to_be_bytes w16 (data_of r).rtype ++ length_prefixed (wire r.owner) ++ length_prefixed (data_of r).octets

-- two records have the same owner, including letter case, and the same numbers and data
pub record IsSameRecord {N O M P : Type 0} (a : Record N O) (b : Record M P) : Type 0 where
  pub owner : a.owner ≡ b.owner
  pub ttl : a.ttl ≡ b.ttl
  pub class : a.class ≡ b.class
  pub rtype : (data_of a).rtype ≡ (data_of b).rtype
  pub octets : (data_of a).octets ≡ (data_of b).octets
