-- The DS records of a parent, and the keys of its signed child (RFC 4035 section 2.4).
use Rattle.std.specs.Prelude.{ℕ, ◌==◌, ◌&&◌, not, Bool, List}
use Rattle.std.specs.List.{list_any}
use Rattle.dns_octets.specs.Lowered.{lowered}
use Rattle.dns_wire.specs.Order.{same_name}
use Rattle.dns_wire.specs.Wire.{wire}
use Rattle.rdata_values.specs.Rtype as Rtype
use Rattle.zone_record.specs.Records.{data_of}
use Rattle.zone_record.specs.declared.record.Record.{Record}
use Rattle.zone_dnssec.specs.SignedApex.{has_apex_signature}
use Rattle.zone_rules.specs.Zones.{has_type_at, type_of}
use Rattle.zone_cuts.specs.Digests.{ds_fits}

-- a DNSKEY that a DS with these data names, whose owner has these octets in lower case
abbrev pub is_key_of_ds : {N O : Type 0} → List ℕ → List ℕ → Record N O → Bool
is_key_of_ds owner ds r = type_of r == Rtype.dnskey && ds_fits owner ds (data_of r).octets

-- a DS fits a DNSKEY at the apex of the child
abbrev pub is_fitting_ds : {N O M P : Type 0} → List (List ℕ) → List (Record N O) → Record M P → Bool
is_fitting_ds name child r = type_of r == Rtype.ds && list_any (λ k. same_name k.owner name && is_key_of_ds (lowered (wire name)) (data_of r).octets k) child

abbrev pub has_fitting_ds : {N O M P : Type 0} → List (List ℕ) → List (Record N O) → List (Record M P) → Bool
has_fitting_ds name child parent = list_any (λ r. same_name r.owner name && is_fitting_ds name child r) parent

-- the parent delegates with DS to a signed child, and none of them fits a key
abbrev pub lacks_fitting_ds : {N O M P : Type 0} → List (List ℕ) → List (Record N O) → List (Record M P) → Bool
lacks_fitting_ds name parent child =
    has_type_at Rtype.ns name parent && (has_type_at Rtype.ds name parent && (has_apex_signature name child && not (has_fitting_ds name child parent)))
