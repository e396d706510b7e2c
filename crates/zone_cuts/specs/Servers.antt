-- The name servers on both sides of a zone cut (RFC 1034 section 4.2.2).
use Rattle.std.specs.Prelude.{ℕ, ◌≡◌, ◌<◌, ◌==◌, ◌&&◌, ◌||◌, not, Bool, true, false, Option, Some, None, List, length, slice_get}
use Rattle.std.specs.List.{find, list_any}
use Rattle.dns_octets.specs.Lowered.{same_lowered}
use Rattle.dns_wire.specs.Order.{same_name}
use Rattle.rdata_values.specs.Rtype as Rtype
use Rattle.zone_record.specs.Records.{data_of}
use Rattle.zone_record.specs.declared.record.Record.{Record}
use Rattle.zone_rules.specs.Zones.{has_type_at, type_of}
use Rattle.zone_cuts.specs.declared.servers.ServerDifference.{ServerDifference}
use Rattle.zone_cuts.specs.declared.servers.ServerDifference.TheVariants.{OfChild, OfParent}

-- the record is an NS whose host has these octets, which are all of its data (RFC 1035 section 3.3.11)
abbrev pub is_server_with : {N O : Type 0} → List ℕ → Record N O → Bool
is_server_with host r = type_of r == Rtype.ns && same_lowered (data_of r).octets host

-- an NS at a name has this host
abbrev pub has_server : {N O : Type 0} → List ℕ → List (List ℕ) → List (Record N O) → Bool
has_server host name records = list_any (λ r. same_name r.owner name && is_server_with host r) records

-- an NS whose host is that of no NS at a name among other records
abbrev pub is_other_server : {N O M P : Type 0} → List (List ℕ) → List (Record N O) → Record M P → Bool
is_other_server name others r = type_of r == Rtype.ns && not (has_server (data_of r).octets name others)

-- one side has such an NS at a name
abbrev pub is_other_server_at : {N O M P : Type 0} → List (List ℕ) → List (Record N O) → Record M P → Bool
is_other_server_at name others r = same_name r.owner name && is_other_server name others r

abbrev pub has_other_server : {N O M P : Type 0} → List (List ℕ) → List (Record N O) → List (Record M P) → Bool
has_other_server name others records = list_any (is_other_server_at name others) records

-- both the parent and the child have NS at the child's apex, and one of them has a host that the other has not
abbrev pub have_other_servers : {N O M P : Type 0} → List (List ℕ) → List (Record N O) → List (Record M P) → Bool
have_other_servers name parent child =
    has_type_at Rtype.ns name parent && (has_type_at Rtype.ns name child && (has_other_server name parent child || has_other_server name child parent))

-- which NS the two sides don't share: the first of the child's, or else the first of the parent's
abbrev pub IsServerDifference : {N O M P : Type 0} → List (List ℕ) → List (Record N O) → List (Record M P) → Option ServerDifference → Type 0
IsServerDifference name parent child None = have_other_servers name parent child ≡ false
IsServerDifference name parent child (Some (OfChild place)) =
    (have_other_servers name parent child ≡ true) × (place < length child) × (slice_get child place ≡ find (is_other_server_at name parent) child)
IsServerDifference name parent child (Some (OfParent place)) =
    (have_other_servers name parent child ≡ true) × (place < length parent) × (slice_get parent place ≡ find (is_other_server_at name child) parent) × (has_other_server name parent child ≡ false)
