-- The names of digest types.
use Rattle.std.specs.Prelude.{ℕ, ◌==◌, ◌||◌, if◌then◌else◌, List, codes, Option, Some, None}
use Rattle.rdata_values.specs.Rtype as Rtype
use Rattle.rdata_values.specs.declared.types.RecordType.{RecordType}

-- the index of the field that names the digest: DS, CDS, DLV and TA; SSHFP; ZONEMD
abbrev pub digest_place : RecordType → Option ℕ
digest_place t = if t == Rtype.ds || (t == Rtype.cds || (t == Rtype.dlv || (t == Rtype.ta || t == Rtype.zonemd))) then Some 2 else if t == Rtype.sshfp then Some 1 else None

-- the registry of DNSSEC delegation signers; of fingerprints (RFC 4255, RFC 6594); of ZONEMD (RFC 8976)
abbrev pub signer_digest : ℕ → Option (List ℕ)
signer_digest n = if n == 1 then Some (codes "SHA-1") else if n == 2 then Some (codes "SHA-256") else if n == 3 then Some (codes "GOST R 34.11-94")
    else if n == 4 then Some (codes "SHA-384") else if n == 5 then Some (codes "GOST R 34.11-2012") else if n == 6 then Some (codes "SM3") else None

abbrev pub fingerprint_digest : ℕ → Option (List ℕ)
fingerprint_digest n = if n == 1 then Some (codes "SHA-1") else if n == 2 then Some (codes "SHA-256") else None

abbrev pub zone_digest : ℕ → Option (List ℕ)
zone_digest n = if n == 1 then Some (codes "SHA-384") else if n == 2 then Some (codes "SHA-512") else None

abbrev pub digest_name : RecordType → ℕ → Option (List ℕ)
digest_name t n = if t == Rtype.zonemd then zone_digest n else if t == Rtype.sshfp then fingerprint_digest n else signer_digest n
