-- The verdict on a ZONEMD record of a zone (RFC 8976 sections 2.2 and 4).
use Rattle.std.specs.Prelude.{◌≡◌, ◌≢◌, ◌<◌, ◌≤◌, ℕ, ◌⊎◌, List, ◌∷◌, ◌++◌}
use Rattle.std.specs.Int.{to_be_bytes, w32}
use Rattle.sha2.specs.Sha512.{sha384, sha512}
use Rattle.rdata_values.specs.Rtype as Rtype
use Rattle.zone_record.specs.TypeData.{TypeData}
use Rattle.zone_contents.specs.declared.verdict.Verdict.{Verdict}
use Rattle.zone_contents.specs.declared.verdict.Verdict.TheVariants.{Matches, Differs, OtherSerial, UnknownScheme, UnknownHash, Repeated}
use Rattle.zone_contents.specs.declared.zonemd.Zonemd.{Zonemd}

-- ZONEMD data: a serial, a scheme, a hash algorithm, and the digest (RFC 8976 section 2.2)
abbrev pub IsZonemd : TypeData → Zonemd → Type 0
IsZonemd d z = (d.rtype ≡ Rtype.zonemd) × (d.octets ≡ to_be_bytes w32 z.serial ++ z.scheme ∷ z.hash ∷ z.digest.now)

-- octets have a digest under an algorithm: 1 is SHA-384, and 2 SHA-512 (RFC 8976 section 5.3)
abbrev pub IsDigest : ℕ → List ℕ → List ℕ → Type 0
IsDigest hash octets digest = ((hash ≡ 1) × (digest ≡ sha384 octets)) ⊎ ((hash ≡ 2) × (digest ≡ sha512 octets))

-- the serial is that of the SOA, the scheme is SIMPLE, the algorithm is known, and no other ZONEMD has both
pub record IsUsable (serial count : ℕ) (z : Zonemd) : Type 0 where
  pub serial_is : z.serial ≡ serial
  pub scheme_is : z.scheme ≡ 1
  pub hash_is : (z.hash ≡ 1) ⊎ (z.hash ≡ 2)
  pub single : count ≤ 1

-- the verdict on a ZONEMD, by the serial of the zone's SOA, the octets that are hashed, and the number of ZONEMD records with this scheme and algorithm: the first that applies
abbrev pub IsVerdict : ℕ → List ℕ → ℕ → Zonemd → Verdict → Type 0
IsVerdict serial octets count z OtherSerial = z.serial ≢ serial
IsVerdict serial octets count z UnknownScheme = (z.serial ≡ serial) × (z.scheme ≢ 1)
IsVerdict serial octets count z Repeated = (z.serial ≡ serial) × (z.scheme ≡ 1) × (1 < count)
IsVerdict serial octets count z UnknownHash = (z.serial ≡ serial) × (z.scheme ≡ 1) × (count ≤ 1) × (z.hash ≢ 1) × (z.hash ≢ 2)
IsVerdict serial octets count z Matches = IsUsable serial count z × IsDigest z.hash octets z.digest.now
IsVerdict serial octets count z Differs = IsUsable serial count z × (IsDigest z.hash octets z.digest.now → ⊥)
