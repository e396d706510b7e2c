-- Record types, as IANA's registry has them.
use Rattle.std.specs.Prelude.{ℕ, ◌<◌, ◌≤◌, ◌^◌, ◌⊎◌, ◌==◌, Bool, if◌then◌else◌, List, [], ◌∷◌, ◌++◌, codes, decimal}
use Rattle.std.specs.List.{list_any}
use Rattle.rdata_values.specs.Kind.{IsKind}
use Rattle.rdata_values.specs.Numbers.{SpellsNumber}
use Rattle.rdata_values.specs.Registry.{Row, code_row, SpellsCode, code_text}
use Rattle.rdata_values.specs.declared.types.RecordType.{RecordType}
use Rattle.rdata_values.specs.declared.types.PortableType.{PortableType}
use Rattle.rdata_values.specs.declared.types.SigType.{SigType}

abbrev pub type_prefix : List ℕ
type_prefix = codes "TYPE"

unfoldable pub type_rows : List Row
type_rows =
    code_row 1 (codes "A") ∷
    code_row 2 (codes "NS") ∷
    code_row 3 (codes "MD") ∷
    code_row 4 (codes "MF") ∷
    code_row 5 (codes "CNAME") ∷
    code_row 6 (codes "SOA") ∷
    code_row 7 (codes "MB") ∷
    code_row 8 (codes "MG") ∷
    code_row 9 (codes "MR") ∷
    code_row 10 (codes "NULL") ∷
    code_row 11 (codes "WKS") ∷
    code_row 12 (codes "PTR") ∷
    code_row 13 (codes "HINFO") ∷
    code_row 14 (codes "MINFO") ∷
    code_row 15 (codes "MX") ∷
    code_row 16 (codes "TXT") ∷
    code_row 17 (codes "RP") ∷
    code_row 18 (codes "AFSDB") ∷
    code_row 19 (codes "X25") ∷
    code_row 20 (codes "ISDN") ∷
    code_row 21 (codes "RT") ∷
    code_row 22 (codes "NSAP") ∷
    code_row 23 (codes "NSAP-PTR") ∷
    code_row 24 (codes "SIG") ∷
    code_row 25 (codes "KEY") ∷
    code_row 26 (codes "PX") ∷
    code_row 27 (codes "GPOS") ∷
    code_row 28 (codes "AAAA") ∷
    code_row 29 (codes "LOC") ∷
    code_row 30 (codes "NXT") ∷
    code_row 31 (codes "EID") ∷
    code_row 32 (codes "NIMLOC") ∷
    code_row 33 (codes "SRV") ∷
    code_row 34 (codes "ATMA") ∷
    code_row 35 (codes "NAPTR") ∷
    code_row 36 (codes "KX") ∷
    code_row 37 (codes "CERT") ∷
    code_row 38 (codes "A6") ∷
    code_row 39 (codes "DNAME") ∷
    code_row 40 (codes "SINK") ∷
    code_row 41 (codes "OPT") ∷
    code_row 42 (codes "APL") ∷
    code_row 43 (codes "DS") ∷
    code_row 44 (codes "SSHFP") ∷
    code_row 45 (codes "IPSECKEY") ∷
    code_row 46 (codes "RRSIG") ∷
    code_row 47 (codes "NSEC") ∷
    code_row 48 (codes "DNSKEY") ∷
    code_row 49 (codes "DHCID") ∷
    code_row 50 (codes "NSEC3") ∷
    code_row 51 (codes "NSEC3PARAM") ∷
    code_row 52 (codes "TLSA") ∷
    code_row 53 (codes "SMIMEA") ∷
    code_row 55 (codes "HIP") ∷
    code_row 56 (codes "NINFO") ∷
    code_row 57 (codes "RKEY") ∷
    code_row 58 (codes "TALINK") ∷
    code_row 59 (codes "CDS") ∷
    code_row 60 (codes "CDNSKEY") ∷
    code_row 61 (codes "OPENPGPKEY") ∷
    code_row 62 (codes "CSYNC") ∷
    code_row 63 (codes "ZONEMD") ∷
    code_row 64 (codes "SVCB") ∷
    code_row 65 (codes "HTTPS") ∷
    code_row 66 (codes "DSYNC") ∷
    code_row 67 (codes "HHIT") ∷
    code_row 68 (codes "BRID") ∷
    code_row 99 (codes "SPF") ∷
    code_row 100 (codes "UINFO") ∷
    code_row 101 (codes "UID") ∷
    code_row 102 (codes "GID") ∷
    code_row 103 (codes "UNSPEC") ∷
    code_row 104 (codes "NID") ∷
    code_row 105 (codes "L32") ∷
    code_row 106 (codes "L64") ∷
    code_row 107 (codes "LP") ∷
    code_row 108 (codes "EUI48") ∷
    code_row 109 (codes "EUI64") ∷
    code_row 128 (codes "NXNAME") ∷
    code_row 249 (codes "TKEY") ∷
    code_row 250 (codes "TSIG") ∷
    code_row 251 (codes "IXFR") ∷
    code_row 252 (codes "AXFR") ∷
    code_row 253 (codes "MAILB") ∷
    code_row 254 (codes "MAILA") ∷
    code_row 255 (codes "ANY") ∷
    code_row 256 (codes "URI") ∷
    code_row 257 (codes "CAA") ∷
    code_row 258 (codes "AVC") ∷
    code_row 259 (codes "DOA") ∷
    code_row 260 (codes "AMTRELAY") ∷
    code_row 261 (codes "RESINFO") ∷
    code_row 262 (codes "WALLET") ∷
    code_row 263 (codes "CLA") ∷
    code_row 264 (codes "IPN") ∷
    code_row 32768 (codes "TA") ∷
    code_row 32769 (codes "DLV") ∷
    []

-- a type's name in any case, or `TYPE` and its code
abbrev pub SpellsType : List ℕ → RecordType → Type 0
SpellsType text t = SpellsCode type_rows type_prefix 65535 text t

abbrev pub type_text : RecordType → List ℕ
type_text t = code_text type_rows type_prefix t

abbrev pub TypesAreKind : Type 0
TypesAreKind = IsKind (λ t. t < 2 ^ 16) SpellsType type_text

-- ---- types in type bitmaps, in RRSIG and SIG, and before the generic form

-- the types whose names every reader knows: A, NS, CNAME, SOA, PTR, HINFO, MINFO, MX, TXT, RP, AFSDB, RT, KEY, AAAA, LOC, SRV, NAPTR, KX, CERT, DNAME, APL, DS, SSHFP, IPSECKEY, RRSIG, NSEC, DNSKEY, DHCID, NSEC3, NSEC3PARAM, TLSA, SMIMEA, CDS, CDNSKEY, OPENPGPKEY, CSYNC, ZONEMD, SVCB, HTTPS, SPF, NID, L32, L64, LP, EUI48, EUI64, URI and CAA
abbrev pub portable_types : List ℕ
portable_types =
    1 ∷ 2 ∷ 5 ∷ 6 ∷ 12 ∷ 13 ∷ 14 ∷ 15 ∷ 16 ∷ 17 ∷ 18 ∷ 21 ∷ 25 ∷ 28 ∷ 29 ∷ 33 ∷ 35 ∷ 36 ∷ 37 ∷ 39 ∷ 42 ∷ 43 ∷ 44 ∷ 45 ∷ 46 ∷ 47 ∷ 48 ∷ 49 ∷ 50 ∷ 51 ∷ 52 ∷ 53
    ∷ 59 ∷ 60 ∷ 61 ∷ 62 ∷ 63 ∷ 64 ∷ 65 ∷ 99 ∷ 104 ∷ 105 ∷ 106 ∷ 107 ∷ 108 ∷ 109 ∷ 256 ∷ 257 ∷ []

abbrev pub is_portable : ℕ → Bool
is_portable code = list_any (λ t. t == code) portable_types

-- the name of such a type, and of any other `TYPE` and its code (RFC 3597 section 5)
abbrev pub portable_text : RecordType → List ℕ
portable_text t = if is_portable t then type_text t else type_prefix ++ decimal t

abbrev pub SpellsPortable : List ℕ → PortableType → Type 0
SpellsPortable text t = SpellsType text t.0

abbrev pub PortableTypesAreKind : Type 0
PortableTypesAreKind = IsKind (λ t. t.0 < 2 ^ 16) SpellsPortable (λ t. portable_text t.0)

-- ---- the type that a SIG covers

-- a text of a type, or its code alone
abbrev pub SpellsSigType : List ℕ → SigType → Type 0
SpellsSigType text t = SpellsType text t.0 ⊎ (SpellsNumber text t.0 × (t.0 ≤ 65535))

-- type 0 is a digit; it is covered if a SIG is one of a message (RFC 2931 section 3)
abbrev pub sig_type_text : RecordType → List ℕ
sig_type_text t = if t == 0 then codes "0" else portable_text t

abbrev pub SigTypesAreKind : Type 0
SigTypesAreKind = IsKind (λ t. t.0 < 2 ^ 16) SpellsSigType (λ t. sig_type_text t.0)
