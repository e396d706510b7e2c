-- Algorithms of keys and signatures, and certificate types, as IANA's registries have them.
use Rattle.std.specs.Prelude.{ℕ, ◌<◌, ◌^◌, List, [], ◌∷◌, codes, decimal}
use Rattle.rdata_values.specs.Kind.{IsKind}
use Rattle.rdata_values.specs.Registry.{Row, code_row, SpellsCode, code_text}
use Rattle.rdata_values.specs.declared.algorithms.Algorithm.{Algorithm}
use Rattle.rdata_values.specs.declared.algorithms.CertificateType.{CertificateType}

abbrev pub algorithm_rows : List Row
algorithm_rows =
    code_row 1 (codes "RSAMD5") ∷
    code_row 2 (codes "DH") ∷
    code_row 3 (codes "DSA") ∷
    code_row 5 (codes "RSASHA1") ∷
    code_row 6 (codes "DSA-NSEC3-SHA1") ∷
    code_row 7 (codes "RSASHA1-NSEC3-SHA1") ∷
    code_row 8 (codes "RSASHA256") ∷
    code_row 10 (codes "RSASHA512") ∷
    code_row 12 (codes "ECC-GOST") ∷
    code_row 13 (codes "ECDSAP256SHA256") ∷
    code_row 14 (codes "ECDSAP384SHA384") ∷
    code_row 15 (codes "ED25519") ∷
    code_row 16 (codes "ED448") ∷
    code_row 17 (codes "SM2SM3") ∷
    code_row 23 (codes "ECC-GOST12") ∷
    code_row 252 (codes "INDIRECT") ∷
    code_row 253 (codes "PRIVATEDNS") ∷
    code_row 254 (codes "PRIVATEOID") ∷
    -- as BIND writes them
    code_row 6 (codes "NSEC3DSA") ∷
    code_row 7 (codes "NSEC3RSASHA1") ∷
    code_row 12 (codes "ECCGOST") ∷
    []

abbrev pub certificate_rows : List Row
certificate_rows =
    code_row 1 (codes "PKIX") ∷
    code_row 2 (codes "SPKI") ∷
    code_row 3 (codes "PGP") ∷
    code_row 4 (codes "IPKIX") ∷
    code_row 5 (codes "ISPKI") ∷
    code_row 6 (codes "IPGP") ∷
    code_row 7 (codes "ACPKIX") ∷
    code_row 8 (codes "IACPKIX") ∷
    code_row 253 (codes "URI") ∷
    code_row 254 (codes "OID") ∷
    []

-- an algorithm's name in any case, or its number
abbrev pub SpellsAlgorithm : List ℕ → Algorithm → Type 0
SpellsAlgorithm text a = SpellsCode algorithm_rows [] 255 text a.0

-- it prints as its number
abbrev pub AlgorithmsAreKind : Type 0
AlgorithmsAreKind = IsKind (λ a. a.0 < 2 ^ 8) SpellsAlgorithm (λ a. decimal a.0)

abbrev pub SpellsCertificate : List ℕ → CertificateType → Type 0
SpellsCertificate text t = SpellsCode certificate_rows [] 65535 text t.0

abbrev pub certificate_text : CertificateType → List ℕ
certificate_text t = code_text certificate_rows [] t.0

abbrev pub CertificatesAreKind : Type 0
CertificatesAreKind = IsKind (λ t. t.0 < 2 ^ 16) SpellsCertificate certificate_text
