-- The key that a DS names, by its key tag, algorithm and digest (RFC 4034 section 5 and appendix B).
use Rattle.std.specs.Prelude.{ℕ, ◌==◌, ◌&&◌, ◌++◌, nat_eq, if◌then◌else◌, Bool, true, false, List, [], ◌∷◌}
use Rattle.std.specs.Cmp.Lexicographic.{pointwise}
use Rattle.std.specs.Int.{from_be_bytes, w16}
use Rattle.std.specs.Option.{option_map_or}
use Rattle.sha1.specs.Sha1.{sha1}
use Rattle.sha2.specs.Sha256.{sha256}
use Rattle.sha2.specs.Sha512.{sha384}
use Rattle.zone_dnssec.specs.ZoneKeys.{key_tag}

-- the digest of a message by digest type 1 (RFC 4034 appendix A.2), 2 (RFC 4509) or 4 (RFC 6605); of another type it is not computed, and may be right
abbrev pub is_digest_of : ℕ → List ℕ → List ℕ → Bool
is_digest_of digest_type message digest =
    if digest_type == 1 then pointwise nat_eq (sha1 message) digest
    else (if digest_type == 2 then pointwise nat_eq (sha256 message) digest else (if digest_type == 4 then pointwise nat_eq (sha384 message) digest else true))

-- data of a DNSKEY (flags of two octets, protocol, algorithm, key) with this key tag and algorithm
abbrev pub is_tagged_key : ℕ → ℕ → List ℕ → Bool
is_tagged_key tag algorithm [] = false
is_tagged_key tag algorithm (a ∷ []) = false
is_tagged_key tag algorithm (a ∷ b ∷ []) = false
is_tagged_key tag algorithm (a ∷ b ∷ c ∷ []) = false
is_tagged_key tag algorithm (high ∷ low ∷ protocol ∷ own ∷ key) =
    own == algorithm && option_map_or (λ known. known == tag) (key_tag own (high ∷ low ∷ protocol ∷ own ∷ key) key) false

-- data of a DS (key tag of two octets, algorithm, digest type, digest) fit those of a DNSKEY whose owner has these octets in lower case (RFC 4034 section 5.1.4)
abbrev pub ds_fits : List ℕ → List ℕ → List ℕ → Bool
ds_fits owner [] key = false
ds_fits owner (a ∷ []) key = false
ds_fits owner (a ∷ b ∷ []) key = false
ds_fits owner (a ∷ b ∷ c ∷ []) key = false
ds_fits owner (high ∷ low ∷ algorithm ∷ digest_type ∷ digest) key =
    is_tagged_key (from_be_bytes w16 (high ∷ low ∷ [])) algorithm key && is_digest_of digest_type (owner ++ key) digest
