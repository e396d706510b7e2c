-- The hashed names of NSEC3 (RFC 5155 sections 3.3 and 5).
use Rattle.std.specs.Prelude.{ℕ, zero, suc, ◌==◌, ◌&&◌, nat_le, if◌then◌else◌, Option, Some, None, List, ◌∷◌, ◌++◌, length}
use Rattle.sha1.specs.Sha1.{sha1}
use Rattle.dns_codec.specs.Base.{base32hex, encoded}
use Rattle.dns_octets.specs.Lowered.{lowered}
use Rattle.dns_wire.specs.Wire.{wire, wire_length}

-- IH(salt, x, k): the digest of x and the salt, and then k times the digest of that and the salt
abbrev pub iterated_hash : List ℕ → List ℕ → ℕ → List ℕ
iterated_hash salt octets zero = sha1 (octets ++ salt)
iterated_hash salt octets (suc k) = sha1 (iterated_hash salt octets k ++ salt)

-- the octets of a name on the wire are hashed, with letters in lower case
abbrev pub name_hash : List ℕ → ℕ → List (List ℕ) → List ℕ
name_hash salt iterations name = iterated_hash salt (lowered (wire name)) iterations

-- the owner of the NSEC3 with a hash of 20 octets: the hash in base32hex, below the apex; `None` if the apex has more than 222 octets
abbrev pub hashed_owner : List (List ℕ) → List ℕ → Option (List (List ℕ))
hashed_owner origin hash = if length hash == 20 && nat_le (wire_length origin) 222 then Some (encoded base32hex hash ∷ origin) else None
