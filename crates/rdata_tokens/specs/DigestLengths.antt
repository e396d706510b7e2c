-- Lengths of digests, by the number before them.
use Rattle.std.specs.Prelude.{ℕ, ◌≡◌, ◌≤◌, ◌==◌, List, [], ◌∷◌, MatchOption, unwrap_or}
use Rattle.std.specs.Map.{lookup}
use Rattle.rdata_tokens.specs.declared.digests.Digests.{Digests}
use Rattle.rdata_tokens.specs.declared.digests.Digests.TheVariants.{Ds, Sshfp, Zonemd}

-- the numbers that a registry has, with the lengths of their digests: RFC 4034, 4509, 5933, 6605, 9558 and 9563; RFC 4255 and 6594; RFC 8976
abbrev pub digest_rows : Digests → List (ℕ × ℕ)
digest_rows Ds = (1, 20) ∷ (2, 32) ∷ (3, 32) ∷ (4, 48) ∷ (5, 32) ∷ (6, 32) ∷ []
digest_rows Sshfp = (1, 20) ∷ (2, 32) ∷ []
digest_rows Zonemd = (1, 48) ∷ (2, 64) ∷ []

-- the least length of a digest with another number
abbrev pub least_digest : Digests → ℕ
least_digest Ds = 1
least_digest Sshfp = 1
least_digest Zonemd = 12

-- a digest with this number may have this length
abbrev pub IsDigestLength : Digests → ℕ → ℕ → Type 0
IsDigestLength digests number octets = MatchOption (lookup (λ n. n == number) (digest_rows digests)) (least_digest digests ≤ octets) (λ length. octets ≡ length)

-- the length that a digest with a number must have: the one that the registry states, or the least length if it does not have the number
abbrev pub wanted_digest : Digests → ℕ → ℕ
wanted_digest digests number = unwrap_or (lookup (λ n. n == number) (digest_rows digests)) (least_digest digests)
