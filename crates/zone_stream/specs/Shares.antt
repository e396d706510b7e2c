-- Equal shares of a file's octets.
use Rattle.std.specs.Prelude.{⊤, ◌≡◌, ◌≤◌, ◌<◌, ℕ, ◌+◌, ◌-◌, ◌/◌, min, max, Option, Some, None}

pub record SharesSeen : Type 0 where
  -- the number of shares, and the number of octets of each
  pub count : ℕ
  pub size : ℕ
  -- the share in which the last part began, and the number of parts that have begun
  pub last : Option ℕ
  pub begun : ℕ

abbrev pub shares_seen : ℕ → ℕ → Option ℕ → ℕ → SharesSeen
shares_seen count size last begun = record { count = count; size = size; last = last; begun = begun }

-- shares of equal size, the last of which includes the remainder, before any part has begun
abbrev pub no_shares : ℕ → ℕ → SharesSeen
no_shares octets count = record { count = max count 1; size = max (octets / max count 1) 1; last = None; begun = 0 }

-- the share of an octet; octets after the last share count as the last one's
abbrev pub share_of : SharesSeen → ℕ → ℕ
share_of s at = min (at / s.size) (s.count - 1)

-- no part has begun, or the last one began in an earlier share
abbrev pub IsBefore : Option ℕ → ℕ → Type 0
IsBefore None share = ⊤
IsBefore (Some last) share = last < share

abbrev pub MayBegin : SharesSeen → ℕ → Type 0
MayBegin s at = IsBefore s.last (share_of s at)

-- one more part has begun, in the octet's share
abbrev pub BeginsShare : SharesSeen → ℕ → SharesSeen → Type 0
BeginsShare s at t = t ≡ record { count = s.count; size = s.size; last = Some (share_of s at); begun = s.begun + 1 }

-- at most one part has begun for each share up to that of the last part
abbrev pub IsWithinLast : ℕ → ℕ → Option ℕ → Type 0
IsWithinLast begun count None = begun ≡ 0
IsWithinLast begun count (Some last) = (begun ≤ last + 1) × (last < count)

pub record AreWithin (s : SharesSeen) : Type 0 where
  pub some : 0 < s.count
  pub wide : 0 < s.size
  pub begun : IsWithinLast s.begun s.count s.last
