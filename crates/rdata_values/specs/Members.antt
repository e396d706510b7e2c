-- A set of codes as the bits of 8192 octets.
use Rattle.std.specs.Prelude.{◌≡◌, ◌≢◌, ℕ, ◌+◌, ◌*◌, ◌%◌, ◌<◌, ◌≤◌, true, List}
use Rattle.rdata_values.specs.Bitmap.{bit_in, has, set_places}

-- the codes whose bits are set
abbrev pub members : List ℕ → List ℕ
members octets = set_places octets 0 65536

-- the end of the last window that has a code, or 0 if none has one
pub record EndsCodes (types : List ℕ) (end : ℕ) : Type 0 where
  pub whole : end % 256 ≡ 0
  pub last : end ≢ 0 → (code : ℕ) × (code < end) × (end ≤ code + 256) × (has types code ≡ true)

-- the first `windows` windows have all codes, and the last of them has one
pub record CoversCodes (octets : List ℕ) (windows : ℕ) : Type 0 where
  pub high : windows ≤ 256
  pub above : (code : ℕ) → code < 65536 → 256 * windows ≤ code → bit_in octets code ≡ 0
  pub some : windows ≢ 0 → (code : ℕ) × (code < 65536) × (256 * windows ≤ code + 256) × (bit_in octets code ≡ 1)
