-- Locations (RFC 1876): words of a latitude, a longitude, an altitude and sizes, and their octets.
use Rattle.std.specs.Prelude.{ℕ, ◌≡◌, ◌<◌, ◌≤◌, ◌+◌, ◌*◌, ◌^◌, ◌⊎◌, false, List, [], ◌∷◌, ◌++◌, codes, Option, MatchOption}
use Rattle.std.specs.Int.{to_be_bytes, w32}
use Rattle.rdata_values.specs.Numbers.{SpellsNumber}
use Rattle.dns_lexer.specs.EntryTokens.{TokenSeen}
use Rattle.rdata_tails.specs.Decimals.{SpellsDecimal, SpellsLength}
use Rattle.rdata_tails.specs.declared.angles.Axis.{Axis}
use Rattle.rdata_tails.specs.declared.angles.Axis.TheVariants.{Latitude, Longitude}
use Rattle.rdata_tails.specs.declared.location.Location.{Location}
use Rattle.rdata_tails.specs.declared.location.Sizes.{Sizes}

-- ---- words

abbrev pub most_degrees : Axis → ℕ
most_degrees Latitude = 90
most_degrees Longitude = 180

-- angles are in thousandths of a second
abbrev pub most_angle : Axis → ℕ
most_angle axis = most_degrees axis * 3600000

-- the side on which an angle is added, and that on which it is subtracted
abbrev pub upper_side : Axis → List ℕ
upper_side Latitude = codes "N"
upper_side Longitude = codes "E"

abbrev pub lower_side : Axis → List ℕ
lower_side Latitude = codes "S"
lower_side Longitude = codes "W"

-- degrees in decimal, up to the greatest of the axis
abbrev pub SpellsDegrees : Axis → List ℕ → ℕ → Type 0
SpellsDegrees axis text angle = (degrees : ℕ) × SpellsNumber text degrees × (angle ≡ degrees * 3600000) × (angle ≤ most_angle axis)

-- minutes below 60, with the degrees before them
abbrev pub SpellsMinutes : Axis → ℕ → List ℕ → ℕ → Type 0
SpellsMinutes axis before text angle = (minutes : ℕ) × SpellsNumber text minutes × (minutes < 60) × (angle ≡ before + minutes * 60000) × (angle ≤ most_angle axis)

-- seconds below 60, with at most three digits after the point, and the degrees and minutes before them
abbrev pub SpellsSeconds : Axis → ℕ → List ℕ → ℕ → Type 0
SpellsSeconds axis before text angle = (seconds : ℕ) × SpellsDecimal 3 text seconds × (seconds < 60000) × (angle ≡ before + seconds) × (angle ≤ most_angle axis)

-- the number of an angle on a side: 2^31 is the equator or the prime meridian
abbrev pub SpellsSide : Axis → ℕ → List ℕ → ℕ → Type 0
SpellsSide axis angle text number = ((text ≡ upper_side axis) × (number ≡ 2 ^ 31 + angle)) ⊎ ((text ≡ lower_side axis) × (number + angle ≡ 2 ^ 31))

-- An altitude is in centimetres from 100000 m below the reference spheroid. It is written in metres
-- above that, or below it after a `-`.
abbrev pub SpellsHeight : List ℕ → ℕ → Type 0
SpellsHeight text number = (above : ℕ) × SpellsLength text above × (number ≡ 10000000 + above)

abbrev pub SpellsDepth : List ℕ → ℕ → Type 0
SpellsDepth text number = (below : ℕ) × SpellsLength text below × (number + below ≡ 10000000)

abbrev pub SpellsAltitude : List ℕ → ℕ → Type 0
SpellsAltitude text number = (number < 2 ^ 32) × (SpellsHeight text number ⊎ ((rest : List ℕ) × (((text ≡ 43 ∷ rest) × SpellsHeight rest number) ⊎ ((text ≡ 45 ∷ rest) × SpellsDepth rest number))))

-- the first digit of a number in decimal, and how many digits follow it
pub record HasFirstDigit (n digit behind : ℕ) : Type 0 where
  pub is_digit : digit ≤ 9
  pub least : digit * 10 ^ behind ≤ n
  pub most : n < (digit + 1) * 10 ^ behind
  pub zero : digit ≡ 0 → behind ≡ 0

-- both, in half an octet each
abbrev pub IsSizeOctet : ℕ → ℕ → Type 0
IsSizeOctet n octet = (digit : ℕ) × (behind : ℕ) × HasFirstDigit n digit behind × (octet ≡ digit * 16 + behind)

-- a size below 90000001 m, by the first digit of its centimetres
abbrev pub SpellsSize : List ℕ → ℕ → Type 0
SpellsSize text octet = (n : ℕ) × SpellsLength text n × (n < 9000000100) × IsSizeOctet n octet

-- ---- tokens

-- tokens begin with one without quotes that spells a number, and these others follow
abbrev pub BeginsWithWord : (List ℕ → ℕ → Type 0) → List TokenSeen → ℕ → List TokenSeen → Type 0
BeginsWithWord Spells tokens number rest = (t : TokenSeen) × (tokens ≡ t ∷ rest) × (t.is_quoted ≡ false) × Spells t.text number

-- An angle is `d1 [m1 [s1]] {"N"|"S"}` or `d2 [m2 [s2]] {"E"|"W"}`. So after minutes may come
-- seconds and a side,
abbrev pub ContinuesWithSeconds : Axis → ℕ → List TokenSeen → ℕ → List TokenSeen → Type 0
ContinuesWithSeconds axis before tokens number rest =
    (angle : ℕ) × (side : List TokenSeen) × BeginsWithWord (SpellsSeconds axis before) tokens angle side × BeginsWithWord (SpellsSide axis angle) side number rest

-- after degrees may come minutes and a side, or minutes and those seconds,
abbrev pub ContinuesWithMinutes : Axis → ℕ → List TokenSeen → ℕ → List TokenSeen → Type 0
ContinuesWithMinutes axis before tokens number rest =
    (angle : ℕ) × (more : List TokenSeen) × BeginsWithWord (SpellsMinutes axis before) tokens angle more × (BeginsWithWord (SpellsSide axis angle) more number rest ⊎ ContinuesWithSeconds axis angle more number rest)

-- and tokens begin with degrees, and a side or those minutes
abbrev pub BeginsWithAngle : Axis → List TokenSeen → ℕ → List TokenSeen → Type 0
BeginsWithAngle axis tokens number rest =
    (angle : ℕ) × (more : List TokenSeen) × BeginsWithWord (SpellsDegrees axis) tokens angle more × (BeginsWithWord (SpellsSide axis angle) more number rest ⊎ ContinuesWithMinutes axis angle more number rest)

-- tokens begin with a size; or there are none, and this is the usual size
abbrev pub BeginsWithSize : ℕ → List TokenSeen → ℕ → List TokenSeen → Type 0
BeginsWithSize usual tokens octet rest = BeginsWithWord SpellsSize tokens octet rest ⊎ ((tokens ≡ []) × (rest ≡ []) × (octet ≡ usual))

-- 1 m, 10000 m and 10 m
abbrev pub usual_size : ℕ
usual_size = 0x12

abbrev pub usual_horizontal : ℕ
usual_horizontal = 0x16

abbrev pub usual_vertical : ℕ
usual_vertical = 0x13

-- tokens are sizes, and no more follow
pub record AreSizes (tokens : List TokenSeen) (s : Sizes) : Type 0 where
  pub behind_size : List TokenSeen
  pub behind_horizontal : List TokenSeen
  pub size : BeginsWithSize usual_size tokens s.size behind_size
  pub horizontal : BeginsWithSize usual_horizontal behind_size s.horizontal behind_horizontal
  pub vertical : BeginsWithSize usual_vertical behind_horizontal s.vertical []

-- tokens are a latitude, a longitude, an altitude and sizes
pub record AreLocation (tokens : List TokenSeen) (l : Location) : Type 0 where
  pub behind_latitude : List TokenSeen
  pub behind_longitude : List TokenSeen
  pub behind_altitude : List TokenSeen
  pub latitude : BeginsWithAngle Latitude tokens l.latitude behind_latitude
  pub longitude : BeginsWithAngle Longitude behind_latitude l.longitude behind_longitude
  pub altitude : BeginsWithWord SpellsAltitude behind_longitude l.altitude behind_altitude
  pub sizes : AreSizes behind_altitude l.sizes

-- ---- octets

-- version 0, the sizes, and the numbers in four octets each
abbrev pub location_octets : Location → List ℕ
location_octets l = 0 ∷ l.sizes.size ∷ l.sizes.horizontal ∷ l.sizes.vertical ∷ (to_be_bytes w32 l.latitude ++ to_be_bytes w32 l.longitude ++ to_be_bytes w32 l.altitude)

-- tokens spell a location of these octets
abbrev pub SpellsLocation : List TokenSeen → List ℕ → Type 0
SpellsLocation tokens octets = (l : Location) × AreLocation tokens l × (octets ≡ location_octets l)

-- ---- what is found

-- a number that the text spells, or it spells none
abbrev pub Finds : (List ℕ → ℕ → Type 0) → List ℕ → Option ℕ → Type 0
Finds Spells text r = MatchOption r ((n : ℕ) → Spells text n → ⊥) (Spells text)

-- a number below 2^32 that the text spells, or it spells none
abbrev pub FindsBelow : (List ℕ → ℕ → Type 0) → List ℕ → Option ℕ → Type 0
FindsBelow Spells text r = MatchOption r ((n : ℕ) → n < 2 ^ 32 → Spells text n → ⊥) (λ n. (n < 2 ^ 32) × Spells text n)
