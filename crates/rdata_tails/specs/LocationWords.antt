-- The octets that a location can have, and the words that it prints as.
use Rattle.std.specs.Prelude.{ℕ, ◌≡◌, ◌<◌, ◌≤◌, ◌+◌, ◌-◌, ◌*◌, ◌/◌, ◌%◌, ◌^◌, nat_lt, false, if◌then◌else◌, List, [], ◌∷◌, ◌++◌, codes, decimal, map, Option, MatchOption}
use Rattle.dns_lexer.specs.EntryTokens.{TokenSeen}
use Rattle.rdata_tails.specs.declared.angles.Axis.{Axis}
use Rattle.rdata_tails.specs.declared.angles.Axis.TheVariants.{Latitude, Longitude}
use Rattle.rdata_tails.specs.declared.location.Location.{Location}
use Rattle.rdata_tails.specs.declared.location.Sizes.{Sizes}
use Rattle.rdata_tails.specs.declared.location_text.LocationWord.{LocationWord}
use Rattle.rdata_tails.specs.declared.location_text.LocationWord.TheVariants.{Number, Seconds, North, South, East, West, Altitude, Size}
use Rattle.rdata_tails.specs.Locations.{most_angle, upper_side, lower_side, location_octets, SpellsLocation}

-- ---- octets

-- an angle that is not too great on either side
abbrev pub IsAngleNumber : Axis → ℕ → Type 0
IsAngleNumber axis number = (2 ^ 31 ≤ number + most_angle axis) × (number ≤ 2 ^ 31 + most_angle axis)

-- a digit, and the number of digits after it, which is 0 after a 0
abbrev pub IsSize : ℕ → Type 0
IsSize octet = (octet / 16 ≤ 9) × (octet % 16 ≤ 9) × (octet / 16 ≡ 0 → octet % 16 ≡ 0)

pub record ArePossible (s : Sizes) : Type 0 where
  pub size : IsSize s.size
  pub horizontal : IsSize s.horizontal
  pub vertical : IsSize s.vertical

pub record IsPossible (l : Location) : Type 0 where
  pub sizes : ArePossible l.sizes
  pub latitude : IsAngleNumber Latitude l.latitude
  pub longitude : IsAngleNumber Longitude l.longitude
  pub altitude : l.altitude < 2 ^ 32

-- octets of a location
abbrev pub IsLocation : List ℕ → Location → Type 0
IsLocation octets l = IsPossible l × (octets ≡ location_octets l)

-- ---- words

-- the angle from the equator or the prime meridian, on either side
abbrev pub angle_from : ℕ → ℕ
angle_from number = (number - 2 ^ 31) + (2 ^ 31 - number)

abbrev pub side_word : Axis → ℕ → List ℕ
side_word axis number = if nat_lt number (2 ^ 31) then lower_side axis else upper_side axis

-- hundredths or thousandths after the point
abbrev pub two_places : ℕ → List ℕ
two_places n = decimal (n / 10) ++ decimal (n % 10)

abbrev pub three_places : ℕ → List ℕ
three_places n = decimal (n / 100) ++ two_places (n % 100)

abbrev pub seconds_word : ℕ → List ℕ
seconds_word n = decimal (n / 1000) ++ 46 ∷ three_places (n % 1000)

abbrev pub metres_word : ℕ → List ℕ
metres_word n = decimal (n / 100) ++ 46 ∷ (two_places (n % 100) ++ 109 ∷ [])

abbrev pub altitude_word : ℕ → List ℕ
altitude_word number = if nat_lt number 10000000 then 45 ∷ metres_word (10000000 - number) else metres_word (number - 10000000)

-- whole metres without a point, and less than a metre with one
abbrev pub size_word : ℕ → List ℕ
size_word octet = if nat_lt (octet % 16) 2 then metres_word (octet / 16 * 10 ^ (octet % 16)) else decimal (octet / 16 * 10 ^ (octet % 16 - 2)) ++ 109 ∷ []

abbrev pub angle_words : Axis → ℕ → List (List ℕ)
angle_words axis number =
    let angle = angle_from number in
    decimal (angle / 3600000) ∷ decimal (angle / 60000 % 60) ∷ seconds_word (angle % 60000) ∷ side_word axis number ∷ []

-- the twelve words of a location
abbrev pub location_words : Location → List (List ℕ)
location_words l = angle_words Latitude l.latitude ++ angle_words Longitude l.longitude ++ altitude_word l.altitude ∷ size_word l.sizes.size ∷ size_word l.sizes.horizontal ∷ size_word l.sizes.vertical ∷ []

abbrev pub word_text : LocationWord → List ℕ
word_text (Number n) = decimal n
word_text (Seconds n) = seconds_word n
word_text North = codes "N"
word_text South = codes "S"
word_text East = codes "E"
word_text West = codes "W"
word_text (Altitude n) = altitude_word n
word_text (Size o) = size_word o

-- octets are a location; or are not one
abbrev pub HasLocation : List ℕ → Type 0
HasLocation octets = (l : Location) × IsLocation octets l

abbrev pub LacksLocation : List ℕ → Type 0
LacksLocation octets = (l : Location) → IsLocation octets l → ⊥

-- the numbers of octets, found if they are those of any
abbrev pub FindsNumbers : List ℕ → Option Location → Type 0
FindsNumbers octets r = MatchOption r ((l : Location) → octets ≡ location_octets l → ⊥) (λ l. octets ≡ location_octets l)

-- the words of the location of octets, found if they are those of one
abbrev pub AreWordsOf : List ℕ → List LocationWord → Type 0
AreWordsOf octets words = (l : Location) × IsLocation octets l × (map word_text words ≡ location_words l)

-- some tokens spell these octets; or none do
abbrev pub IsSpelledLocation : List ℕ → Type 0
IsSpelledLocation octets = (tokens : List TokenSeen) × SpellsLocation tokens octets

abbrev pub IsUnspelled : List ℕ → Type 0
IsUnspelled octets = (tokens : List TokenSeen) → SpellsLocation tokens octets → ⊥

-- ---- laws

-- tokens without quotes that hold these words
abbrev pub AreWords : List TokenSeen → List (List ℕ) → Type 0
AreWords [] [] = Unit {0}
AreWords (t ∷ ts) (w ∷ ws) = (t.is_quoted ≡ false) × (t.text ≡ w) × AreWords ts ws
AreWords [] (w ∷ ws) = ⊥
AreWords (t ∷ ts) [] = ⊥

-- What a location prints as spells it, and tokens spell the octets of one location at most. Those
-- are octets that a location can have.
pub record LocationsAreRead : Type 0 where
  pub spelled : (octets : List ℕ) (l : Location) (tokens : List TokenSeen) → IsLocation octets l → AreWords tokens (location_words l) → SpellsLocation tokens octets
  pub once : (tokens : List TokenSeen) (a b : List ℕ) → SpellsLocation tokens a → SpellsLocation tokens b → a ≡ b
  pub valid : (tokens : List TokenSeen) (octets : List ℕ) → SpellsLocation tokens octets → (l : Location) × IsLocation octets l
  pub one : (octets : List ℕ) (l m : Location) → IsLocation octets l → IsLocation octets m → l ≡ m
