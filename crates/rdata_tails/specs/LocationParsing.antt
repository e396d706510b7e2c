-- How a location is parsed from the tokens of an entry, part by part.
use Rattle.std.specs.Prelude.{ℕ, ◌≡◌, ◌≤◌, ◌⊎◌, List, [], Option, MatchOption, Result, Ok, Err}
use Rattle.dns_octets.specs.Room.{Room}
use Rattle.dns_octets.specs.Appending.{ExceedsRoom}
use Rattle.dns_lexer.specs.EntryTokens.{TokenSeen}
use Rattle.rdata_fields.specs.RecordErrors.{IsErrorAt}
use Rattle.rdata_fields.specs.Source.{next_place}
use Rattle.rdata_fields.specs.declared.record_error.RecordError.{RecordError}
use Rattle.rdata_tails.specs.declared.angles.Axis.{Axis}
use Rattle.rdata_tails.specs.declared.angles.Axis.TheVariants.{Latitude, Longitude}
use Rattle.rdata_tails.specs.declared.location.Location.{Location}
use Rattle.rdata_tails.specs.declared.location.Part.{Part}
use Rattle.rdata_tails.specs.declared.location.Part.TheVariants.{Degrees, Minutes, Seconds, Side, Altitude, Size}
use Rattle.rdata_tails.specs.declared.location.Sizes.{Sizes}
use Rattle.rdata_values.specs.declared.error.ErrorKind.{ErrorKind}
use Rattle.rdata_values.specs.declared.error.ErrorKind.TheVariants.{ExpectedLatitude, ExpectedLongitude, ExpectedAltitude, ExpectedSize, ExpectedEnd, ShortBuf}
use Rattle.rdata_tails.specs.LocationPlaces.{IsFirstRefused}
use Rattle.rdata_tails.specs.Locations.{most_angle, SpellsDegrees, SpellsMinutes, SpellsSeconds, SpellsSide, SpellsAltitude, SpellsSize, BeginsWithWord, ContinuesWithSeconds, ContinuesWithMinutes, BeginsWithAngle, BeginsWithSize, AreSizes, AreLocation, SpellsLocation}

-- a word of a part spells a number
abbrev pub SpellsPart : Part → List ℕ → ℕ → Type 0
SpellsPart (Degrees axis) text n = SpellsDegrees axis text n
SpellsPart (Minutes axis before) text n = SpellsMinutes axis before text n
SpellsPart (Seconds axis before) text n = SpellsSeconds axis before text n
SpellsPart (Side axis angle) text n = SpellsSide axis angle text n
SpellsPart Altitude text n = SpellsAltitude text n
SpellsPart Size text n = SpellsSize text n

-- the angle before is not greater than an angle can be
abbrev pub IsBounded : Part → Type 0
IsBounded (Degrees axis) = Unit {0}
IsBounded (Minutes axis before) = before ≤ most_angle axis
IsBounded (Seconds axis before) = before ≤ most_angle axis
IsBounded (Side axis angle) = angle ≤ most_angle axis
IsBounded Altitude = Unit {0}
IsBounded Size = Unit {0}

-- tokens don't begin with such a word
abbrev pub LacksWord : (List ℕ → ℕ → Type 0) → List TokenSeen → Type 0
LacksWord Spells tokens = (n : ℕ) (rest : List TokenSeen) → BeginsWithWord Spells tokens n rest → ⊥

-- the next token is such a part, or not
abbrev pub FindsNext : Part → List TokenSeen → Option ℕ → Type 0
FindsNext part tokens r = MatchOption r (LacksWord (SpellsPart part) tokens) (λ n. (rest : List TokenSeen) × BeginsWithWord (SpellsPart part) tokens n rest)

-- the next token is a part, and is read; or it is not a part, and is not read
abbrev pub ParsesLocationWord : Part → List TokenSeen → Option ℕ → List TokenSeen → Type 0
ParsesLocationWord part tokens r left = MatchOption r ((left ≡ tokens) × LacksWord (SpellsPart part) tokens) (λ n. BeginsWithWord (SpellsPart part) tokens n left)

-- ---- the part of an angle that is wrong

-- at its seconds; or after them, if there is no side
abbrev pub StopsInSeconds : Axis → ℕ → List TokenSeen → List TokenSeen → Type 0
StopsInSeconds axis before tokens left =
    ((left ≡ tokens) × LacksWord (SpellsSeconds axis before) tokens) ⊎ ((angle : ℕ) × BeginsWithWord (SpellsSeconds axis before) tokens angle left × LacksWord (SpellsSide axis angle) left)

-- at its minutes; or after them, if there is no side and no seconds with a side
abbrev pub StopsInMinutes : Axis → ℕ → List TokenSeen → List TokenSeen → Type 0
StopsInMinutes axis before tokens left =
    ((left ≡ tokens) × LacksWord (SpellsMinutes axis before) tokens)
    ⊎ ((angle : ℕ) × (more : List TokenSeen) × BeginsWithWord (SpellsMinutes axis before) tokens angle more × LacksWord (SpellsSide axis angle) more × StopsInSeconds axis angle more left)

-- at its degrees; or after them, if there is no side and no minutes with a side
abbrev pub StopsInAngle : Axis → List TokenSeen → List TokenSeen → Type 0
StopsInAngle axis tokens left =
    ((left ≡ tokens) × LacksWord (SpellsDegrees axis) tokens)
    ⊎ ((angle : ℕ) × (more : List TokenSeen) × BeginsWithWord (SpellsDegrees axis) tokens angle more × LacksWord (SpellsSide axis angle) more × StopsInMinutes axis angle more left)

abbrev pub ParsesSeconds : Axis → ℕ → List TokenSeen → Option ℕ → List TokenSeen → Type 0
ParsesSeconds axis before tokens r left = MatchOption r (StopsInSeconds axis before tokens left) (λ n. ContinuesWithSeconds axis before tokens n left)

abbrev pub ParsesMinutes : Axis → ℕ → List TokenSeen → Option ℕ → List TokenSeen → Type 0
ParsesMinutes axis before tokens r left = MatchOption r (StopsInMinutes axis before tokens left) (λ n. ContinuesWithMinutes axis before tokens n left)

abbrev pub ParsesAngle : Axis → List TokenSeen → Option ℕ → List TokenSeen → Type 0
ParsesAngle axis tokens r left = MatchOption r (StopsInAngle axis tokens left) (λ n. BeginsWithAngle axis tokens n left)

-- ---- sizes

-- the next token is not a size
abbrev pub StopsAtSize : List TokenSeen → Type 0
StopsAtSize tokens = (tokens ≡ [] → ⊥) × LacksWord SpellsSize tokens

abbrev pub ParsesSize : ℕ → List TokenSeen → Option ℕ → List TokenSeen → Type 0
ParsesSize usual tokens r left = MatchOption r ((left ≡ tokens) × StopsAtSize tokens) (λ n. BeginsWithSize usual tokens n left)

-- the rejected size: a token that is not a size, after none, one or two sizes
abbrev pub StopsInSizes : List TokenSeen → List TokenSeen → Type 0
StopsInSizes tokens left = StopsAtSize left × ((left ≡ tokens) ⊎ ((size : ℕ) × (more : List TokenSeen) × BeginsWithWord SpellsSize tokens size more × ((left ≡ more) ⊎ ((horizontal : ℕ) × BeginsWithWord SpellsSize more horizontal left))))

-- three sizes, and then more tokens
abbrev pub HasTokensAfterSizes : List TokenSeen → List TokenSeen → Type 0
HasTokensAfterSizes tokens left =
    (left ≡ [] → ⊥) × (size : ℕ) × (more : List TokenSeen) × (horizontal : ℕ) × (most : List TokenSeen) × (vertical : ℕ) × BeginsWithWord SpellsSize tokens size more × BeginsWithWord SpellsSize more horizontal most × BeginsWithWord SpellsSize most vertical left

-- why sizes are rejected, and which tokens are then unread
abbrev pub RefusesSizes : ErrorKind → List TokenSeen → List TokenSeen → Type 0
RefusesSizes ExpectedSize tokens left = StopsInSizes tokens left
RefusesSizes ExpectedEnd tokens left = HasTokensAfterSizes tokens left
RefusesSizes _ tokens left = ⊥

abbrev pub ParsesSizes : List TokenSeen → Result Sizes ErrorKind → List TokenSeen → Type 0
ParsesSizes tokens (Ok s) left = (left ≡ []) × AreSizes tokens s
ParsesSizes tokens (Err e) left = RefusesSizes e tokens left

-- ---- the whole

-- tokens begin with a latitude and a longitude
abbrev pub BeginsWithAngles : List TokenSeen → List TokenSeen → Type 0
BeginsWithAngles tokens rest = (latitude : ℕ) × (longitude : ℕ) × (more : List TokenSeen) × BeginsWithAngle Latitude tokens latitude more × BeginsWithAngle Longitude more longitude rest

-- tokens begin with these and an altitude
abbrev pub BeginsWithPoint : List TokenSeen → List TokenSeen → Type 0
BeginsWithPoint tokens rest = (altitude : ℕ) × (more : List TokenSeen) × BeginsWithAngles tokens more × BeginsWithWord SpellsAltitude more altitude rest

-- Why tokens are rejected as a location, and which are then unread: the first part that is wrong.
abbrev pub RefusesTokens : ErrorKind → List TokenSeen → List TokenSeen → Type 0
RefusesTokens ExpectedLatitude tokens left = StopsInAngle Latitude tokens left
RefusesTokens ExpectedLongitude tokens left = (latitude : ℕ) × (more : List TokenSeen) × BeginsWithAngle Latitude tokens latitude more × StopsInAngle Longitude more left
RefusesTokens ExpectedAltitude tokens left = BeginsWithAngles tokens left × LacksWord SpellsAltitude left
RefusesTokens ExpectedSize tokens left = (more : List TokenSeen) × BeginsWithPoint tokens more × StopsInSizes more left
RefusesTokens ExpectedEnd tokens left = (more : List TokenSeen) × BeginsWithPoint tokens more × HasTokensAfterSizes more left
RefusesTokens _ tokens left = ⊥

-- all tokens are parsed as a location; or they are rejected
abbrev pub ParsesLocation : List TokenSeen → Result Location ErrorKind → List TokenSeen → Type 0
ParsesLocation tokens (Ok l) left = (left ≡ []) × AreLocation tokens l
ParsesLocation tokens (Err e) left = RefusesTokens e tokens left

-- Why the octets of a location were not appended. Either the tokens spell none: the first unread
-- token, or the entry's end, is the first that is wrong, for this reason. Or they spell one,
-- whose octets don't surely fit.
abbrev pub RefusesAll : Room → List TokenSeen → List TokenSeen → List ℕ → ErrorKind → Type 0
RefusesAll room tokens left old e =
    (RefusesTokens e tokens left × IsFirstRefused tokens left × ((octets : List ℕ) → SpellsLocation tokens octets → ⊥))
    ⊎ ((e ≡ ShortBuf) × (left ≡ []) × ExceedsRoom room (SpellsLocation tokens) old)

-- the error's offset is that of the first unread token, or of the entry's end
abbrev pub RefusesLocation : Room → ℕ → List TokenSeen → List TokenSeen → List ℕ → RecordError → Type 0
RefusesLocation room end tokens left old r = IsErrorAt (next_place left end) r × RefusesAll room tokens left old r.kind
