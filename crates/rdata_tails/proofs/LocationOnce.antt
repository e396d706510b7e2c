-- Tokens spell one location at most, and none if they are rejected.
use Rattle.std.proofs.Common.{ℕ, ◌≡◌, ◌⊎◌, List, [], ◌∷◌, length, drop, sym, subst, arith, ap, ◌∙◌, inl, inr}
use Rattle.dns_lexer.specs.EntryTokens.{TokenSeen}
use Rattle.rdata_tails.specs.declared.angles.Axis.{Axis}
use Rattle.rdata_tails.specs.declared.angles.Axis.TheVariants.{Latitude, Longitude}
use Rattle.rdata_tails.specs.declared.location.Sizes.{Sizes}
use Rattle.rdata_tails.specs.declared.location.Location.{Location}
use Rattle.rdata_values.specs.declared.error.ErrorKind.{ErrorKind}
use Rattle.rdata_values.specs.declared.error.ErrorKind.TheVariants.{ExpectedLatitude, ExpectedLongitude, ExpectedAltitude, ExpectedSize, ExpectedEnd}
use Rattle.rdata_tails.specs.Locations.{SpellsDegrees, SpellsMinutes, SpellsSeconds, SpellsSide, SpellsAltitude, SpellsSize, BeginsWithWord, BeginsWithAngle, ContinuesWithMinutes, ContinuesWithSeconds, BeginsWithSize, AreSizes, AreLocation, SpellsLocation, location_octets}
use Rattle.rdata_tails.specs.LocationParsing.{LacksWord, StopsInSeconds, StopsInMinutes, StopsInAngle, StopsAtSize, StopsInSizes, HasTokensAfterSizes, BeginsWithAngles, BeginsWithPoint, RefusesTokens}
use Rattle.rdata_tails.proofs.AngleLemmas.{one_degrees, one_minutes, one_seconds, one_side, side_no_number, side_no_decimal}
use Rattle.rdata_tails.proofs.HeightLemmas.{one_altitude, one_size}
use Rattle.rdata_tails.proofs.LocationLemmas.{same_token}

-- a number and what follows it are one
abbrev Same : ℕ → ℕ → List TokenSeen → List TokenSeen → Type 0
Same n m rest other = (n ≡ m) × (rest ≡ other)

pub one_next : (Spells : List ℕ → ℕ → Type 0) → ((text : List ℕ) (n m : ℕ) → Spells text n → Spells text m → n ≡ m) → (tokens : List TokenSeen) (n m : ℕ) (rest other : List TokenSeen)
    → BeginsWithWord Spells tokens n rest → BeginsWithWord Spells tokens m other → Same n m rest other
one_next Spells once tokens n m rest other h k =
    let same = same_token h.0 k.0 tokens rest other h.1 k.1 in
    (once k.0.text n m (subst (λ t. Spells t.text n) same h.3) k.3, ap (drop 1) (sym h.1 ∙ k.1))

apart : (Spells Others : List ℕ → ℕ → Type 0) → ((text : List ℕ) (n m : ℕ) → Spells text n → Others text m → ⊥) → (tokens : List TokenSeen) (n m : ℕ) (rest other : List TokenSeen)
    → BeginsWithWord Spells tokens n rest → BeginsWithWord Others tokens m other → ⊥
apart Spells Others never tokens n m rest other h k = never k.0.text n m (subst (λ t. Spells t.text n) (same_token h.0 k.0 tokens rest other h.1 k.1) h.3) k.3

-- a side after one angle is a side after the same angle
side_at : (axis : Axis) (angle other n : ℕ) (tokens more rest : List TokenSeen) → Same angle other tokens more → BeginsWithWord (SpellsSide axis angle) tokens n rest → BeginsWithWord (SpellsSide axis other) more n rest
side_at axis angle other n tokens more rest same h = subst (λ ts. BeginsWithWord (SpellsSide axis other) ts n rest) same.1 (subst (λ a. BeginsWithWord (SpellsSide axis a) tokens n rest) same.0 h)

one_side_next : (axis : Axis) (angle : ℕ) (tokens : List TokenSeen) (n m : ℕ) (rest other : List TokenSeen) → BeginsWithWord (SpellsSide axis angle) tokens n rest → BeginsWithWord (SpellsSide axis angle) tokens m other → Same n m rest other
one_side_next axis angle = one_next (SpellsSide axis angle) (one_side axis angle)

-- ---- seconds

one_seconds_next : (axis : Axis) (before : ℕ) (tokens : List TokenSeen) (n m : ℕ) (rest other : List TokenSeen) → BeginsWithWord (SpellsSeconds axis before) tokens n rest → BeginsWithWord (SpellsSeconds axis before) tokens m other → Same n m rest other
one_seconds_next axis before = one_next (SpellsSeconds axis before) (one_seconds axis before)

one_with_seconds : (axis : Axis) (before : ℕ) (tokens : List TokenSeen) (n m : ℕ) (rest other : List TokenSeen) → ContinuesWithSeconds axis before tokens n rest → ContinuesWithSeconds axis before tokens m other → Same n m rest other
one_with_seconds axis before tokens n m rest other h k =
    let same = one_seconds_next axis before tokens h.0 k.0 h.1 k.1 h.2 k.2 in
    one_side_next axis k.0 k.1 n m rest other (side_at axis h.0 k.0 n h.1 k.1 rest same h.3) k.3

stops_seconds : (axis : Axis) (before : ℕ) (tokens left : List TokenSeen) → StopsInSeconds axis before tokens left → (n : ℕ) (rest : List TokenSeen) → ContinuesWithSeconds axis before tokens n rest → ⊥
stops_seconds axis before tokens left (inl h) n rest k = h.1 k.0 k.1 k.2
stops_seconds axis before tokens left (inr h) n rest k =
    let same = one_seconds_next axis before tokens k.0 h.0 k.1 left k.2 h.1 in
    h.2 n rest (side_at axis k.0 h.0 n k.1 left rest same k.3)

-- ---- minutes

side_or_seconds : (axis : Axis) (angle before : ℕ) (tokens : List TokenSeen) (n m : ℕ) (rest other : List TokenSeen) → BeginsWithWord (SpellsSide axis angle) tokens n rest → ContinuesWithSeconds axis before tokens m other → ⊥
side_or_seconds axis angle before tokens n m rest other h k =
    apart (SpellsSide axis angle) (SpellsSeconds axis before) (λ text a b side seconds. side_no_decimal axis angle text a 3 seconds.0 side seconds.1) tokens n k.0 rest k.1 h k.2

one_minutes_next : (axis : Axis) (before : ℕ) (tokens : List TokenSeen) (n m : ℕ) (rest other : List TokenSeen) → BeginsWithWord (SpellsMinutes axis before) tokens n rest → BeginsWithWord (SpellsMinutes axis before) tokens m other → Same n m rest other
one_minutes_next axis before = one_next (SpellsMinutes axis before) (one_minutes axis before)

seconds_at : (axis : Axis) (angle other n : ℕ) (tokens more rest : List TokenSeen) → Same angle other tokens more → ContinuesWithSeconds axis angle tokens n rest → ContinuesWithSeconds axis other more n rest
seconds_at axis angle other n tokens more rest same h = subst (λ ts. ContinuesWithSeconds axis other ts n rest) same.1 (subst (λ a. ContinuesWithSeconds axis a tokens n rest) same.0 h)

-- what may follow minutes
abbrev pub BehindMinutes : Axis → ℕ → List TokenSeen → ℕ → List TokenSeen → Type 0
BehindMinutes axis angle tokens n rest = BeginsWithWord (SpellsSide axis angle) tokens n rest ⊎ ContinuesWithSeconds axis angle tokens n rest

one_behind_minutes : (axis : Axis) (angle : ℕ) (tokens : List TokenSeen) (n m : ℕ) (rest other : List TokenSeen) → BehindMinutes axis angle tokens n rest → BehindMinutes axis angle tokens m other → Same n m rest other
one_behind_minutes axis angle tokens n m rest other (inl h) (inl k) = one_side_next axis angle tokens n m rest other h k
one_behind_minutes axis angle tokens n m rest other (inl h) (inr k) = absurd (side_or_seconds axis angle angle tokens n m rest other h k)
one_behind_minutes axis angle tokens n m rest other (inr h) (inl k) = absurd (side_or_seconds axis angle angle tokens m n other rest k h)
one_behind_minutes axis angle tokens n m rest other (inr h) (inr k) = one_with_seconds axis angle tokens n m rest other h k

one_with_minutes : (axis : Axis) (before : ℕ) (tokens : List TokenSeen) (n m : ℕ) (rest other : List TokenSeen) → ContinuesWithMinutes axis before tokens n rest → ContinuesWithMinutes axis before tokens m other → Same n m rest other
one_with_minutes axis before tokens n m rest other h k =
    let same = one_minutes_next axis before tokens h.0 k.0 h.1 k.1 h.2 k.2 in
    one_behind_minutes axis k.0 k.1 n m rest other (subst (λ ts. BehindMinutes axis k.0 ts n rest) same.1 (subst (λ a. BehindMinutes axis a h.1 n rest) same.0 h.3)) k.3

stops_behind_minutes : (axis : Axis) (angle : ℕ) (tokens left : List TokenSeen) → LacksWord (SpellsSide axis angle) tokens → StopsInSeconds axis angle tokens left → (n : ℕ) (rest : List TokenSeen) → BehindMinutes axis angle tokens n rest → ⊥
stops_behind_minutes axis angle tokens left lacks stops n rest (inl h) = lacks n rest h
stops_behind_minutes axis angle tokens left lacks stops n rest (inr h) = stops_seconds axis angle tokens left stops n rest h

stops_minutes : (axis : Axis) (before : ℕ) (tokens left : List TokenSeen) → StopsInMinutes axis before tokens left → (n : ℕ) (rest : List TokenSeen) → ContinuesWithMinutes axis before tokens n rest → ⊥
stops_minutes axis before tokens left (inl h) n rest k = h.1 k.0 k.1 k.2
stops_minutes axis before tokens left (inr h) n rest k =
    let same = one_minutes_next axis before tokens k.0 h.0 k.1 h.1 k.2 h.2 in
    stops_behind_minutes axis h.0 h.1 left h.3 h.4 n rest (subst (λ ts. BehindMinutes axis h.0 ts n rest) same.1 (subst (λ a. BehindMinutes axis a k.1 n rest) same.0 k.3))

-- ---- degrees

one_degrees_next : (axis : Axis) (tokens : List TokenSeen) (n m : ℕ) (rest other : List TokenSeen) → BeginsWithWord (SpellsDegrees axis) tokens n rest → BeginsWithWord (SpellsDegrees axis) tokens m other → Same n m rest other
one_degrees_next axis = one_next (SpellsDegrees axis) (one_degrees axis)

side_or_minutes : (axis : Axis) (angle before : ℕ) (tokens : List TokenSeen) (n m : ℕ) (rest other : List TokenSeen) → BeginsWithWord (SpellsSide axis angle) tokens n rest → ContinuesWithMinutes axis before tokens m other → ⊥
side_or_minutes axis angle before tokens n m rest other h k =
    apart (SpellsSide axis angle) (SpellsMinutes axis before) (λ text a b side minutes. side_no_number axis angle text a minutes.0 side minutes.1) tokens n k.0 rest k.1 h k.2

-- what may follow degrees
abbrev pub BehindDegrees : Axis → ℕ → List TokenSeen → ℕ → List TokenSeen → Type 0
BehindDegrees axis angle tokens n rest = BeginsWithWord (SpellsSide axis angle) tokens n rest ⊎ ContinuesWithMinutes axis angle tokens n rest

one_behind_degrees : (axis : Axis) (angle : ℕ) (tokens : List TokenSeen) (n m : ℕ) (rest other : List TokenSeen) → BehindDegrees axis angle tokens n rest → BehindDegrees axis angle tokens m other → Same n m rest other
one_behind_degrees axis angle tokens n m rest other (inl h) (inl k) = one_side_next axis angle tokens n m rest other h k
one_behind_degrees axis angle tokens n m rest other (inl h) (inr k) = absurd (side_or_minutes axis angle angle tokens n m rest other h k)
one_behind_degrees axis angle tokens n m rest other (inr h) (inl k) = absurd (side_or_minutes axis angle angle tokens m n other rest k h)
one_behind_degrees axis angle tokens n m rest other (inr h) (inr k) = one_with_minutes axis angle tokens n m rest other h k

pub one_angle : (axis : Axis) (tokens : List TokenSeen) (n m : ℕ) (rest other : List TokenSeen) → BeginsWithAngle axis tokens n rest → BeginsWithAngle axis tokens m other → Same n m rest other
one_angle axis tokens n m rest other h k =
    let same = one_degrees_next axis tokens h.0 k.0 h.1 k.1 h.2 k.2 in
    one_behind_degrees axis k.0 k.1 n m rest other (subst (λ ts. BehindDegrees axis k.0 ts n rest) same.1 (subst (λ a. BehindDegrees axis a h.1 n rest) same.0 h.3)) k.3

stops_behind_degrees : (axis : Axis) (angle : ℕ) (tokens left : List TokenSeen) → LacksWord (SpellsSide axis angle) tokens → StopsInMinutes axis angle tokens left → (n : ℕ) (rest : List TokenSeen) → BehindDegrees axis angle tokens n rest → ⊥
stops_behind_degrees axis angle tokens left lacks stops n rest (inl h) = lacks n rest h
stops_behind_degrees axis angle tokens left lacks stops n rest (inr h) = stops_minutes axis angle tokens left stops n rest h

pub stops_angle : (axis : Axis) (tokens left : List TokenSeen) → StopsInAngle axis tokens left → (n : ℕ) (rest : List TokenSeen) → BeginsWithAngle axis tokens n rest → ⊥
stops_angle axis tokens left (inl h) n rest k = h.1 k.0 k.1 k.2
stops_angle axis tokens left (inr h) n rest k =
    let same = one_degrees_next axis tokens k.0 h.0 k.1 h.1 k.2 h.2 in
    stops_behind_degrees axis h.0 h.1 left h.3 h.4 n rest (subst (λ ts. BehindDegrees axis h.0 ts n rest) same.1 (subst (λ a. BehindDegrees axis a k.1 n rest) same.0 k.3))

-- ---- sizes

no_token : (t : TokenSeen) (tokens rest : List TokenSeen) → tokens ≡ [] → tokens ≡ t ∷ rest → ⊥
no_token t tokens rest none is = let e : 0 ≡ length (t ∷ rest) = ap length (sym none ∙ is) in omega (arith, e)

one_size_next : (usual : ℕ) (tokens : List TokenSeen) (n m : ℕ) (rest other : List TokenSeen) → BeginsWithSize usual tokens n rest → BeginsWithSize usual tokens m other → Same n m rest other
one_size_next usual tokens n m rest other (inl h) (inl k) = one_next SpellsSize one_size tokens n m rest other h k
one_size_next usual tokens n m rest other (inl h) (inr k) = absurd (no_token h.0 tokens rest k.0 h.1)
one_size_next usual tokens n m rest other (inr h) (inl k) = absurd (no_token k.0 tokens other h.0 k.1)
one_size_next usual tokens n m rest other (inr h) (inr k) = (h.2 ∙ sym k.2, h.1 ∙ sym k.1)

stops_at_size : (tokens : List TokenSeen) → StopsAtSize tokens → (usual n : ℕ) (rest : List TokenSeen) → BeginsWithSize usual tokens n rest → ⊥
stops_at_size tokens h usual n rest (inl k) = h.1 n rest k
stops_at_size tokens h usual n rest (inr k) = h.0 k.0

-- sizes, and then a token that is not a size
stops_sizes : (tokens left : List TokenSeen) (s : Sizes) → StopsInSizes tokens left → AreSizes tokens s → ⊥
stops_sizes tokens left s (at, inl is) k = stops_at_size left at _ s.size k.behind_size (subst (λ ts. BeginsWithSize 0x12 ts s.size k.behind_size) (sym is) k.size)
stops_sizes tokens left s (at, inr (size, more, h, inl is)) k =
    let first = one_size_next 0x12 tokens s.size size k.behind_size more k.size (inl h) in
    stops_at_size left at _ s.horizontal k.behind_horizontal (subst (λ ts. BeginsWithSize 0x16 ts s.horizontal k.behind_horizontal) (first.1 ∙ sym is) k.horizontal)
stops_sizes tokens left s (at, inr (size, more, h, inr (horizontal, j))) k =
    let first = one_size_next 0x12 tokens s.size size k.behind_size more k.size (inl h) in
    let second = one_size_next 0x16 more s.horizontal horizontal k.behind_horizontal left (subst (λ ts. BeginsWithSize 0x16 ts s.horizontal k.behind_horizontal) first.1 k.horizontal) (inl j) in
    stops_at_size left at _ s.vertical [] (subst (λ ts. BeginsWithSize 0x13 ts s.vertical []) second.1 k.vertical)

goes_on : (tokens left : List TokenSeen) (s : Sizes) → HasTokensAfterSizes tokens left → AreSizes tokens s → ⊥
goes_on tokens left s (some, size, more, horizontal, most, vertical, h, i, j) k =
    let first = one_size_next 0x12 tokens s.size size k.behind_size more k.size (inl h) in
    let second = one_size_next 0x16 more s.horizontal horizontal k.behind_horizontal most (subst (λ ts. BeginsWithSize 0x16 ts s.horizontal k.behind_horizontal) first.1 k.horizontal) (inl i) in
    let third = one_size_next 0x13 most s.vertical vertical [] left (subst (λ ts. BeginsWithSize 0x13 ts s.vertical []) second.1 k.vertical) (inl j) in
    some (sym third.1)

one_sizes : (tokens : List TokenSeen) (s z : Sizes) → AreSizes tokens s → AreSizes tokens z → s ≡ z
one_sizes tokens s z h k =
    let first = one_size_next 0x12 tokens s.size z.size h.behind_size k.behind_size h.size k.size in
    let second = one_size_next 0x16 k.behind_size s.horizontal z.horizontal h.behind_horizontal k.behind_horizontal (subst (λ ts. BeginsWithSize 0x16 ts s.horizontal h.behind_horizontal) first.1 h.horizontal) k.horizontal in
    let third = one_size_next 0x13 k.behind_horizontal s.vertical z.vertical [] [] (subst (λ ts. BeginsWithSize 0x13 ts s.vertical []) second.1 h.vertical) k.vertical in
    λ i. record { size = first.0 i; horizontal = second.0 i; vertical = third.0 i }

-- ---- the whole

behind_angles : (tokens more : List TokenSeen) (l : Location) → BeginsWithAngles tokens more → (k : AreLocation tokens l) → more ≡ k.behind_longitude
behind_angles tokens more l h k =
    let first = one_angle Latitude tokens h.0 l.latitude h.2 k.behind_latitude h.3 k.latitude in
    let second = one_angle Longitude k.behind_latitude h.1 l.longitude more k.behind_longitude (subst (λ ts. BeginsWithAngle Longitude ts h.1 more) first.1 h.4) k.longitude in
    second.1

behind_point : (tokens more : List TokenSeen) (l : Location) → BeginsWithPoint tokens more → (k : AreLocation tokens l) → more ≡ k.behind_altitude
behind_point tokens more l h k =
    let at = behind_angles tokens h.1 l h.2 k in
    let third = one_next SpellsAltitude one_altitude k.behind_longitude h.0 l.altitude more k.behind_altitude (subst (λ ts. BeginsWithWord SpellsAltitude ts h.0 more) at h.3) k.altitude in
    third.1

-- tokens that are rejected are not a location
pub refused_none : (e : ErrorKind) (tokens left : List TokenSeen) → RefusesTokens e tokens left → (l : Location) → AreLocation tokens l → ⊥
refused_none ExpectedLatitude tokens left h l k = stops_angle Latitude tokens left h l.latitude k.behind_latitude k.latitude
refused_none ExpectedLongitude tokens left h l k =
    let first = one_angle Latitude tokens l.latitude h.0 k.behind_latitude h.1 k.latitude h.2 in
    stops_angle Longitude h.1 left h.3 l.longitude k.behind_longitude (subst (λ ts. BeginsWithAngle Longitude ts l.longitude k.behind_longitude) first.1 k.longitude)
refused_none ExpectedAltitude tokens left h l k = h.1 l.altitude k.behind_altitude (subst (λ ts. BeginsWithWord SpellsAltitude ts l.altitude k.behind_altitude) (sym (behind_angles tokens left l h.0 k)) k.altitude)
refused_none ExpectedSize tokens left h l k = stops_sizes h.0 left l.sizes h.2 (subst (λ ts. AreSizes ts l.sizes) (sym (behind_point tokens h.0 l h.1 k)) k.sizes)
refused_none ExpectedEnd tokens left h l k = goes_on h.0 left l.sizes h.2 (subst (λ ts. AreSizes ts l.sizes) (sym (behind_point tokens h.0 l h.1 k)) k.sizes)
refused_none _ tokens left h l k = h

-- tokens are one location
pub one_location : (tokens : List TokenSeen) (l m : Location) → AreLocation tokens l → AreLocation tokens m → l ≡ m
one_location tokens l m h k =
    let first = one_angle Latitude tokens l.latitude m.latitude h.behind_latitude k.behind_latitude h.latitude k.latitude in
    let second = one_angle Longitude k.behind_latitude l.longitude m.longitude h.behind_longitude k.behind_longitude (subst (λ ts. BeginsWithAngle Longitude ts l.longitude h.behind_longitude) first.1 h.longitude) k.longitude in
    let third = one_next SpellsAltitude one_altitude k.behind_longitude l.altitude m.altitude h.behind_altitude k.behind_altitude (subst (λ ts. BeginsWithWord SpellsAltitude ts l.altitude h.behind_altitude) second.1 h.altitude) k.altitude in
    let last = one_sizes k.behind_altitude l.sizes m.sizes (subst (λ ts. AreSizes ts l.sizes) third.1 h.sizes) k.sizes in
    λ i. record { sizes = last i; latitude = first.0 i; longitude = second.0 i; altitude = third.0 i }

-- tokens spell the octets of one location
pub one_octets : (tokens : List TokenSeen) (a b : List ℕ) → SpellsLocation tokens a → SpellsLocation tokens b → a ≡ b
one_octets tokens a b h k = h.2 ∙ ap location_octets (one_location tokens h.0 k.0 h.1 k.1) ∙ sym k.2
