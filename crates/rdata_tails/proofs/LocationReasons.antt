-- Tokens are rejected as a location at one of them, for one reason.
use Rattle.std.proofs.Common.{ℕ, ◌≡◌, ◌+◌, List, [], ◌∷◌, ◌++◌, length, refl, sym, subst, arith, ap, ◌∙◌, inl, inr, append_assoc}
use Rattle.dns_lexer.specs.EntryTokens.{TokenSeen}
use Rattle.rdata_fields.proofs.Splits.{GoesOn, two_splits}
use Rattle.rdata_values.specs.declared.error.ErrorKind.{ErrorKind}
use Rattle.rdata_values.specs.declared.error.ErrorKind.TheVariants.{ExpectedLatitude, ExpectedLongitude, ExpectedAltitude, ExpectedSize, ExpectedEnd}
use Rattle.rdata_tails.specs.declared.angles.Axis.TheVariants.{Latitude, Longitude}
use Rattle.rdata_tails.specs.Locations.{SpellsAltitude, SpellsSize, SpellsLocation, BeginsWithWord, BeginsWithAngle}
use Rattle.rdata_tails.specs.LocationParsing.{StopsInAngle, StopsInSizes, HasTokensAfterSizes, BeginsWithAngles, BeginsWithPoint, RefusesTokens}
use Rattle.rdata_tails.specs.LocationPlaces.{BeginsLocation, NoLocationContinues, IsFirstRefused}
use Rattle.rdata_tails.proofs.HeightLemmas.{one_altitude}
use Rattle.rdata_tails.proofs.LocationOnce.{one_next, one_angle, stops_angle}

-- ---- the token

-- a location that begins with tokens begins with the first of them
begins_less : (before others more : List TokenSeen) (t : TokenSeen) → others ≡ before ++ t ∷ more → BeginsLocation others → BeginsLocation (before ++ t ∷ [])
begins_less before others more t whole h =
    (more ++ h.0, h.1, subst (λ ts. SpellsLocation ts h.1) (ap (λ ts. ts ++ h.0) whole ∙ ap (λ ts. ts ++ h.0) (sym (append_assoc before (t ∷ []) more)) ∙ append_assoc (before ++ t ∷ []) more h.0) h.2)

never_on : (before left others : List TokenSeen) → GoesOn before left others → NoLocationContinues before left → BeginsLocation others → ⊥
never_on before left others g none begins = subst (NoLocationContinues before) g.next none (begins_less before others g.more g.token g.whole begins)

pub first_refused_once : (tokens left last : List TokenSeen) → IsFirstRefused tokens left → IsFirstRefused tokens last → left ≡ last
first_refused_once tokens left last h k =
    elim (two_splits h.0 k.0 left last (sym h.1 ∙ k.1)) [
      | inl same ↦ same.1
      | inr (inl on) ↦ absurd (never_on h.0 left k.0 on h.3 k.2)
      | inr (inr on) ↦ absurd (never_on k.0 last h.0 on k.3 h.2)
    ]

-- ---- the reason

angles_once : (tokens rest other : List TokenSeen) → BeginsWithAngles tokens rest → BeginsWithAngles tokens other → rest ≡ other
angles_once tokens rest other h k =
    let first = one_angle Latitude tokens h.0 k.0 h.2 k.2 h.3 k.3 in
    (one_angle Longitude k.2 h.1 k.1 rest other (subst (λ ts. BeginsWithAngle Longitude ts h.1 rest) first.1 h.4) k.4).1

point_once : (tokens rest other : List TokenSeen) → BeginsWithPoint tokens rest → BeginsWithPoint tokens other → rest ≡ other
point_once tokens rest other h k =
    let at = angles_once tokens h.1 k.1 h.2 k.2 in
    (one_next SpellsAltitude one_altitude k.1 h.0 k.0 rest other (subst (λ ts. BeginsWithWord SpellsAltitude ts h.0 rest) at h.3) k.3).1

-- a latitude is not rejected, if a longitude or what follows it is
no_latitude : (tokens left rest : List TokenSeen) → StopsInAngle Latitude tokens left → BeginsWithAngles tokens rest → ⊥
no_latitude tokens left rest h k = stops_angle Latitude tokens left h k.0 k.2 k.3

no_longitude : (tokens left rest : List TokenSeen) → RefusesTokens ExpectedLongitude tokens left → BeginsWithAngles tokens rest → ⊥
no_longitude tokens left rest h k =
    let first = one_angle Latitude tokens k.0 h.0 k.2 h.1 k.3 h.2 in
    stops_angle Longitude h.1 left h.3 k.1 rest (subst (λ ts. BeginsWithAngle Longitude ts k.1 rest) first.1 k.4)

no_altitude : (tokens left rest : List TokenSeen) → RefusesTokens ExpectedAltitude tokens left → BeginsWithPoint tokens rest → ⊥
no_altitude tokens left rest h k = h.1 k.0 rest (subst (λ ts. BeginsWithWord SpellsAltitude ts k.0 rest) (angles_once tokens k.1 left k.2 h.0) k.3)

-- after three sizes no size is rejected
one_shorter : (Spells : List ℕ → ℕ → Type 0) (tokens rest : List TokenSeen) (n : ℕ) → BeginsWithWord Spells tokens n rest → length tokens ≡ 1 + length rest
one_shorter Spells tokens rest n h = omega (arith, ap length h.1)

no_size : (tokens left : List TokenSeen) → StopsInSizes tokens left → HasTokensAfterSizes tokens left → ⊥
no_size tokens left (at, why) (some, size, more, horizontal, most, vertical, h, i, j) =
    let first = one_shorter SpellsSize tokens more size h in
    let second = one_shorter SpellsSize more most horizontal i in
    let third = one_shorter SpellsSize most left vertical j in
    elim why [
      | inl is ↦ omega (arith, first, second, third, ap length is)
      | inr (s, m, a, inl is) ↦ (let one = one_shorter SpellsSize tokens m s a in omega (arith, first, second, third, one, ap length is))
      | inr (s, m, a, inr (k, b)) ↦ (let one = one_shorter SpellsSize tokens m s a in let two = one_shorter SpellsSize m left k b in omega (arith, first, second, third, one, two))
    ]

size_or_end : (tokens left : List TokenSeen) → RefusesTokens ExpectedSize tokens left → RefusesTokens ExpectedEnd tokens left → ⊥
size_or_end tokens left h k = no_size k.0 left (subst (λ ts. StopsInSizes ts left) (point_once tokens h.0 k.0 h.1 k.1) h.2) k.2

pub location_reason_once : (tokens left : List TokenSeen) (a b : ErrorKind) → RefusesTokens a tokens left → RefusesTokens b tokens left → a ≡ b
location_reason_once tokens left ExpectedLatitude ExpectedLatitude h k = refl
location_reason_once tokens left ExpectedLatitude ExpectedLongitude h k = absurd (stops_angle Latitude tokens left h k.0 k.1 k.2)
location_reason_once tokens left ExpectedLatitude ExpectedAltitude h k = absurd (no_latitude tokens left left h k.0)
location_reason_once tokens left ExpectedLatitude ExpectedSize h k = absurd (no_latitude tokens left k.1.1 h k.1.2)
location_reason_once tokens left ExpectedLatitude ExpectedEnd h k = absurd (no_latitude tokens left k.1.1 h k.1.2)
location_reason_once tokens left ExpectedLatitude other h k = absurd k
location_reason_once tokens left ExpectedLongitude ExpectedLatitude h k = absurd (stops_angle Latitude tokens left k h.0 h.1 h.2)
location_reason_once tokens left ExpectedLongitude ExpectedLongitude h k = refl
location_reason_once tokens left ExpectedLongitude ExpectedAltitude h k = absurd (no_longitude tokens left left h k.0)
location_reason_once tokens left ExpectedLongitude ExpectedSize h k = absurd (no_longitude tokens left k.1.1 h k.1.2)
location_reason_once tokens left ExpectedLongitude ExpectedEnd h k = absurd (no_longitude tokens left k.1.1 h k.1.2)
location_reason_once tokens left ExpectedLongitude other h k = absurd k
location_reason_once tokens left ExpectedAltitude ExpectedLatitude h k = absurd (no_latitude tokens left left k h.0)
location_reason_once tokens left ExpectedAltitude ExpectedLongitude h k = absurd (no_longitude tokens left left k h.0)
location_reason_once tokens left ExpectedAltitude ExpectedAltitude h k = refl
location_reason_once tokens left ExpectedAltitude ExpectedSize h k = absurd (no_altitude tokens left k.0 h k.1)
location_reason_once tokens left ExpectedAltitude ExpectedEnd h k = absurd (no_altitude tokens left k.0 h k.1)
location_reason_once tokens left ExpectedAltitude other h k = absurd k
location_reason_once tokens left ExpectedSize ExpectedLatitude h k = absurd (no_latitude tokens left h.1.1 k h.1.2)
location_reason_once tokens left ExpectedSize ExpectedLongitude h k = absurd (no_longitude tokens left h.1.1 k h.1.2)
location_reason_once tokens left ExpectedSize ExpectedAltitude h k = absurd (no_altitude tokens left h.0 k h.1)
location_reason_once tokens left ExpectedSize ExpectedSize h k = refl
location_reason_once tokens left ExpectedSize ExpectedEnd h k = absurd (size_or_end tokens left h k)
location_reason_once tokens left ExpectedSize other h k = absurd k
location_reason_once tokens left ExpectedEnd ExpectedLatitude h k = absurd (no_latitude tokens left h.1.1 k h.1.2)
location_reason_once tokens left ExpectedEnd ExpectedLongitude h k = absurd (no_longitude tokens left h.1.1 k h.1.2)
location_reason_once tokens left ExpectedEnd ExpectedAltitude h k = absurd (no_altitude tokens left h.0 k h.1)
location_reason_once tokens left ExpectedEnd ExpectedSize h k = absurd (size_or_end tokens left k h)
location_reason_once tokens left ExpectedEnd ExpectedEnd h k = refl
location_reason_once tokens left ExpectedEnd other h k = absurd k
location_reason_once tokens left other b h k = absurd h
