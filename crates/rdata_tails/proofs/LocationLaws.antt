-- Locations parse as they print, and octets are those of one location.
use Rattle.std.proofs.Common.{ℕ, suc, lit<, ◌≡◌, ◌<◌, ◌≤◌, ◌+◌, ◌-◌, ◌*◌, ◌/◌, ◌%◌, ◌^◌, ◌⊎◌, Bool, false, Option, Some, None, if◌then◌else◌, List, [], ◌∷◌, ◌++◌, length, map, get_or, take, drop, refl, sym, subst, arith, ap, ◌∙◌, inl, inr, append_assoc, decimal}
use Rattle.std.proofs.Math.Nat.{pow-suc, pow-le-pow_right, mul-le-mul_right}
use Rattle.std.proofs.lemmas.Bool.{cases_lt, lt-ltb, le-ltb}
use Rattle.std.proofs.lemmas.Bool.Decides.{nat_tests}
use Rattle.std.proofs.lemmas.Fmt.{decimal_is_IsNumeral, decimal_digit}
use Rattle.std.proofs.lemmas.List.{get_or-map, length-map}
use Rattle.std.proofs.lemmas.Nat.{from_be_bytes-to_be_bytes_4}
use Rattle.std.specs.Char.{digit_value}
use Rattle.std.specs.Int.{from_be_bytes, w32}
use Rattle.std.specs.Prelude.{nat_lt, is_some, MatchBool, MatchOption}
use Rattle.rdata_values.specs.Numbers.{SpellsNumber}
use Rattle.dns_lexer.specs.EntryTokens.{TokenSeen}
use Rattle.rdata_tails.specs.Decimals.{SpellsDecimal, SpellsLength}
use Rattle.rdata_tails.specs.declared.angles.Axis.{Axis}
use Rattle.rdata_tails.specs.declared.angles.Axis.TheVariants.{Latitude, Longitude}
use Rattle.rdata_tails.specs.declared.location.Location.{Location}
use Rattle.rdata_tails.specs.declared.location_text.LocationWord.{LocationWord}
use Rattle.rdata_tails.specs.Locations.{most_angle, upper_side, lower_side, SpellsDegrees, SpellsMinutes, SpellsSeconds, SpellsSide, SpellsHeight, SpellsDepth, SpellsAltitude, SpellsSize, HasFirstDigit, BeginsWithWord, BeginsWithAngle, ContinuesWithMinutes, ContinuesWithSeconds, BeginsWithSize, AreLocation, SpellsLocation, location_octets}
use Rattle.rdata_tails.specs.LocationWords.{IsAngleNumber, IsSize, IsPossible, IsLocation, angle_from, side_word, two_places, three_places, seconds_word, metres_word, altitude_word, size_word, angle_words, location_words, word_text, AreWords, LocationsAreRead}
use Rattle.rdata_tails.proofs.AngleLemmas.{most_le}
use Rattle.rdata_tails.proofs.HeightLemmas.{behind_short}
use Rattle.rdata_tails.proofs.LocationOnce.{one_octets}

-- ---- numbers in text

number_spelled : (n : ℕ) → n < 2 ^ 64 → SpellsNumber (decimal n) n
number_spelled n small = let d = decimal_is_IsNumeral n small in (d.0, sym d.1)

glyph : (k : ℕ) → k < 10 → digit_value (48 + k) ≡ k
glyph k small = Prim.grind (arith, nat_tests)

-- two digits write a number
two_digits_are : (a b : ℕ) → a < 10 → b < 10 → SpellsNumber ((48 + a) ∷ (48 + b) ∷ []) (a * 10 + b)
two_digits_are a b first second =
    let x = glyph a first in
    let y = glyph b second in
    ((omega arith, (omega (arith, x, first), (omega (arith, y, second), tt))), omega (arith, x, y))

two_shown : (n : ℕ) → n < 100 → two_places n ≡ (48 + n / 10) ∷ (48 + n % 10) ∷ []
two_shown n small = λ i. decimal_digit (n / 10) (omega arith) i ++ decimal_digit (n % 10) (omega arith) i

two_spelled : (n : ℕ) → n < 100 → SpellsNumber (two_places n) n
two_spelled n small =
    let own = two_digits_are (n / 10) (n % 10) (omega arith) (omega arith) in
    let same : n / 10 * 10 + n % 10 ≡ n = omega arith in
    subst (λ text. SpellsNumber text n) (sym (two_shown n small)) (subst (SpellsNumber ((48 + n / 10) ∷ (48 + n % 10) ∷ [])) same own)

three_digits_are : (a b c : ℕ) → a < 10 → b < 10 → c < 10 → SpellsNumber ((48 + a) ∷ (48 + b) ∷ (48 + c) ∷ []) (a * 100 + b * 10 + c)
three_digits_are a b c first second third =
    let x = glyph a first in
    let y = glyph b second in
    let z = glyph c third in
    ((omega arith, (omega (arith, x, first), (omega (arith, y, second), (omega (arith, z, third), tt)))), omega (arith, x, y, z))

three_shown : (n : ℕ) → n < 1000 → three_places n ≡ (48 + n / 100) ∷ (48 + n % 100 / 10) ∷ (48 + n % 100 % 10) ∷ []
three_shown n small = λ i. decimal_digit (n / 100) (omega arith) i ++ two_shown (n % 100) (omega arith) i

three_spelled : (n : ℕ) → n < 1000 → SpellsNumber (three_places n) n
three_spelled n small =
    let own = three_digits_are (n / 100) (n % 100 / 10) (n % 100 % 10) (omega arith) (omega arith) (omega arith) in
    let same : n / 100 * 100 + n % 100 / 10 * 10 + n % 100 % 10 ≡ n = omega arith in
    subst (λ text. SpellsNumber text n) (sym (three_shown n small)) (subst (SpellsNumber ((48 + n / 100) ∷ (48 + n % 100 / 10) ∷ (48 + n % 100 % 10) ∷ [])) same own)

seconds_spelled : (n : ℕ) → n < 60000 → SpellsDecimal 3 (seconds_word n) n
seconds_spelled n small =
    let long : length (three_places (n % 1000)) ≡ 3 = ap length (three_shown (n % 1000) (omega arith)) in
    let unit : 10 ^ (3 - length (three_places (n % 1000))) ≡ 1 = ap (λ k. 10 ^ (3 - k)) long in
    inr (record {
      before = decimal (n / 1000);
      after = three_places (n % 1000);
      whole = n / 1000;
      part = n % 1000;
      written = refl;
      few = omega (arith, long);
      whole_is = number_spelled (n / 1000) (omega (arith, small));
      part_is = three_spelled (n % 1000) (omega arith);
      value = rw unit (omega arith);
    })

metres_decimal : (n : ℕ) → n < 2 ^ 64 → SpellsDecimal 2 (decimal (n / 100) ++ 46 ∷ two_places (n % 100)) n
metres_decimal n small =
    let long : length (two_places (n % 100)) ≡ 2 = ap length (two_shown (n % 100) (omega arith)) in
    let unit : 10 ^ (2 - length (two_places (n % 100))) ≡ 1 = ap (λ k. 10 ^ (2 - k)) long in
    inr (record {
      before = decimal (n / 100);
      after = two_places (n % 100);
      whole = n / 100;
      part = n % 100;
      written = refl;
      few = omega (arith, long);
      whole_is = number_spelled (n / 100) (omega (arith, small));
      part_is = two_spelled (n % 100) (omega arith);
      value = rw unit (omega arith);
    })

metres_spelled : (n : ℕ) → n < 2 ^ 64 → SpellsLength (metres_word n) n
metres_spelled n small = inr (decimal (n / 100) ++ 46 ∷ two_places (n % 100), sym (append_assoc (decimal (n / 100)) (46 ∷ two_places (n % 100)) (109 ∷ [])), metres_decimal n small)

-- what holds in both cases
by_less : {A : Type 0} (P : A → Type 0) (n m : ℕ) (x y : A) → (n < m → P x) → (m ≤ n → P y) → P (if nat_lt n m then x else y)
by_less P n m x y less more = elim (cases_lt n m) [
  | inl h ↦ rw (lt-ltb n m h) (less h)
  | inr h ↦ rw (le-ltb n m h) (more h)
]

-- ---- words spell the values that print as them

side_spelled : (axis : Axis) (number : ℕ) → SpellsSide axis (angle_from number) (side_word axis number) number
side_spelled axis number = by_less (λ text. SpellsSide axis (angle_from number) text number) number (2 ^ 31) (lower_side axis) (upper_side axis) (λ less. inr (refl, omega (arith, less))) (λ more. inl (refl, omega (arith, more)))

-- what a text of an altitude is, in each of its three forms
abbrev IsAltitude : ℕ → List ℕ → Type 0
IsAltitude number text = SpellsHeight text number ⊎ ((rest : List ℕ) × (((text ≡ 43 ∷ rest) × SpellsHeight rest number) ⊎ ((text ≡ 45 ∷ rest) × SpellsDepth rest number)))

below_zero : (number : ℕ) → number < 10000000 → IsAltitude number (45 ∷ metres_word (10000000 - number))
below_zero number less = inr (metres_word (10000000 - number), inr (refl, (10000000 - number, metres_spelled (10000000 - number) (omega arith), omega (arith, less))))

above_zero : (number : ℕ) → number < 2 ^ 32 → 10000000 ≤ number → IsAltitude number (metres_word (number - 10000000))
above_zero number small more = inl (number - 10000000, metres_spelled (number - 10000000) (omega (arith, small)), omega (arith, more))

altitude_spelled : (number : ℕ) → number < 2 ^ 32 → SpellsAltitude (altitude_word number) number
altitude_spelled number small = (small, by_less (IsAltitude number) number 10000000 (45 ∷ metres_word (10000000 - number)) (metres_word (number - 10000000)) (below_zero number) (above_zero number small))

-- a digit and what follows it are a size, however it is written
size_of : (text : List ℕ) (octet digit behind : ℕ) → digit ≤ 9 → behind ≤ 9 → (digit ≡ 0 → behind ≡ 0) → octet ≡ digit * 16 + behind → SpellsLength text (digit * 10 ^ behind) → SpellsSize text octet
size_of text octet digit behind few short none is own =
    let unit : 10 ^ behind ≤ 10 ^ 9 = pow-le-pow_right {n = 10} (lit< tt) short in
    let some : 10 ^ 0 ≤ 10 ^ behind = pow-le-pow_right {n = 10} (lit< tt) {i = 0} {j = behind} (omega arith) in
    let product : digit * 10 ^ behind ≤ 9 * 10 ^ behind = mul-le-mul_right (10 ^ behind) few in
    (digit * 10 ^ behind, own, omega (arith, unit, product), (digit, behind, record { is_digit = few; least = omega arith; most = omega (arith, some); zero = none }, is))

small_size : (digit behind : ℕ) → digit ≤ 9 → behind ≤ 9 → digit * 10 ^ behind < 2 ^ 64
small_size digit behind few short =
    let unit : 10 ^ behind ≤ 10 ^ 9 = pow-le-pow_right {n = 10} (lit< tt) short in
    let product : digit * 10 ^ behind ≤ 9 * 10 ^ behind = mul-le-mul_right (10 ^ behind) few in
    omega (arith, unit, product)

whole_metres : (digit behind : ℕ) → digit ≤ 9 → behind ≤ 9 → 2 ≤ behind → SpellsLength (decimal (digit * 10 ^ (behind - 2)) ++ 109 ∷ []) (digit * 10 ^ behind)
whole_metres digit behind few short many =
    let e : behind ≡ suc (suc (behind - 2)) = omega (arith, many) in
    let unit : 10 ^ behind ≡ 10 ^ (behind - 2) * 10 * 10 = ap (λ n. 10 ^ n) e ∙ pow-suc 10 (suc (behind - 2)) ∙ ap (λ n. n * 10) (pow-suc 10 (behind - 2)) in
    let value : digit * 10 ^ behind ≡ digit * 10 ^ (behind - 2) * 10 ^ 2 = ap (λ n. digit * n) unit ∙ omega arith in
    inr (decimal (digit * 10 ^ (behind - 2)), refl, inl (digit * 10 ^ (behind - 2), number_spelled (digit * 10 ^ (behind - 2)) (small_size digit (behind - 2) few (omega (arith, short))), value))

size_spelled : (octet : ℕ) → IsSize octet → SpellsSize (size_word octet) octet
size_spelled octet h = size_of (size_word octet) octet (octet / 16) (octet % 16) h.0 h.1 h.2 (omega arith)
    (by_less (λ text. SpellsLength text (octet / 16 * 10 ^ (octet % 16))) (octet % 16) 2 _ _
    (λ less. metres_spelled (octet / 16 * 10 ^ (octet % 16)) (small_size (octet / 16) (octet % 16) h.0 h.1)) (λ more. whole_metres (octet / 16) (octet % 16) h.0 h.1 more))

-- ---- tokens

-- a token without quotes that holds a word
abbrev Holds : TokenSeen → List ℕ → Type 0
Holds t word = (t.is_quoted ≡ false) × (t.text ≡ word)

next_word : (Spells : List ℕ → ℕ → Type 0) (t : TokenSeen) (rest : List TokenSeen) (word : List ℕ) (n : ℕ) → Holds t word → Spells word n → BeginsWithWord Spells (t ∷ rest) n rest
next_word Spells t rest word n h own = (t, refl, h.0, subst (λ text. Spells text n) (sym h.1) own)

degrees_within : (axis : Axis) (angle : ℕ) → angle ≤ most_angle axis → angle < 2 ^ 32
degrees_within axis angle few = let most = most_le axis in omega (arith, most, few)

angle_begins : (axis : Axis) (number : ℕ) (a b c d : TokenSeen) (rest : List TokenSeen) → IsAngleNumber axis number
    → Holds a (decimal (angle_from number / 3600000)) → Holds b (decimal (angle_from number / 60000 % 60)) → Holds c (seconds_word (angle_from number % 60000)) → Holds d (side_word axis number)
    → BeginsWithAngle axis (a ∷ b ∷ c ∷ d ∷ rest) number rest
angle_begins axis number a b c d rest valid first second third last =
    let angle : ℕ = angle_from number in
    let few : angle ≤ most_angle axis = omega (arith, valid.0, valid.1) in
    let small = degrees_within axis angle few in
    let degrees : SpellsDegrees axis (decimal (angle / 3600000)) (angle / 3600000 * 3600000) = (angle / 3600000, number_spelled (angle / 3600000) (omega (arith, small)), refl, omega (arith, few)) in
    let minutes : SpellsMinutes axis (angle / 3600000 * 3600000) (decimal (angle / 60000 % 60)) (angle / 60000 * 60000) =
    (angle / 60000 % 60, number_spelled (angle / 60000 % 60) (omega (arith, small)), omega arith, omega arith, omega (arith, few)) in
    let seconds : SpellsSeconds axis (angle / 60000 * 60000) (seconds_word (angle % 60000)) angle = (angle % 60000, seconds_spelled (angle % 60000) (omega arith), omega arith, omega arith, few) in (
      angle / 3600000 * 3600000,
      b ∷ c ∷ d ∷ rest,
      next_word (SpellsDegrees axis) a (b ∷ c ∷ d ∷ rest) _ _ first degrees,
      inr (
        angle / 60000 * 60000,
        c ∷ d ∷ rest,
        next_word (SpellsMinutes axis (angle / 3600000 * 3600000)) b (c ∷ d ∷ rest) _ _ second minutes,
        inr (
          angle,
          d ∷ rest,
          next_word (SpellsSeconds axis (angle / 60000 * 60000)) c (d ∷ rest) _ _ third seconds,
          next_word (SpellsSide axis angle) d rest _ _ last (side_spelled axis number),
        ),
      ),
    )

-- twelve tokens of the words of a location are one
are_location : (l : Location) → IsPossible l → (a b c d e f g h i j k m : TokenSeen) → AreWords (a ∷ b ∷ c ∷ d ∷ e ∷ f ∷ g ∷ h ∷ i ∷ j ∷ k ∷ m ∷ []) (location_words l)
    → AreLocation (a ∷ b ∷ c ∷ d ∷ e ∷ f ∷ g ∷ h ∷ i ∷ j ∷ k ∷ m ∷ []) l
are_location l valid a b c d e f g h i j k m (a0, a1, (b0, b1, (c0, c1, (d0, d1, (e0, e1, (f0, f1, (g0, g1, (h0, h1, (i0, i1, (j0, j1, (k0, k1, (m0, m1, none)))))))))))) = record {
  behind_latitude = e ∷ f ∷ g ∷ h ∷ i ∷ j ∷ k ∷ m ∷ [];
  behind_longitude = i ∷ j ∷ k ∷ m ∷ [];
  behind_altitude = j ∷ k ∷ m ∷ [];
  latitude = angle_begins Latitude l.latitude a b c d (e ∷ f ∷ g ∷ h ∷ i ∷ j ∷ k ∷ m ∷ []) valid.latitude (a0, a1) (b0, b1) (c0, c1) (d0, d1);
  longitude = angle_begins Longitude l.longitude e f g h (i ∷ j ∷ k ∷ m ∷ []) valid.longitude (e0, e1) (f0, f1) (g0, g1) (h0, h1);
  altitude = next_word SpellsAltitude i (j ∷ k ∷ m ∷ []) _ _ (i0, i1) (altitude_spelled l.altitude valid.altitude);
  sizes = record {
    behind_size = k ∷ m ∷ [];
    behind_horizontal = m ∷ [];
    size = inl (next_word SpellsSize j (k ∷ m ∷ []) _ _ (j0, j1) (size_spelled l.sizes.size valid.sizes.size));
    horizontal = inl (next_word SpellsSize k (m ∷ []) _ _ (k0, k1) (size_spelled l.sizes.horizontal valid.sizes.horizontal));
    vertical = inl (next_word SpellsSize m [] _ _ (m0, m1) (size_spelled l.sizes.vertical valid.sizes.vertical));
  };
}

-- the number of tokens is that of words
as_many : (tokens : List TokenSeen) (words : List (List ℕ)) → AreWords tokens words → length tokens ≡ length words
as_many [] [] h = refl
as_many [] (w ∷ ws) h = absurd h
as_many (t ∷ ts) [] h = absurd h
as_many (t ∷ ts) (w ∷ ws) h = ap suc (as_many ts ws h.2)

spelled : (octets : List ℕ) (l : Location) (tokens : List TokenSeen) → IsLocation octets l → AreWords tokens (location_words l) → SpellsLocation tokens octets
spelled octets l (a ∷ b ∷ c ∷ d ∷ e ∷ f ∷ g ∷ h ∷ i ∷ j ∷ k ∷ m ∷ []) valid are = (l, are_location l valid.0 a b c d e f g h i j k m are, valid.1)
spelled octets l other valid are = absurd (omega (arith, as_many other (location_words l) are))

-- ---- what is spelled is possible

side_valid : (axis : Axis) (angle : ℕ) (text : List ℕ) (n : ℕ) → angle ≤ most_angle axis → SpellsSide axis angle text n → IsAngleNumber axis n
side_valid axis angle text n few (inl h) = (omega (arith, h.1), omega (arith, h.1, few))
side_valid axis angle text n few (inr h) = (omega (arith, h.1, few), omega (arith, h.1))

seconds_valid : (axis : Axis) (before : ℕ) (tokens : List TokenSeen) (n : ℕ) (rest : List TokenSeen) → ContinuesWithSeconds axis before tokens n rest → IsAngleNumber axis n
seconds_valid axis before tokens n rest h = side_valid axis h.0 h.3.0.text n h.2.3.4 h.3.3

minutes_valid : (axis : Axis) (before : ℕ) (tokens : List TokenSeen) (n : ℕ) (rest : List TokenSeen) → ContinuesWithMinutes axis before tokens n rest → IsAngleNumber axis n
minutes_valid axis before tokens n rest (angle, more, h, inl k) = side_valid axis angle k.0.text n h.3.4 k.3
minutes_valid axis before tokens n rest (angle, more, h, inr k) = seconds_valid axis angle more n rest k

angle_valid : (axis : Axis) (tokens : List TokenSeen) (n : ℕ) (rest : List TokenSeen) → BeginsWithAngle axis tokens n rest → IsAngleNumber axis n
angle_valid axis tokens n rest (angle, more, h, inl k) = side_valid axis angle k.0.text n h.3.3 k.3
angle_valid axis tokens n rest (angle, more, h, inr k) = minutes_valid axis angle more n rest k

digits_valid : (n digit behind octet : ℕ) → n < 9000000100 → HasFirstDigit n digit behind → octet ≡ digit * 16 + behind → IsSize octet
digits_valid n digit behind octet small h is =
    let short = behind_short n digit behind small h in
    let high : octet / 16 ≡ digit = omega (arith, is, short) in
    let low : octet % 16 ≡ behind = omega (arith, is, short) in
    (omega (arith, high, h.is_digit), omega (arith, low, short), λ none. low ∙ h.zero (sym high ∙ none))

size_valid : (usual : ℕ) → IsSize usual → (tokens : List TokenSeen) (octet : ℕ) (rest : List TokenSeen) → BeginsWithSize usual tokens octet rest → IsSize octet
size_valid usual own tokens octet rest (inl h) = digits_valid h.3.0 h.3.3.0 h.3.3.1 octet h.3.2 h.3.3.2 h.3.3.3
size_valid usual own tokens octet rest (inr h) = subst IsSize (sym h.2) own

possible : (tokens : List TokenSeen) (l : Location) → AreLocation tokens l → IsPossible l
possible tokens l h = record {
  sizes = record {
    size = size_valid 0x12 (omega arith, omega arith, λ e. omega (arith, e)) h.behind_altitude l.sizes.size h.sizes.behind_size h.sizes.size;
    horizontal = size_valid 0x16 (omega arith, omega arith, λ e. omega (arith, e)) h.sizes.behind_size l.sizes.horizontal h.sizes.behind_horizontal h.sizes.horizontal;
    vertical = size_valid 0x13 (omega arith, omega arith, λ e. omega (arith, e)) h.sizes.behind_horizontal l.sizes.vertical [] h.sizes.vertical;
  };
  latitude = angle_valid Latitude tokens l.latitude h.behind_latitude h.latitude;
  longitude = angle_valid Longitude h.behind_latitude l.longitude h.behind_longitude h.longitude;
  altitude = h.altitude.3.0;
}

-- ---- octets

-- a number of four octets at an offset
number_from : ℕ → List ℕ → ℕ
number_from at octets = from_be_bytes w32 (take 4 (drop at octets))

angle_small : (axis : Axis) (n : ℕ) → IsAngleNumber axis n → n < 2 ^ 32
angle_small axis n h = let most = most_le axis in omega (arith, h.1, most)

-- octets are those of one location
one : (octets : List ℕ) (l m : Location) → IsLocation octets l → IsLocation octets m → l ≡ m
unfolding number_from
one octets l m h k =
    let same : location_octets l ≡ location_octets m = sym h.1 ∙ k.1 in
    let size : l.sizes.size ≡ m.sizes.size = ap (λ t. get_or t 1 0) same in
    let horizontal : l.sizes.horizontal ≡ m.sizes.horizontal = ap (λ t. get_or t 2 0) same in
    let vertical : l.sizes.vertical ≡ m.sizes.vertical = ap (λ t. get_or t 3 0) same in
    let latitude : l.latitude ≡ m.latitude =
    sym (from_be_bytes-to_be_bytes_4 l.latitude (angle_small Latitude l.latitude h.0.latitude)) ∙ ap (number_from 4) same ∙ from_be_bytes-to_be_bytes_4 m.latitude (angle_small Latitude m.latitude k.0.latitude) in
    let longitude : l.longitude ≡ m.longitude =
    sym (from_be_bytes-to_be_bytes_4 l.longitude (angle_small Longitude l.longitude h.0.longitude)) ∙ ap (number_from 8) same ∙ from_be_bytes-to_be_bytes_4 m.longitude (angle_small Longitude m.longitude k.0.longitude) in
    let altitude : l.altitude ≡ m.altitude =
    sym (from_be_bytes-to_be_bytes_4 l.altitude h.0.altitude) ∙ ap (number_from 12) same ∙ from_be_bytes-to_be_bytes_4 m.altitude k.0.altitude in
    λ i. record { sizes = record { size = size i; horizontal = horizontal i; vertical = vertical i }; latitude = latitude i; longitude = longitude i; altitude = altitude i }

-- ---- octets of a location are spelled

plain : List ℕ → TokenSeen
plain text = record { text = text; is_quoted = false; is_adjacent = false; at = 0 }

plain_words : (words : List (List ℕ)) → AreWords (map plain words) words
unfolding plain
plain_words [] = tt
plain_words (w ∷ ws) = (refl, refl, plain_words ws)

said : (octets : List ℕ) (l : Location) → IsLocation octets l → (tokens : List TokenSeen) × SpellsLocation tokens octets
said octets l h = (map plain (location_words l), spelled octets l (map plain (location_words l)) h (plain_words (location_words l)))

-- tokens spell these octets, or none do
abbrev AreSpelled : List ℕ → Bool → Type 0
AreSpelled octets b = MatchBool b ((tokens : List TokenSeen) × SpellsLocation tokens octets) ((tokens : List TokenSeen) → SpellsLocation tokens octets → ⊥)

pub are_spelled : (octets : List ℕ) (r : Option Location) (b : Bool) → b ≡ is_some r → MatchOption r ((l : Location) → IsLocation octets l → ⊥) (IsLocation octets) → AreSpelled octets b
are_spelled octets (Some l) b is h = subst (AreSpelled octets) (sym is) (said octets l h)
are_spelled octets None b is none = subst (AreSpelled octets) (sym is) (λ tokens k. none k.0 (possible tokens k.0 k.1, k.2))

pub locations_are_read : LocationsAreRead
locations_are_read = record { spelled = spelled; once = one_octets; valid = λ tokens octets h. (h.0, (possible tokens h.0 h.1, h.2)); one = one }

-- ---- what is printed

-- the text of the word at each index
four_words : (words : List LocationWord) (d : LocationWord) (texts : List (List ℕ)) → map word_text words ≡ texts → length texts ≡ 4 → (k : ℕ) → k < 4 → word_text (get_or words k d) ≡ get_or texts k []
four_words words d texts is four k here =
    let long : length (map word_text words) ≡ length words = length-map words word_text in
    let whole : length (map word_text words) ≡ length texts = ap length is in
    sym (get_or-map word_text words k d [] (omega (arith, long, whole, four, here))) ∙ ap (λ t. get_or t k []) is

pub eight_words : (north east : List LocationWord) (d : LocationWord) (latitude longitude : ℕ) (last : List (List ℕ)) → map word_text north ≡ angle_words Latitude latitude → map word_text east ≡ angle_words Longitude longitude
    → word_text (get_or north 0 d) ∷ word_text (get_or north 1 d) ∷ word_text (get_or north 2 d) ∷ word_text (get_or north 3 d) ∷ word_text (get_or east 0 d) ∷ word_text (get_or east 1 d) ∷ word_text (get_or east 2 d) ∷ word_text (get_or east 3 d) ∷ last
    ≡ angle_words Latitude latitude ++ angle_words Longitude longitude ++ last
eight_words north east d latitude longitude last h k =
    let a = four_words north d _ h refl in
    let b = four_words east d _ k refl in
    λ i. a 0 (lit< tt) i ∷ a 1 (lit< tt) i ∷ a 2 (lit< tt) i ∷ a 3 (lit< tt) i ∷ b 0 (lit< tt) i ∷ b 1 (lit< tt) i ∷ b 2 (lit< tt) i ∷ b 3 (lit< tt) i ∷ last
