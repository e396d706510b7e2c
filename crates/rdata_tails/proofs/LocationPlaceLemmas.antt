-- The rejected token is the first that is wrong.
use Rattle.std.proofs.Common.{ℕ, lit<, ◌≡◌, ◌+◌, ◌^◌, false, List, [], ◌∷◌, ◌++◌, length, get_or, refl, sym, subst, arith, ap, ◌∙◌, inl, inr, append_assoc, append-nil}
use Rattle.std.specs.Prelude.{codes}
use Rattle.rdata_values.specs.Numbers.{SpellsNumber}
use Rattle.dns_lexer.specs.EntryTokens.{TokenSeen}
use Rattle.rdata_tails.specs.declared.angles.Axis.{Axis}
use Rattle.rdata_tails.specs.declared.angles.Axis.TheVariants.{Latitude, Longitude}
use Rattle.rdata_tails.specs.declared.location.Location.{Location}
use Rattle.rdata_tails.specs.declared.location.Sizes.{Sizes}
use Rattle.rdata_values.specs.declared.error.ErrorKind.{ErrorKind}
use Rattle.rdata_values.specs.declared.error.ErrorKind.TheVariants.{ExpectedLatitude, ExpectedLongitude, ExpectedAltitude, ExpectedSize, ExpectedEnd}
use Rattle.rdata_tails.specs.Locations.{upper_side, SpellsDegrees, SpellsMinutes, SpellsSeconds, SpellsSide, SpellsAltitude, SpellsSize, BeginsWithWord, BeginsWithAngle, ContinuesWithMinutes, ContinuesWithSeconds, AreSizes, AreLocation, location_octets, usual_size, usual_horizontal, usual_vertical}
use Rattle.rdata_tails.specs.LocationPlaces.{BeginsLocation, NoLocationContinues, IsFirstRefused}
use Rattle.rdata_tails.specs.LocationParsing.{LacksWord, StopsInSeconds, StopsInMinutes, StopsInAngle, StopsAtSize, StopsInSizes, BeginsWithAngles, BeginsWithPoint, RefusesTokens}
use Rattle.rdata_tails.proofs.LocationOnce.{BehindMinutes, BehindDegrees, refused_none}

-- ---- what is read at the beginning, whatever follows

record Front (P : List TokenSeen → ℕ → List TokenSeen → Type 0) (tokens : List TokenSeen) (n : ℕ) (rest : List TokenSeen) : Type 0 where
  taken : List TokenSeen
  whole : tokens ≡ taken ++ rest
  framed : (more : List TokenSeen) → P (taken ++ more) n more

word_front : (Spells : List ℕ → ℕ → Type 0) (tokens : List TokenSeen) (n : ℕ) (rest : List TokenSeen) → BeginsWithWord Spells tokens n rest → Front (BeginsWithWord Spells) tokens n rest
word_front Spells tokens n rest h = record { taken = h.0 ∷ []; whole = h.1; framed = λ more. (h.0, refl, h.2, h.3) }

mapped : (P Q : List TokenSeen → ℕ → List TokenSeen → Type 0) (tokens : List TokenSeen) (n : ℕ) (rest : List TokenSeen) → ((ts more : List TokenSeen) → P ts n more → Q ts n more) → Front P tokens n rest → Front Q tokens n rest
mapped P Q tokens n rest f p = record { taken = p.taken; whole = p.whole; framed = λ more. f (p.taken ++ more) more (p.framed more) }

both_whole : (tokens middle rest first second : List TokenSeen) → tokens ≡ first ++ middle → middle ≡ second ++ rest → tokens ≡ first ++ second ++ rest
both_whole tokens middle rest first second h k = h ∙ ap (λ ts. first ++ ts) k ∙ sym (append_assoc first second rest)

joined : (P Q R : List TokenSeen → ℕ → List TokenSeen → Type 0) (tokens middle rest : List TokenSeen) (n m : ℕ) → ((ts mid more : List TokenSeen) → P ts n mid → Q mid m more → R ts m more) → Front P tokens n middle → Front Q middle m rest → Front R tokens m rest
joined P Q R tokens middle rest n m f p q = record {
  taken = p.taken ++ q.taken;
  whole = both_whole tokens middle rest p.taken q.taken p.whole q.whole;
  framed = λ more. subst (λ ts. R ts m more) (sym (append_assoc p.taken q.taken more)) (f (p.taken ++ (q.taken ++ more)) (q.taken ++ more) more (p.framed (q.taken ++ more)) (q.framed more));
}

seconds_front : (axis : Axis) (before : ℕ) (tokens : List TokenSeen) (n : ℕ) (rest : List TokenSeen) → ContinuesWithSeconds axis before tokens n rest → Front (ContinuesWithSeconds axis before) tokens n rest
seconds_front axis before tokens n rest h =
    joined (BeginsWithWord (SpellsSeconds axis before)) (BeginsWithWord (SpellsSide axis h.0)) (ContinuesWithSeconds axis before) tokens h.1 rest h.0 n (λ ts mid more a b. (h.0, mid, a, b))
    (word_front (SpellsSeconds axis before) tokens h.0 h.1 h.2) (word_front (SpellsSide axis h.0) h.1 n rest h.3)

behind_minutes_front : (axis : Axis) (angle : ℕ) (tokens : List TokenSeen) (n : ℕ) (rest : List TokenSeen) → BehindMinutes axis angle tokens n rest → Front (BehindMinutes axis angle) tokens n rest
behind_minutes_front axis angle tokens n rest (inl h) = mapped (BeginsWithWord (SpellsSide axis angle)) (BehindMinutes axis angle) tokens n rest (λ ts more k. inl k) (word_front (SpellsSide axis angle) tokens n rest h)
behind_minutes_front axis angle tokens n rest (inr h) = mapped (ContinuesWithSeconds axis angle) (BehindMinutes axis angle) tokens n rest (λ ts more k. inr k) (seconds_front axis angle tokens n rest h)

minutes_front : (axis : Axis) (before : ℕ) (tokens : List TokenSeen) (n : ℕ) (rest : List TokenSeen) → ContinuesWithMinutes axis before tokens n rest → Front (ContinuesWithMinutes axis before) tokens n rest
minutes_front axis before tokens n rest h =
    joined (BeginsWithWord (SpellsMinutes axis before)) (BehindMinutes axis h.0) (ContinuesWithMinutes axis before) tokens h.1 rest h.0 n (λ ts mid more a b. (h.0, mid, a, b))
    (word_front (SpellsMinutes axis before) tokens h.0 h.1 h.2) (behind_minutes_front axis h.0 h.1 n rest h.3)

behind_degrees_front : (axis : Axis) (angle : ℕ) (tokens : List TokenSeen) (n : ℕ) (rest : List TokenSeen) → BehindDegrees axis angle tokens n rest → Front (BehindDegrees axis angle) tokens n rest
behind_degrees_front axis angle tokens n rest (inl h) = mapped (BeginsWithWord (SpellsSide axis angle)) (BehindDegrees axis angle) tokens n rest (λ ts more k. inl k) (word_front (SpellsSide axis angle) tokens n rest h)
behind_degrees_front axis angle tokens n rest (inr h) = mapped (ContinuesWithMinutes axis angle) (BehindDegrees axis angle) tokens n rest (λ ts more k. inr k) (minutes_front axis angle tokens n rest h)

angle_front : (axis : Axis) (tokens : List TokenSeen) (n : ℕ) (rest : List TokenSeen) → BeginsWithAngle axis tokens n rest → Front (BeginsWithAngle axis) tokens n rest
angle_front axis tokens n rest h =
    joined (BeginsWithWord (SpellsDegrees axis)) (BehindDegrees axis h.0) (BeginsWithAngle axis) tokens h.1 rest h.0 n (λ ts mid more a b. (h.0, mid, a, b)) (word_front (SpellsDegrees axis) tokens h.0 h.1 h.2) (behind_degrees_front axis h.0 h.1 n rest h.3)

-- both angles, by the number of the second
abbrev Angles : List TokenSeen → ℕ → List TokenSeen → Type 0
Angles tokens n rest = BeginsWithAngles tokens rest

angles_front : (tokens rest : List TokenSeen) → (h : BeginsWithAngles tokens rest) → Front Angles tokens h.1 rest
angles_front tokens rest h =
    joined (BeginsWithAngle Latitude) (BeginsWithAngle Longitude) Angles tokens h.2 rest h.0 h.1 (λ ts mid more a b. (h.0, h.1, mid, a, b)) (angle_front Latitude tokens h.0 h.2 h.3) (angle_front Longitude h.2 h.1 rest h.4)

abbrev Point : List TokenSeen → ℕ → List TokenSeen → Type 0
Point tokens n rest = BeginsWithPoint tokens rest

point_front : (tokens rest : List TokenSeen) → (h : BeginsWithPoint tokens rest) → Front Point tokens h.0 rest
point_front tokens rest h =
    joined Angles (BeginsWithWord SpellsAltitude) Point tokens h.1 rest h.2.1 h.0 (λ ts mid more a b. (h.0, mid, a, b)) (angles_front tokens h.1 h.2) (word_front SpellsAltitude h.1 h.0 rest h.3)

-- ---- tokens that complete a location

plain : List ℕ → TokenSeen
plain text = record { text = text; is_quoted = false; is_adjacent = false; at = 0 }

zero_number : SpellsNumber (codes "0") 0
zero_number = ((lit< tt, (lit< tt, tt)), refl)

zero_degrees : (axis : Axis) → SpellsDegrees axis (codes "0") 0
zero_degrees axis = (0, zero_number, refl, omega arith)

zero_altitude : SpellsAltitude (codes "0") 10000000
zero_altitude = (lit< tt, inl (0, inl (inl (0, zero_number, refl)), refl))

upper : (axis : Axis) → TokenSeen
upper axis = plain (upper_side axis)

goes_to_side : (axis : Axis) (angle : ℕ) (more : List TokenSeen) → BeginsWithWord (SpellsSide axis angle) (upper axis ∷ more) (2 ^ 31 + angle) more
unfolding upper plain
goes_to_side axis angle more = (upper axis, refl, refl, inl (refl, refl))

zero_angle : (axis : Axis) (more : List TokenSeen) → BeginsWithAngle axis (plain (codes "0") ∷ upper axis ∷ more) (2 ^ 31 + 0) more
unfolding plain
zero_angle axis more = (0, upper axis ∷ more, (plain (codes "0"), refl, refl, zero_degrees axis), inl (goes_to_side axis 0 more))

-- tokens that begin with a latitude and a longitude continue to a location
of_angles : (tokens : List TokenSeen) → BeginsWithAngles tokens (plain (codes "0") ∷ []) → BeginsWithPoint tokens []
unfolding plain
of_angles tokens h = (10000000, plain (codes "0") ∷ [], h, (plain (codes "0"), refl, refl, zero_altitude))

of_latitude : (tokens : List TokenSeen) (n : ℕ) → BeginsWithAngle Latitude tokens n (plain (codes "0") ∷ upper Longitude ∷ plain (codes "0") ∷ []) → BeginsWithPoint tokens []
of_latitude tokens n h = of_angles tokens (n, 2 ^ 31 + 0, plain (codes "0") ∷ upper Longitude ∷ plain (codes "0") ∷ [], h, zero_angle Longitude (plain (codes "0") ∷ []))

of_sizes : (taken more middle : List TokenSeen) (s : Sizes) → BeginsWithPoint (taken ++ more) middle → AreSizes middle s → BeginsLocation taken
of_sizes taken more middle s h k =
    let l : Location = record { sizes = s; latitude = h.2.0; longitude = h.2.1; altitude = h.0 } in
    (more, location_octets l, (l, record { behind_latitude = h.2.2; behind_longitude = h.1; behind_altitude = middle; latitude = h.2.3; longitude = h.2.4; altitude = h.3; sizes = k }, refl))

no_sizes : AreSizes [] (record { size = usual_size; horizontal = usual_horizontal; vertical = usual_vertical })
no_sizes = record { behind_size = []; behind_horizontal = []; size = inr (refl, refl, refl); horizontal = inr (refl, refl, refl); vertical = inr (refl, refl, refl) }

of_point : (taken more : List TokenSeen) → BeginsWithPoint (taken ++ more) [] → BeginsLocation taken
of_point taken more h = of_sizes taken more [] _ h no_sizes

-- ---- the part of an angle that is wrong

-- what lacks a word lacks it whatever follows the first token
lacks_same : (Spells : List ℕ → ℕ → Type 0) (tokens : List TokenSeen) (u : TokenSeen) (ts more : List TokenSeen) → LacksWord Spells tokens → tokens ≡ u ∷ ts → LacksWord Spells (u ∷ more)
lacks_same Spells tokens u ts more lacks is n rest k =
    let first : u ≡ k.0 = ap (λ l. get_or l 0 u) k.1 in
    lacks n ts (k.0, is ∙ ap (λ t. t ∷ ts) first, k.2, k.3)

lacks_front : (Spells : List ℕ → ℕ → Type 0) (taken tokens left : List TokenSeen) (u : TokenSeen) (ts more : List TokenSeen) → tokens ≡ taken ++ left → left ≡ u ∷ ts → LacksWord Spells tokens → LacksWord Spells (taken ++ u ∷ more)
lacks_front Spells [] tokens left u ts more whole is lacks = lacks_same Spells tokens u ts more lacks (whole ∙ is)
lacks_front Spells (t ∷ taken) tokens left u ts more whole is lacks = lacks_same Spells tokens t (taken ++ left) (taken ++ u ∷ more) lacks whole

record Stopped (Stops : List TokenSeen → List TokenSeen → Type 0) (Goes : List TokenSeen → ℕ → List TokenSeen → Type 0) (tokens left : List TokenSeen) : Type 0 where
  taken : List TokenSeen
  whole : tokens ≡ taken ++ left
  again : (u : TokenSeen) (ts more : List TokenSeen) → left ≡ u ∷ ts → Stops (taken ++ u ∷ more) (u ∷ more)
  ending : List TokenSeen
  number : ℕ
  goes : (more : List TokenSeen) → Goes (taken ++ (ending ++ more)) number more

seconds_stopped : (axis : Axis) (before : ℕ) (tokens left : List TokenSeen) → StopsInSeconds axis before tokens left → Stopped (StopsInSeconds axis before) (BehindMinutes axis before) tokens left
seconds_stopped axis before tokens left (inl h) = record {
  taken = [];
  whole = sym h.0;
  again = λ u ts more is. inl (refl, lacks_same (SpellsSeconds axis before) tokens u ts more h.1 (sym h.0 ∙ is));
  ending = upper axis ∷ [];
  number = 2 ^ 31 + before;
  goes = λ more. inl (goes_to_side axis before more);
}
seconds_stopped axis before tokens left (inr h) =
    let p = word_front (SpellsSeconds axis before) tokens h.0 left h.1 in
    record {
      taken = p.taken;
      whole = p.whole;
      again = λ u ts more is. inr (h.0, p.framed (u ∷ more), lacks_same (SpellsSide axis h.0) left u ts more h.2 is);
      ending = upper axis ∷ [];
      number = 2 ^ 31 + h.0;
      goes = λ more. inr (h.0, upper axis ∷ more, p.framed (upper axis ∷ more), goes_to_side axis h.0 more);
    }

minutes_stopped : (axis : Axis) (before : ℕ) (tokens left : List TokenSeen) → StopsInMinutes axis before tokens left → Stopped (StopsInMinutes axis before) (BehindDegrees axis before) tokens left
minutes_stopped axis before tokens left (inl h) = record {
  taken = [];
  whole = sym h.0;
  again = λ u ts more is. inl (refl, lacks_same (SpellsMinutes axis before) tokens u ts more h.1 (sym h.0 ∙ is));
  ending = upper axis ∷ [];
  number = 2 ^ 31 + before;
  goes = λ more. inl (goes_to_side axis before more);
}
minutes_stopped axis before tokens left (inr h) =
    let p = word_front (SpellsMinutes axis before) tokens h.0 h.1 h.2 in
    let q = seconds_stopped axis h.0 h.1 left h.4 in
    record {
      taken = p.taken ++ q.taken;
      whole = both_whole tokens h.1 left p.taken q.taken p.whole q.whole;
      again = λ u ts more is. subst (λ l. StopsInMinutes axis before l (u ∷ more)) (sym (append_assoc p.taken q.taken (u ∷ more)))
          (inr (h.0, q.taken ++ u ∷ more, p.framed (q.taken ++ u ∷ more), lacks_front (SpellsSide axis h.0) q.taken h.1 left u ts more q.whole is h.3, q.again u ts more is));
      ending = q.ending;
      number = q.number;
      goes = λ more. subst (λ l. BehindDegrees axis before l q.number more) (sym (append_assoc p.taken q.taken (q.ending ++ more))) (inr (h.0, q.taken ++ (q.ending ++ more), p.framed (q.taken ++ (q.ending ++ more)), q.goes more));
    }

angle_stopped : (axis : Axis) (tokens left : List TokenSeen) → StopsInAngle axis tokens left → Stopped (StopsInAngle axis) (BeginsWithAngle axis) tokens left
angle_stopped axis tokens left (inl h) = record {
  taken = [];
  whole = sym h.0;
  again = λ u ts more is. inl (refl, lacks_same (SpellsDegrees axis) tokens u ts more h.1 (sym h.0 ∙ is));
  ending = plain (codes "0") ∷ upper axis ∷ [];
  number = 2 ^ 31 + 0;
  goes = λ more. zero_angle axis more;
}
angle_stopped axis tokens left (inr h) =
    let p = word_front (SpellsDegrees axis) tokens h.0 h.1 h.2 in
    let q = minutes_stopped axis h.0 h.1 left h.4 in
    record {
      taken = p.taken ++ q.taken;
      whole = both_whole tokens h.1 left p.taken q.taken p.whole q.whole;
      again = λ u ts more is. subst (λ l. StopsInAngle axis l (u ∷ more)) (sym (append_assoc p.taken q.taken (u ∷ more)))
          (inr (h.0, q.taken ++ u ∷ more, p.framed (q.taken ++ u ∷ more), lacks_front (SpellsSide axis h.0) q.taken h.1 left u ts more q.whole is h.3, q.again u ts more is));
      ending = q.ending;
      number = q.number;
      goes = λ more. subst (λ l. BeginsWithAngle axis l q.number more) (sym (append_assoc p.taken q.taken (q.ending ++ more))) (h.0, q.taken ++ (q.ending ++ more), p.framed (q.taken ++ (q.ending ++ more)), q.goes more);
    }

-- ---- the whole

record Placed (e : ErrorKind) (tokens left : List TokenSeen) : Type 0 where
  taken : List TokenSeen
  whole : tokens ≡ taken ++ left
  again : (u : TokenSeen) (ts more : List TokenSeen) → left ≡ u ∷ ts → RefusesTokens e (taken ++ u ∷ more) (u ∷ more)
  begins : BeginsLocation taken

latitude_placed : (tokens left : List TokenSeen) → RefusesTokens ExpectedLatitude tokens left → Placed ExpectedLatitude tokens left
latitude_placed tokens left h =
    let q = angle_stopped Latitude tokens left h in
    let more : List TokenSeen = plain (codes "0") ∷ upper Longitude ∷ plain (codes "0") ∷ [] in
    record { taken = q.taken; whole = q.whole; again = q.again; begins = of_point q.taken (q.ending ++ more) (of_latitude (q.taken ++ (q.ending ++ more)) q.number (q.goes more)) }

longitude_placed : (tokens left : List TokenSeen) → RefusesTokens ExpectedLongitude tokens left → Placed ExpectedLongitude tokens left
longitude_placed tokens left h =
    let p = angle_front Latitude tokens h.0 h.1 h.2 in
    let q = angle_stopped Longitude h.1 left h.3 in
    let more : List TokenSeen = plain (codes "0") ∷ [] in
    record {
      taken = p.taken ++ q.taken;
      whole = both_whole tokens h.1 left p.taken q.taken p.whole q.whole;
      again = λ u ts more is. subst (λ l. RefusesTokens ExpectedLongitude l (u ∷ more)) (sym (append_assoc p.taken q.taken (u ∷ more))) (h.0, q.taken ++ u ∷ more, p.framed (q.taken ++ u ∷ more), q.again u ts more is);
      begins = of_point (p.taken ++ q.taken) (q.ending ++ more)
          (of_angles (p.taken ++ q.taken ++ (q.ending ++ more))
          (subst (λ l. BeginsWithAngles l more) (sym (append_assoc p.taken q.taken (q.ending ++ more))) (h.0, q.number, q.taken ++ (q.ending ++ more), p.framed (q.taken ++ (q.ending ++ more)), q.goes more)));
    }

altitude_placed : (tokens left : List TokenSeen) → RefusesTokens ExpectedAltitude tokens left → Placed ExpectedAltitude tokens left
altitude_placed tokens left h =
    let p = angles_front tokens left h.0 in
    let more : List TokenSeen = plain (codes "0") ∷ [] in
    record {
      taken = p.taken;
      whole = p.whole;
      again = λ u ts more is. (p.framed (u ∷ more), lacks_same SpellsAltitude left u ts more h.1 is);
      begins = of_point p.taken more (of_angles (p.taken ++ more) (p.framed more));
    }

some_left : (u : TokenSeen) (more : List TokenSeen) → u ∷ more ≡ [] → ⊥
some_left u more e = let none : length (u ∷ more) ≡ 0 = ap length e in omega (arith, none)

still_stops : (left : List TokenSeen) (u : TokenSeen) (ts more : List TokenSeen) → StopsAtSize left → left ≡ u ∷ ts → StopsAtSize (u ∷ more)
still_stops left u ts more h is = (some_left u more, lacks_same SpellsSize left u ts more h.1 is)

-- what follows the sizes that are read
record SizesTaken (middle left : List TokenSeen) : Type 0 where
  taken : List TokenSeen
  whole : middle ≡ taken ++ left
  again : (u : TokenSeen) (ts more : List TokenSeen) → left ≡ u ∷ ts → StopsInSizes (taken ++ u ∷ more) (u ∷ more)
  sizes : Sizes
  are : AreSizes (taken ++ []) sizes

sizes_stopped : (middle left : List TokenSeen) → StopsInSizes middle left → SizesTaken middle left
sizes_stopped middle left (at, inl same) = record { taken = []; whole = sym same; again = λ u ts more is. (still_stops left u ts more at is, inl refl); sizes = _; are = no_sizes }
sizes_stopped middle left (at, inr (size, more, h, inl same)) =
    let q = word_front SpellsSize middle size more h in
    record {
      taken = q.taken;
      whole = q.whole ∙ ap (λ ts. q.taken ++ ts) (sym same);
      again = λ u ts x is. (still_stops left u ts x at is, inr (size, u ∷ x, q.framed (u ∷ x), inl refl));
      sizes = record { size = size; horizontal = usual_horizontal; vertical = usual_vertical };
      are = record { behind_size = []; behind_horizontal = []; size = inl (q.framed []); horizontal = inr (refl, refl, refl); vertical = inr (refl, refl, refl) };
    }
sizes_stopped middle left (at, inr (size, more, h, inr (horizontal, k))) =
    let q = word_front SpellsSize middle size more h in
    let r = word_front SpellsSize more horizontal left k in
    let both : (x : List TokenSeen) → BeginsWithWord SpellsSize (q.taken ++ r.taken ++ x) size (r.taken ++ x) =
    λ x. subst (λ ts. BeginsWithWord SpellsSize ts size (r.taken ++ x)) (sym (append_assoc q.taken r.taken x)) (q.framed (r.taken ++ x)) in
    record {
      taken = q.taken ++ r.taken;
      whole = both_whole middle more left q.taken r.taken q.whole r.whole;
      again = λ u ts x is. (still_stops left u ts x at is, inr (size, r.taken ++ u ∷ x, both (u ∷ x), inr (horizontal, r.framed (u ∷ x))));
      sizes = record { size = size; horizontal = horizontal; vertical = usual_vertical };
      are = record { behind_size = r.taken ++ []; behind_horizontal = []; size = inl (both []); horizontal = inl (r.framed []); vertical = inr (refl, refl, refl) };
    }

size_placed : (tokens left : List TokenSeen) → RefusesTokens ExpectedSize tokens left → Placed ExpectedSize tokens left
size_placed tokens left h =
    let p = point_front tokens h.0 h.1 in
    let q = sizes_stopped h.0 left h.2 in
    record {
      taken = p.taken ++ q.taken;
      whole = both_whole tokens h.0 left p.taken q.taken p.whole q.whole;
      again = λ u ts more is. subst (λ l. RefusesTokens ExpectedSize l (u ∷ more)) (sym (append_assoc p.taken q.taken (u ∷ more))) (q.taken ++ u ∷ more, p.framed (q.taken ++ u ∷ more), q.again u ts more is);
      begins = of_sizes (p.taken ++ q.taken) [] (q.taken ++ []) q.sizes (subst (λ l. BeginsWithPoint l (q.taken ++ [])) (sym (append_assoc p.taken q.taken [])) (p.framed (q.taken ++ []))) q.are;
    }

end_placed : (tokens left : List TokenSeen) → RefusesTokens ExpectedEnd tokens left → Placed ExpectedEnd tokens left
end_placed tokens left (middle, point, (some, size, more, horizontal, most, vertical, h, j, k)) =
    let p = point_front tokens middle point in
    let q = word_front SpellsSize middle size more h in
    let r = word_front SpellsSize more horizontal most j in
    let s = word_front SpellsSize most vertical left k in
    let three : List TokenSeen = q.taken ++ (r.taken ++ s.taken) in
    let first : (x : List TokenSeen) → BeginsWithWord SpellsSize (three ++ x) size (r.taken ++ s.taken ++ x) =
    λ x. subst (λ ts. BeginsWithWord SpellsSize ts size (r.taken ++ s.taken ++ x)) (sym (append_assoc q.taken (r.taken ++ s.taken) x)) (q.framed (r.taken ++ s.taken ++ x)) in
    let second : (x : List TokenSeen) → BeginsWithWord SpellsSize (r.taken ++ s.taken ++ x) horizontal (s.taken ++ x) =
    λ x. subst (λ ts. BeginsWithWord SpellsSize ts horizontal (s.taken ++ x)) (sym (append_assoc r.taken s.taken x)) (r.framed (s.taken ++ x)) in
    record {
      taken = p.taken ++ three;
      whole = both_whole tokens middle left p.taken three p.whole (both_whole middle more left q.taken (r.taken ++ s.taken) q.whole (both_whole more most left r.taken s.taken r.whole s.whole));
      again = λ u ts x is. subst (λ l. RefusesTokens ExpectedEnd l (u ∷ x)) (sym (append_assoc p.taken three (u ∷ x)))
          (three ++ u ∷ x, p.framed (three ++ u ∷ x), (some_left u x, size, r.taken ++ s.taken ++ u ∷ x, horizontal, s.taken ++ u ∷ x, vertical, first (u ∷ x), second (u ∷ x), s.framed (u ∷ x)));
      begins = of_sizes (p.taken ++ three) [] (three ++ []) (record { size = size; horizontal = horizontal; vertical = vertical })
          (subst (λ l. BeginsWithPoint l (three ++ [])) (sym (append_assoc p.taken three [])) (p.framed (three ++ [])))
          (record { behind_size = r.taken ++ s.taken ++ []; behind_horizontal = s.taken ++ []; size = inl (first []); horizontal = inl (second []); vertical = inl (s.framed []) });
    }

placed : (e : ErrorKind) (tokens left : List TokenSeen) → RefusesTokens e tokens left → Placed e tokens left
placed ExpectedLatitude tokens left h = latitude_placed tokens left h
placed ExpectedLongitude tokens left h = longitude_placed tokens left h
placed ExpectedAltitude tokens left h = altitude_placed tokens left h
placed ExpectedSize tokens left h = size_placed tokens left h
placed ExpectedEnd tokens left h = end_placed tokens left h
placed _ tokens left h = absurd h

wrong_at : (e : ErrorKind) (tokens left : List TokenSeen) → Placed e tokens left → RefusesTokens e tokens left → IsFirstRefused tokens left
wrong_at e tokens left p h = (p.taken, p.whole, p.begins, by left p.whole p.again h)
  where
    by : (left : List TokenSeen) → tokens ≡ p.taken ++ left → ((u : TokenSeen) (ts more : List TokenSeen) → left ≡ u ∷ ts → RefusesTokens e (p.taken ++ u ∷ more) (u ∷ more)) → RefusesTokens e tokens left → NoLocationContinues p.taken left
    by [] whole again h = λ octets k. refused_none e tokens [] h k.0 (subst (λ ts. AreLocation ts k.0) (sym (append-nil p.taken) ∙ sym whole) k.1)
    by (t ∷ ts) whole again h = λ k. refused_none e (p.taken ++ t ∷ k.0) (t ∷ k.0) (again t ts k.0 refl) k.2.0 (subst (λ l. AreLocation l k.2.0) (append_assoc p.taken (t ∷ []) k.0) k.2.1)

-- a rejected token is the first that is wrong
pub first_refused : (e : ErrorKind) (tokens left : List TokenSeen) → RefusesTokens e tokens left → IsFirstRefused tokens left
first_refused e tokens left h = wrong_at e tokens left (placed e tokens left h) h
