-- Parts of a location are parsed one after another.
use Rattle.std.proofs.Common.{ℕ, ◌≡◌, true, false, true≢false, Option, Some, None, List, [], ◌∷◌, length, get_or, drop, refl, sym, subst, arith, ap, ◌∙◌, inl, inr}
use Rattle.std.specs.Prelude.{slice_get, is_some, is_none, option_map}
use Rattle.std.proofs.lemmas.Option.{none-some}
use Rattle.dns_lexer.specs.EntryTokens.{TokenSeen, token_seen}
use Rattle.dns_lexer.specs.declared.entry_tokens.EntryToken.{EntryToken}
use Rattle.rdata_tails.specs.declared.angles.Axis.{Axis}
use Rattle.rdata_tails.specs.declared.location.Part.{Part}
use Rattle.rdata_tails.specs.declared.location.Part.TheVariants.{Side}
use Rattle.rdata_tails.specs.declared.location.Sizes.{Sizes}
use Rattle.rdata_values.specs.declared.error.ErrorKind.{ErrorKind}
use Rattle.rdata_values.specs.declared.error.ErrorKind.TheVariants.{ExpectedLatitude, ExpectedLongitude, ExpectedAltitude, ExpectedSize, ExpectedEnd}
use Rattle.rdata_tails.specs.Locations.{SpellsDegrees, SpellsMinutes, SpellsSeconds, SpellsSide, SpellsSize, BeginsWithWord, ContinuesWithMinutes, ContinuesWithSeconds, BeginsWithSize, AreSizes, Finds, usual_size, usual_horizontal, usual_vertical}
use Rattle.rdata_tails.specs.LocationParsing.{SpellsPart, LacksWord, FindsNext, ParsesLocationWord, ParsesSeconds, ParsesMinutes, ParsesAngle, StopsAtSize, StopsInSizes, HasTokensAfterSizes, RefusesSizes, BeginsWithPoint, RefusesTokens}

pub same_token : (t u : TokenSeen) (tokens rest more : List TokenSeen) → tokens ≡ t ∷ rest → tokens ≡ u ∷ more → t ≡ u
same_token t u tokens rest more h k = ap (λ ts. get_or ts 0 t) (sym h ∙ k)

pub finds_next : (part : Part) (t : TokenSeen) (tokens : List TokenSeen) (r : Option ℕ) → tokens ≡ t ∷ drop 1 tokens → t.is_quoted ≡ false → Finds (SpellsPart part) t.text r → FindsNext part tokens r
finds_next part t tokens (Some n) is plain h = (drop 1 tokens, (t, is, plain, h))
finds_next part t tokens None is plain none = λ n rest k. none n (subst (λ u. SpellsPart part u.text n) (same_token k.0 t tokens rest (drop 1 tokens) k.1 is) k.3)

pub none_here : (o : Option EntryToken) (left : List TokenSeen) → option_map token_seen o ≡ slice_get left 0 → is_none o ≡ true → left ≡ []
none_here o [] h none = refl
none_here None (u ∷ left) h none = absurd (none-some u h)
none_here (Some t) (u ∷ left) h none = absurd (true≢false (sym none))

pub some_here : (o : Option EntryToken) (left : List TokenSeen) → option_map token_seen o ≡ slice_get left 0 → is_some o ≡ true → left ≡ [] → ⊥
some_here None left h some is = true≢false (sym some)
some_here (Some t) left h some is = none-some (token_seen t) (sym (h ∙ ap (λ l. slice_get l 0) is))

-- ---- angles

pub seconds_taken : (axis : Axis) (before : ℕ) (tokens middle left : List TokenSeen) (angle : ℕ) (r : Option ℕ) → BeginsWithWord (SpellsSeconds axis before) tokens angle middle → ParsesLocationWord (Side axis angle) middle r left → ParsesSeconds axis before tokens r left
seconds_taken axis before tokens middle left angle (Some n) h k = (angle, middle, h, k)
seconds_taken axis before tokens middle left angle None h k = inr (angle, subst (λ l. BeginsWithWord (SpellsSeconds axis before) tokens angle l) (sym k.0) h, subst (LacksWord (SpellsSide axis angle)) (sym k.0) k.1)

pub minutes_taken : (axis : Axis) (before : ℕ) (tokens more middle left : List TokenSeen) (angle : ℕ) (r : Option ℕ) → BeginsWithWord (SpellsMinutes axis before) tokens angle more → (middle ≡ more) × LacksWord (SpellsSide axis angle) more
    → ParsesSeconds axis angle middle r left → ParsesMinutes axis before tokens r left
minutes_taken axis before tokens more middle left angle (Some n) h k s = (angle, more, h, inr (subst (λ l. ContinuesWithSeconds axis angle l n left) k.0 s))
minutes_taken axis before tokens more middle left angle None h k s = inr (angle, more, h, k.1, subst (λ l. ParsesSeconds axis angle l None left) k.0 s)

pub angle_taken : (axis : Axis) (tokens more middle left : List TokenSeen) (angle : ℕ) (r : Option ℕ) → BeginsWithWord (SpellsDegrees axis) tokens angle more → (middle ≡ more) × LacksWord (SpellsSide axis angle) more
    → ParsesMinutes axis angle middle r left → ParsesAngle axis tokens r left
angle_taken axis tokens more middle left angle (Some n) h k s = (angle, more, h, inr (subst (λ l. ContinuesWithMinutes axis angle l n left) k.0 s))
angle_taken axis tokens more middle left angle None h k s = inr (angle, more, h, k.1, subst (λ l. ParsesMinutes axis angle l None left) k.0 s)

-- ---- sizes

-- if tokens follow a size, the size is a token
stands : (usual octet : ℕ) (tokens rest : List TokenSeen) → BeginsWithSize usual tokens octet rest → (rest ≡ [] → ⊥) → BeginsWithWord SpellsSize tokens octet rest
stands usual octet tokens rest (inl h) some = h
stands usual octet tokens rest (inr h) some = absurd (some h.1)

-- if tokens follow a size, the tokens don't end before it
some_before : (usual octet : ℕ) (tokens rest : List TokenSeen) → BeginsWithSize usual tokens octet rest → (rest ≡ [] → ⊥) → tokens ≡ [] → ⊥
some_before usual octet tokens rest (inl h) some none = let e : 0 ≡ length (h.0 ∷ rest) = ap length (sym none ∙ h.1) in omega (arith, e)
some_before usual octet tokens rest (inr h) some none = some h.1

pub first_stops : (tokens left : List TokenSeen) → (left ≡ tokens) × StopsAtSize tokens → StopsInSizes tokens left
first_stops tokens left h = (subst StopsAtSize (sym h.0) h.1, inl h.0)

pub second_stops : (usual size : ℕ) (tokens more left : List TokenSeen) → BeginsWithSize usual tokens size more → (left ≡ more) × StopsAtSize more → StopsInSizes tokens left
second_stops usual size tokens more left h k = (subst StopsAtSize (sym k.0) k.1, inr (size, more, stands usual size tokens more h k.1.0, inl k.0))

pub third_stops : (usual other size horizontal : ℕ) (tokens more most left : List TokenSeen) → BeginsWithSize usual tokens size more → BeginsWithSize other more horizontal most → (left ≡ most) × StopsAtSize most → StopsInSizes tokens left
third_stops usual other size horizontal tokens more most left h j k =
    let second = stands other horizontal more most j k.1.0 in
    let first = stands usual size tokens more h (some_before other horizontal more most j k.1.0) in
    (subst StopsAtSize (sym k.0) k.1, inr (size, more, first, inr (horizontal, subst (λ l. BeginsWithWord SpellsSize more horizontal l) (sym k.0) second)))

pub behind_sizes : (usual other last size horizontal vertical : ℕ) (tokens more most left : List TokenSeen) → BeginsWithSize usual tokens size more → BeginsWithSize other more horizontal most → BeginsWithSize last most vertical left → (left ≡ [] → ⊥) → HasTokensAfterSizes tokens left
behind_sizes usual other last size horizontal vertical tokens more most left h j k some =
    let before = some_before last vertical most left k some in
    let start = some_before other horizontal more most j before in
    (some, size, more, horizontal, most, vertical, stands usual size tokens more h start, stands other horizontal more most j before, stands last vertical most left k some)

pub all_sizes : (s : Sizes) (tokens more most left : List TokenSeen) → BeginsWithSize usual_size tokens s.size more → BeginsWithSize usual_horizontal more s.horizontal most → BeginsWithSize usual_vertical most s.vertical left → left ≡ [] → (left ≡ []) × AreSizes tokens s
all_sizes s tokens more most left h j k none = (none, record { behind_size = more; behind_horizontal = most; size = h; horizontal = j; vertical = subst (λ l. BeginsWithSize usual_vertical most s.vertical l) none k })

-- ---- the whole

pub refuses_sizes : (e : ErrorKind) (tokens more left : List TokenSeen) → BeginsWithPoint tokens more → RefusesSizes e more left → RefusesTokens e tokens left
refuses_sizes ExpectedLatitude tokens more left h k = absurd k
refuses_sizes ExpectedLongitude tokens more left h k = absurd k
refuses_sizes ExpectedAltitude tokens more left h k = absurd k
refuses_sizes ExpectedSize tokens more left h k = (more, h, k)
refuses_sizes ExpectedEnd tokens more left h k = (more, h, k)
refuses_sizes _ tokens more left h k = k
