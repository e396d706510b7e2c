-- Groups that were read by dns_codec, and what they spell.
use Rattle.std.proofs.Common.{length-take-le, ◌≡◌, ℕ, ◌+◌, ◌-◌, ◌*◌, ◌/◌, ◌%◌, ◌<◌, ◌≤◌, true, false, List, [], ◌∷◌, ◌++◌, length, map, take, replicate, refl, sym, ap, subst, ◌∙◌, arith, Some, None, Option, inl, inr, append-nil, length-append, get_or}
use Rattle.std.specs.Prelude.{MatchOption, IfSome, IfNone, MatchBool, is_some, ◌==◌, if◌then◌else◌}
use Rattle.std.proofs.lemmas.Bool.{cases_Bool, eqb-true, ne_eqb}
use Rattle.std.proofs.lemmas.List.{length-replicate}
use Rattle.dns_codec.specs.Bits.{whole}
use Rattle.dns_codec.specs.Base.{base16, base32hex, base64, capital, value, encoded}
use Rattle.dns_codec.specs.Grammar.{HaveValues, Decodes, may_end_after}
use Rattle.dns_codec.proofs.Each.{once}
use Rattle.dns_codec.proofs.Unique.{no_mark64}
use Rattle.dns_codec.proofs.Wholes.{HaveValues-length, length-whole}
use Rattle.rdata_tokens.specs.Spelled.{SpellsDigits, opens_group}
use Rattle.rdata_tokens.specs.declared.kind.DigitsKind.TheVariants.{Hex, Base64}
use Rattle.rdata_tokens.proofs.Spelling.{known, folding16, plain_chars, spelled_decodes, whole_spells, decoded_low, size32}

-- ---- lengths of texts in the grammar

even_chars : (n : ℕ) → may_end_after base16 n ≡ true → n % 2 ≡ 0
even_chars n h = elim (cases_Bool (0 == n % 2)) [
  | inl is ↦ sym (eqb-true 0 (n % 2) is)
  | inr other ↦ let bad : false ≡ true = rw other at h in cc bad
]

pub record Sizes16 (text v digits : List ℕ) : Type 0 where
  pub digits_are : length digits ≡ length text
  pub even : length text % 2 ≡ 0
  pub octets : length v ≡ length text / 2

sizes16 : (text v : List ℕ) → (d : Decodes base16 text v) → Sizes16 text v d.digits
sizes16 text v d =
    let all : length text ≡ length d.chars = ap length (plain_chars base16 folding16 text v d) in
    let same = HaveValues-length base16 d.chars d.digits d.valued in
    let n = ap length d.value_is ∙ length-whole 4 d.digits in
    let even = even_chars (length d.chars) d.count in
    record { digits_are = omega (arith, all, same); even = rw all even; octets = omega (arith, all, same, n) }

pub record Sizes64 (text v chars digits : List ℕ) : Type 0 where
  pub digits_are : length digits ≡ length chars
  pub text_is : length text ≡ length chars + (4 - length chars % 4) % 4
  pub octets : length v ≡ length chars * 6 / 8

sizes64 : (text v : List ℕ) → (d : Decodes base64 text v) → Sizes64 text v d.chars d.digits
sizes64 text v d =
    let m : ℕ = (4 - length d.chars % 4) % 4 in
    let same = HaveValues-length base64 d.chars d.digits d.valued in
    let n : length v ≡ length d.digits * 6 / 8 = ap length d.value_is ∙ length-whole 6 d.digits in
    let t : length text ≡ length d.chars + m = ap length d.spelled ∙ (length-append d.chars (replicate m 61) ∙ ap (λ n. length d.chars + n) (length-replicate m 61)) in
    record { digits_are = sym same; text_is = t; octets = omega (arith, n, same) }

-- ---- hexadecimal digits

hex_spells : (text v : List ℕ) → Decodes base16 text v → SpellsDigits base16 text v
hex_spells text v d =
    let sizes = sizes16 text v d in
    whole_spells base16 (known Hex) text v d (plain_chars base16 folding16 text v d)
    (omega (arith, sizes.digits_are, sizes.even, sizes.octets)) (omega arith)

pub hex_read : (text new : List ℕ) (room : ℕ) (r : Option ℕ) → length text ≤ 2 * room
    → IfSome r (λ n. Decodes base16 text (take n new) × (n ≤ length new)) → IfNone r ((v : List ℕ) → Decodes base16 text v → room < length v)
    → MatchOption r ((v : List ℕ) → SpellsDigits base16 text v → ⊥) (λ n. SpellsDigits base16 text (take n new) × (n ≤ length new))
hex_read text new room (Some n) fits read none = (hex_spells text (take n new) read.0, read.1)
hex_read text new room None fits read none = λ v s.
    let d = spelled_decodes base16 (known Hex) text v s in
    let sizes = sizes16 text v d in
    let over = none v d in
    absurd (omega (arith, fits, over, sizes.octets))

-- ---- a group of base 64

pub group_fits : (text v : List ℕ) → length text ≡ 4 → SpellsDigits base64 text v → 3 < length v → ⊥
group_fits text v four s over =
    let sizes = sizes64 text v (spelled_decodes base64 (known Base64) text v s) in
    omega (arith, four, over, sizes.octets, sizes.text_is)

pub group_none : (text v : List ℕ) (room : ℕ) → length text ≡ 4 → room ≡ 3 → SpellsDigits base64 text v → ((u : List ℕ) → Decodes base64 text u → room < length u) → ⊥
group_none text v room four three s none =
    let d = spelled_decodes base64 (known Base64) text v s in
    let over = none v d in
    group_fits text v four s (omega (arith, over, three))

-- what spells the octets of a text that was decoded is what they print
pub prints_same : (text u v : List ℕ) → Decodes base64 text u → SpellsDigits base64 text v → text ≡ encoded base64 u
prints_same text u v d s =
    let same : v ≡ u = once base64 (known Base64) text v u (spelled_decodes base64 (known Base64) text v s) d in
    let is : text ≡ encoded base64 v = s.text_is in
    is ∙ ap (encoded base64) same

pub group_long : (text u v : List ℕ) → length text ≡ 4 → Decodes base64 text u → SpellsDigits base64 text v → 4 < length (encoded base64 u) → ⊥
group_long text u v four d s long =
    let same = ap length (prints_same text u v d s) in
    omega (arith, four, same, long)

pub group_spells : (text v : List ℕ) → Decodes base64 text v → text ≡ encoded base64 v → SpellsDigits base64 text v
group_spells text v d is = record { bytes = decoded_low base64 (known Base64) text v d; text_is = is }

-- ---- whole groups of base 64

pub block_spells : (text v : List ℕ) → Decodes base64 text v → length v / 3 * 4 ≡ length text → SpellsDigits base64 text v × (opens_group base64 v ≡ false)
block_spells text v d fills =
    let sizes = sizes64 text v d in
    let none : (4 - length d.chars % 4) % 4 ≡ 0 = omega (arith, fills, sizes.text_is, sizes.octets) in
    let all : text ≡ d.chars = rw (none, append-nil) at d.spelled in
    let multiple : length text % 4 ≡ 0 = omega (arith, fills) in
    let closed : 8 * length v % 24 ≡ 0 = omega (arith, fills, sizes.text_is, sizes.octets) in
    let bits : length d.digits * 6 ≡ length v * 8 = omega (arith, fills, sizes.text_is, sizes.octets, sizes.digits_are) in
    (whole_spells base64 (known Base64) text v d all bits (omega (arith, multiple)), rw closed refl)

-- ---- the first digits of a group

value_zero16 : value base16 48 ≡ Some 0
unfolding value
value_zero16 = refl

pub pair_started : (digit : ℕ) (rest v : List ℕ) → SpellsDigits base16 (digit ∷ rest) v → (w : List ℕ) × SpellsDigits base16 (digit ∷ 48 ∷ []) w
pair_started digit rest v s =
    let d = spelled_decodes base16 (known Hex) (digit ∷ rest) v s in
    let all : digit ∷ rest ≡ d.chars = plain_chars base16 folding16 (digit ∷ rest) v d in
    let valued : HaveValues base16 (digit ∷ rest) d.digits = subst (λ cs. HaveValues base16 cs d.digits) (sym all) d.valued in
    from d.digits valued
  where
    from : (ps : List ℕ) → HaveValues base16 (digit ∷ rest) ps → (w : List ℕ) × SpellsDigits base16 (digit ∷ 48 ∷ []) w
    from [] h = absurd h
    from (p ∷ ps) h = (
      whole 4 (p ∷ 0 ∷ []),
      hex_spells (digit ∷ 48 ∷ []) (whole 4 (p ∷ 0 ∷ [])) (record {
        chars = digit ∷ 48 ∷ [];
        digits = p ∷ 0 ∷ [];
        valued = (h.0, (value_zero16, tt));
        count = refl;
        spelled = refl;
        value_is = refl;
      }),
    )

pub pair_answer : (digit : ℕ) (r : Option ℕ) (new : List ℕ)
    → MatchOption r ((v : List ℕ) → SpellsDigits base16 (digit ∷ 48 ∷ []) v → ⊥) (λ n. SpellsDigits base16 (digit ∷ 48 ∷ []) (take n new) × (n ≤ length new))
    → MatchBool (is_some r) ((rest : List ℕ) × (v : List ℕ) × SpellsDigits base16 (digit ∷ rest) v) ((rest v : List ℕ) → SpellsDigits base16 (digit ∷ rest) v → ⊥)
pair_answer digit (Some n) new h = (48 ∷ [], take n new, h.0)
pair_answer digit None new h = λ rest v s. let w = pair_started digit rest v s in h w.0 w.1

value_zero64 : value base64 65 ≡ Some 0
unfolding value
value_zero64 = refl

quartet : (chars ps : List ℕ) → HaveValues base64 chars ps → length chars ≡ 4 → (w : List ℕ) × SpellsDigits base64 chars w
quartet chars ps valued four =
    let v : List ℕ = whole 6 ps in
    let same = HaveValues-length base64 chars ps valued in
    let n = length-whole 6 ps in
    let d : Decodes base64 chars v = record {
      chars = chars;
      digits = ps;
      valued = valued;
      count = rw four refl;
      spelled = rw four (sym (append-nil chars));
      value_is = refl;
    } in
    (v, whole_spells base64 (known Base64) chars v d refl (omega (arith, four, same, n)) (rw four refl))

no_mark : (c p : ℕ) → value base64 c ≡ Some p → (c == 61) ≡ false
no_mark c p is = ne_eqb c 61 (λ same. let bad : None ≡ Some p = sym no_mark64 ∙ subst (λ x. value base64 x ≡ Some p) same is in cc bad)

-- what fills a group that is begun
abbrev pub filling : ℕ → ℕ
filling last = if last == 61 then 61 else 65

abbrev pub Started : List ℕ → Type 0
Started text = (w : List ℕ) × SpellsDigits base64 text w

started_one : (a : ℕ) (rest chars ps : List ℕ) → HaveValues base64 chars ps → a ∷ rest ≡ chars ++ replicate ((4 - length chars % 4) % 4) 61 → Started (a ∷ filling a ∷ filling a ∷ filling a ∷ [])
started_one a rest [] ps h is = absurd (cc is)
started_one a rest (c ∷ cs) [] h is = absurd h
started_one a rest (c ∷ cs) (p ∷ ps) h is =
    let same : a ≡ c = cc is in
    let here : value base64 a ≡ Some p = ap (value base64) same ∙ h.0 in
    let other = no_mark a p here in
    rw other (quartet (a ∷ 65 ∷ 65 ∷ 65 ∷ []) (p ∷ 0 ∷ 0 ∷ 0 ∷ []) (here, (value_zero64, (value_zero64, (value_zero64, tt)))) refl)

started_two : (a e : ℕ) (rest chars ps : List ℕ) → HaveValues base64 chars ps → may_end_after base64 (length chars) ≡ true → a ∷ e ∷ rest ≡ chars ++ replicate ((4 - length chars % 4) % 4) 61
    → Started (a ∷ e ∷ filling e ∷ filling e ∷ [])
started_two a e rest [] ps h ends is = absurd (cc is)
started_two a e rest (c ∷ []) ps h ends is = absurd (cc ends)
started_two a e rest (c ∷ d ∷ cs) [] h ends is = absurd h
started_two a e rest (c ∷ d ∷ cs) (p ∷ []) h ends is = absurd h.1
started_two a e rest (c ∷ d ∷ cs) (p ∷ q ∷ ps) h ends is =
    let first : a ≡ c = cc is in
    let second : e ≡ d = cc is in
    let here : value base64 a ≡ Some p = ap (value base64) first ∙ h.0 in
    let next : value base64 e ≡ Some q = ap (value base64) second ∙ h.1.0 in
    let other = no_mark e q next in
    rw other (quartet (a ∷ e ∷ 65 ∷ 65 ∷ []) (p ∷ q ∷ 0 ∷ 0 ∷ []) (here, (next, (value_zero64, (value_zero64, tt)))) refl)

started_three : (a e f : ℕ) (rest v chars ps : List ℕ) → SpellsDigits base64 (a ∷ e ∷ f ∷ rest) v → HaveValues base64 chars ps → may_end_after base64 (length chars) ≡ true
    → a ∷ e ∷ f ∷ rest ≡ chars ++ replicate ((4 - length chars % 4) % 4) 61 → Started (a ∷ e ∷ f ∷ filling f ∷ [])
started_three a e f rest v [] ps s h ends is = absurd (cc is)
started_three a e f rest v (c ∷ []) ps s h ends is = absurd (cc ends)
started_three a e f rest v (c ∷ d ∷ []) ps s h ends is =
    let third : f ≡ 61 = cc is in
    let last : rest ≡ 61 ∷ [] = cc is in
    let fill : (f == 61) ≡ true = rw third refl in
    (v, rw fill (subst (λ r. SpellsDigits base64 (a ∷ e ∷ f ∷ r) v) last s))
started_three a e f rest v (c ∷ d ∷ g ∷ cs) [] s h ends is = absurd h
started_three a e f rest v (c ∷ d ∷ g ∷ cs) (p ∷ []) s h ends is = absurd h.1
started_three a e f rest v (c ∷ d ∷ g ∷ cs) (p ∷ q ∷ []) s h ends is = absurd h.1.1
started_three a e f rest v (c ∷ d ∷ g ∷ cs) (p ∷ q ∷ r ∷ ps) s h ends is =
    let first : a ≡ c = cc is in
    let second : e ≡ d = cc is in
    let third : f ≡ g = cc is in
    let here : value base64 a ≡ Some p = ap (value base64) first ∙ h.0 in
    let next : value base64 e ≡ Some q = ap (value base64) second ∙ h.1.0 in
    let last : value base64 f ≡ Some r = ap (value base64) third ∙ h.1.1.0 in
    let other = no_mark f r last in
    rw other (quartet (a ∷ e ∷ f ∷ 65 ∷ []) (p ∷ q ∷ r ∷ 0 ∷ []) (here, (next, (last, (value_zero64, tt)))) refl)

pub quartet_started : (begun rest v : List ℕ) → 0 < length begun → length begun < 4 → SpellsDigits base64 (begun ++ rest) v
    → Started (begun ++ replicate (4 - length begun) (filling (get_or begun (length begun - 1) 0)))
quartet_started [] rest v some few s = absurd (omega (arith, some))
quartet_started (a ∷ []) rest v some few s =
    let d = spelled_decodes base64 (known Base64) (a ∷ rest) v s in
    started_one a rest d.chars d.digits d.valued d.spelled
quartet_started (a ∷ e ∷ []) rest v some few s =
    let d = spelled_decodes base64 (known Base64) (a ∷ e ∷ rest) v s in
    started_two a e rest d.chars d.digits d.valued d.count d.spelled
quartet_started (a ∷ e ∷ f ∷ []) rest v some few s =
    let d = spelled_decodes base64 (known Base64) (a ∷ e ∷ f ∷ rest) v s in
    started_three a e f rest v d.chars d.digits s d.valued d.count d.spelled
quartet_started (a ∷ e ∷ f ∷ g ∷ more) rest v some few s = absurd (omega (arith, few))

pub quartet_answer : (begun group : List ℕ) (r : Option ℕ) (new : List ℕ) → 0 < length begun → length begun < 4
    → group ≡ begun ++ replicate (4 - length begun) (filling (get_or begun (length begun - 1) 0))
    → MatchOption r ((v : List ℕ) → SpellsDigits base64 group v → ⊥) (λ n. SpellsDigits base64 group (take n new) × (n ≤ length new))
    → MatchBool (is_some r) ((rest : List ℕ) × (v : List ℕ) × SpellsDigits base64 (begun ++ rest) v) ((rest v : List ℕ) → SpellsDigits base64 (begun ++ rest) v → ⊥)
quartet_answer begun group (Some n) new some few is h =
    (replicate (4 - length begun) (filling (get_or begun (length begun - 1) 0)), take n new, subst (λ t. SpellsDigits base64 t (take n new)) is h.0)
quartet_answer begun group None new some few is h = λ rest v s.
    let started = quartet_started begun rest v some few s in
    h started.0 (subst (λ t. SpellsDigits base64 t started.0) (sym is) started.1)

-- ---- hashes in base 32 hex

pub hash_none : (text v : List ℕ) (room : ℕ) → room ≡ 255 → SpellsDigits base32hex text v → ((u : List ℕ) → Decodes base32hex text u → room < length u) → 255 < length v
hash_none text v room is s none =
    let over = none v (spelled_decodes base32hex (inr (inl refl)) text v s) in
    omega (arith, over, is)

-- 255 octets print as 408 digits
pub hash_fits : (octets : List ℕ) (n : ℕ) → length octets ≡ 255 → n ≤ length octets → 408 < length (encoded base32hex (take n octets)) → ⊥
hash_fits octets n len few long =
    let e = size32 (take n octets) in
    let m = length-take-le n octets few in
    omega (arith, e, m, len, few, long)

pub hash_spells : (text v : List ℕ) → Decodes base32hex text v → map capital text ≡ encoded base32hex v → SpellsDigits base32hex text v
hash_spells text v d is = record { bytes = decoded_low base32hex (inr (inl refl)) text v d; text_is = is }

pub hash_other : (text u v : List ℕ) → Decodes base32hex text u → SpellsDigits base32hex text v → map capital text ≡ encoded base32hex u
hash_other text u v d s =
    let same : v ≡ u = once base32hex (inr (inl refl)) text v u (spelled_decodes base32hex (inr (inl refl)) text v s) d in
    let is : map capital text ≡ encoded base32hex v = s.text_is in
    is ∙ ap (encoded base32hex) same
