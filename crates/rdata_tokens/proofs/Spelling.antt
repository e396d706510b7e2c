-- Texts that spell octets in digits, and the laws of dns_codec about them.
use Rattle.std.proofs.Common.{◌≡◌, ℕ, zero, suc, ◌+◌, ◌-◌, ◌*◌, ◌/◌, ◌%◌, ◌^◌, ◌<◌, ◌≤◌, true, false, Bool, List, [], ◌∷◌, ◌++◌, length, map, take, drop, replicate, refl, sym, ap, ◌∙◌, arith, Some, inl, inr, append-nil, append_assoc, subst, length-append, slice_index, get_or}
use Rattle.std.specs.Prelude.{All, ◌==◌, not, if◌then◌else◌}
use Rattle.std.specs.List.{AllByRecursion, position_from, list_all}
use Rattle.std.proofs.lemmas.Bool.{cases_Bool, cases_lt, eqb-true, and_parts, not-false}
use Rattle.std.proofs.lemmas.Bool.Decides.{nat_tests}
use Rattle.std.proofs.lemmas.List.{map-append, length-map, length-replicate, get_or_past, take-append-drop, length-take-le}
use Rattle.std.proofs.Math.Nat.{mod_self, mod-eq_of_lt}
use Rattle.std.proofs.lemmas.List.Elements.{All-append, All-nil, All-cons, All-head, All-tail, All-from_recursion, recursion_from_All}
use Rattle.dns_codec.specs.Bits.{digits, whole, low_digits}
use Rattle.dns_codec.specs.Base.{Base, base16, base32hex, base64, capital, digit_char, value, padded, encoded, IsEncoding}
use Rattle.dns_codec.specs.Grammar.{HaveValues, Decodes}
use Rattle.dns_codec.proofs.BitLemmas.{low_digits-below, cut-register}
use Rattle.dns_codec.proofs.Each.{decodes, once}
use Rattle.dns_codec.proofs.Encoding.{register, low_digits-register, encoded-low_digits, digits-append, mod_front}
use Rattle.dns_codec.proofs.Numbers.{numbers}
use Rattle.dns_codec.proofs.Wholes.{HaveValues-below, HaveValues-length, length-digits}
use Rattle.rdata_tokens.specs.Spelled.{case_folded, SpellsDigits, opens_group, base_of}
use Rattle.rdata_tokens.specs.declared.kind.DigitsKind.{DigitsKind}
use Rattle.rdata_tokens.specs.declared.kind.DigitsKind.TheVariants.{Hex, Base64}

pub known : (k : DigitsKind) → IsEncoding (base_of k)
known Hex = inl refl
known Base64 = inr (inr refl)

-- ---- letters of either case

capital_twice : (c : ℕ) → capital (capital c) ≡ capital c
capital_twice c = Prim.grind (arith, nat_tests)

-- an encoding without padding, in which a small letter has the value of its capital
pub record IsFolding (b : Base) : Type 0 where
  pub folds : b.folds_case ≡ true
  pub unit : b.unit ≡ 1

pub folding16 : IsFolding base16
folding16 = record { folds = refl; unit = refl }

pub folding32 : IsFolding base32hex
folding32 = record { folds = refl; unit = refl }

folded_is : (b : Base) → b.folds_case ≡ true → (text : List ℕ) → case_folded b text ≡ map capital text
folded_is b folds text = ap (λ (x : Bool). if x then map capital text else text) folds

module _ (b : Base) (is : IsFolding b) where
  same_value : (c : ℕ) → value b (capital c) ≡ value b c
  unfolding value
  same_value c = rw (is.folds, capital_twice c) refl

  small_valued : (cs ps : List ℕ) → HaveValues b (map capital cs) ps → HaveValues b cs ps
  small_valued [] [] h = tt
  small_valued [] (p ∷ ps) h = absurd h
  small_valued (c ∷ cs) [] h = absurd h
  small_valued (c ∷ cs) (p ∷ ps) h = (sym (same_value c) ∙ h.0, small_valued cs ps h.1)

  no_padding : (n : ℕ) → ◌≡◌ {A = List ℕ} (replicate ((b.unit - n % b.unit) % b.unit) 61) []
  no_padding n = let none : (1 - n % 1) % 1 ≡ 0 = omega arith in rw (is.unit, none) refl

  pub plain_chars : (text v : List ℕ) → (d : Decodes b text v) → text ≡ d.chars
  plain_chars text v d = rw (no_padding (length d.chars), append-nil) at d.spelled

  pub small_decodes : (text v : List ℕ) → Decodes b (map capital text) v → Decodes b text v
  small_decodes text v d =
      let same : map capital text ≡ d.chars = plain_chars (map capital text) v d in
      let len : length text ≡ length d.chars = sym (length-map text capital) ∙ ap length same in
      record {
        chars = text;
        digits = d.digits;
        valued = small_valued text d.digits (subst (λ cs. HaveValues b cs d.digits) (sym same) d.valued);
        count = rw len d.count;
        spelled = rw (no_padding (length text)) (sym (append-nil text));
        value_is = d.value_is;
      }

-- ---- a text that spells octets is in the grammar, and so it spells one list

below : (v : List ℕ) → All (λ o. o < 256) v → AllByRecursion (λ o. o < 256) v
below v all = recursion_from_All (λ o. o < 256) v all

folding_decodes : (b : Base) → IsFolding b → IsEncoding b → (text v : List ℕ) → SpellsDigits b text v → Decodes b text v
folding_decodes b is kn text v s =
    let same : map capital text ≡ encoded b v = sym (folded_is b is.folds text) ∙ s.text_is in
    small_decodes b is text v (subst (λ t. Decodes b t v) (sym same) (decodes b kn v (below v s.bytes)))

pub spelled_decodes : (b : Base) → IsEncoding b → (text v : List ℕ) → SpellsDigits b text v → Decodes b text v
spelled_decodes b (inl is) text v = rw is (folding_decodes base16 folding16 (inl refl) text v)
spelled_decodes b (inr (inl is)) text v = rw is (folding_decodes base32hex folding32 (inr (inl refl)) text v)
spelled_decodes b (inr (inr is)) text v = rw is (λ s. let same : text ≡ encoded base64 v = s.text_is in rw same (decodes base64 (inr (inr refl)) v (below v s.bytes)))

pub spells_once : (b : Base) → IsEncoding b → (text u v : List ℕ) → SpellsDigits b text u → SpellsDigits b text v → u ≡ v
spells_once b known text u v s t = once b known text u v (spelled_decodes b known text u s) (spelled_decodes b known text v t)

-- ---- the printed text spells the octets

capital_of : (characters : List ℕ) → ((k : ℕ) → capital (slice_index characters k) ≡ slice_index characters k) → (ps : List ℕ) → map capital (map (slice_index characters) ps) ≡ map (slice_index characters) ps
capital_of characters each [] = refl
capital_of characters each (p ∷ ps) = rw (each p, capital_of characters each ps) refl

capitals : (xs : List ℕ) → list_all (λ x. capital x == x) xs ≡ true → (k : ℕ) → capital (slice_index xs k) ≡ slice_index xs k
capitals [] all k = refl
capitals (x ∷ xs) all zero = eqb-true (capital x) x (and_parts (capital x == x) (list_all (λ y. capital y == y) xs) all).0
capitals (x ∷ xs) all (suc k) = capitals xs (and_parts (capital x == x) (list_all (λ y. capital y == y) xs) all).1 k

module _ (b : Base) (is : IsFolding b) where
  plain_text : (v : List ℕ) → encoded b v ≡ map (slice_index b.alphabet) (digits b.width v)
  unfolding encoded digit_char padded
  plain_text v =
      let n : ℕ = length (map (digit_char b) (digits b.width v)) in
      let none : (1 - n % 1) % 1 ≡ 0 = omega arith in
      rw (is.unit, none) (append-nil (map (slice_index b.alphabet) (digits b.width v)))

  folding_printed : list_all (λ x. capital x == x) b.alphabet ≡ true → (v : List ℕ) → case_folded b (encoded b v) ≡ encoded b v
  folding_printed all v =
      let plain = plain_text v in
      folded_is b is.folds (encoded b v) ∙ (ap (map capital) plain ∙ (capital_of b.alphabet (capitals b.alphabet all) (digits b.width v) ∙ sym plain))

folds_nothing : (b : Base) → IsEncoding b → (v : List ℕ) → case_folded b (encoded b v) ≡ encoded b v
folds_nothing b (inl is) v = rw is (folding_printed base16 folding16 refl v)
folds_nothing b (inr (inl is)) v = rw is (folding_printed base32hex folding32 refl v)
folds_nothing b (inr (inr is)) v = rw is refl

pub printed_spells : (b : Base) → IsEncoding b → (v : List ℕ) → All (λ o. o < 256) v → SpellsDigits b (encoded b v) v
printed_spells b known v all = record { bytes = all; text_is = folds_nothing b known v }

-- ---- digits that are whole octets spell these

at_place : (xs : List ℕ) (i d v : ℕ) → position_from (λ x. x == d) i xs ≡ Some v → (i ≤ v) × (slice_index xs (v - i) ≡ d)
at_place [] i d v e = cc e
at_place (x ∷ xs) i d v e = elim (cases_Bool (x == d)) [
  | inl hit ↦
      let s : Some i ≡ Some v = rw hit at e in
      let same : i ≡ v = cc in
      let none : v - i ≡ 0 = omega arith in
      (omega arith, rw none (eqb-true x d hit))
  | inr miss ↦
      let later = at_place xs (i + 1) d v (rw miss at e) in
      let high = later.0 in
      let next : v - i ≡ suc (v - (i + 1)) = omega arith in
      (omega arith, rw next later.1)
]

digit_of : (b : Base) (c v : ℕ) → value b c ≡ Some v → digit_char b v ≡ (if b.folds_case then capital c else c)
unfolding value digit_char
digit_of b c v e =
    let found = (at_place b.alphabet 0 (if b.folds_case then capital c else c) v e).1 in
    let same : v - 0 ≡ v = omega arith in
    rw same at found

digits_of : (b : Base) (cs ps : List ℕ) → HaveValues b cs ps → map (digit_char b) ps ≡ map (λ c. if b.folds_case then capital c else c) cs
digits_of b [] [] h = refl
digits_of b [] (p ∷ ps) h = absurd h
digits_of b (c ∷ cs) [] h = absurd h
digits_of b (c ∷ cs) (p ∷ ps) h = rw (digit_of b c p h.0, digits_of b cs ps h.1) refl

map_same : (cs : List ℕ) → map (λ c. c) cs ≡ cs
map_same [] = refl
map_same (c ∷ cs) = ap (λ xs. c ∷ xs) (map_same cs)

folded_digits : (folds : Bool) (cs : List ℕ) → map (λ c. if folds then capital c else c) cs ≡ (if folds then map capital cs else cs)
folded_digits true cs = refl
folded_digits false cs = map_same cs

-- octets that were decoded are below 256
pub decoded_low : (b : Base) → IsEncoding b → (text v : List ℕ) → Decodes b text v → All (λ o. o < 256) v
unfolding whole low_digits
decoded_low b known text v d =
    let small = HaveValues-below b (numbers b known).below d.chars d.digits d.valued in
    let none : 0 + length d.digits ≡ length d.digits = omega arith in
    let same : low_digits b.width (length d.digits) (register b.width 0 d.digits) ≡ d.digits = rw none at (low_digits-register b.width 0 0 d.digits small) in
    let m : ℕ = length d.digits * b.width / 8 in
    let r : ℕ = length d.digits * b.width % 8 in
    let e : length d.digits * b.width ≡ m * 8 + r = omega arith in
    let cut_is = cut-register b.width (length d.digits) 8 m r (register b.width 0 d.digits) e (omega arith) in
    let is : v ≡ low_digits 8 m (register b.width 0 d.digits / 2 ^ r) = d.value_is ∙ rw same at cut_is in
    All-from_recursion (λ o. o < 256) v (subst (AllByRecursion (λ o. o < 256)) (sym is) (low_digits-below 8 m (register b.width 0 d.digits / 2 ^ r)))

-- digits without padding, whose bits are whole octets and which are a multiple of the unit
width_some : (b : Base) → IsEncoding b → 0 < b.width
width_some b (inl is) = rw is (omega arith)
width_some b (inr (inl is)) = rw is (omega arith)
width_some b (inr (inr is)) = rw is (omega arith)

module _ (b : Base) (known : IsEncoding b) (text v : List ℕ) (d : Decodes b text v) (all : text ≡ d.chars) (octets : length d.digits * b.width ≡ length v * 8) (unit : (b.unit - length text % b.unit) % b.unit ≡ 0) where
  digits_are : low_digits b.width (length d.digits) (register b.width 0 d.digits) ≡ d.digits
  unfolding low_digits
  digits_are =
      let small = HaveValues-below b (numbers b known).below d.chars d.digits d.valued in
      let none : 0 + length d.digits ≡ length d.digits = omega arith in
      rw none at (low_digits-register b.width 0 0 d.digits small)

  octets_are : low_digits 8 (length v) (register b.width 0 d.digits) ≡ v
  unfolding whole
  octets_are =
      let n : ℕ = register b.width 0 d.digits in
      let one : n / 2 ^ 0 ≡ n = omega arith in
      let e : length d.digits * b.width ≡ length v * 8 + 0 = omega (arith, octets) in
      let cut_is = cut-register b.width (length d.digits) 8 (length v) 0 n e (omega arith) in
      sym (d.value_is ∙ rw digits_are at (rw one at cut_is))

  printed_is : encoded b v ≡ case_folded b text
  unfolding padded
  printed_is =
      let n : ℕ = register b.width 0 d.digits in
      let some : 0 < b.width = width_some b known in
      let e : length d.digits * b.width ≡ length v * 8 + 0 = omega (arith, octets) in
      let one : n * 2 ^ 0 ≡ n = omega arith in
      let count : length (map (digit_char b) d.digits) ≡ length text = length-map d.digits (digit_char b) ∙ (sym (HaveValues-length b d.chars d.digits d.valued) ∙ ap length (sym all)) in
      let text_of : map (digit_char b) d.digits ≡ case_folded b text = digits_of b d.chars d.digits d.valued ∙ (folded_digits b.folds_case d.chars ∙ ap (case_folded b) (sym all)) in
      let low = encoded-low_digits b (length v) n (length d.digits) 0 e some in
      let printed : encoded b v ≡ padded b.unit (map (digit_char b) d.digits) = rw octets_are at (rw digits_are at (rw one at low)) in
      printed ∙ rw (count, unit) (append-nil (map (digit_char b) d.digits) ∙ text_of)

  pub whole_spells : SpellsDigits b text v
  whole_spells = record { bytes = All-from_recursion (λ o. o < 256) v (rw octets_are at (low_digits-below 8 (length v) (register b.width 0 d.digits))); text_is = sym printed_is }

-- ---- lengths of printed texts, which are whole groups

length-padded : (unit : ℕ) (xs : List ℕ) → length (padded unit xs) ≡ length xs + (unit - length xs % unit) % unit
unfolding padded
length-padded unit xs =
    let m : ℕ = (unit - length xs % unit) % unit in
    length-append xs (replicate m 61) ∙ ap (λ n. length xs + n) (length-replicate m 61)

pub size16 : (v : List ℕ) → length (encoded base16 v) ≡ 2 * length v
unfolding encoded
size16 v =
    let d = length-digits 4 v in
    let n = length-map (digits 4 v) (digit_char base16) in
    let m = length-padded 1 (map (digit_char base16) (digits 4 v)) in
    omega arith

pub size32 : (v : List ℕ) → length (encoded base32hex v) ≡ (8 * length v + 4) / 5
unfolding encoded
size32 v =
    let d = length-digits 5 v in
    let n = length-map (digits 5 v) (digit_char base32hex) in
    let m = length-padded 1 (map (digit_char base32hex) (digits 5 v)) in
    omega arith

pub size64 : (v : List ℕ) → length (encoded base64 v) ≡ 4 * ((length v + 2) / 3)
unfolding encoded
size64 v =
    let d = length-digits 6 v in
    let n = length-map (digits 6 v) (digit_char base64) in
    let m = length-padded 4 (map (digit_char base64) (digits 6 v)) in
    omega arith

-- ---- lists

All-left : (P : ℕ → Type 0) (xs ys : List ℕ) → All P (xs ++ ys) → All P xs
All-left P [] ys all = All-nil P
All-left P (x ∷ xs) ys all = All-cons P x xs (All-head P x (xs ++ ys) all) (All-left P xs ys (All-tail P x (xs ++ ys) all))

All-right : (P : ℕ → Type 0) (xs ys : List ℕ) → All P (xs ++ ys) → All P ys
All-right P [] ys all = all
All-right P (x ∷ xs) ys all = All-right P xs ys (All-tail P x (xs ++ ys) all)

pub append_parts : (xs ys us vs : List ℕ) → length xs ≡ length ys → xs ++ us ≡ ys ++ vs → (xs ≡ ys) × (us ≡ vs)
append_parts [] [] us vs len is = (refl, is)
append_parts [] (y ∷ ys) us vs len is = absurd (omega (arith, len))
append_parts (x ∷ xs) [] us vs len is = absurd (omega (arith, len))
append_parts (x ∷ xs) (y ∷ ys) us vs len is =
    let head : x ≡ y = cc in
    let tail : xs ++ us ≡ ys ++ vs = cc in
    let same : length xs ≡ length ys = omega (arith, len) in
    let later = append_parts xs ys us vs same tail in
    let xs_are : xs ≡ ys = later.0 in
    (cc, later.1)

-- ---- whole groups before others

each_low : (xs : List ℕ) → All (λ o. o < 256) xs → (k : ℕ) → get_or xs k 0 < 256
each_low xs all k = elim (cases_lt k (length xs)) [
  | inl here ↦ all k 0 here
  | inr past ↦ let none : get_or xs k 0 ≡ 0 = get_or_past xs k 0 past in omega arith
]

padded_front : (unit : ℕ) (xs ys : List ℕ) → 0 < unit → length xs % unit ≡ 0 → padded unit (xs ++ ys) ≡ xs ++ padded unit ys
unfolding padded
padded_front unit xs ys some whole =
    let same : length (xs ++ ys) % unit ≡ length ys % unit = ap (λ n. n % unit) (length-append xs ys) ∙ mod_front (length xs) unit (length ys) whole in
    rw (same, append_assoc) refl

padded_none : (unit : ℕ) → 0 < unit → padded unit [] ≡ []
unfolding padded
padded_none unit some =
    let zero_mod : 0 % unit ≡ 0 = mod-eq_of_lt some in
    let all : unit - 0 ≡ unit = omega arith in
    rw (zero_mod, all, mod_self unit) refl

encoded_front : (b : Base) (xs ys : List ℕ) → 0 < b.width → 0 < b.unit → All (λ o. o < 256) xs → length xs * 8 % b.width ≡ 0 → length (digits b.width xs) % b.unit ≡ 0
    → encoded b (xs ++ ys) ≡ encoded b xs ++ encoded b ys
unfolding encoded
encoded_front b xs ys width unit all even whole =
    let ds : List ℕ = map (digit_char b) (digits b.width xs) in
    let es : List ℕ = map (digit_char b) (digits b.width ys) in
    let multiple : length ds % b.unit ≡ 0 = ap (λ n. n % b.unit) (length-map (digits b.width xs) (digit_char b)) ∙ whole in
    let parts : digits b.width (xs ++ ys) ≡ digits b.width xs ++ digits b.width ys = digits-append b.width xs ys width (each_low xs all) even in
    let both : map (digit_char b) (digits b.width (xs ++ ys)) ≡ ds ++ es = ap (map (digit_char b)) parts ∙ map-append (digit_char b) (digits b.width xs) (digits b.width ys) in
    let alone : padded b.unit (ds ++ []) ≡ ds ++ padded b.unit [] = padded_front b.unit ds [] unit multiple in
    let none : padded b.unit [] ≡ [] = padded_none b.unit unit in
    let first : padded b.unit ds ≡ ds = ap (padded b.unit) (sym (append-nil ds)) ∙ (alone ∙ (ap (λ t. ds ++ t) none ∙ append-nil ds)) in
    ap (padded b.unit) both ∙ (padded_front b.unit ds es unit multiple ∙ ap (λ t. t ++ padded b.unit es) (sym first))

unopened : (b : Base) (v : List ℕ) → opens_group b v ≡ false → 8 * length v % (b.width * b.group) ≡ 0
unopened b v is = eqb-true _ 0 (not-false _ is)

-- the octets of whole groups print before the others
pub prints_front : (k : DigitsKind) (xs ys : List ℕ) → All (λ o. o < 256) xs → opens_group (base_of k) xs ≡ false
    → encoded (base_of k) (xs ++ ys) ≡ encoded (base_of k) xs ++ encoded (base_of k) ys
prints_front Hex xs ys all is = encoded_front base16 xs ys (omega arith) (omega arith) all (omega arith) (omega arith)
prints_front Base64 xs ys all is =
    let e : 8 * length xs % 24 ≡ 0 = unopened base64 xs is in
    let n = length-digits 6 xs in
    encoded_front base64 xs ys (omega arith) (omega arith) all (omega arith) (omega arith)

fold_append : (b : Base) (xs ys : List ℕ) → case_folded b (xs ++ ys) ≡ case_folded b xs ++ case_folded b ys
fold_append b xs ys = folds b.folds_case
  where
    folds : (x : Bool) → (if x then map capital (xs ++ ys) else xs ++ ys) ≡ (if x then map capital xs else xs) ++ (if x then map capital ys else ys)
    folds true = map-append capital xs ys
    folds false = refl

pub fold_length : (b : Base) (xs : List ℕ) → length (case_folded b xs) ≡ length xs
fold_length b xs = folds b.folds_case
  where
    folds : (x : Bool) → length (if x then map capital xs else xs) ≡ length xs
    folds true = length-map xs capital
    folds false = refl

-- a text of whole groups without padding, and a text after it
pub spells_joined : (k : DigitsKind) (xs ys u v : List ℕ) → SpellsDigits (base_of k) xs u → opens_group (base_of k) u ≡ false → SpellsDigits (base_of k) ys v
    → SpellsDigits (base_of k) (xs ++ ys) (u ++ v)
spells_joined k xs ys u v s is t = record {
  bytes = All-append (λ o. o < 256) u v s.bytes t.bytes;
  text_is = fold_append (base_of k) xs ys ∙ (ap (λ z. z ++ case_folded (base_of k) ys) s.text_is ∙ (ap (λ z. encoded (base_of k) u ++ z) t.text_is ∙ sym (prints_front k u v s.bytes is)));
}

pub opens_joined : (k : DigitsKind) (u v : List ℕ) → opens_group (base_of k) u ≡ false → opens_group (base_of k) (u ++ v) ≡ opens_group (base_of k) v
opens_joined Hex u v is =
    let a : 8 * length (u ++ v) % 8 ≡ 0 = omega arith in
    let c : 8 * length v % 8 ≡ 0 = omega arith in
    rw (a, c) refl
opens_joined Base64 u v is =
    let e : 8 * length u % 24 ≡ 0 = unopened base64 u is in
    let n = length-append u v in
    let same : 8 * length (u ++ v) % 24 ≡ 8 * length v % 24 = omega arith in
    ap (λ n. not (n == 0)) same

-- ---- the beginning of a text that spells octets

pub record Splits (k : DigitsKind) (xs ys v : List ℕ) : Type 0 where
  pub first : List ℕ
  pub later : List ℕ
  pub parts : v ≡ first ++ later
  pub front : SpellsDigits (base_of k) xs first
  pub closed : opens_group (base_of k) first ≡ false
  pub back : SpellsDigits (base_of k) ys later

-- the octets of whole groups at the start, if something follows
abbrev count_of : DigitsKind → ℕ → ℕ
count_of Hex n = n / 2
count_of Base64 n = n / 4 * 3

count_fits : (k : DigitsKind) (n m : ℕ) (v : List ℕ) → n % (base_of k).group ≡ 0 → 0 < m → length (encoded (base_of k) v) ≡ n + m → count_of k n ≤ length v
count_fits Hex n m v even some is = let e = size16 v in omega arith
count_fits Base64 n m v even some is = let e = size64 v in omega arith

closed_count : (k : DigitsKind) (n : ℕ) (u : List ℕ) → n % (base_of k).group ≡ 0 → length u ≡ count_of k n → (opens_group (base_of k) u ≡ false) × (length (encoded (base_of k) u) ≡ n)
closed_count Hex n u even len =
    let e = size16 u in
    let a : 8 * length u % 8 ≡ 0 = omega arith in
    (rw a refl, omega arith)
closed_count Base64 n u even len =
    let e = size64 u in
    let a : 8 * length u % 24 ≡ 0 = omega arith in
    (rw a refl, omega arith)

pub spells_split : (k : DigitsKind) (xs ys v : List ℕ) → length xs % (base_of k).group ≡ 0 → 0 < length ys → SpellsDigits (base_of k) (xs ++ ys) v → Splits k xs ys v
spells_split k xs ys v even some s =
    let b : Base = base_of k in
    let text_is : case_folded b xs ++ case_folded b ys ≡ encoded b v = sym (fold_append b xs ys) ∙ s.text_is in
    let front_len = fold_length b xs in
    let back_len = fold_length b ys in
    let sum : length (encoded b v) ≡ length xs + length ys = ap length (sym text_is) ∙ (length-append (case_folded b xs) (case_folded b ys) ∙ omega arith) in
    let n : ℕ = count_of k (length xs) in
    let within : n ≤ length v = count_fits k (length xs) (length ys) v even some sum in
    let u : List ℕ = take n v in
    let w : List ℕ = drop n v in
    let parts : u ++ w ≡ v = take-append-drop n v in
    let len : length u ≡ n = length-take-le n v within in
    let closed = closed_count k (length xs) u even len in
    let low : All (λ o. o < 256) (u ++ w) = subst (All (λ o. o < 256)) (sym parts) s.bytes in
    let low_u : All (λ o. o < 256) u = All-left (λ o. o < 256) u w low in
    let low_w : All (λ o. o < 256) w = All-right (λ o. o < 256) u w low in
    let both : case_folded b xs ++ case_folded b ys ≡ encoded b u ++ encoded b w = text_is ∙ (ap (encoded b) (sym parts) ∙ prints_front k u w low_u closed.0) in
    let same_len : length (case_folded b xs) ≡ length (encoded b u) = omega (arith, closed.1) in
    let halves = append_parts (case_folded b xs) (encoded b u) (case_folded b ys) (encoded b w) same_len both in
    record {
      first = u;
      later = w;
      parts = sym parts;
      front = record { bytes = low_u; text_is = halves.0 };
      closed = closed.0;
      back = record { bytes = low_w; text_is = halves.1 };
    }

-- what is less than a group is not whole
pub not_whole : (k : DigitsKind) (xs v : List ℕ) → 0 < length xs → length xs < (base_of k).group → SpellsDigits (base_of k) xs v → ⊥
not_whole Hex xs v some few s =
    let e = size16 v in
    let n = fold_length base16 xs in
    let t = ap length s.text_is in
    omega arith
not_whole Base64 xs v some few s =
    let e = size64 v in
    let t : length xs ≡ length (encoded base64 v) = ap length s.text_is in
    omega arith

-- a text of octets is whole groups
pub spelled_whole : (k : DigitsKind) (xs v : List ℕ) → SpellsDigits (base_of k) xs v → length xs % (base_of k).group ≡ 0
spelled_whole Hex xs v s =
    let e = size16 v in
    let n = fold_length base16 xs in
    let t = ap length s.text_is in
    let len : length xs ≡ 2 * length v = omega (arith, e, n, t) in
    omega (arith, len)
spelled_whole Base64 xs v s =
    let e = size64 v in
    let t : length xs ≡ length (encoded base64 v) = ap length s.text_is in
    let len : length xs ≡ 4 * ((length v + 2) / 3) = t ∙ e in
    omega (arith, len)
