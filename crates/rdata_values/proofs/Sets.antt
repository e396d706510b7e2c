-- Sets of types as the bits of octets.
use Rattle.std.proofs.Common.{◌≡◌, ◌≢◌, ℕ, ◌+◌, ◌-◌, ◌*◌, ◌/◌, ◌%◌, ◌^◌, ◌<◌, ◌≤◌, ◌⊎◌, ◌||◌, ◌==◌, Bool, true, false, cond, List, [], ◌∷◌, ◌++◌, length, get_or, take, drop, set, bit_or, refl, sym, ap, ◌∙◌, arith, inl, inr, append-nil, append_assoc, MatchBool}
use Rattle.std.specs.Int.{bit_at}
use Rattle.std.proofs.lemmas.List.{get_or-take, get_or-drop, length-take-le, length-take, length-drop, length-append, get_or_past}
use Rattle.std.proofs.lemmas.Bool.{cases_lt, eq-eqb, ne_eqb, eqb-true, eqb-false}
use Rattle.std.proofs.lemmas.Nat.Bits.{bit_at-zero}
use Rattle.rdata_values.specs.Bitmap.{has, one_if, bit_in, trimmed, window_octets_of, window_block, window_blocks, bitmap, SameTypes}
use Rattle.rdata_values.specs.Members.{members, CoversCodes, EndsCodes}
use Rattle.rdata_values.proofs.Bits.{set_place, octets_by_bits}
use Rattle.rdata_values.proofs.Blocks.{blocks_split, blocks_empty, blocks_last}
use Rattle.rdata_values.proofs.Windows.{window_of, window_empty}
use Rattle.rdata_values.proofs.Telling.{same_bit}
use Rattle.rdata_values.proofs.Places.{no_places, places_have}

-- a type is in a set exactly if its bit is set
pub members_have : (octets : List ℕ) (code : ℕ) → code < 65536 → one_if (has (members octets) code) ≡ bit_in octets code
members_have octets code l = places_have octets 0 65536 code (omega arith) (omega arith)

pub bit_of : (b : Bool) (octets : List ℕ) (code : ℕ) → code < 65536 → one_if b ≡ bit_in octets code → b ≡ has (members octets) code
bit_of b octets code l e = same_bit b (has (members octets) code) (e ∙ sym (members_have octets code l))

slice_bit : (octets : List ℕ) (w k m p : ℕ) → k ≡ 32 → m ≡ 32 * w → p < 256 → bit_in (take k (drop m octets)) p ≡ bit_in octets (256 * w + p)
slice_bit octets w k m p ek em l =
    let at : (256 * w + p) / 8 ≡ m + p / 8 = omega arith in
    let bit_place : 7 - (256 * w + p) % 8 ≡ 7 - p % 8 = omega arith in
    let inside : p / 8 < k = omega arith in
    ap (λ x. bit_at x (7 - p % 8)) (get_or-take k (drop m octets) (p / 8) 0 inside ∙ get_or-drop m octets (p / 8) 0)
    ∙ ap (λ j. bit_at (get_or octets j 0) (7 - p % 8)) (sym at) ∙ ap (λ i. bit_at (get_or octets ((256 * w + p) / 8) 0) i) (sym bit_place)

slice_small : (octets : List ℕ) (k m i : ℕ) → ((j : ℕ) → get_or octets j 0 < 256) → get_or (take k (drop m octets)) i 0 < 256
slice_small octets k m i small = elim (cases_lt i k) [
  | inl l ↦ (let e = get_or-take k (drop m octets) i 0 l ∙ get_or-drop m octets i 0 in let s = small (m + i) in omega arith)
  | inr l ↦ (let e = get_or_past (take k (drop m octets)) i 0 (omega (arith, length-take k (drop m octets))) in omega arith)
]

-- the octets of a window are a part of the set's
pub slice_is_window : (octets : List ℕ) (w k m : ℕ) → k ≡ 32 → m ≡ 32 * w → length octets ≡ 8192 → w < 256 → ((j : ℕ) → get_or octets j 0 < 256)
    → take k (drop m octets) ≡ window_octets_of (members octets) w
slice_is_window octets w k m ek em n l small =
    octets_by_bits (members octets) (take k (drop m octets)) w (length-take-le k (drop m octets) (omega (arith, length-drop m octets)) ∙ ek)
    (λ i. slice_small octets k m i small)
    (λ p h. slice_bit octets w k m p ek em h ∙ sym (members_have octets (256 * w + p) (omega arith)))

has_no : (octets : List ℕ) (code : ℕ) → code < 65536 → bit_in octets code ≡ 0 → has (members octets) code ≡ false
has_no octets code l e = sym (bit_of false octets code l (sym e))

-- there are no types after the windows in use
pub none_above : (octets : List ℕ) (n : ℕ) → CoversCodes octets n → (code : ℕ) → code < 65536 → 256 * n ≤ code → has (members octets) code ≡ false
none_above octets n c code l m = has_no octets code l (c.above code l m)

-- and the last of them has one
pub ends_types : (octets types : List ℕ) (n end : ℕ) → CoversCodes octets n → end ≡ 256 * n → members octets ≡ types → EndsCodes types end
ends_types octets types n end c e is = record { whole = omega (arith, e); last = λ some. last (c.some (λ none. some (omega (arith, e, none)))) }
  where
    last : (code : ℕ) × (code < 65536) × (256 * n ≤ code + 256) × (bit_in octets code ≡ 1) → (code : ℕ) × (code < end) × (end ≤ code + 256) × (has types code ≡ true)
    last (code, small, near, set) = elim (cases_lt code end) [
      | inl below ↦ (code, below, omega (arith, e, near), ap (λ ts. has ts code) (sym is) ∙ sym (bit_of true octets code small (sym set)))
      | inr above ↦ absurd (let no = c.above code small (omega (arith, e, above)) in omega (arith, no, set))
    ]

-- after the blocks of the windows in use there are no others
pub all_blocks : (octets : List ℕ) (n : ℕ) → CoversCodes octets n → window_blocks (window_of (members octets)) 0 n ≡ bitmap (members octets)
all_blocks octets n c =
    let high = c.high in
    let f = window_of (members octets) in
    sym (append-nil (window_blocks f 0 n))
    ∙ ap (λ xs. window_blocks f 0 n ++ xs) (sym (blocks_empty f (0 + n) (256 - n) (λ v low up. window_empty (members octets) v (λ p l.
    has_no octets (256 * v + p) (omega arith) (c.above (256 * v + p) (omega arith) (omega arith))))))
    ∙ sym (blocks_split f 0 n (256 - n)) ∙ ap (window_blocks f 0) (omega arith)

-- a set of zeros
zeros_clear : (octets : List ℕ) (code : ℕ) → ((k : ℕ) → get_or octets k 0 ≡ 0) → bit_in octets code ≡ 0
zeros_clear octets code h = ap (λ x. bit_at x (7 - code % 8)) (h (code / 8)) ∙ bit_at-zero (7 - code % 8)

pub zeros_members : (octets : List ℕ) → ((k : ℕ) → get_or octets k 0 ≡ 0) → members octets ≡ []
zeros_members octets h = no_places octets 0 65536 (λ p l m. zeros_clear octets p h)

pub zeros_cover : (octets : List ℕ) → ((k : ℕ) → get_or octets k 0 ≡ 0) → CoversCodes octets 0
zeros_cover octets h = record { high = omega arith; above = λ code l m. zeros_clear octets code h; some = λ e. absurd (e refl) }

-- no windows, no types
pub none_in_use : (octets : List ℕ) (n : ℕ) → CoversCodes octets n → n ≡ 0 → members octets ≡ []
none_in_use octets n c e = no_places octets 0 65536 (λ p l h. c.above p (omega arith) (omega arith))

pub some_in_use : (octets : List ℕ) (n : ℕ) → CoversCodes octets n → n ≢ 0 → members octets ≢ []
some_in_use octets n c e none =
    let at = c.some e in
    let is = members_have octets at.0 at.1 ∙ at.3 in
    let clear = ap (λ ts. one_if (has ts at.0)) none in omega arith

-- octets with the bit at an index set
abbrev pub with_bit : List ℕ → ℕ → List ℕ
with_bit octets q = set octets (q / 8) (bit_or (get_or octets (q / 8) 0) (1 * 2 ^ (7 - q % 8) % 2 ^ 8))

added : (b : Bool) (octets : List ℕ) (q t : ℕ) → q / 8 < length octets → t < 65536 → b ≡ (q == t) → has (members (with_bit octets q)) t ≡ (b || has (members octets) t)
added true octets q t l h e = sym (bit_of true (with_bit octets q) t h (sym (set_place octets q t l ∙ ap (λ c. cond c 1 (bit_in octets t)) (sym e))))
added false octets q t l h e =
    sym (bit_of (has (members octets) t) (with_bit octets q) t h (members_have octets t h ∙ sym (set_place octets q t l ∙ ap (λ c. cond c 1 (bit_in octets t)) (sym e))))

-- the set with one type more
pub with_type : (octets : List ℕ) (q : ℕ) → q / 8 < length octets → SameTypes (members (with_bit octets q)) (q ∷ members octets)
with_type octets q l t h = added (q == t) octets q t l h refl

keeps_bit : (octets : List ℕ) (q code : ℕ) → q / 8 < length octets → bit_in octets code ≡ 1 → bit_in (with_bit octets q) code ≡ 1
keeps_bit octets q code l e = set_place octets q code l ∙ same (q == code) (bit_in octets code) e
  where
    same : (b : Bool) (bit : ℕ) → bit ≡ 1 → cond b 1 bit ≡ 1
    same true bit e = refl
    same false bit e = e

pub still_covers : (octets : List ℕ) (n m q : ℕ) → q / 8 < length octets → q < 65536 → n ≤ m → q < 256 * m → m ≤ 256 → (n < m → 256 * m ≤ q + 256) → CoversCodes octets n → CoversCodes (with_bit octets q) m
still_covers octets n m q l small low inside high near c = record {
  high = high;
  above = λ code h above. set_place octets q code l ∙ ap (λ b. cond b 1 (bit_in octets code)) (ne_eqb q code (λ e. omega arith)) ∙ c.above code h (omega arith);
  some = λ e. some (cases_lt n m) e;
}
  where
    some : (n < m) ⊎ (m ≤ n) → m ≢ 0 → (code : ℕ) × (code < 65536) × (256 * m ≤ code + 256) × (bit_in (with_bit octets q) code ≡ 1)
    some (inl more) e = (q, small, near more, set_place octets q q l ∙ ap (λ b. cond b 1 (bit_in octets q)) (eq-eqb q q refl))
    some (inr same) e = let x = c.some (λ none. e (omega (arith, same, none))) in (x.0, x.1, omega (arith, x.2, same), keeps_bit octets q x.0 l x.3)

-- one block more of a set
pub block_more : (types old now new part : List ℕ) (w : ℕ) → now ≡ old ++ window_blocks (window_of types) 0 w → part ≡ window_octets_of types w
    → new ≡ now ++ window_block w (trimmed part) → new ≡ old ++ window_blocks (window_of types) 0 (w + 1)
block_more types old now new part w e p n =
    let f = window_of types in
    n ∙ ap (λ x. x ++ window_block w (trimmed part)) e ∙ append_assoc old (window_blocks f 0 w) (window_block w (trimmed part))
    ∙ ap (λ x. old ++ (window_blocks f 0 w ++ window_block w (trimmed x))) p ∙ ap (λ x. old ++ x) (blocks_last f w)

-- a block that does not fit leaves no room for the whole
pub block_lacks : (types old now part : List ℕ) (w n fits : ℕ) → window_blocks (window_of types) 0 n ≡ bitmap types → w < n → now ≡ old ++ window_blocks (window_of types) 0 w
    → part ≡ window_octets_of types w → fits < length now + length (window_block w (trimmed part)) → (whole : List ℕ) → whole ≡ bitmap types → fits < length old + length whole
block_lacks types old now part w n fits ends l e p h whole is =
    let f = window_of types in
    let all = ap length is ∙ sym (ap length ends) ∙ ap (λ k. length (window_blocks f 0 k)) (omega arith) ∙ ap length (blocks_split f 0 (w + 1) (n - (w + 1)))
    ∙ length-append (window_blocks f 0 (w + 1)) (window_blocks f (0 + (w + 1)) (n - (w + 1))) in
    let front = ap length (sym (blocks_last f w)) ∙ length-append (window_blocks f 0 w) (window_block w (f w)) in
    let block = ap (λ x. length (window_block w (trimmed x))) p in
    let so_far = ap length e ∙ length-append old (window_blocks f 0 w) in
    omega arith

emptiness_by : (b : Bool) (octets types : List ℕ) (n : ℕ) → b ≡ (n == 0) → CoversCodes octets n → members octets ≡ types → MatchBool b (types ≡ []) (types ≢ [])
emptiness_by true octets types n e c is = sym is ∙ none_in_use octets n c (eqb-true n 0 (sym e))
emptiness_by false octets types n e c is = λ none. some_in_use octets n c (eqb-false n 0 (sym e)) (is ∙ none)

pub emptiness : (octets : List ℕ) (n : ℕ) (types : List ℕ) → CoversCodes octets n → members octets ≡ types → MatchBool (n == 0) (types ≡ []) (types ≢ [])
emptiness octets n types c is = emptiness_by (n == 0) octets types n refl c is
