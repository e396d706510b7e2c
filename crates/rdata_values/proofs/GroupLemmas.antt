-- Groups of hexadecimal digits: what a text of them begins with.
use Rattle.std.proofs.Common.{ℕ, zero, suc, lit<, ◌≡◌, ◌<◌, ◌≤◌, ◌+◌, ◌*◌, ◌^◌, false, List, [], ◌∷◌, ◌++◌, length, get_or, take, drop, refl, sym, subst, arith, ap, ◌∙◌, inl, inr, true≢false, take-append-drop, length-take-le, get_or-drop, Option, Some, None, ◌-◌}
use Rattle.std.proofs.lemmas.List.{take_all}
use Rattle.std.proofs.Math.Nat.{pow-le-pow_right}
use Rattle.std.proofs.lemmas.Int.Digits.{digits_value_more, digits_value-lt}
use Rattle.std.proofs.lemmas.Str.Parse.{digits_value-take-le}
use Rattle.std.specs.Char.{digit_value}
use Rattle.std.specs.Str.Parse.{AllDigits, digits_value}
use Rattle.std.specs.Net.Grammar.{IsGroupsAfter}
use Rattle.rdata_values.specs.declared.locator.Group.{Group}
use Rattle.rdata_values.specs.Locator.{BeginsWithGroup, ContinuesWithGroup, ParsesGroup}

-- a digit more of at most four
pub record GroupMore (number : ℕ) (digits : List ℕ) (i : ℕ) : Type 0 where
  pub digit : digit_value (get_or digits i 0) < 16
  pub value : number * 16 + digit_value (get_or digits i 0) ≡ digits_value 16 (take (i + 1) digits)
  pub small : number * 16 + digit_value (get_or digits i 0) < 65536

digit_within : (digits : List ℕ) (i : ℕ) → AllDigits 16 digits → i < length digits → digit_value (get_or digits i 0) < 16
digit_within [] i all here = absurd (omega (arith, here))
digit_within (d ∷ ds) zero all here = all.0
digit_within (d ∷ ds) (suc i) all here = digit_within ds i all.1 (omega (arith, here))

pub group_more : (digits : List ℕ) (i number : ℕ) → i < length digits → AllDigits 16 digits → length digits ≤ 4 → number ≡ digits_value 16 (take i digits) → GroupMore number digits i
group_more digits i number here all short is =
    let more : digits_value 16 (take (i + 1) digits) ≡ digits_value 16 (take i digits) * 16 + digit_value (get_or digits i 0) = digits_value_more 16 digits i here in
    let part = digits_value-take-le 16 digits (i + 1) (omega arith) in
    let most = digits_value-lt 16 digits all in
    let limit : 16 ^ length digits ≤ 16 ^ 4 = pow-le-pow_right {n = 16} (lit< tt) short in
    record { digit = digit_within digits i all here; value = omega (arith, more, is); small = omega (arith, more, is, part, most, limit) }

-- digits, and then no digit, in one way
one_split : (g h r s : List ℕ) → AllDigits 16 g → AllDigits 16 h → 16 ≤ digit_value (get_or r 0 0) → 16 ≤ digit_value (get_or s 0 0) → g ++ r ≡ h ++ s → (g ≡ h) × (r ≡ s)
one_split [] [] r s all more end stop e = (refl, e)
one_split [] (d ∷ h) r s all more end stop e = let first : digit_value (get_or r 0 0) ≡ digit_value d = ap (λ t. digit_value (get_or t 0 0)) e in absurd (omega (arith, first, end, more.0))
one_split (c ∷ g) [] r s all more end stop e = let first : digit_value c ≡ digit_value (get_or s 0 0) = ap (λ t. digit_value (get_or t 0 0)) e in absurd (omega (arith, first, stop, all.0))
one_split (c ∷ g) (d ∷ h) r s all more end stop e =
    let first : c ≡ d = ap (λ t. get_or t 0 0) e in
    let later = one_split g h r s all.1 more.1 end stop (ap (drop 1) e) in
    ((λ i. first i ∷ later.0 i), later.1)

pub one_begin : (text r s : List ℕ) (n m : ℕ) → BeginsWithGroup text n r → BeginsWithGroup text m s → (n ≡ m) × (r ≡ s)
one_begin text r s n m h k =
    let same = one_split h.group k.group r s h.value.0.0.1 k.value.0.0.1 h.end k.end (sym h.written ∙ k.written) in
    (sym h.value.0.1 ∙ ap (digits_value 16) same.0 ∙ k.value.0.1, same.1)

one_on : (text r s : List ℕ) (n m : ℕ) → ContinuesWithGroup text n r → ContinuesWithGroup text m s → (n ≡ m) × (r ≡ s)
one_on text r s n m h k =
    let same : h.0 ≡ k.0 = ap (drop 1) (sym h.1 ∙ k.1) in
    one_begin k.0 r s n m (subst (λ more. BeginsWithGroup more n r) same h.2) k.2

-- the group is all the digits that the text begins with
pub group_length : (text rest : List ℕ) (n count : ℕ) → count ≤ length text → AllDigits 16 (take count text) → 16 ≤ digit_value (get_or text count 0) → BeginsWithGroup text n rest → (0 < count) × (count ≤ 4)
group_length text rest n count here all stop h =
    let first : get_or (drop count text) 0 0 ≡ get_or text count 0 = get_or-drop count text 0 0 ∙ ap (λ k. get_or text k 0) (omega arith) in
    let end : 16 ≤ digit_value (get_or (drop count text) 0 0) = subst (λ c. 16 ≤ digit_value c) (sym first) stop in
    let same = one_split h.group (take count text) rest (drop count text) h.value.0.0.1 all h.end end (sym h.written ∙ sym (take-append-drop count text)) in
    let long : length h.group ≡ count = ap length same.0 ∙ length-take-le count text here in
    (omega (arith, long, h.value.0.0.0), omega (arith, long, h.value.1))

behind : (text more : List ℕ) (r : Option Group) → text ≡ 58 ∷ more → ParsesGroup BeginsWithGroup more r → ParsesGroup ContinuesWithGroup text r
behind text more None is h = λ n rest g. h n rest (subst (λ t. BeginsWithGroup t n rest) (sym (ap (drop 1) (sym is ∙ g.1))) g.2)
behind text more (Some g) is h = (more, is, h)

-- the group after a colon
pub behind_colon : (text : List ℕ) (r : Option Group) → (length text ≡ 0 → ⊥) → get_or text 0 0 ≡ 58 → ParsesGroup BeginsWithGroup (take (length text - 1) (drop 1 text)) r → ParsesGroup ContinuesWithGroup text r
behind_colon [] r some first h = absurd (some refl)
behind_colon (c ∷ cs) r some first h =
    let all : take (length (c ∷ cs) - 1) cs ≡ cs = take_all (length (c ∷ cs) - 1) cs (omega arith) in
    behind (c ∷ cs) cs r (ap (λ d. d ∷ cs) first) (subst (λ t. ParsesGroup BeginsWithGroup t r) all h)

ends : (segments rest : List ℕ) → IsGroupsAfter false (58 ∷ []) rest segments → 16 ≤ digit_value (get_or rest 0 0)
ends [] rest h = let first : digit_value (get_or rest 0 0) ≡ 36 = ap (λ t. digit_value (get_or t 0 0)) h in omega (arith, first)
ends (s ∷ segments) rest (inl h) = let first : digit_value (get_or rest 0 0) ≡ 36 = ap (λ t. digit_value (get_or t 0 0)) h.2 in omega (arith, first)
ends (s ∷ segments) rest (inr h) = absurd (true≢false (sym h.2))

begins : (text : List ℕ) (s : ℕ) (segments : List ℕ) → IsGroupsAfter false [] text (s ∷ segments) → (rest : List ℕ) × BeginsWithGroup text s rest × IsGroupsAfter false (58 ∷ []) rest segments
begins text s segments (inl h) = (h.1, record { group = h.0; written = h.2; value = h.3; end = ends segments h.1 h.4 }, h.4)
begins text s segments (inr h) = absurd (true≢false (sym h.2))

goes_on : (text : List ℕ) (s : ℕ) (segments : List ℕ) → IsGroupsAfter false (58 ∷ []) text (s ∷ segments) → (rest : List ℕ) × ContinuesWithGroup text s rest × IsGroupsAfter false (58 ∷ []) rest segments
goes_on text s segments (inl h) = (h.1, (h.0 ++ h.1, h.2, record { group = h.0; written = refl; value = h.3; end = ends segments h.1 h.4 }), h.4)
goes_on text s segments (inr h) = absurd (true≢false (sym h.2))

-- the rest is this number of groups, each after a colon
abbrev pub More : List ℕ → ℕ → Type 0
More rest count = (segments : List ℕ) × (length segments ≡ count) × IsGroupsAfter false (58 ∷ []) rest segments

pub some_begin : (text segments : List ℕ) (count : ℕ) → length segments ≡ suc count → IsGroupsAfter false [] text segments → ((n : ℕ) (rest : List ℕ) → BeginsWithGroup text n rest → ⊥) → ⊥
some_begin text [] count long h none = absurd (omega (arith, long))
some_begin text (s ∷ segments) count long h none = let b = begins text s segments h in none s b.0 b.1

pub some_on : (text : List ℕ) (count : ℕ) → More text (suc count) → ((n : ℕ) (rest : List ℕ) → ContinuesWithGroup text n rest → ⊥) → ⊥
some_on text count h none = by h.0 h.1 h.2
  where
    by : (segments : List ℕ) → length segments ≡ suc count → IsGroupsAfter false (58 ∷ []) text segments → ⊥
    by [] long k = absurd (omega (arith, long))
    by (s ∷ segments) long k = let b = goes_on text s segments k in none s b.0 b.1

pub after_begin : (text rest segments : List ℕ) (n count : ℕ) → BeginsWithGroup text n rest → length segments ≡ suc count → IsGroupsAfter false [] text segments → More rest count
after_begin text rest [] n count own long h = absurd (omega (arith, long))
after_begin text rest (s ∷ segments) n count own long h =
    let b = begins text s segments h in
    let same = one_begin text b.0 rest s n b.1 own in
    (segments, omega (arith, long), subst (λ r. IsGroupsAfter false (58 ∷ []) r segments) same.1 b.2)

pub after_on : (text rest : List ℕ) (n count : ℕ) → ContinuesWithGroup text n rest → More text (suc count) → More rest count
after_on text rest n count own h = by h.0 h.1 h.2
  where
    by : (segments : List ℕ) → length segments ≡ suc count → IsGroupsAfter false (58 ∷ []) text segments → More rest count
    by [] long k = absurd (omega (arith, long))
    by (s ∷ segments) long k =
        let b = goes_on text s segments k in
        let same = one_on text b.0 rest s n b.1 own in
        (segments, omega (arith, long), subst (λ r. IsGroupsAfter false (58 ∷ []) r segments) same.1 b.2)

pub nothing_more : (rest : List ℕ) → More rest 0 → length rest ≡ 0
nothing_more rest h = by h.0 h.1 h.2
  where
    by : (segments : List ℕ) → length segments ≡ 0 → IsGroupsAfter false (58 ∷ []) rest segments → length rest ≡ 0
    by [] long k = ap length k
    by (s ∷ segments) long k = absurd (omega (arith, long))

pub no_more : (rest : List ℕ) → length rest ≡ 0 → IsGroupsAfter false (58 ∷ []) rest []
no_more [] none = refl
no_more (c ∷ cs) none = absurd (omega (arith, none))

pub join_begin : (text rest segments : List ℕ) (n : ℕ) → BeginsWithGroup text n rest → IsGroupsAfter false (58 ∷ []) rest segments → IsGroupsAfter false [] text (n ∷ segments)
join_begin text rest segments n h k = inl (h.group, rest, h.written, h.value, k)

pub join_on : (text rest segments : List ℕ) (n : ℕ) → ContinuesWithGroup text n rest → IsGroupsAfter false (58 ∷ []) rest segments → IsGroupsAfter false (58 ∷ []) text (n ∷ segments)
join_on text rest segments n h k = inl (h.2.group, rest, h.1 ∙ ap (λ t. 58 ∷ t) h.2.written, h.2.value, k)

-- the groups of a text are those that it is split into
pub one_groups : (text : List ℕ) (ns ms : List ℕ) → length ns ≡ length ms → IsGroupsAfter false [] text ns → IsGroupsAfter false [] text ms → ns ≡ ms
one_groups text [] [] long h k = refl
one_groups text [] (m ∷ ms) long h k = absurd (omega (arith, long))
one_groups text (n ∷ ns) [] long h k = absurd (omega (arith, long))
one_groups text (n ∷ ns) (m ∷ ms) long h k =
    let first = begins text n ns h in
    let other = begins text m ms k in
    let same = one_begin text first.0 other.0 n m first.1 other.1 in
    let later = one_later other.0 ns ms (omega (arith, long)) (subst (λ r. IsGroupsAfter false (58 ∷ []) r ns) same.1 first.2) other.2 in
    λ i. same.0 i ∷ later i
  where
    one_later : (text : List ℕ) (ns ms : List ℕ) → length ns ≡ length ms → IsGroupsAfter false (58 ∷ []) text ns → IsGroupsAfter false (58 ∷ []) text ms → ns ≡ ms
    one_later text [] [] long h k = refl
    one_later text [] (m ∷ ms) long h k = absurd (omega (arith, long))
    one_later text (n ∷ ns) [] long h k = absurd (omega (arith, long))
    one_later text (n ∷ ns) (m ∷ ms) long h k =
        let first = goes_on text n ns h in
        let other = goes_on text m ms k in
        let same = one_on text first.0 other.0 n m first.1 other.1 in
        let later = one_later other.0 ns ms (omega (arith, long)) (subst (λ r. IsGroupsAfter false (58 ∷ []) r ns) same.1 first.2) other.2 in
        λ i. same.0 i ∷ later i
