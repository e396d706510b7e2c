-- The first octets of keys decide before the keys do.
use Rattle.std.proofs.Common.{ℕ, zero, suc, ◌≡◌, ◌+◌, ◌*◌, ◌^◌, ◌<◌, ◌≤◌, List, [], ◌∷◌, refl, sym, ap, ◌∙◌, arith}
use Rattle.std.specs.Prelude.{All, ◌++◌, length, get_or, take, drop}
use Rattle.std.specs.Int.{from_be_bytes, w64}
use Rattle.std.specs.Ordering.{nat_cmp, ordering_then}
use Rattle.std.specs.declared.cmp.Ordering.{Ordering}
use Rattle.std.specs.declared.cmp.Ordering.TheVariants.{Less, Equal, Greater}
use Rattle.std.proofs.lemmas.Bool.Decides.{nat_tests}
use Rattle.std.proofs.lemmas.List.Elements.{All-nil, All-cons, All-head, All-tail}
use Rattle.std.proofs.lemmas.Nat.{be_bytes_8}
use Rattle.std.proofs.Math.Nat.{mul-le-mul_right, mul_assoc, pow-suc, pow-le-pow_right}
use Rattle.zone_store.specs.Entries.{seven_octets}
use Rattle.zone_record.specs.Names.{octet_order}
use Rattle.zone_store.specs.Prefixes.{prefix_number, rests_cmp}

abbrev pub IsOctet : ℕ → Type 0
IsOctet o = o < 256

digits_some : (n : ℕ) → 0 < 256 ^ n
digits_some zero = omega arith
digits_some (suc n) = omega (arith, digits_some n, pow-suc 256 n)

-- so many octets are below so many digits
prefix_small : (n : ℕ) (os : List ℕ) → All IsOctet os → prefix_number n os < 256 ^ n
prefix_small n [] h = digits_some n
prefix_small zero (o ∷ os) h = omega arith
prefix_small (suc n) (o ∷ os) h =
    let more = prefix_small n os (All-tail IsOctet o os h) in
    let head = All-head IsOctet o os h in
    let digits : (o + 1) * 256 ^ n ≤ 256 * 256 ^ n = mul-le-mul_right (256 ^ n) (omega (arith, head)) in
    omega (arith, more, digits, pow-suc 256 n)

-- a greater digit decides
digit_less : (x y p a b : ℕ) → x < y → a < p → x * p + a < y * p + b
digit_less x y p a b h k =
    let digits : (x + 1) * p ≤ y * p = mul-le-mul_right p (omega (arith, h)) in
    omega (arith, digits, k)

less : (m n : ℕ) → m < n → nat_cmp m n ≡ Less
less m n h = Prim.grind (arith, nat_tests)

greater : (m n : ℕ) → n < m → nat_cmp m n ≡ Greater
greater m n h = Prim.grind (arith, nat_tests)

level : (m n : ℕ) → m ≡ n → nat_cmp m n ≡ Equal
level m n h = Prim.grind (arith, nat_tests)

shifted : (d a b : ℕ) → nat_cmp (d + a) (d + b) ≡ nat_cmp a b
shifted d a b = Prim.grind (arith, nat_tests)

next : (m n : ℕ) → nat_cmp (suc m) (suc n) ≡ nat_cmp m n
next m n = Prim.grind (arith, nat_tests)

at_least : (m : ℕ) → ordering_then (nat_cmp 0 m) Less ≡ Less
at_least zero = refl
at_least (suc m) = ap (λ o. ordering_then o Less) (less 0 (suc m) (omega arith))

at_most : (m : ℕ) → ordering_then (nat_cmp m 0) Greater ≡ Greater
at_most zero = refl
at_most (suc m) = ap (λ o. ordering_then o Greater) (greater (suc m) 0 (omega arith))

-- one of two numbers is less, or they are equal
data Compared (m n : ℕ) : Type 0 where
  below : m < n → Compared m n
  same : m ≡ n → Compared m n
  above : n < m → Compared m n

compared : (m n : ℕ) → Compared m n
compared zero zero = same refl
compared zero (suc n) = below (omega arith)
compared (suc m) zero = above (omega arith)
compared (suc m) (suc n) = by (compared m n)
  where
    by : Compared m n → Compared (suc m) (suc n)
    by (below h) = below (omega (arith, h))
    by (same h) = same (ap suc h)
    by (above h) = above (omega (arith, h))

-- the first octets of two lists decide as numbers, or else the lists do
pub prefixes_decide : (n : ℕ) (a b : List ℕ) → All IsOctet a → All IsOctet b → octet_order a b ≡ ordering_then (nat_cmp (prefix_number n a) (prefix_number n b)) (octet_order a b)
prefixes_decide n [] [] h k = refl
prefixes_decide n [] (y ∷ b) h k = sym (at_least (prefix_number n (y ∷ b)))
prefixes_decide n (x ∷ a) [] h k = sym (at_most (prefix_number n (x ∷ a)))
prefixes_decide zero (x ∷ a) (y ∷ b) h k = refl
prefixes_decide (suc n) (x ∷ a) (y ∷ b) h k = by (compared x y) (prefixes_decide n a b (All-tail IsOctet x a h) (All-tail IsOctet y b k))
  where
    more_a : prefix_number n a < 256 ^ n
    more_a = prefix_small n a (All-tail IsOctet x a h)

    more_b : prefix_number n b < 256 ^ n
    more_b = prefix_small n b (All-tail IsOctet y b k)

    order : Ordering → Ordering
    order o = ordering_then o (octet_order a b)

    whole : Ordering → Ordering
    whole o = ordering_then (nat_cmp (prefix_number (suc n) (x ∷ a)) (prefix_number (suc n) (y ∷ b))) (ordering_then o (octet_order a b))

    by : Compared x y → octet_order a b ≡ ordering_then (nat_cmp (prefix_number n a) (prefix_number n b)) (octet_order a b) → ordering_then (nat_cmp x y) (octet_order a b) ≡ ordering_then (nat_cmp (prefix_number (suc n) (x ∷ a)) (prefix_number (suc n) (y ∷ b))) (ordering_then (nat_cmp x y) (octet_order a b))
    by (below p) rest =
        ap order (less x y p)
        ∙ sym (ap (λ o. ordering_then o (ordering_then (nat_cmp x y) (octet_order a b))) (less _ _ (digit_less x y (256 ^ n) (prefix_number n a) (prefix_number n b) p more_a)))
    by (above p) rest =
        ap order (greater x y p)
        ∙ sym (ap (λ o. ordering_then o (ordering_then (nat_cmp x y) (octet_order a b))) (greater _ _ (digit_less y x (256 ^ n) (prefix_number n b) (prefix_number n a) p more_b)))
    by (same p) rest =
        ap order (level x y p)
        ∙ rest
        ∙ (λ i. ordering_then (sym (shifted (x * 256 ^ n) (prefix_number n a) (prefix_number n b)) i) (octet_order a b))
        ∙ (λ i. ordering_then (nat_cmp (x * 256 ^ n + prefix_number n a) (p i * 256 ^ n + prefix_number n b)) (octet_order a b))
        ∙ sym (ap whole (level x y p))

-- the octets of a slice are below 256
pub all_octets : (os : List ℕ) → ((i : ℕ) → get_or os i 0 < 256) → All IsOctet os
all_octets [] h = All-nil IsOctet
all_octets (o ∷ os) h = All-cons IsOctet _ _ (h 0) (all_octets os (λ i. h (suc i)))

pub prefix_none : (os : List ℕ) → prefix_number 0 os ≡ 0
prefix_none [] = refl
prefix_none (o ∷ os) = refl

-- one octet more is one digit more
pub prefix_more : (n : ℕ) (os : List ℕ) → prefix_number (suc n) os ≡ prefix_number n os * 256 + get_or os n 0
prefix_more n [] = refl
prefix_more zero (o ∷ os) = omega (arith, prefix_none os)
prefix_more (suc n) (o ∷ os) =
    let high : o * 256 ^ suc n ≡ o * 256 ^ n * 256 = ap (λ p. o * p) (pow-suc 256 n) ∙ sym (mul_assoc o (256 ^ n) 256) in
    omega (arith, high, prefix_more n os)

pub prefix_fits : (n : ℕ) (os : List ℕ) (x : ℕ) → ((i : ℕ) → get_or os i 0 < 256) → n < 8 → x < 256 → prefix_number n os * 256 + x < 2 ^ 64
prefix_fits n os x h small digit =
    let prefix = prefix_small n os (all_octets os h) in
    let power : 256 ^ n ≤ 256 ^ 7 = pow-le-pow_right {n = 256} (omega arith) {i = n} {j = 7} (omega (arith, small)) in
    omega (arith, prefix, power, digit)

pub prefix_least : (os : List ℕ) → ((i : ℕ) → get_or os i 0 < 256) → prefix_number 7 os < 2 ^ 56
prefix_least os h = omega (arith, prefix_small 7 os (all_octets os h))

-- ---- keys without their first octets

-- lists that tie have one length
same_length : (a b : List ℕ) → octet_order a b ≡ ordering_then (octet_order a b) (nat_cmp (length a) (length b))
same_length [] [] = refl
same_length [] (y ∷ b) = refl
same_length (x ∷ a) [] = refl
same_length (x ∷ a) (y ∷ b) = by (nat_cmp x y) (same_length a b)
  where
    by : (o : Ordering) → octet_order a b ≡ ordering_then (octet_order a b) (nat_cmp (length a) (length b))
        → ordering_then o (octet_order a b) ≡ ordering_then (ordering_then o (octet_order a b)) (nat_cmp (suc (length a)) (suc (length b)))
    by Less e = refl
    by Equal e = e ∙ ap (ordering_then (octet_order a b)) (sym (next (length a) (length b)))
    by Greater e = refl

-- no octets are before others
none_less : (n : ℕ) (b : List ℕ) (m : ℕ) → ordering_then (octet_order [] b) (nat_cmp 0 (suc m)) ≡ Less
none_less n [] m = less 0 (suc m) (omega arith)
none_less n (y ∷ b) m = refl

none_greater : (n : ℕ) (a : List ℕ) (m : ℕ) → ordering_then (octet_order a []) (nat_cmp (suc m) 0) ≡ Greater
none_greater n [] m = greater (suc m) 0 (omega arith)
none_greater n (x ∷ a) m = refl

-- the first octets of two lists decide as numbers, and then what follows them does
pub rests_decide : (n : ℕ) (a b : List ℕ) → All IsOctet a → All IsOctet b → octet_order a b ≡ ordering_then (nat_cmp (prefix_number n a) (prefix_number n b)) (rests_cmp n a b)
rests_decide zero a b h k =
    same_length a b ∙ ap (λ o. ordering_then o (rests_cmp 0 a b)) (sym (level (prefix_number 0 a) (prefix_number 0 b) (prefix_none a ∙ sym (prefix_none b))))
rests_decide (suc n) [] [] h k = refl
rests_decide (suc n) [] (y ∷ b) h k =
    sym (ap (ordering_then (nat_cmp 0 (prefix_number (suc n) (y ∷ b)))) (none_less n (drop n b) (length b)) ∙ at_least (prefix_number (suc n) (y ∷ b)))
rests_decide (suc n) (x ∷ a) [] h k =
    sym (ap (ordering_then (nat_cmp (prefix_number (suc n) (x ∷ a)) 0)) (none_greater n (drop n a) (length a)) ∙ at_most (prefix_number (suc n) (x ∷ a)))
rests_decide (suc n) (x ∷ a) (y ∷ b) h k = by (compared x y) (rests_decide n a b (All-tail IsOctet x a h) (All-tail IsOctet y b k))
  where
    more_a : prefix_number n a < 256 ^ n
    more_a = prefix_small n a (All-tail IsOctet x a h)

    more_b : prefix_number n b < 256 ^ n
    more_b = prefix_small n b (All-tail IsOctet y b k)

    rest : Ordering
    rest = rests_cmp (suc n) (x ∷ a) (y ∷ b)

    by : Compared x y → octet_order a b ≡ ordering_then (nat_cmp (prefix_number n a) (prefix_number n b)) (rests_cmp n a b)
        → ordering_then (nat_cmp x y) (octet_order a b) ≡ ordering_then (nat_cmp (prefix_number (suc n) (x ∷ a)) (prefix_number (suc n) (y ∷ b))) rest
    by (below p) e =
        ap (λ o. ordering_then o (octet_order a b)) (less x y p)
        ∙ sym (ap (λ o. ordering_then o rest) (less _ _ (digit_less x y (256 ^ n) (prefix_number n a) (prefix_number n b) p more_a)))
    by (above p) e =
        ap (λ o. ordering_then o (octet_order a b)) (greater x y p)
        ∙ sym (ap (λ o. ordering_then o rest) (greater _ _ (digit_less y x (256 ^ n) (prefix_number n b) (prefix_number n a) p more_b)))
    by (same p) e =
        ap (λ o. ordering_then o (octet_order a b)) (level x y p)
        ∙ e
        ∙ ap (λ o. ordering_then (nat_cmp (prefix_number n a) (prefix_number n b)) (ordering_then (octet_order (drop n a) (drop n b)) o)) (sym (next (length a) (length b)))
        ∙ (λ i. ordering_then (sym (shifted (x * 256 ^ n) (prefix_number n a) (prefix_number n b)) i) rest)
        ∙ (λ i. ordering_then (nat_cmp (x * 256 ^ n + prefix_number n a) (p i * 256 ^ n + prefix_number n b)) rest)

-- ---- the first octets of a key, read back from their number

-- the first seven octets, where absent ones are 0
abbrev padded : List ℕ → List ℕ
padded os = get_or os 0 0 ∷ get_or os 1 0 ∷ get_or os 2 0 ∷ get_or os 3 0 ∷ get_or os 4 0 ∷ get_or os 5 0 ∷ get_or os 6 0 ∷ []

pub small_at : (os : List ℕ) → All IsOctet os → (i : ℕ) → get_or os i 0 < 256
small_at [] h i = omega arith
small_at (o ∷ os) h zero = All-head IsOctet o os h
small_at (o ∷ os) h (suc i) = small_at os (All-tail IsOctet o os h) i

number_is : (os : List ℕ) → prefix_number 7 os ≡ from_be_bytes w64 (0 ∷ padded os)
number_is os = omega (arith, prefix_none os, prefix_more 0 os, prefix_more 1 os, prefix_more 2 os, prefix_more 3 os, prefix_more 4 os, prefix_more 5 os, prefix_more 6 os)

padded_small : (os : List ℕ) → All IsOctet os → (i : ℕ) → get_or (0 ∷ padded os) i 0 < 256
padded_small os h zero = omega arith
padded_small os h (suc zero) = small_at os h 0
padded_small os h (suc (suc zero)) = small_at os h 1
padded_small os h (suc (suc (suc zero))) = small_at os h 2
padded_small os h (suc (suc (suc (suc zero)))) = small_at os h 3
padded_small os h (suc (suc (suc (suc (suc zero))))) = small_at os h 4
padded_small os h (suc (suc (suc (suc (suc (suc zero)))))) = small_at os h 5
padded_small os h (suc (suc (suc (suc (suc (suc (suc zero))))))) = small_at os h 6
padded_small os h (suc (suc (suc (suc (suc (suc (suc (suc i)))))))) = omega arith

seven_are : (os : List ℕ) → All IsOctet os → seven_octets (prefix_number 7 os) ≡ padded os
seven_are os h = ap (drop 1) (be_bytes_8 (0 ∷ padded os) (prefix_number 7 os) refl (padded_small os h) (number_is os))

take_padded : (os : List ℕ) → take (length os) (padded os) ++ drop 7 os ≡ os
take_padded [] = refl
take_padded (a ∷ []) = refl
take_padded (a ∷ b ∷ []) = refl
take_padded (a ∷ b ∷ c ∷ []) = refl
take_padded (a ∷ b ∷ c ∷ d ∷ []) = refl
take_padded (a ∷ b ∷ c ∷ d ∷ e ∷ []) = refl
take_padded (a ∷ b ∷ c ∷ d ∷ e ∷ f ∷ []) = refl
take_padded (a ∷ b ∷ c ∷ d ∷ e ∷ f ∷ g ∷ []) = refl
take_padded (a ∷ b ∷ c ∷ d ∷ e ∷ f ∷ g ∷ h ∷ os) = refl

pub key_read : (os : List ℕ) → All IsOctet os → take (length os) (seven_octets (prefix_number 7 os)) ++ drop 7 os ≡ os
key_read os h = ap (λ s. take (length os) s ++ drop 7 os) (seven_are os h) ∙ take_padded os
