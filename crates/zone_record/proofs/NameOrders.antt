-- Names compared from the root on.
use Rattle.std.proofs.Common.{ℕ, ◌≡◌, ◌-◌, List, [], ◌∷◌, ◌++◌, length, take, drop, map, min, refl, sym, ap, ◌∙◌, arith, length-drop}
use Rattle.std.specs.Prelude.{reverse}
use Rattle.std.specs.Cmp.Lexicographic.{slice_cmp}
use Rattle.std.specs.Ordering.{nat_cmp, ordering_then}
use Rattle.std.specs.declared.cmp.Ordering.{Ordering}
use Rattle.std.specs.declared.cmp.Ordering.TheVariants.{Less, Equal, Greater}
use Rattle.std.proofs.lemmas.Bool.Decides.{nat_tests}
use Rattle.std.proofs.lemmas.List.{map-append, length-map, length-reverse, reverse-append, take-append-drop, length-take-le}
use Rattle.dns_octets.specs.Lowered.{lowered, lowered_order}
use Rattle.zone_record.specs.Names.{octet_order, labels_from_root, name_order}

pub then_assoc : (p q r : Ordering) → ordering_then (ordering_then p q) r ≡ ordering_then p (ordering_then q r)
then_assoc Less q r = refl
then_assoc Equal q r = refl
then_assoc Greater q r = refl

then_equal : (o : Ordering) → ordering_then o Equal ≡ o
then_equal Less = refl
then_equal Equal = refl
then_equal Greater = refl

-- lists of the same length decide before what follows them
pub slice_cmp-append : {K : Type 0} (R : K → K → Ordering) (a b c d : List K) → length a ≡ length b → slice_cmp R (a ++ c) (b ++ d) ≡ ordering_then (slice_cmp R a b) (slice_cmp R c d)
slice_cmp-append R [] [] c d h = refl
slice_cmp-append R [] (y ∷ b) c d h = absurd (omega arith)
slice_cmp-append R (x ∷ a) [] c d h = absurd (omega arith)
slice_cmp-append R (x ∷ a) (y ∷ b) c d h =
    ap (ordering_then (R x y)) (slice_cmp-append R a b c d (omega arith)) ∙ sym (then_assoc (R x y) (slice_cmp R a b) (slice_cmp R c d))

from_root_append : (a b : List (List ℕ)) → labels_from_root (a ++ b) ≡ labels_from_root b ++ labels_from_root a
from_root_append a b = ap reverse (map-append lowered a b) ∙ reverse-append (map lowered a) (map lowered b)

length_from_root : (labels : List (List ℕ)) → length (labels_from_root labels) ≡ length labels
length_from_root labels = length-reverse (map lowered labels) ∙ length-map labels lowered

level_from_root : (a b : List (List ℕ)) → length a ≡ length b → length (labels_from_root a) ≡ length (labels_from_root b)
level_from_root a b h = length_from_root a ∙ h ∙ sym (length_from_root b)

-- the first labels decide last
pub order_append : (a b c d : List (List ℕ)) → length c ≡ length d → name_order (a ++ c) (b ++ d) ≡ ordering_then (name_order c d) (slice_cmp octet_order (labels_from_root a) (labels_from_root b))
order_append a b c d h =
    (λ i. slice_cmp octet_order (from_root_append a c i) (from_root_append b d i))
    ∙ slice_cmp-append octet_order (labels_from_root c) (labels_from_root d) (labels_from_root a) (labels_from_root b) (level_from_root c d h)

-- one more label before each of two names with the same number of labels
pub order_more : (x y : List ℕ) (a b : List (List ℕ)) → length a ≡ length b → name_order (x ∷ a) (y ∷ b) ≡ ordering_then (name_order a b) (lowered_order x y)
order_more x y a b h = order_append (x ∷ []) (y ∷ []) a b h ∙ ap (ordering_then (name_order a b)) (then_equal (lowered_order x y))

less_than : (m n : ℕ) → m - min m n ≡ 0 → (n - min m n ≡ 0 → ⊥) → nat_cmp m n ≡ Less
less_than m n h k = Prim.grind (arith, nat_tests)

equal_to : (m n : ℕ) → m - min m n ≡ 0 → n - min m n ≡ 0 → nat_cmp m n ≡ Equal
equal_to m n h k = Prim.grind (arith, nat_tests)

greater_than : (m n : ℕ) → n - min m n ≡ 0 → (m - min m n ≡ 0 → ⊥) → nat_cmp m n ≡ Greater
greater_than m n h k = Prim.grind (arith, nat_tests)

-- of lists of which one has ended the lengths decide
ended : {K : Type 0} (R : K → K → Ordering) (a b : List K) (m n : ℕ) → length a ≡ m - min m n → length b ≡ n - min m n → slice_cmp R a b ≡ nat_cmp m n
ended R [] [] m n h k = sym (equal_to m n (sym h) (sym k))
ended R [] (y ∷ b) m n h k = sym (less_than m n (sym h) (λ e. omega (arith, h, k, e)))
ended R (x ∷ a) [] m n h k = sym (greater_than m n (sym k) (λ e. omega (arith, h, k, e)))
ended R (x ∷ a) (y ∷ b) m n h k = absurd (omega (arith, h, k))

-- the last labels of both, in equal number, decide before the number of labels does
pub order_level : (a b : List (List ℕ)) (m n shared : ℕ) → m ≡ length a → n ≡ length b → shared ≡ min m n
    → name_order a b ≡ ordering_then (name_order (drop (m - shared) a) (drop (n - shared) b)) (nat_cmp m n)
order_level a b m n shared p q s =
    let i = m - shared in
    let j = n - shared in
    (λ k. name_order (sym (take-append-drop i a) k) (sym (take-append-drop j b) k))
    ∙ order_append (take i a) (take j b) (drop i a) (drop j b) (omega (arith, p, q, s, length-drop i a, length-drop j b))
    ∙ ap (ordering_then (name_order (drop i a) (drop j b)))
    (ended octet_order (labels_from_root (take i a)) (labels_from_root (take j b)) m n
    (length_from_root (take i a) ∙ length-take-le i a (omega (arith, p)) ∙ ap (λ t. m - t) s)
    (length_from_root (take j b) ∙ length-take-le j b (omega (arith, q)) ∙ ap (λ t. n - t) s))
