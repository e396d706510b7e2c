-- Keys in a zone compare as the order keys of their names, which can be read back.
use Rattle.std.proofs.Common.{ℕ, ◌≡◌, ◌+◌, ◌≤◌, List, [], ◌∷◌, ◌++◌, length, take, drop, refl, sym, ap, ◌∙◌, arith, append-nil, length-append}
use Rattle.std.specs.Prelude.{Bool, true, false, ◌&&◌, nat_eq, if◌then◌else◌}
use Rattle.std.specs.Cmp.{IsTotalOrder}
use Rattle.std.specs.Cmp.Lexicographic.{same_text}
use Rattle.std.specs.Ordering.{is_lt, nat_cmp, ordering_reverse, ordering_then}
use Rattle.std.specs.declared.cmp.Ordering.{Ordering}
use Rattle.std.specs.declared.cmp.Ordering.TheVariants.{Less, Equal, Greater}
use Rattle.std.proofs.lemmas.Bool.{true≢false}
use Rattle.std.proofs.lemmas.Bool.Decides.{nat_tests}
use Rattle.std.proofs.lemmas.Cmp.{nat_list_cmp_total, tied_itself}
use Rattle.std.proofs.lemmas.List.{drop_at, take-append-drop}
use Rattle.zone_record.specs.Names.{octet_order}
use Rattle.zone_record.proofs.NameOrders.{slice_cmp-append}
use Rattle.zone_record.proofs.Orders.{octets_equal}
use Rattle.zone_contents.specs.Keys.{begins_with, whole_key, zone_key}

abbrev total : IsTotalOrder octet_order
total = nat_list_cmp_total

-- octets that are before others are before what begins with these
before_more : (b front r : List ℕ) → octet_order b front ≡ Less → octet_order b (front ++ r) ≡ Less
before_more [] [] r h = absurd (no h)
  where
    no : Equal ≡ Less → ⊥
    no e = cc
before_more [] (y ∷ ys) r h = refl
before_more (x ∷ xs) [] r h = absurd (no h)
  where
    no : Greater ≡ Less → ⊥
    no e = cc
before_more (x ∷ xs) (y ∷ ys) r h = by (before_more xs ys r) (nat_cmp x y) h
  where
    by : (octet_order xs ys ≡ Less → octet_order xs (ys ++ r) ≡ Less) → (o : Ordering) → ordering_then o (octet_order xs ys) ≡ Less → ordering_then o (octet_order xs (ys ++ r)) ≡ Less
    by more Less e = refl
    by more Equal e = more e
    by more Greater e = absurd (no e)
      where
        no : Greater ≡ Less → ⊥
        no e = cc

-- octets that are after others, and don't begin with them, are after what begins with these
after_more : (b front r : List ℕ) → octet_order b front ≡ Greater → begins_with b front ≡ false → octet_order b (front ++ r) ≡ Greater
after_more b [] r h n = absurd (true≢false n)
after_more [] (y ∷ ys) r h n = absurd (no h)
  where
    no : Less ≡ Greater → ⊥
    no e = cc
after_more (x ∷ xs) (y ∷ ys) r h n = by (after_more xs ys r) (nat_cmp x y) refl h
  where
    same_first : nat_cmp x y ≡ Equal → nat_eq x y ≡ true
    same_first e = Prim.grind (arith, nat_tests)

    rest_not : nat_eq x y ≡ true → begins_with xs ys ≡ false
    rest_not e = sym (ap (λ b. b && begins_with xs ys) e) ∙ n

    by : (octet_order xs ys ≡ Greater → begins_with xs ys ≡ false → octet_order xs (ys ++ r) ≡ Greater) → (o : Ordering) → nat_cmp x y ≡ o → ordering_then o (octet_order xs ys) ≡ Greater
        → ordering_then o (octet_order xs (ys ++ r)) ≡ Greater
    by more Less q e = absurd (no e)
      where
        no : Less ≡ Greater → ⊥
        no e = cc
    by more Equal q e = more e (rest_not (same_first q))
    by more Greater q e = refl

begins_parts : (key front : List ℕ) → begins_with key front ≡ true → key ≡ front ++ drop (length front) key
begins_parts key front h = sym (take-append-drop (length front) key) ∙ ap (λ l. l ++ drop (length front) key) (same_text (take (length front) key) front (sym h))

begins_front : (front rest : List ℕ) → begins_with (front ++ rest) front ≡ true
begins_front [] rest = refl
begins_front (x ∷ xs) rest = ap (λ b. b && begins_with (xs ++ rest) xs) (one x) ∙ begins_front xs rest
  where
    one : (n : ℕ) → nat_eq n n ≡ true
    one n = Prim.grind (arith, nat_tests)

-- the key of a name in a zone, if its order key begins with the apex's
pub key_within : (apex rest : List ℕ) → zone_key apex (apex ++ rest) ≡ 1 ∷ rest
key_within apex rest =
    ap (λ b. if b then 1 ∷ drop (length apex) (apex ++ rest) else (if is_lt (octet_order (apex ++ rest) apex) then 0 else 2) ∷ (apex ++ rest)) (begins_front apex rest)
    ∙ ap (λ r. 1 ∷ r) (drop_at apex rest (length apex) refl)

begins_itself : (front : List ℕ) → begins_with front front ≡ true
begins_itself front = ap (λ key. begins_with key front) (sym (append-nil front)) ∙ begins_front front []

-- where a name is by its key: in the zone, before its apex, or after the zone
pub data Where (apex key : List ℕ) : Type 0 where
  within : (rest : List ℕ) → key ≡ apex ++ rest → zone_key apex key ≡ 1 ∷ rest → Where apex key
  before : octet_order key apex ≡ Less → zone_key apex key ≡ 0 ∷ key → Where apex key
  after : octet_order key apex ≡ Greater → begins_with key apex ≡ false → zone_key apex key ≡ 2 ∷ key → Where apex key

pub where_is : (apex key : List ℕ) → Where apex key
where_is apex key = by (begins_with key apex) refl
  where
    other : (n : begins_with key apex ≡ false) (o : Ordering) → octet_order key apex ≡ o → Where apex key
    other n Less e =
        before e (ap (λ b. if b then 1 ∷ drop (length apex) key else (if is_lt (octet_order key apex) then 0 else 2) ∷ key) n ∙ ap (λ o. (if is_lt o then 0 else 2) ∷ key) e)
    other n Equal e = absurd (true≢false (sym (begins_itself apex) ∙ ap (λ k. begins_with k apex) (sym (octets_equal key apex e)) ∙ n))
    other n Greater e =
        after e n (ap (λ b. if b then 1 ∷ drop (length apex) key else (if is_lt (octet_order key apex) then 0 else 2) ∷ key) n ∙ ap (λ o. (if is_lt o then 0 else 2) ∷ key) e)

    by : (b : Bool) → begins_with key apex ≡ b → Where apex key
    by true h = within (drop (length apex) key) (begins_parts key apex h) (ap (λ b. if b then 1 ∷ drop (length apex) key else (if is_lt (octet_order key apex) then 0 else 2) ∷ key) h)
    by false h = other h (octet_order key apex) refl

-- the key of a name in a zone is longer by one octet at most
pub zone_key_long : (apex key : List ℕ) → length (zone_key apex key) ≤ 1 + length key
zone_key_long apex key = by (where_is apex key)
  where
    by : Where apex key → length (zone_key apex key) ≤ 1 + length key
    by (within rest e k) = omega (arith, ap length k, ap length e, length-append apex rest)
    by (before e k) = omega (arith, ap length k)
    by (after e n k) = omega (arith, ap length k)

-- ---- reading back

pub whole_is : (apex key : List ℕ) → whole_key apex (zone_key apex key) ≡ key
whole_is apex key = by (where_is apex key)
  where
    by : Where apex key → whole_key apex (zone_key apex key) ≡ key
    by (within rest e k) = ap (whole_key apex) k ∙ sym e
    by (before e k) = ap (whole_key apex) k
    by (after e n k) = ap (whole_key apex) k

-- ---- order

flip : (a b : List ℕ) (o : Ordering) → octet_order b a ≡ o → octet_order a b ≡ ordering_reverse o
flip a b o e = total.antisymm a b ∙ ap ordering_reverse e

within_both : (apex r s : List ℕ) → octet_order (apex ++ r) (apex ++ s) ≡ octet_order r s
within_both apex r s = slice_cmp-append nat_cmp apex apex r s refl ∙ ap (λ o. ordering_then o (octet_order r s)) (tied_itself total apex)

module _ (apex a b : List ℕ) where
  abbrev Same : Type 0
  Same = octet_order (zone_key apex a) (zone_key apex b) ≡ octet_order a b

  marks : (m n : ℕ) (r s : List ℕ) → zone_key apex a ≡ m ∷ r → zone_key apex b ≡ n ∷ s → ordering_then (nat_cmp m n) (octet_order r s) ≡ octet_order a b → Same
  marks m n r s p q h = (λ i. octet_order (p i) (q i)) ∙ h

  pub keys_in_order : Same
  keys_in_order = by (where_is apex a) (where_is apex b)
    where
      by : Where apex a → Where apex b → Same
      by (within r e k) (within s f l) = marks 1 1 r s k l (sym (within_both apex r s) ∙ (λ i. octet_order (sym e i) (sym f i)))
      by (within r e k) (before f l) = marks 1 0 r b k l (sym (flip (apex ++ r) b Less (before_more b apex r f)) ∙ ap (λ x. octet_order x b) (sym e))
      by (within r e k) (after f n l) = marks 1 2 r b k l (sym (flip (apex ++ r) b Greater (after_more b apex r f n)) ∙ ap (λ x. octet_order x b) (sym e))
      by (before e k) (within s f l) = marks 0 1 a s k l (sym (before_more a apex s e) ∙ ap (octet_order a) (sym f))
      by (before e k) (before f l) = marks 0 0 a b k l refl
      by (before e k) (after f n l) = marks 0 2 a b k l (sym (total.trans a apex b e (flip apex b Greater f)))
      by (after e n k) (within s f l) = marks 2 1 a s k l (sym (after_more a apex s e n) ∙ ap (octet_order a) (sym f))
      by (after e n k) (before f l) = marks 2 0 a b k l (sym (flip a b Less (total.trans b apex a f (flip apex a Greater e))))
      by (after e n k) (after f m l) = marks 2 2 a b k l refl
