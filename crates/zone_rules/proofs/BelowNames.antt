-- The names within a name, by their labels from the root on: in canonical order they follow it.
use Rattle.std.proofs.Common.{ℕ, ◌≡◌, ◌<◌, Bool, true, false, List, [], ◌∷◌, ◌++◌, length, map, refl, sym, ap, subst, ◌∙◌, arith}
use Rattle.std.specs.Prelude.{nat_eq, reverse, ◌&&◌, ◌||◌}
use Rattle.std.specs.Cmp.Lexicographic.{bytes_decides, pointwise, pointwise_decides, slice_cmp, lists_ties, texts_ties}
use Rattle.std.specs.Ordering.{is_eq, is_lt, is_le, ordering_then}
use Rattle.std.specs.declared.cmp.Ordering.{Ordering}
use Rattle.std.specs.declared.cmp.Ordering.TheVariants.{Less, Equal, Greater}
use Rattle.std.proofs.lemmas.List.{map-append, reverse-append, length-map, length-reverse}
use Rattle.dns_octets.specs.Lowered.{lowered}
use Rattle.dns_wire.specs.Order.{same_name}
use Rattle.zone_record.specs.Names.{octet_order, labels_from_root, name_order}
use Rattle.std.proofs.lemmas.Cmp.{tied_itself}
use Rattle.zone_record.proofs.Orders.{octets_equal, octets_total}
use Rattle.zone_rules.specs.Above.{is_within}
use Rattle.zone_rules.proofs.Lookups.{same_is}

abbrev alike : List ℕ → List ℕ → Bool
alike = pointwise nat_eq

abbrev all_alike : List (List ℕ) → List (List ℕ) → Bool
all_alike = pointwise alike

-- labels begin with others
abbrev begins : List (List ℕ) → List (List ℕ) → Bool
begins [] ys = true
begins (x ∷ xs) [] = false
begins (x ∷ xs) (y ∷ ys) = alike y x && begins xs ys

-- ---- a name is within another if the other's labels come first, from the root on

or_true : (b : Bool) → true ≡ (b || true)
or_true true = refl
or_true false = refl

one_more : (b : Bool) (xs : List (List ℕ)) → (b && begins xs []) ≡ ((b && all_alike [] xs) || false)
one_more true [] = refl
one_more false [] = refl
one_more true (x ∷ xs) = refl
one_more false (x ∷ xs) = refl

both_parts : (b u v w : Bool) → w ≡ (u || v) → (b && w) ≡ ((b && u) || (b && v))
both_parts true u v w e = e
both_parts false u v w e = refl

begins_end : (p q : List (List ℕ)) (l : List ℕ) → begins p (q ++ l ∷ []) ≡ (all_alike (q ++ l ∷ []) p || begins p q)
begins_end [] q l = or_true (all_alike (q ++ l ∷ []) [])
begins_end (x ∷ xs) [] l = one_more (alike l x) xs
begins_end (x ∷ xs) (y ∷ ys) l = both_parts (alike y x) _ _ _ (begins_end xs ys l)

begins_none : (p : List (List ℕ)) → 0 < length p → begins p [] ≡ false
begins_none [] h = absurd (omega (arith, h))
begins_none (x ∷ xs) h = refl

same_alike : (a b : List (List ℕ)) → same_name a b ≡ all_alike (labels_from_root a) (labels_from_root b)
same_alike a b = same_is a b ∙ sym (lists_ties octet_order texts_ties (labels_from_root a) (labels_from_root b))

one_label_more : (label : List ℕ) (labels : List (List ℕ)) → labels_from_root (label ∷ labels) ≡ labels_from_root labels ++ lowered label ∷ []
one_label_more label labels = reverse-append (lowered label ∷ []) (map lowered labels)

some_labels : (top : List (List ℕ)) → 0 < length top → 0 < length (labels_from_root top)
some_labels top h = omega (arith, h, length-reverse (map lowered top), length-map top lowered)

within_step : (label : List ℕ) (labels top : List (List ℕ)) (w : Bool) → w ≡ begins (labels_from_root top) (labels_from_root labels)
    → (same_name (label ∷ labels) top || w) ≡ begins (labels_from_root top) (labels_from_root (label ∷ labels))
within_step label labels top w e =
    let p = labels_from_root top in
    let more = one_label_more label labels in
    (λ i. same_alike (label ∷ labels) top i || e i)
    ∙ ap (λ q. all_alike q p || begins p (labels_from_root labels)) more
    ∙ sym (begins_end p (labels_from_root labels) (lowered label))
    ∙ ap (begins p) (sym more)

within_is : (name top : List (List ℕ)) → 0 < length top → is_within name top ≡ begins (labels_from_root top) (labels_from_root name)
within_is [] top h = (by top h) ∙ sym (begins_none (labels_from_root top) (some_labels top h))
  where
    by : (top : List (List ℕ)) → 0 < length top → is_within [] top ≡ false
    by [] h = absurd (omega (arith, h))
    by (t ∷ ts) h = refl
within_is (label ∷ []) top h = within_step label [] top false (sym (begins_none (labels_from_root top) (some_labels top h)))
within_is (label ∷ next ∷ others) top h = within_step label (next ∷ others) top (is_within (next ∷ others) top) (within_is (next ∷ others) top h)

-- ---- in order

and_first : (b c : Bool) → (b && c) ≡ true → b ≡ true
and_first true c h = refl
and_first false c h = h

and_second : (b c : Bool) → (b && c) ≡ true → c ≡ true
and_second true c h = h
and_second false c h = absurd cc

alike_same : (a b : List ℕ) → alike a b ≡ true → a ≡ b
alike_same a b h = octets_equal a b (by (octet_order a b) (sym (texts_ties a b) ∙ h))
  where
    by : (o : Ordering) → is_eq o ≡ true → o ≡ Equal
    by Less e = cc
    by Equal e = refl
    by Greater e = cc

-- labels that begin with others do not come before them
begins_after : (p a : List (List ℕ)) → begins p a ≡ true → is_lt (slice_cmp octet_order a p) ≡ false
begins_after [] [] h = refl
begins_after [] (y ∷ ys) h = refl
begins_after (x ∷ xs) [] h = cc
begins_after (x ∷ xs) (y ∷ ys) h =
    by (octet_order y x) (sym (texts_ties y x) ∙ and_first (alike y x) (begins xs ys) h) (begins_after xs ys (and_second (alike y x) (begins xs ys) h))
  where
    by : (o : Ordering) → is_eq o ≡ true → is_lt (slice_cmp octet_order ys xs) ≡ false → is_lt (ordering_then o (slice_cmp octet_order ys xs)) ≡ false
    by Less e k = cc
    by Equal e k = k
    by Greater e k = cc

-- labels that come between some labels and others that begin with these begin with them too
begins_between : (p a b : List (List ℕ)) → is_lt (slice_cmp octet_order a p) ≡ false → is_le (slice_cmp octet_order a b) ≡ true → begins p b ≡ true → begins p a ≡ true
begins_between [] a b h k t = refl
begins_between (x ∷ xs) a [] h k t = cc
begins_between (x ∷ xs) [] (z ∷ zs) h k t = cc
begins_between (x ∷ xs) (y ∷ ys) (z ∷ zs) h k t =
    let same : z ≡ x = alike_same z x (and_first (alike z x) (begins xs zs) t) in
    by (octet_order y x) refl h (subst (λ l. is_le (ordering_then (octet_order y l) (slice_cmp octet_order ys zs)) ≡ true) same k) (λ u v. begins_between xs ys zs u v (and_second (alike z x) (begins xs zs) t))
  where
    by : (o : Ordering) → octet_order y x ≡ o → is_lt (ordering_then o (slice_cmp octet_order ys xs)) ≡ false → is_le (ordering_then o (slice_cmp octet_order ys zs)) ≡ true
        → (is_lt (slice_cmp octet_order ys xs) ≡ false → is_le (slice_cmp octet_order ys zs) ≡ true → begins xs ys ≡ true) → (alike y x && begins xs ys) ≡ true
    by Less e u v more = cc
    by Equal e u v more =
        (λ i. (texts_ties y x ∙ ap is_eq e) i && begins xs ys) ∙ more u v
    by Greater e u v more = cc

pub within_not_before : (name top : List (List ℕ)) → 0 < length top → is_lt (name_order name top) ≡ true → is_within name top ≡ false
within_not_before name top some h = within_is name top some ∙ by (begins (labels_from_root top) (labels_from_root name)) refl
  where
    by : (b : Bool) → begins (labels_from_root top) (labels_from_root name) ≡ b → b ≡ false
    by true e = let not_less = begins_after (labels_from_root top) (labels_from_root name) e in cc
    by false e = refl

pub within_between : (name other top : List (List ℕ)) → 0 < length top → is_lt (name_order name top) ≡ false → is_le (name_order name other) ≡ true → is_within other top ≡ true → is_within name top ≡ true
within_between name other top some h k t =
    within_is name top some ∙ begins_between (labels_from_root top) (labels_from_root name) (labels_from_root other) h k (sym (within_is other top some) ∙ t)

-- labels that do not come before some that begin with others do not come before the others either
begins_with_front : (p a b : List (List ℕ)) → is_lt (slice_cmp octet_order a b) ≡ false → begins p b ≡ true → is_lt (slice_cmp octet_order a p) ≡ false
begins_with_front [] [] b h t = refl
begins_with_front [] (y ∷ ys) b h t = refl
begins_with_front (x ∷ xs) a [] h t = cc
begins_with_front (x ∷ xs) [] (z ∷ zs) h t = cc
begins_with_front (x ∷ xs) (y ∷ ys) (z ∷ zs) h t =
    let same : z ≡ x = alike_same z x (and_first (alike z x) (begins xs zs) t) in
    by (octet_order y x) (subst (λ l. is_lt (ordering_then (octet_order y l) (slice_cmp octet_order ys zs)) ≡ false) same h) (λ u. begins_with_front xs ys zs u (and_second (alike z x) (begins xs zs) t))
  where
    by : (o : Ordering) → is_lt (ordering_then o (slice_cmp octet_order ys zs)) ≡ false → (is_lt (slice_cmp octet_order ys zs) ≡ false → is_lt (slice_cmp octet_order ys xs) ≡ false)
        → is_lt (ordering_then o (slice_cmp octet_order ys xs)) ≡ false
    by Less u more = cc
    by Equal u more = more u
    by Greater u more = refl

pub begins_with_not_before : (name other top : List (List ℕ)) → 0 < length top → is_within name top ≡ true → is_lt (name_order other name) ≡ false → is_lt (name_order other top) ≡ false
begins_with_not_before name other top some t h =
    begins_with_front (labels_from_root top) (labels_from_root other) (labels_from_root name) h (sym (within_is name top some) ∙ t)

-- ---- a name comes before those with more labels

itself_tied : (x : List ℕ) → octet_order x x ≡ Equal
itself_tied x = tied_itself octets_total x

front_before : (p q : List (List ℕ)) → 0 < length q → is_lt (slice_cmp octet_order p (p ++ q)) ≡ true
front_before [] [] h = absurd (omega (arith, h))
front_before [] (y ∷ ys) h = refl
front_before (x ∷ xs) q h = ap (λ o. is_lt (ordering_then o (slice_cmp octet_order xs (xs ++ q)))) (itself_tied x) ∙ front_before xs q h

pub before_longer : (front end : List (List ℕ)) → 0 < length front → is_lt (name_order end (front ++ end)) ≡ true
before_longer front end h =
    ap (λ l. is_lt (slice_cmp octet_order (labels_from_root end) l)) (ap reverse (map-append lowered front end) ∙ reverse-append (map lowered front) (map lowered end))
    ∙ front_before (labels_from_root end) (reverse (map lowered front)) (omega (arith, h, length-reverse (map lowered front), length-map front lowered))

-- two equal names have the same order to a third
pub same_is_tied : (a b name : List (List ℕ)) → same_name a b ≡ true → name_order a name ≡ name_order b name
same_is_tied a b name h = ap (λ l. slice_cmp octet_order l (labels_from_root name)) (ap reverse ((pointwise_decides bytes_decides (map lowered a) (map lowered b)).0 h))
