-- DS of one owner, class and key are next to each other among records in canonical order.
use Rattle.std.proofs.Common.{ℕ, ◌≡◌, ◌+◌, ◌-◌, ◌<◌, ◌≤◌, inl, inr, Bool, true, false, Option, Some, None, List, [], ◌∷◌, length, get_or, refl, sym, ap, subst, ◌∙◌, arith}
use Rattle.std.specs.Prelude.{◌==◌, ◌&&◌, not, slice_get}
use Rattle.std.specs.Cmp.{IsTotalOrder, Equal-is}
use Rattle.std.specs.List.{AllWithin, list_any}
use Rattle.std.specs.List.Sorted.{IsNonDecreasingBy}
use Rattle.std.specs.Option.{option_map, option_map_or}
use Rattle.std.specs.Ordering.{is_le, nat_cmp, ordering_index, ordering_reverse, ordering_then}
use Rattle.std.specs.declared.cmp.Ordering.{Ordering}
use Rattle.std.specs.declared.cmp.Ordering.TheVariants.{Less, Equal, Greater}
use Rattle.std.proofs.lemmas.Bool.{and_from, cases_lt, eq-eqb, eqb-true, false≢true}
use Rattle.std.proofs.lemmas.Cmp.{alike_right, nat_cmp_total, ranked, tied_back, tied_itself}
use Rattle.std.proofs.lemmas.List.Sorted.{searchable_from_sorted, IsPartitionedBy-leb}
use Rattle.std.proofs.lemmas.Option.{slice_get-get_or}
use Rattle.dns_wire.specs.Order.{same_name}
use Rattle.rdata_values.specs.Rtype as Rtype
use Rattle.zone_record.specs.CanonicalData.{canonical_data, record_key}
use Rattle.zone_record.specs.CanonicalRecords.{record_order}
use Rattle.zone_record.specs.Names.{name_order, octet_order}
use Rattle.zone_record.specs.Records.{data_of}
use Rattle.zone_record.specs.declared.record.Record.{Record}
use Rattle.zone_record.proofs.Orders.{names_total, records_total}
use Rattle.zone_rules.specs.Rules.{are_of_one_key, is_digest_beside, is_ds_beside, is_of_sha1}
use Rattle.zone_rules.specs.Searches.{AreOwnedFrom}
use Rattle.zone_rules.specs.Subjects.{relates, relates_at, BeginsSha1, EndsSha1, IsRecordAt}
use Rattle.zone_rules.specs.Zones.{as_listed, type_of, AreInOrder}
use Rattle.zone_rules.specs.declared.beside.Relation.{Relation}
use Rattle.zone_rules.specs.declared.beside.Relation.TheVariants.{Digest, Sha1}
use Rattle.zone_rules.proofs.Lookups.{same_is}
use Rattle.zone_rules.proofs.OwnRecords.{listed_within}
use Rattle.zone_rules.proofs.Searches.{back_not, le_index}
use Rattle.zone_rules.proofs.Subjects.{none_related, some_same}

-- ---- between two that tie

-- what is between two values that tie, ties with them
abbrev Ties : {X : Type 0} → (X → X → Ordering) → (a m b : X) → (p q : Ordering) → Type 0
Ties R a m b p q = (R a m ≡ Equal) × (R m b ≡ Equal) × (is_le p ≡ true) × (is_le q ≡ true)

tie_by : {X : Type 0} (R : X → X → Ordering) (a m b : X) (p q o r : Ordering) → R a m ≡ o → R m b ≡ r → r ≡ ordering_reverse o → is_le (ordering_then o p) ≡ true → is_le (ordering_then r q) ≡ true → Ties R a m b p q
tie_by R a m b p q Less r e f g h k = absurd (false≢true (sym (ap (λ c. is_le (ordering_then c q)) g) ∙ k))
tie_by R a m b p q Equal r e f g h k = (e, f ∙ g, h, ap (λ c. is_le (ordering_then c q)) (sym g) ∙ k)
tie_by R a m b p q Greater r e f g h k = absurd (false≢true h)

pub tie_between : {X : Type 0} {R : X → X → Ordering} (o : IsTotalOrder R) (a m b : X) (p q : Ordering) → R a b ≡ Equal → is_le (ordering_then (R a m) p) ≡ true → is_le (ordering_then (R m b) q) ≡ true → Ties R a m b p q
tie_between {X} {R} o a m b p q tie h k =
    tie_by R a m b p q (R a m) (R m b) refl refl (sym (alike_right o a b m tie) ∙ o.antisymm m a) h k

pub number_tie : (m n : ℕ) → m ≡ n → nat_cmp m n ≡ Equal
number_tie m n e = ap (nat_cmp m) (sym e) ∙ tied_itself nat_cmp_total m

-- octets between others that begin with the same octet
abbrev BeginsWith : (x : ℕ) → (low m high : List ℕ) → Type 0
BeginsWith x low m high = (ms : List ℕ) × (m ≡ x ∷ ms) × (is_le (octet_order low ms) ≡ true) × (is_le (octet_order ms high) ≡ true)

pub first_between : (x : ℕ) (low m high : List ℕ) → is_le (octet_order (x ∷ low) m) ≡ true → is_le (octet_order m (x ∷ high)) ≡ true → BeginsWith x low m high
first_between x low [] high h k = absurd (false≢true h)
first_between x low (y ∷ ms) high h k =
    let t = tie_between nat_cmp_total x y x (octet_order low ms) (octet_order ms high) (tied_itself nat_cmp_total x) h k in
    (ms, ap (λ o. o ∷ ms) (sym (ranked x y Equal (sym t.0))), t.2, t.3)

-- ---- records in canonical order

module _ {N O : Type 0} (records : List (Record N O)) (order : AreInOrder records) where
  rise : (target : Record N O) → IsNonDecreasingBy (λ r. ordering_index (record_order (record_key r) (record_key target))) records
  rise target =
      searchable_from_sorted records_total record_key records (record_key target)
      (λ k d low lt. back_not (record_order (record_key (get_or records k d)) (record_key (get_or records (k + 1) d))) _ (records_total.antisymm (record_key (get_or records (k + 1) d)) (record_key (get_or records k d))) (order k d lt))

  pub at_most : (i j : ℕ) (d : Record N O) → i ≤ j → j < length records → is_le (record_order (record_key (get_or records i d)) (record_key (get_or records j d))) ≡ true
  at_most i j d low lt =
      let target = get_or records j d in
      sym (le_index (record_order (record_key (get_or records i d)) (record_key target)))
      ∙ IsPartitionedBy-leb (λ r. ordering_index (record_order (record_key r) (record_key target))) records 1 (rise target) i j d low lt
      (le_index (record_order (record_key target) (record_key target)) ∙ ap is_le (tied_itself records_total (record_key target)))

-- a record between others of one owner, class and type
abbrev pub IsLikeBetween : {N O M P : Type 0} → (a : Record M P) (m : Record N O) (b : Record M P) → Type 0
IsLikeBetween a m b =
    (name_order a.owner m.owner ≡ Equal) × (a.class ≡ m.class) × (type_of m ≡ type_of a) × (is_le (octet_order (record_key a).octets (record_key m).octets) ≡ true) × (is_le (octet_order (record_key m).octets (record_key b).octets) ≡ true)

pub like_between : {N O M P : Type 0} (a : Record M P) (m : Record N O) (b : Record M P) → is_le (record_order (record_key a) (record_key m)) ≡ true → is_le (record_order (record_key m) (record_key b)) ≡ true → name_order a.owner b.owner ≡ Equal → a.class ≡ b.class
    → type_of a ≡ type_of b → IsLikeBetween a m b
like_between a m b h k owner class rtype =
    let o = tie_between names_total a.owner m.owner b.owner _ _ owner h k in
    let c = tie_between nat_cmp_total a.class m.class b.class _ _ (number_tie a.class b.class class) o.2 o.3 in
    let t = tie_between nat_cmp_total (type_of a) (type_of m) (type_of b) _ _ (number_tie (type_of a) (type_of b) rtype) c.2 c.3 in
    (o.0, ranked a.class m.class Equal (sym c.0), sym (ranked (type_of a) (type_of m) Equal (sym t.0)), t.2, t.3)

-- DS between others of one owner and class
abbrev IsDsBetween : {N O : Type 0} → (a m b : Record N O) → Type 0
IsDsBetween a m b = (name_order a.owner m.owner ≡ Equal) × (a.class ≡ m.class) × (type_of m ≡ Rtype.ds) × (is_le (octet_order (data_of a).octets (data_of m).octets) ≡ true) × (is_le (octet_order (data_of m).octets (data_of b).octets) ≡ true)

canonical_ds : (rtype : ℕ) (octets : List ℕ) → rtype ≡ Rtype.ds → canonical_data rtype octets ≡ octets
canonical_ds rtype octets e = ap (λ t. canonical_data t octets) e

ds_between : {N O : Type 0} (a m b : Record N O) → is_le (record_order (record_key a) (record_key m)) ≡ true → is_le (record_order (record_key m) (record_key b)) ≡ true → name_order a.owner b.owner ≡ Equal → a.class ≡ b.class
    → type_of a ≡ Rtype.ds → type_of b ≡ Rtype.ds → IsDsBetween a m b
ds_between a m b h k owner class ds other =
    let l = like_between a m b h k owner class (ds ∙ sym other) in
    let is : type_of m ≡ Rtype.ds = l.2 ∙ ds in
    let left = canonical_ds (type_of a) (data_of a).octets ds in
    let middle = canonical_ds (type_of m) (data_of m).octets is in
    let right = canonical_ds (type_of b) (data_of b).octets other in
    (l.0, l.1, is, sym (λ i. is_le (octet_order (left i) (middle i))) ∙ l.3, sym (λ i. is_le (octet_order (middle i) (right i))) ∙ l.4)

-- ---- octets that begin with a key tag and an algorithm

pub both : (b c : Bool) → (b && c) ≡ true → (b ≡ true) × (c ≡ true)
both true c h = (refl, h)
both false c h = absurd (false≢true h)

abbrev has : ℕ → ℕ → List ℕ → Bool
has octet place octets = option_map_or (λ o. o == octet) (slice_get octets place) false

equal_itself : (n : ℕ) → (n == n) ≡ true
equal_itself n = eq-eqb n n refl

-- an octet of SHA-1 after the key
sha1_octet : (x y z : ℕ) (octets : List ℕ) → has 1 3 (x ∷ y ∷ z ∷ octets) ≡ true → (rest : List ℕ) × (octets ≡ 1 ∷ rest)
sha1_octet x y z [] h = absurd (false≢true h)
sha1_octet x y z (o ∷ rest) h = (rest, ap (λ n. n ∷ rest) (eqb-true o 1 h))

abbrev pub Splits : List ℕ → Type 0
Splits octets = (x : ℕ) × (y : ℕ) × (z : ℕ) × (rest : List ℕ) × (octets ≡ x ∷ y ∷ z ∷ rest)

pub splits : (octets : List ℕ) → has 1 3 octets ≡ true → Splits octets
splits [] h = absurd (false≢true h)
splits (x ∷ []) h = absurd (false≢true h)
splits (x ∷ y ∷ []) h = absurd (false≢true h)
splits (x ∷ y ∷ z ∷ rest) h = (x, y, z, rest, refl)

module _ (x y z : ℕ) where
  abbrev Keyed : List ℕ → Type 0
  Keyed octets = (rest : List ℕ) × (octets ≡ x ∷ y ∷ z ∷ rest)

  abbrev is_keyed : List ℕ → Bool
  is_keyed octets = has x 0 octets && (has y 1 octets && has z 2 octets)

  keyed_from : (octets : List ℕ) → is_keyed octets ≡ true → Keyed octets
  keyed_from [] h = absurd (false≢true h)
  keyed_from (a ∷ []) h = absurd (false≢true (both (a == x) _ h).1)
  keyed_from (a ∷ b ∷ []) h = absurd (false≢true (both (b == y) _ (both (a == x) _ h).1).1)
  keyed_from (a ∷ b ∷ c ∷ rest) h =
      let t = both (a == x) _ h in
      let u = both (b == y) _ t.1 in (rest, λ i. eqb-true a x t.0 i ∷ eqb-true b y u.0 i ∷ eqb-true c z u.1 i ∷ rest)

  keyed_test : (octets : List ℕ) → Keyed octets → is_keyed octets ≡ true
  keyed_test octets k = ap is_keyed k.1 ∙ and_from (x == x) _ (equal_itself x) (and_from (y == y) _ (equal_itself y) (equal_itself z))

  abbrev KeyedBetween : (a b : List ℕ) → List ℕ → Type 0
  KeyedBetween a b m = (rest : List ℕ) × (m ≡ x ∷ y ∷ z ∷ rest) × (is_le (octet_order a rest) ≡ true) × (is_le (octet_order rest b) ≡ true)

  keyed_between : (a m b : List ℕ) (p : Keyed a) (q : Keyed b) → is_le (octet_order a m) ≡ true → is_le (octet_order m b) ≡ true → KeyedBetween p.0 q.0 m
  keyed_between a m b p q h k =
      let f = first_between x (y ∷ z ∷ p.0) m (y ∷ z ∷ q.0) (subst (λ l. is_le (octet_order l m) ≡ true) p.1 h) (subst (λ l. is_le (octet_order m l) ≡ true) q.1 k) in
      let g = first_between y (z ∷ p.0) f.0 (z ∷ q.0) f.2 f.3 in
      let t = first_between z p.0 g.0 q.0 g.2 g.3 in (t.0, f.1 ∙ ap (λ l. x ∷ l) (g.1 ∙ ap (λ l. y ∷ l) t.1), t.2, t.3)

  sha1_between : (a m b : List ℕ) (p : Keyed a) (q : Keyed b) → is_le (octet_order a m) ≡ true → is_le (octet_order m b) ≡ true → has 1 3 a ≡ true → has 1 3 b ≡ true → has 1 3 m ≡ true
  sha1_between a m b p q h k s t =
      let mid = keyed_between a m b p q h k in
      let left = sha1_octet x y z p.0 (sym (ap (has 1 3) p.1) ∙ s) in
      let right = sha1_octet x y z q.0 (sym (ap (has 1 3) q.1) ∙ t) in
      let next = first_between 1 left.0 mid.0 right.0 (subst (λ l. is_le (octet_order l mid.0) ≡ true) left.1 mid.2) (subst (λ l. is_le (octet_order mid.0 l) ≡ true) right.1 mid.3) in
      ap (has 1 3) (mid.1 ∙ ap (λ l. x ∷ y ∷ z ∷ l) next.1)

-- ---- DS of one owner, class and key

pub tie_of : (a b : List (List ℕ)) → same_name a b ≡ true → name_order a b ≡ Equal
tie_of a b h = (Equal-is (name_order a b)).0 (sym (same_is a b) ∙ h)

of_tie : (a b : List (List ℕ)) → name_order a b ≡ Equal → same_name a b ≡ true
of_tie a b h = same_is a b ∙ (Equal-is (name_order a b)).1 h

module _ {M P : Type 0} (one : Record M P) (x y z : ℕ) (rest : List ℕ) (one_is : (data_of one).octets ≡ x ∷ y ∷ z ∷ rest) where
  -- a DS of the owner, the class and the key of this one
  abbrev IsOwn : {N O : Type 0} → Record N O → Type 0
  IsOwn r = (same_name r.owner one.owner ≡ true) × (r.class ≡ one.class) × (type_of r ≡ Rtype.ds) × Keyed x y z (data_of r).octets

  key_is : {N O : Type 0} (r : Record N O) → are_of_one_key one r ≡ is_keyed x y z (data_of r).octets
  key_is r = ap (λ l. option_map_or (λ o. has o 0 (data_of r).octets) (slice_get l 0) false
      && (option_map_or (λ o. has o 1 (data_of r).octets) (slice_get l 1) false && option_map_or (λ o. has o 2 (data_of r).octets) (slice_get l 2) false)) one_is

  own_from : {N O : Type 0} (r : Record N O) (b : Bool) → (is_ds_beside one r && b) ≡ true → IsOwn r × (b ≡ true)
  own_from r b h =
      let whole = both (is_ds_beside one r) b h in
      let o = both (same_name r.owner one.owner) _ whole.0 in
      let c = both (r.class == one.class) _ o.1 in
      let t = both (type_of r == Rtype.ds) _ c.1 in
      ((o.0, eqb-true r.class one.class c.0, eqb-true (type_of r) Rtype.ds t.0, keyed_from x y z (data_of r).octets (sym (key_is r) ∙ t.1)), whole.1)

  own_test : {N O : Type 0} (r : Record N O) (b : Bool) → IsOwn r → b ≡ true → (is_ds_beside one r && b) ≡ true
  own_test r b own h =
      and_from (is_ds_beside one r) b
      (and_from (same_name r.owner one.owner) _ own.0
      (and_from (r.class == one.class) _ (eq-eqb r.class one.class own.1)
      (and_from (type_of r == Rtype.ds) _ (eq-eqb (type_of r) Rtype.ds own.2) (key_is r ∙ keyed_test x y z (data_of r).octets own.3))))
      h

  of_other : {N O : Type 0} (r : Record N O) → relates Digest one r ≡ true → IsOwn r × (is_of_sha1 r ≡ false)
  of_other r h = let own = own_from r (not (is_of_sha1 r)) h in (own.0, turn (is_of_sha1 r) own.1)
    where
      turn : (b : Bool) → not b ≡ true → b ≡ false
      turn true h = absurd (false≢true h)
      turn false h = refl

  of_sha1 : {N O : Type 0} (r : Record N O) → relates Sha1 one r ≡ true → IsOwn r × (is_of_sha1 r ≡ true)
  of_sha1 r h = own_from r (is_of_sha1 r) h

  -- such a DS has SHA-1 or another digest
  neither : {N O : Type 0} (r : Record N O) → IsOwn r → relates Sha1 one r ≡ false → relates Digest one r ≡ false → ⊥
  neither r own h k = by (is_of_sha1 r) refl
    where
      by : (b : Bool) → is_of_sha1 r ≡ b → ⊥
      by true e = false≢true (sym h ∙ own_test r (is_of_sha1 r) own e)
      by false e = false≢true (sym k ∙ own_test r (not (is_of_sha1 r)) own (ap not e))

  itself : type_of one ≡ Rtype.ds → is_of_sha1 one ≡ true → relates Sha1 one one ≡ true
  itself ds h = own_test one (is_of_sha1 one) (of_tie one.owner one.owner (tied_itself names_total one.owner), refl, ds, (rest, one_is)) h

  listed : {N O : Type 0} (r : Record N O) → one ≡ as_listed r → type_of one ≡ Rtype.ds → is_of_sha1 one ≡ true → relates Sha1 one r ≡ true
  listed r e ds h = sym (ap (relates Sha1 one) e) ∙ itself ds h

  module _ {N O : Type 0} (records : List (Record N O)) (order : AreInOrder records) (d : Record N O) where
    abbrev at : ℕ → Record N O
    at i = get_or records i d

    abbrev octets_at : ℕ → List ℕ
    octets_at i = (data_of (at i)).octets

    related_at : (relation : Relation) (i : ℕ) → i < length records → relates_at relation one records i ≡ relates relation one (at i)
    related_at relation i lt = ap (λ o. option_map_or (relates relation one) o false) (slice_get-get_or records i d lt)

    ds_at : (i m j : ℕ) → i ≤ m → m ≤ j → j < length records → IsOwn (at i) → IsOwn (at j) → IsDsBetween (at i) (at m) (at j)
    ds_at i m j low high lt p q =
        ds_between (at i) (at m) (at j) (at_most records order i m d low (omega (arith, high, lt))) (at_most records order m j d high lt)
        (alike_right names_total (at j).owner one.owner (at i).owner (tie_of (at j).owner one.owner q.0) ∙ tie_of (at i).owner one.owner p.0)
        (p.1 ∙ sym q.1) p.2 q.2

    own_between : (i m j : ℕ) → i ≤ m → m ≤ j → j < length records → IsOwn (at i) → IsOwn (at j) → IsOwn (at m)
    own_between i m j low high lt p q =
        let b = ds_at i m j low high lt p q in
        let back = tied_back names_total (at i).owner one.owner (tie_of (at i).owner one.owner p.0) in
        let k = keyed_between x y z (octets_at i) (octets_at m) (octets_at j) p.3 q.3 b.3 b.4 in (
          of_tie (at m).owner one.owner (tied_back names_total one.owner (at m).owner (sym (alike_right names_total (at i).owner (at m).owner one.owner b.0) ∙ back)),
          sym b.1 ∙ p.1,
          b.2,
          (k.0, k.1),
        )

    weak_between : (i m j : ℕ) → i ≤ m → m ≤ j → j < length records → IsOwn (at i) → IsOwn (at j) → is_of_sha1 (at i) ≡ true → is_of_sha1 (at j) ≡ true → is_of_sha1 (at m) ≡ true
    weak_between i m j low high lt p q h k =
        let b = ds_at i m j low high lt p q in sha1_between x y z (octets_at i) (octets_at m) (octets_at j) p.3 q.3 b.3 b.4 h k

    module _ (first place past from next : ℕ) (bound : past ≤ length records) (begins : BeginsSha1 one records first place from) (ends : EndsSha1 one records place past next)
        (none_before : first < from → relates_at Digest one records (from - 1) ≡ false) (none_after : next < past → relates_at Digest one records next ≡ false) where
      weak_at : (i : ℕ) → i < length records → relates_at Sha1 one records i ≡ true → IsOwn (at i) × (is_of_sha1 (at i) ≡ true)
      weak_at i lt h = of_sha1 (at i) (sym (related_at Sha1 i lt) ∙ h)

      neither_at : (i : ℕ) → i < length records → IsOwn (at i) → relates_at Sha1 one records i ≡ false → relates_at Digest one records i ≡ false → ⊥
      neither_at i lt own h k = neither (at i) own (sym (related_at Sha1 i lt) ∙ h) (sym (related_at Digest i lt) ∙ k)

      from_lt : from < length records
      from_lt = omega (arith, begins.high, ends.low, ends.high, bound)

      last_lt : next - 1 < length records
      last_lt = omega (arith, ends.low, ends.high, bound)

      pub no_other : (i : ℕ) → first ≤ i → i < past → relates Digest one (at i) ≡ true → ⊥
      no_other i low less h =
          let own = of_other (at i) h in
          let begin = weak_at from from_lt begins.is in
          let last = weak_at (next - 1) last_lt ends.last in
          elim (cases_lt i from) [
            | inl under ↦
                let some : first < from = omega (arith, low, under) in
                neither_at (from - 1) (omega (arith, from_lt)) (own_between i (from - 1) from (omega (arith, under)) (omega arith) from_lt own.0 begin.0) (begins.before some) (none_before some)
            | inr above ↦ elim (cases_lt i next) [
              | inl inside ↦ false≢true (sym own.1 ∙ weak_between from i (next - 1) above (omega (arith, inside)) last_lt begin.0 last.0 begin.1 last.1)
              | inr beyond ↦
                  let some : next < past = omega (arith, beyond, less) in
                  neither_at next (omega (arith, some, bound)) (own_between (next - 1) next i (omega arith) beyond (omega (arith, less, bound)) last.0 own.0) (ends.after some) (none_after some)
            ]
          ]

-- ---- the DS of a record's RRset

module _ {N O M P : Type 0} (records : List (Record N O)) (place : ℕ) (one : Record M P) (is : IsRecordAt records place one) (ds : type_of one ≡ Rtype.ds) (weak : is_of_sha1 one ≡ true) where
  abbrev parts : Splits (data_of one).octets
  parts = splits (data_of one).octets weak

  pub sha1_here : relates_at Sha1 one records place ≡ true
  sha1_here = by (slice_get records place) refl is
    where
      by : (o : Option (Record N O)) → slice_get records place ≡ o → Some one ≡ option_map as_listed o → relates_at Sha1 one records place ≡ true
      by None e h = cc
      by (Some r) e h = ap (λ o. option_map_or (relates Sha1 one) o false) e ∙ listed one parts.0 parts.1 parts.2 parts.3 parts.4 r (some_same one (as_listed r) h) ds weak

  module _ (first past : ℕ) (owned : AreOwnedFrom one.owner records first past) where
    pub place_within : (first ≤ place) × (place < past)
    place_within = by (slice_get records place) refl is
      where
        by : (o : Option (Record N O)) → slice_get records place ≡ o → Some one ≡ option_map as_listed o → (first ≤ place) × (place < past)
        by None e h = cc
        by (Some r) e h =
            let lt = listed_within records place one is in
            let q = get_or records place r in
            let like : (is_ds_beside one q && is_of_sha1 q) ≡ true = sym (ap (λ o. option_map_or (relates Sha1 one) o false) (slice_get-get_or records place r lt)) ∙ sha1_here in
            let same : same_name q.owner one.owner ≡ true = (both (same_name q.owner one.owner) _ (both (is_ds_beside one q) (is_of_sha1 q) like).0).0 in (
              elim (cases_lt place first) [ inl under ↦ absurd (false≢true (sym (owned.before place r (omega arith) under) ∙ same)) | inr above ↦ above ],
              elim (cases_lt place past) [ inl under ↦ under | inr above ↦ absurd (false≢true (sym (owned.after place r above lt) ∙ same)) ],
            )

    pub none_beside : AreInOrder records → (from next : ℕ) → BeginsSha1 one records first place from → EndsSha1 one records place past next → (first < from → relates_at Digest one records (from - 1) ≡ false)
        → (next < past → relates_at Digest one records next ≡ false) → list_any (is_digest_beside one) records ≡ false
    none_beside order from next begins ends before after = none_related Digest one records first past owned none
      where
        none : AllWithin (λ r. relates Digest one r ≡ false) records first past
        none i d low less = by (relates Digest one (get_or records i d)) refl
          where
            by : (b : Bool) → relates Digest one (get_or records i d) ≡ b → b ≡ false
            by true e = absurd (no_other one parts.0 parts.1 parts.2 parts.3 parts.4 records order d first place past from next owned.bound begins ends before after i low less e)
            by false e = refl
