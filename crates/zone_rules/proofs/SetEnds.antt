-- RRsets of an owner among records in canonical order: a relation that their first and last record lack, all lack.
use Rattle.std.proofs.Common.{ℕ, zero, suc, ◌≡◌, ◌+◌, ◌-◌, ◌<◌, ◌≤◌, Bool, true, false, List, [], ◌∷◌, Some, length, take, get_or, refl, sym, ap, subst, ◌∙◌, arith}
use Rattle.std.specs.Prelude.{◌==◌, ◌&&◌, ◌||◌, not, nat_eq, slice_get}
use Rattle.std.specs.Cmp.{Equal-is}
use Rattle.std.specs.Cmp.Lexicographic.{pointwise}
use Rattle.std.specs.List.{AllWithin, list_any}
use Rattle.std.specs.Option.{option_map_or}
use Rattle.std.specs.Ordering.{is_le, ordering_then}
use Rattle.std.specs.declared.cmp.Ordering.{Ordering}
use Rattle.std.specs.declared.cmp.Ordering.TheVariants.{Less, Equal, Greater}
use Rattle.std.proofs.lemmas.Bool.{and_from, eqb-true, false≢true}
use Rattle.std.proofs.lemmas.Cmp.{alike_right, tied_back, tied_itself}
use Rattle.std.proofs.lemmas.Option.{slice_get-get_or}
use Rattle.dns_wire.specs.Order.{same_name}
use Rattle.rdata.specs.Types.{type_shapes}
use Rattle.rdata_values.specs.Rtype as Rtype
use Rattle.zone_record.specs.CanonicalData.{canonical_data, record_key}
use Rattle.zone_record.specs.CanonicalRecords.{record_order}
use Rattle.zone_record.specs.Names.{name_order, octet_order}
use Rattle.zone_record.specs.Parts.{data_part}
use Rattle.zone_record.specs.Records.{data_of}
use Rattle.zone_record.specs.declared.record.Record.{Record}
use Rattle.zone_record.proofs.Orders.{names_total, records_total}
use Rattle.zone_rules.specs.Rules.{is_alias_beside, is_alias_mode, is_beside_aliases, is_other_of_type, is_service_beside, is_service_type, has_serial_of}
use Rattle.zone_rules.specs.Sets.{is_like, IsDecidedAtEnds, IsOwnSet}
use Rattle.zone_rules.specs.Subjects.{relates, relates_at}
use Rattle.zone_rules.specs.Zones.{field_octets, is_equal_record, type_of, AreInOrder}
use Rattle.zone_rules.specs.declared.beside.Relation.{Relation}
use Rattle.zone_rules.specs.declared.beside.Relation.TheVariants.{Alias, SameType, OtherSerial, Service}
use Rattle.zone_rules.proofs.OwnDigests.{at_most, both, first_between, like_between, tie_between, tie_of, IsLikeBetween}

-- ---- equal records

then_equal : (o : Ordering) → ordering_then o Equal ≡ o
then_equal Less = refl
then_equal Equal = refl
then_equal Greater = refl

module _ {N O M P : Type 0} (one : Record M P) where
  tied : (r : Record N O) → is_equal_record one r ≡ true → record_order (record_key one) (record_key r) ≡ Equal
  tied r h = (Equal-is (record_order (record_key one) (record_key r))).0 h

  equal_between : (a m b : Record N O) → is_equal_record one a ≡ true → is_equal_record one b ≡ true → is_le (record_order (record_key a) (record_key m)) ≡ true → is_le (record_order (record_key m) (record_key b)) ≡ true
      → is_equal_record one m ≡ true
  equal_between a m b p q h k =
      let o = record_key one in
      let ends : record_order (record_key a) (record_key b) ≡ Equal =
      tied_back records_total (record_key b) (record_key a) (sym (alike_right records_total o (record_key a) (record_key b) (tied a p)) ∙ tied_back records_total o (record_key b) (tied b q)) in
      let t =
      tie_between records_total (record_key a) (record_key m) (record_key b) Equal Equal ends (ap is_le (then_equal (record_order (record_key a) (record_key m))) ∙ h)
      (ap is_le (then_equal (record_order (record_key m) (record_key b))) ∙ k) in
      (Equal-is (record_order o (record_key m))).1 (sym (alike_right records_total (record_key a) (record_key m) o t.0) ∙ tied a p)

-- ---- services in AliasMode

service_octets : (t : ℕ) → is_service_type t ≡ true → (octets : List ℕ) → canonical_data t octets ≡ octets
service_octets t h octets = by (t == Rtype.svcb) refl
  where
    by : (b : Bool) → (t == Rtype.svcb) ≡ b → canonical_data t octets ≡ octets
    by true e = ap (λ n. canonical_data n octets) (eqb-true t Rtype.svcb e)
    by false e = ap (λ n. canonical_data n octets) (eqb-true t Rtype.https (sym (ap (λ b. b || (t == Rtype.https)) e) ∙ h))

abbrev priority : ℕ → List ℕ → List ℕ
priority t octets = option_map_or (λ part. part) (data_part (record { rtype = t; octets = octets }) 0) []

service_priority : (t : ℕ) → is_service_type t ≡ true → (octets : List ℕ) → priority t octets ≡ take 2 octets
unfolding type_shapes
service_priority t h octets = by (t == Rtype.svcb) refl
  where
    by : (b : Bool) → (t == Rtype.svcb) ≡ b → priority t octets ≡ take 2 octets
    by true e = ap (λ n. priority n octets) (eqb-true t Rtype.svcb e)
    by false e = ap (λ n. priority n octets) (eqb-true t Rtype.https (sym (ap (λ b. b || (t == Rtype.https)) e) ∙ h))

abbrev Zeroed : List ℕ → Type 0
Zeroed octets = (rest : List ℕ) × (octets ≡ 0 ∷ 0 ∷ rest)

zeroed : (octets : List ℕ) → pointwise nat_eq (take 2 octets) (0 ∷ 0 ∷ []) ≡ true → Zeroed octets
zeroed [] h = absurd (false≢true h)
zeroed (x ∷ []) h = absurd (false≢true (both (nat_eq x 0) _ h).1)
zeroed (x ∷ y ∷ rest) h =
    let t = both (nat_eq x 0) _ h in
    let u = both (nat_eq y 0) _ t.1 in (rest, λ i. eqb-true x 0 t.0 i ∷ eqb-true y 0 u.0 i ∷ rest)

-- an alias: a service whose octets begin with zeros
alias_from : {N O : Type 0} (r : Record N O) → is_alias_mode r ≡ true → (is_service_type (type_of r) ≡ true) × Zeroed (data_of r).octets
alias_from r h =
    let t = both (is_service_type (type_of r)) _ h in
    (t.0, zeroed (data_of r).octets (sym (ap (λ l. pointwise nat_eq l (0 ∷ 0 ∷ [])) (service_priority (type_of r) t.0 (data_of r).octets)) ∙ t.1))

alias_test : {N O : Type 0} (r : Record N O) → is_service_type (type_of r) ≡ true → Zeroed (data_of r).octets → is_alias_mode r ≡ true
alias_test r h z =
    and_from (is_service_type (type_of r)) _ h
    (ap (λ l. pointwise nat_eq l (0 ∷ 0 ∷ [])) (service_priority (type_of r) h (data_of r).octets ∙ ap (take 2) z.1))

alias_between : {N O M P : Type 0} (a b : Record M P) (m : Record N O) → is_alias_mode a ≡ true → is_alias_mode b ≡ true → type_of m ≡ type_of a
    → is_le (octet_order (record_key a).octets (record_key m).octets) ≡ true → is_le (octet_order (record_key m).octets (record_key b).octets) ≡ true → is_alias_mode m ≡ true
alias_between a b m p q rtype h k =
    let x = alias_from a p in
    let y = alias_from b q in
    let s : is_service_type (type_of m) ≡ true = ap is_service_type rtype ∙ x.0 in
    let left = service_octets (type_of a) x.0 (data_of a).octets ∙ x.1.1 in
    let middle = service_octets (type_of m) s (data_of m).octets in
    let right = service_octets (type_of b) y.0 (data_of b).octets ∙ y.1.1 in
    let f = first_between 0 (0 ∷ x.1.0) (data_of m).octets (0 ∷ y.1.0) (sym (λ i. is_le (octet_order (left i) (middle i))) ∙ h) (sym (λ i. is_le (octet_order (middle i) (right i))) ∙ k) in
    let g = first_between 0 x.1.0 f.0 y.1.0 f.2 f.3 in
    alias_test m s (g.0, f.1 ∙ ap (λ l. 0 ∷ l) g.1)

-- a record that is equal to an alias is one
equal_alias : {N O M P : Type 0} (one : Record M P) (r : Record N O) → is_alias_mode one ≡ true → is_equal_record one r ≡ true → is_alias_mode r ≡ true
equal_alias one r p h =
    let o = tied one r h in
    let back = tied_back records_total (record_key one) (record_key r) o in
    let l = like_between one r one (ap is_le o) (ap is_le back) (tied_itself names_total one.owner) refl refl in
    alias_between one one r p p l.2 l.3 l.4

-- ---- what two records lack, a record between them lacks

and_false : (b : Bool) → (b && false) ≡ false
and_false true = refl
and_false false = refl

module _ {N O M P : Type 0} (one : Record M P) where
  -- another record of the owner lacks the relation of an alias only if it is equal
  alias_lacks : (r : Record N O) → same_name r.owner one.owner ≡ true → is_beside_aliases (type_of r) ≡ false → relates Alias one r ≡ false → is_equal_record one r ≡ true
  alias_lacks r s e h = by (is_equal_record one r) refl
    where
      by : (b : Bool) → is_equal_record one r ≡ b → is_equal_record one r ≡ true
      by true f = f
      by false f = absurd (false≢true (sym h ∙ (λ i. s i && (not (e i) && not (f i)))))

  other_lacks : (r : Record N O) → same_name r.owner one.owner ≡ true → (type_of r == type_of one) ≡ true → relates SameType one r ≡ false → is_equal_record one r ≡ true
  other_lacks r s e h = by (is_equal_record one r) refl
    where
      by : (b : Bool) → is_equal_record one r ≡ b → is_equal_record one r ≡ true
      by true f = f
      by false f = absurd (false≢true (sym h ∙ (λ i. s i && (e i && not (f i)))))

  service_lacks : (r : Record N O) → is_alias_mode one ≡ true → same_name r.owner one.owner ≡ true → (type_of r == type_of one) ≡ true → relates Service one r ≡ false → is_alias_mode r ≡ true
  service_lacks r p s e h = by (is_alias_mode r) (is_equal_record one r) refl refl
    where
      by : (b c : Bool) → is_alias_mode r ≡ b → is_equal_record one r ≡ c → is_alias_mode r ≡ true
      by true c f g = f
      by false true f g = equal_alias one r p g
      by false false f g = absurd (false≢true (sym h ∙ (λ i. (s i && (e i && not (g i))) && not (f i))))

  module _ (a m b : Record N O) (sa : same_name a.owner one.owner ≡ true) (sb : same_name b.owner one.owner ≡ true) (h : is_le (record_order (record_key a) (record_key m)) ≡ true)
      (k : is_le (record_order (record_key m) (record_key b)) ≡ true) (owner : name_order a.owner b.owner ≡ Equal) (class : a.class ≡ b.class) (rtype : type_of a ≡ type_of b) where
    like : IsLikeBetween a m b
    like = like_between a m b h k owner class rtype

    pub type_between : type_of m ≡ type_of a
    type_between = like.2

    alias_between_lacks : relates Alias one a ≡ false → relates Alias one b ≡ false → relates Alias one m ≡ false
    alias_between_lacks p q = by (is_beside_aliases (type_of m)) refl
      where
        by : (c : Bool) → is_beside_aliases (type_of m) ≡ c → relates Alias one m ≡ false
        by true e = ap (λ c. same_name m.owner one.owner && (not c && not (is_equal_record one m))) e ∙ and_false (same_name m.owner one.owner)
        by false e =
            let ea = sym (ap is_beside_aliases like.2) ∙ e in
            let eb = sym (ap is_beside_aliases rtype) ∙ ea in
            let equal = equal_between one a m b (alias_lacks a sa ea p) (alias_lacks b sb eb q) h k in
            (λ i. same_name m.owner one.owner && (not (e i) && not (equal i))) ∙ and_false (same_name m.owner one.owner)

    same_type_lacks : relates SameType one a ≡ false → relates SameType one b ≡ false → relates SameType one m ≡ false
    same_type_lacks p q = by (type_of m == type_of one) refl
      where
        by : (c : Bool) → (type_of m == type_of one) ≡ c → relates SameType one m ≡ false
        by false e = ap (λ c. same_name m.owner one.owner && (c && not (is_equal_record one m))) e ∙ and_false (same_name m.owner one.owner)
        by true e =
            let ea = sym (ap (λ t. t == type_of one) like.2) ∙ e in
            let eb = sym (ap (λ t. t == type_of one) rtype) ∙ ea in
            let equal = equal_between one a m b (other_lacks a sa ea p) (other_lacks b sb eb q) h k in
            (λ i. same_name m.owner one.owner && (e i && not (equal i))) ∙ and_false (same_name m.owner one.owner)

    service_between_lacks : is_alias_mode one ≡ true → relates Service one a ≡ false → relates Service one b ≡ false → relates Service one m ≡ false
    service_between_lacks is p q = by (type_of m == type_of one) refl
      where
        by : (c : Bool) → (type_of m == type_of one) ≡ c → relates Service one m ≡ false
        by false e = ap (λ c. (same_name m.owner one.owner && (c && not (is_equal_record one m))) && not (is_alias_mode m)) e ∙ ap (λ c. c && not (is_alias_mode m)) (and_false (same_name m.owner one.owner))
        by true e =
            let ea = sym (ap (λ t. t == type_of one) like.2) ∙ e in
            let eb = sym (ap (λ t. t == type_of one) rtype) ∙ ea in
            let alias = alias_between a b m (service_lacks a is sa ea p) (service_lacks b is sb eb q) like.2 like.3 like.4 in
            ap (λ c. is_other_of_type one m && not c) alias ∙ and_false (is_other_of_type one m)

    pub lacks_between : (relation : Relation) → IsDecidedAtEnds relation one → relates relation one a ≡ false → relates relation one b ≡ false → relates relation one m ≡ false
    lacks_between Alias d p q = alias_between_lacks p q
    lacks_between SameType d p q = same_type_lacks p q
    lacks_between Service d p q = service_between_lacks d p q
    lacks_between _ d p q = absurd d

-- ---- the records of an RRset

module _ {N O M P : Type 0} (one : Record M P) (records : List (Record N O)) (order : AreInOrder records) (from next : ℕ) (set : IsOwnSet one records from next) where
  module _ (d : Record N O) where
    abbrev at : ℕ → Record N O
    at i = get_or records i d

    from_lt : from < length records
    from_lt = omega (arith, set.low, set.high)

    last_lt : next - 1 < length records
    last_lt = omega (arith, set.low, set.high)

    alike : is_like (at from) (at (next - 1)) ≡ true
    alike = sym (ap (λ o. option_map_or (is_like (at from)) o false) (slice_get-get_or records (next - 1) d last_lt)) ∙ set.alike (at from) (slice_get-get_or records from d from_lt)

    same_class : (at from).class ≡ (at (next - 1)).class
    same_class = sym (eqb-true (at (next - 1)).class (at from).class (both ((at (next - 1)).class == (at from).class) _ alike).0)

    same_type : type_of (at from) ≡ type_of (at (next - 1))
    same_type = sym (eqb-true (type_of (at (next - 1))) (type_of (at from)) (both ((at (next - 1)).class == (at from).class) _ alike).1)

    first_own : same_name (at from).owner one.owner ≡ true
    first_own = set.owned from d (omega arith) set.low

    last_own : same_name (at (next - 1)).owner one.owner ≡ true
    last_own = set.owned (next - 1) d (omega (arith, set.low)) (omega (arith, set.low))

    one_owner : name_order (at from).owner (at (next - 1)).owner ≡ Equal
    one_owner = alike_right names_total (at (next - 1)).owner one.owner (at from).owner (tie_of (at (next - 1)).owner one.owner last_own) ∙ tie_of (at from).owner one.owner first_own

    related_is : (relation : Relation) (i : ℕ) → i < length records → relates_at relation one records i ≡ false → relates relation one (at i) ≡ false
    related_is relation i lt h = ap (λ o. option_map_or (relates relation one) o false) (sym (slice_get-get_or records i d lt)) ∙ h

    low_order : (i : ℕ) → from ≤ i → i < next → is_le (record_order (record_key (at from)) (record_key (at i))) ≡ true
    low_order i low less = at_most records order from i d low (omega (arith, less, set.high))

    high_order : (i : ℕ) → from ≤ i → i < next → is_le (record_order (record_key (at i)) (record_key (at (next - 1)))) ≡ true
    high_order i low less = at_most records order i (next - 1) d (omega (arith, less)) last_lt

    type_here : (i : ℕ) → from ≤ i → i < next → type_of (at i) ≡ type_of (at from)
    type_here i low less = type_between one (at from) (at i) (at (next - 1)) first_own last_own (low_order i low less) (high_order i low less) one_owner same_class same_type

    lacks_here : (relation : Relation) → IsDecidedAtEnds relation one → relates_at relation one records from ≡ false → relates_at relation one records (next - 1) ≡ false → (i : ℕ) → from ≤ i → i < next
        → relates relation one (at i) ≡ false
    lacks_here relation decided p q i low less =
        lacks_between one (at from) (at i) (at (next - 1)) first_own last_own (low_order i low less) (high_order i low less) one_owner same_class same_type relation decided (related_is relation from from_lt p)
        (related_is relation (next - 1) last_lt q)

  -- all lack a relation that the first and the last lack
  pub set_lacks : (relation : Relation) → IsDecidedAtEnds relation one → relates_at relation one records from ≡ false → relates_at relation one records (next - 1) ≡ false
      → AllWithin (λ r. relates relation one r ≡ false) records from next
  set_lacks relation decided p q i d low less = lacks_here d relation decided p q i low less

  -- none is an SOA if the first is not
  pub no_soa : option_map_or (λ r. type_of r == Rtype.soa) (slice_get records from) false ≡ false → AllWithin (λ r. relates OtherSerial one r ≡ false) records from next
  no_soa h i d low less =
      let first : (type_of (get_or records from d) == Rtype.soa) ≡ false = ap (λ o. option_map_or (λ r. type_of r == Rtype.soa) o false) (sym (slice_get-get_or records from d (from_lt d))) ∙ h in
      let here = ap (λ n. n == Rtype.soa) (type_here d i low less) ∙ first in
      ap (λ c. same_name (get_or records i d).owner one.owner && (c && not (has_serial_of one (get_or records i d)))) here ∙ and_false (same_name (get_or records i d).owner one.owner)

-- ---- several aliases

any_split : {X : Type 0} (p q : X → Bool) (xs : List X) → list_any (λ x. p x && not (q x)) xs ≡ false → list_any p xs ≡ list_any (λ x. p x && q x) xs
any_split p q [] h = refl
any_split p q (x ∷ xs) h = by (p x) (q x) refl refl (any_split p q xs)
  where
    by : (b c : Bool) → p x ≡ b → q x ≡ c → (list_any (λ x. p x && not (q x)) xs ≡ false → list_any p xs ≡ list_any (λ x. p x && q x) xs) → list_any p (x ∷ xs) ≡ list_any (λ x. p x && q x) (x ∷ xs)
    by true true e f more = (λ i. e i || list_any p xs) ∙ sym (λ i. (e i && f i) || list_any (λ x. p x && q x) xs)
    by true false e f more = absurd (false≢true (sym h ∙ (λ i. (e i && not (f i)) || list_any (λ x. p x && not (q x)) xs)))
    by false c e f more = (λ i. e i || list_any p xs) ∙ more (sym (λ i. (e i && not (q x)) || list_any (λ x. p x && not (q x)) xs) ∙ h) ∙ sym (λ i. (e i && q x) || list_any (λ x. p x && q x) xs)

-- of a service beside none in ServiceMode, another one is an alias
pub aliases_beside : {N O M P : Type 0} (records : List (Record N O)) (r : Record M P) → list_any (is_service_beside r) records ≡ false → list_any (is_other_of_type r) records ≡ list_any (is_alias_beside r) records
aliases_beside records r h = any_split (is_other_of_type r) is_alias_mode records h
