-- The orders of records and of their entries are total, and prefixes decide as keys do.
use Rattle.std.proofs.Common.{ℕ, ◌≡◌, ◌<◌, get_or, List, [], ◌∷◌, length, drop, refl, sym, ap, ◌∙◌, arith}
use Rattle.std.specs.Prelude.{All, true, false}
use Rattle.std.specs.Cmp.{IsTotalOrder}
use Rattle.std.specs.Ordering.{is_eq, nat_cmp, ordering_then, ordering_reverse}
use Rattle.std.specs.declared.cmp.Ordering.{Ordering}
use Rattle.std.specs.declared.cmp.Ordering.TheVariants.{Less, Equal, Greater}
use Rattle.std.proofs.lemmas.Bool.{false≢true}
use Rattle.std.proofs.lemmas.Bool.Decides.{nat_tests}
use Rattle.std.proofs.lemmas.Cmp.{nat_cmp_total, nat_list_cmp_total, on_total, then_total, tied_itself}
use Rattle.std.proofs.lemmas.List.{get_or-map}
use Rattle.std.proofs.lemmas.List.Elements.{All-get_or}
use Rattle.zone_record.specs.Names.{octet_order}
use Rattle.zone_record.specs.AnyData.{any_data_order}
use Rattle.zone_record.proofs.AnyOrders.{any_total}
use Rattle.zone_store.specs.Counted.{first_length}
use Rattle.zone_store.specs.Entries.{IsStoreEntry, after_rest, entry_keys_order, entry_order, first_rest, key_at, octets_of, octets_order, record_offset, parts_at, parts_or_absent, prefix_of, prefixed_keys, prefixed_order, prefixed_records, record_of, rests_order}
use Rattle.zone_store.specs.Indexes.{stored_at}
use Rattle.zone_store.specs.Parts.{RecordParts}
use Rattle.zone_store.specs.Prefixes.{prefix_number, rests_cmp}
use Rattle.zone_store.specs.Stored.{AddedRecord, absent_parts, added_record, parts_cmp, stored_order, type_order}
use Rattle.zone_store.specs.declared.entries.Entry.{Entry}
use Rattle.zone_store.proofs.EntriesRead.{count_is, key_is, rests_are}
use Rattle.zone_store.proofs.KeyPrefixes.{IsOctet, all_octets, rests_decide}

-- an order, and then one that depends on a number which is the same where the first says `Equal`
module _ {K : Type 0} {R : K → K → Ordering} (o : IsTotalOrder R) (number : K → ℕ) (S : ℕ → K → K → Ordering) (each : (n : ℕ) → IsTotalOrder (S n)) (same : (x y : K) → R x y ≡ Equal → number x ≡ number y) where
  abbrev whole : K → K → Ordering
  whole x y = ordering_then (R x y) (S (number x) x y)

  fixed : (n : ℕ) → IsTotalOrder (λ x y. ordering_then (R x y) (S n x y))
  fixed n = then_total o (each n)

  moved : (m n : ℕ) (x y : K) (r : Ordering) → (r ≡ Equal → m ≡ n) → ordering_then r (S m x y) ≡ ordering_then r (S n x y)
  moved m n x y Less h = refl
  moved m n x y Equal h = ap (λ k. S k x y) (h refl)
  moved m n x y Greater h = refl

  first_equal : (r s : Ordering) → ordering_then r s ≡ Equal → r ≡ Equal
  first_equal Less s e = absurd (no e)
    where
      no : Less ≡ Equal → ⊥
      no e = cc
  first_equal Equal s e = refl
  first_equal Greater s e = absurd (no e)
    where
      no : Greater ≡ Equal → ⊥
      no e = cc

  whole_antisymm : (x y : K) → whole x y ≡ ordering_reverse (whole y x)
  whole_antisymm x y = (fixed (number x)).antisymm x y ∙ ap ordering_reverse (moved (number x) (number y) y x (R y x) (λ e. sym (same y x e)))

  whole_congr : (x y z : K) → whole x y ≡ Equal → whole x z ≡ whole y z
  whole_congr x y z e = (fixed (number x)).congr x y z e ∙ moved (number x) (number y) y z (R y z) (λ _. same x y (first_equal (R x y) (S (number x) x y) e))

  greater_not : (r s : Ordering) → r ≡ Greater → ordering_then r s ≡ Less → ⊥
  greater_not r s e h = no (ap (λ q. ordering_then q s) (sym e) ∙ h)
    where
      no : Greater ≡ Less → ⊥
      no e = cc

  first_less : (x y z : K) → R x y ≡ Less → (s : Ordering) → R y z ≡ s → whole y z ≡ Less → R x z ≡ Less
  first_less x y z e Less f h = o.trans x y z e f
  first_less x y z e Equal f h = o.antisymm x z ∙ ap ordering_reverse (sym (o.congr y z x f)) ∙ sym (o.antisymm x y) ∙ e
  first_less x y z e Greater f h = absurd (greater_not (R y z) (S (number y) y z) f h)

  whole_trans : (x y z : K) → whole x y ≡ Less → whole y z ≡ Less → whole x z ≡ Less
  whole_trans x y z p q = by (R x y) refl
    where
      by : (r : Ordering) → R x y ≡ r → whole x z ≡ Less
      by Less e = ap (λ r. ordering_then r (S (number x) x z)) (first_less x y z e (R y z) refl q)
      by Equal e = (fixed (number x)).trans x y z p (moved (number x) (number y) y z (R y z) (λ _. same x y e) ∙ q)
      by Greater e = absurd (greater_not (R x y) (S (number x) x y) e p)

  pub depending_total : IsTotalOrder whole
  depending_total = record { antisymm = whole_antisymm; trans = whole_trans; congr = whole_congr }

types_total : IsTotalOrder (λ (a b : RecordParts). type_order a b.class b.code)
types_total = then_total (on_total (λ (p : RecordParts). p.class) nat_cmp_total) (on_total (λ (p : RecordParts). p.code) nat_cmp_total)

one_number : (m n : ℕ) → nat_cmp m n ≡ Equal → m ≡ n
one_number m n h = Prim.grind (arith, nat_tests)

second_equal : (r s : Ordering) → ordering_then r s ≡ Equal → s ≡ Equal
second_equal Less s e = absurd (no e)
  where
    no : Less ≡ Equal → ⊥
    no e = cc
second_equal Equal s e = e
second_equal Greater s e = absurd (no e)
  where
    no : Greater ≡ Equal → ⊥
    no e = cc

one_type : (a b : RecordParts) → type_order a b.class b.code ≡ Equal → a.code ≡ b.code
one_type a b h = one_number a.code b.code (second_equal (nat_cmp a.class b.class) (nat_cmp a.code b.code) h)

pub parts_total : IsTotalOrder parts_cmp
parts_total =
    depending_total types_total (λ p. p.code) (λ n a b. any_data_order n a.rdata b.rdata) (λ n. on_total (λ (p : RecordParts). p.rdata) (any_total n)) one_type

pub stored_total : IsTotalOrder stored_order
stored_total = then_total (on_total (λ (r : AddedRecord). r.key) nat_list_cmp_total) (on_total (λ (r : AddedRecord). r.parts) parts_total)

pub rrsets_total : IsTotalOrder (λ (a b : AddedRecord). ordering_then (octet_order a.key b.key) (type_order a.parts b.parts.class b.parts.code))
rrsets_total = then_total (on_total (λ (r : AddedRecord). r.key) nat_list_cmp_total) (on_total (λ (r : AddedRecord). r.parts) types_total)

pub entries_total : (octets : List ℕ) → IsTotalOrder (entry_order octets)
entries_total octets = then_total (on_total (record_of octets) stored_total) (on_total record_offset nat_cmp_total)

rests_total : IsTotalOrder rests_order
rests_total = then_total (on_total first_rest nat_list_cmp_total) (on_total first_length nat_cmp_total)

octets_total : IsTotalOrder octets_order
octets_total = then_total rests_total (on_total (λ (os : List ℕ). parts_or_absent (after_rest os)) parts_total)

pub prefixed_total : (octets : List ℕ) → IsTotalOrder (prefixed_order octets)
prefixed_total octets =
    then_total (then_total (on_total prefix_of nat_cmp_total) (on_total (octets_of octets) octets_total)) (on_total record_offset nat_cmp_total)

then_assoc : (p q r : Ordering) → ordering_then p (ordering_then q r) ≡ ordering_then (ordering_then p q) r
then_assoc Less q r = refl
then_assoc Equal q r = refl
then_assoc Greater q r = refl

-- the prefix of an entry decides as its key
pub prefixed_key : (octets : List ℕ) (e : Entry) (prefix : ℕ) (key : List ℕ) → All IsOctet key → IsStoreEntry octets e → prefix ≡ prefix_number 7 key → prefixed_keys octets e prefix key ≡ octet_order (key_at octets e) key
prefixed_key octets e prefix key few s q =
    (λ i. ordering_then (nat_cmp (s.1.prefix i) (q i)) (ordering_then (octet_order (rests_are octets e s.0 s.1 i) (drop 7 key)) (nat_cmp (count_is octets e s.0 s.1 i) (length key))))
    ∙ sym (rests_decide 7 s.0.key key s.1.key_small few)
    ∙ ap (λ k. octet_order k key) (sym (key_is octets e s.0 s.1))

pub prefixed_is : (octets : List ℕ) (a b : Entry) → IsStoreEntry octets a → IsStoreEntry octets b → prefixed_records octets a b ≡ stored_order (record_of octets a) (record_of octets b)
prefixed_is octets a b p q =
    let parts = parts_cmp (parts_at octets a) (parts_at octets b) in
    (λ i. ordering_then (nat_cmp (p.1.prefix i) (q.1.prefix i))
    (ordering_then (ordering_then (octet_order (rests_are octets a p.0 p.1 i) (rests_are octets b q.0 q.1 i)) (nat_cmp (count_is octets a p.0 p.1 i) (count_is octets b q.0 q.1 i))) parts))
    ∙ then_assoc (nat_cmp (prefix_number 7 p.0.key) (prefix_number 7 q.0.key)) (rests_cmp 7 p.0.key q.0.key) parts
    ∙ ap (λ o. ordering_then o parts) (sym (rests_decide 7 p.0.key q.0.key p.1.key_small q.1.key_small))
    ∙ (λ i. ordering_then (octet_order (sym (key_is octets a p.0 p.1) i) (sym (key_is octets b q.0 q.1) i)) parts)

-- the prefixes of two entries decide as their keys
pub keys_are : (octets : List ℕ) (a b : Entry) → IsStoreEntry octets a → IsStoreEntry octets b → entry_keys_order octets a b ≡ octet_order (key_at octets a) (key_at octets b)
keys_are octets a b p q =
    (λ i. ordering_then (nat_cmp (p.1.prefix i) (q.1.prefix i)) (ordering_then (octet_order (rests_are octets a p.0 p.1 i) (rests_are octets b q.0 q.1 i)) (nat_cmp (count_is octets a p.0 p.1 i) (count_is octets b q.0 q.1 i))))
    ∙ sym (rests_decide 7 p.0.key q.0.key p.1.key_small q.1.key_small)
    ∙ (λ i. octet_order (sym (key_is octets a p.0 p.1) i) (sym (key_is octets b q.0 q.1) i))

pub then_equal : (r s : Ordering) → ordering_then r s ≡ Equal → r ≡ Equal
then_equal Less s e = absurd (no e)
  where
    no : Less ≡ Equal → ⊥
    no e = cc
then_equal Equal s e = refl
then_equal Greater s e = absurd (no e)
  where
    no : Greater ≡ Equal → ⊥
    no e = cc

-- keys that tie are equal
pub same_keys : (a b : List ℕ) → octet_order a b ≡ Equal → a ≡ b
same_keys [] [] e = refl
same_keys [] (y ∷ b) e = absurd (no e)
  where
    no : Less ≡ Equal → ⊥
    no e = cc
same_keys (x ∷ a) [] e = absurd (no e)
  where
    no : Greater ≡ Equal → ⊥
    no e = cc
same_keys (x ∷ a) (y ∷ b) e =
    let head : x ≡ y = one_number x y (then_equal (nat_cmp x y) (octet_order a b) e) in
    λ i. head i ∷ same_keys a b (second_equal (nat_cmp x y) (octet_order a b) e) i

is_tie : (o : Ordering) → is_eq o ≡ true → o ≡ Equal
is_tie Less h = cc
is_tie Equal h = refl
is_tie Greater h = cc

pub keys_tie : (a b : List ℕ) → is_eq (octet_order a b) ≡ true → a ≡ b
keys_tie a b h = same_keys a b (is_tie (octet_order a b) h)

pub keys_apart : (a b : List ℕ) → is_eq (octet_order a b) ≡ false → a ≡ b → ⊥
keys_apart a b h e = false≢true (sym h ∙ ap is_eq (ap (octet_order a) (sym e) ∙ tied_itself nat_list_cmp_total a))

-- ---- records at indexes

module _ (octets : List ℕ) (entries : List Entry) (all : All (IsStoreEntry octets) entries) where
  at_index : (i : ℕ) (d : Entry) → i < length entries → record_of octets (get_or entries i d) ≡ stored_at octets entries i
  at_index i d low = sym (get_or-map (record_of octets) entries i d (added_record [] absent_parts) low)

  pub indexed_key : (i prefix : ℕ) (d : Entry) (key : List ℕ) → i < length entries → ((i : ℕ) → get_or key i 0 < 256) → prefix ≡ prefix_number 7 key
      → prefixed_keys octets (get_or entries i d) prefix key ≡ octet_order (stored_at octets entries i).key key
  indexed_key i prefix d key low small is =
      prefixed_key octets (get_or entries i d) prefix key (all_octets key small) (All-get_or (IsStoreEntry octets) entries i d low all) is ∙ ap (λ r. octet_order r.key key) (at_index i d low)

  pub indexed_keys : (i j : ℕ) (d e : Entry) → i < length entries → j < length entries → entry_keys_order octets (get_or entries i d) (get_or entries j e) ≡ octet_order (stored_at octets entries i).key (stored_at octets entries j).key
  indexed_keys i j d e low lower =
      keys_are octets (get_or entries i d) (get_or entries j e) (All-get_or (IsStoreEntry octets) entries i d low all) (All-get_or (IsStoreEntry octets) entries j e lower all)
      ∙ (λ k. octet_order (at_index i d low k).key (at_index j e lower k).key)

  pub indexed_order : (i j : ℕ) (d e : Entry) → i < length entries → j < length entries → prefixed_records octets (get_or entries i d) (get_or entries j e) ≡ stored_order (stored_at octets entries i) (stored_at octets entries j)
  indexed_order i j d e low lower =
      prefixed_is octets (get_or entries i d) (get_or entries j e) (All-get_or (IsStoreEntry octets) entries i d low all) (All-get_or (IsStoreEntry octets) entries j e lower all)
      ∙ (λ k. stored_order (at_index i d low k) (at_index j e lower k))
