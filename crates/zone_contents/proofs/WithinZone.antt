-- Names that are neither the apex of a zone nor below it have no records, if all keys are of names that are.
use Rattle.std.proofs.Common.{ℕ, zero, suc, ◌≡◌, ◌-◌, ◌<◌, Bool, true, false, List, [], ◌∷◌, ◌++◌, length, map, get_or, take, drop, refl, sym, ap, ◌∙◌, arith}
use Rattle.std.specs.Prelude.{All, ◌==◌, ◌&&◌, ◌||◌}
use Rattle.std.specs.List.Sorted.{IsSorted}
use Rattle.std.specs.Ordering.{is_eq, is_ge, is_lt, nat_cmp, ordering_then}
use Rattle.std.specs.declared.cmp.Ordering.{Ordering}
use Rattle.std.specs.declared.cmp.Ordering.TheVariants.{Less, Equal, Greater}
use Rattle.std.proofs.lemmas.Bool.{false≢true}
use Rattle.std.proofs.lemmas.Bool.Decides.{nat_tests}
use Rattle.std.specs.Cmp.Lexicographic.{bytes_decides, pointwise_decides}
use Rattle.std.proofs.lemmas.List.{drop-map, drop_at, take-append-drop}
use Rattle.std.proofs.lemmas.List.Elements.{All-head, All-tail, All-from_get_or}
use Rattle.dns_octets.specs.Lowered.{lowered}
use Rattle.dns_wire.specs.Order.{same_name}
use Rattle.zone_record.specs.Keys.{order_key, IsAtOrBelow}
use Rattle.zone_record.specs.Names.{octet_order}
use Rattle.zone_record.proofs.BelowKeys.{begins_below}
use Rattle.zone_contents.specs.Contents.{listed_record, listing, IsZoneRecord}
use Rattle.zone_contents.specs.Keys.{key_in_zone}
use Rattle.zone_contents.proofs.ZoneKeys.{where_is, Where, within, before, after}
use Rattle.zone_contents.proofs.ZoneNames.{key_is_order}
use Rattle.zone_rules.specs.Above.{is_within}
use Rattle.zone_rules.specs.Zones.{has_type_at, type_of}
use Rattle.zone_rules.proofs.Lookups.{same_is}
use Rattle.zone_rules.proofs.Neighbours.{within_more}
use Rattle.zone_rules.proofs.SharedNames.{within_here}
use Rattle.zone_store.specs.Stored.{AddedRecord, absent_parts, added_record, record_at, stored_order}
use Rattle.zone_store.proofs.EntrySearches.{keys_coarser, keys_total, lesser_first}

abbrev none : AddedRecord
none = added_record [] absent_parts

-- ---- keys between a 1 and a 2

begins_one : (key : List ℕ) → is_lt (octet_order key (1 ∷ [])) ≡ false → is_lt (octet_order key (2 ∷ [])) ≡ true → take 1 key ≡ 1 ∷ []
begins_one [] h k = absurd (false≢true (sym h))
begins_one (x ∷ xs) h k = by (nat_cmp x 1) (nat_cmp x 2) refl refl h k
  where
    by : (o p : Ordering) → nat_cmp x 1 ≡ o → nat_cmp x 2 ≡ p → is_lt (ordering_then o (octet_order xs [])) ≡ false → is_lt (ordering_then p (octet_order xs [])) ≡ true → x ∷ [] ≡ 1 ∷ []
    by Less p e f h k = absurd (false≢true (sym h))
    by Equal p e f h k = ap (λ n. n ∷ []) (Prim.grind (arith, nat_tests))
    by Greater Less e f h k = absurd (Prim.grind (arith, nat_tests))
    by Greater Equal e f h k = absurd (none_before xs k)
      where
        none_before : (ys : List ℕ) → is_lt (octet_order ys []) ≡ true → ⊥
        none_before [] h = false≢true h
        none_before (y ∷ ys) h = false≢true h
    by Greater Greater e f h k = absurd (false≢true k)

pub all_within : (records : List AddedRecord) → IsSorted stored_order records → 0 < length records
    → is_lt (octet_order (record_at records 0).key (1 ∷ [])) ≡ false → is_lt (octet_order (record_at records (length records - 1)).key (2 ∷ [])) ≡ true
    → All (λ r. take 1 r.key ≡ 1 ∷ []) records
all_within records sorted some low high =
    All-from_get_or (λ r. take 1 r.key ≡ 1 ∷ []) records none
    (λ i lt. begins_one (record_at records i).key (not_before i lt)
    (lesser_first keys_total keys_coarser (added_record (2 ∷ []) absent_parts) records sorted i (length records - 1) none (omega (arith, lt)) (omega (arith, some)) high))
  where
    not_before : (i : ℕ) → i < length records → is_lt (octet_order (record_at records i).key (1 ∷ [])) ≡ false
    not_before i lt = by (is_lt (octet_order (record_at records i).key (1 ∷ []))) refl
      where
        by : (b : Bool) → is_lt (octet_order (record_at records i).key (1 ∷ [])) ≡ b → b ≡ false
        by true e = absurd (false≢true (sym low ∙ lesser_first keys_total keys_coarser (added_record (1 ∷ []) absent_parts) records sorted 0 i none (omega arith) lt e))
        by false e = refl

pub some_more : (n : ℕ) → (n ≡ 0 → ⊥) → 0 < n
some_more zero some = absurd (some refl)
some_more (suc n) some = omega arith

pub not_less : (o : Ordering) → is_ge o ≡ true → is_lt o ≡ false
not_less Less h = absurd (false≢true h)
not_less Equal h = refl
not_less Greater h = refl

-- ---- names that are not within the zone

within_front : (front end top : List (List ℕ)) → 0 < length top → same_name end top ≡ true → is_within (front ++ end) top ≡ true
within_front [] end top some h = within_here end top h
within_front (l ∷ ls) end top some h = within_more l (ls ++ end) top some (within_front ls end top some h)

at_or_below : (name top : List (List ℕ)) → 0 < length top → IsAtOrBelow name top → is_within name top ≡ true
at_or_below name top some h =
    let n = length h.0 in
    let end = drop n name in
    let same : map lowered end ≡ map lowered top = sym (drop-map lowered n name) ∙ ap (drop n) h.1 ∙ drop_at h.0 (map lowered top) n refl in
    ap (λ l. is_within l top) (sym (take-append-drop n name))
    ∙ within_front (take n name) end top some ((pointwise_decides bytes_decides (map lowered end) (map lowered top)).1 same)

not_zero : (key rest : List ℕ) → take 1 key ≡ 1 ∷ [] → is_eq (octet_order key (0 ∷ rest)) ≡ false
not_zero [] rest h = absurd (omega (arith, ap length h))
not_zero (x ∷ xs) rest h = ap (λ l. is_eq (ordering_then (nat_cmp (get_or l 0 0) 0) (octet_order xs rest))) h

not_two : (key rest : List ℕ) → take 1 key ≡ 1 ∷ [] → is_eq (octet_order key (2 ∷ rest)) ≡ false
not_two [] rest h = absurd (omega (arith, ap length h))
not_two (x ∷ xs) rest h = ap (λ l. is_eq (ordering_then (nat_cmp (get_or l 0 0) 2) (octet_order xs rest))) h

module _ (apex name : List (List ℕ)) (some : 0 < length apex) (off : is_within name apex ≡ false) where
  other_key : (key : List ℕ) → take 1 key ≡ 1 ∷ [] → is_eq (octet_order key (key_in_zone apex name)) ≡ false
  other_key key h = by (where_is (order_key apex) (order_key name))
    where
      by : Where (order_key apex) (order_key name) → is_eq (octet_order key (key_in_zone apex name)) ≡ false
      by (within rest e is) = absurd (false≢true (sym off ∙ at_or_below name apex some ((begins_below name apex).0 (rest, e))))
      by (before e is) = ap (λ k. is_eq (octet_order key k)) is ∙ not_zero key (order_key name) h
      by (after e n is) = ap (λ k. is_eq (octet_order key k)) is ∙ not_two key (order_key name) h

  other_owner : (r : AddedRecord) → IsZoneRecord apex r → take 1 r.key ≡ 1 ∷ [] → same_name (listed_record apex r).owner name ≡ false
  other_owner r is h = same_is (listed_record apex r).owner name ∙ ap is_eq (sym (key_is_order apex r.key is.owner name)) ∙ other_key r.key h

  pub has_no_type : (code : ℕ) (records : List AddedRecord) → All (IsZoneRecord apex) records → All (λ r. take 1 r.key ≡ 1 ∷ []) records → has_type_at code name (listing apex records) ≡ false
  has_no_type code [] are keys = refl
  has_no_type code (r ∷ records) are keys =
      (λ i. (other_owner r (All-head (IsZoneRecord apex) r records are) (All-head (λ q. take 1 q.key ≡ 1 ∷ []) r records keys) i && type_of (listed_record apex r) == code)
      || has_no_type code records (All-tail (IsZoneRecord apex) r records are) (All-tail (λ q. take 1 q.key ≡ 1 ∷ []) r records keys) i)
