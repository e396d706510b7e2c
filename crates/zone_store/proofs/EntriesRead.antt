-- What an entry says is what was stored.
use Rattle.std.proofs.Common.{ℕ, ◌≡◌, ◌+◌, ◌^◌, ◌<◌, ◌≤◌, ◌-◌, List, [], ◌∷◌, ◌++◌, length, take, drop, refl, sym, ap, ◌∙◌, arith, append_assoc, length-append, length-drop, get_or, subst}
use Rattle.std.specs.Prelude.{All, Bool, true, false, if◌then◌else◌, nat_lt}
use Rattle.std.specs.Int.{to_be_bytes, w16}
use Rattle.std.proofs.lemmas.List.{take_at, drop_at, append-nil, map-append}
use Rattle.std.proofs.lemmas.List.Elements.{All-nil, All-cons, All-head, All-tail, All-push, All-get_or}
use Rattle.std.proofs.lemmas.List.Sorted.{IsNonDecreasingBy-push}
use Rattle.std.proofs.lemmas.Nat.{from_be_bytes-to_be_bytes_2}
use Rattle.zone_store.specs.Counted.{after_length, first_length, length_octets}
use Rattle.zone_store.specs.Entries.{HasAt, IsEntryFor, IsEntryOf, IsStoreEntry, after_rest, first_rest, key_at, octets_of, record_offset, parts_at, parts_or_absent, prefix_of, record_octets, record_of, seven_octets}
use Rattle.zone_store.specs.Parts.{PartsFit, RecordParts, first_parts, parts_octets}
use Rattle.zone_store.specs.Prefixes.{prefix_number}
use Rattle.zone_store.specs.Stored.{AddedRecord, added_record, absent_parts}
use Rattle.zone_store.specs.Stores.{IsStored, StoresMore, stored_records}
use Rattle.zone_store.specs.declared.entries.Entry.{Entry}
use Rattle.zone_store.proofs.KeyPrefixes.{IsOctet, key_read}
use Rattle.zone_store.proofs.PartsRead.{parts_begin, parts_first, parts_long}

-- a length is read back
length_by : (n : ℕ) (more : List ℕ) → n < 2 ^ 16 → (b : Bool) → nat_lt n 255 ≡ b
    → (first_length ((if b then n ∷ [] else 255 ∷ to_be_bytes w16 n) ++ more) ≡ n)
    × (after_length ((if b then n ∷ [] else 255 ∷ to_be_bytes w16 n) ++ more) ≡ more)
length_by n more h true e = (rw e refl, rw e refl)
length_by n more h false e = (omega (arith, from_be_bytes-to_be_bytes_2 n h), refl)

length_first : (n : ℕ) (more : List ℕ) → n < 2 ^ 16 → first_length (length_octets n ++ more) ≡ n
length_first n more h = (length_by n more h (nat_lt n 255) refl).0

length_after : (n : ℕ) (more : List ℕ) → n < 2 ^ 16 → after_length (length_octets n ++ more) ≡ more
length_after n more h = (length_by n more h (nat_lt n 255) refl).1

-- the octets at an offset, and what follows them
drop_has : (octets : List ℕ) (offset : ℕ) (part : List ℕ) (h : HasAt octets offset part) → drop offset octets ≡ part ++ h.1
drop_has octets offset part h = ap (drop offset) h.2 ∙ drop_at h.0 (part ++ h.1) offset h.3

-- they stay if more is appended
pub has_more : (octets : List ℕ) (offset : ℕ) (part more : List ℕ) → HasAt octets offset part → HasAt (octets ++ more) offset part
has_more octets offset part more h =
    (h.0, h.1 ++ more, ap (λ os. os ++ more) h.2 ∙ append_assoc h.0 (part ++ h.1) more ∙ ap (λ os. h.0 ++ os) (append_assoc part h.1 more), h.3)

-- appended octets are at the end
pub has_end : (octets part : List ℕ) → HasAt (octets ++ part) (length octets) part
has_end octets part = (octets, [], ap (λ os. octets ++ os) (sym (append-nil part)), refl)

-- octets that begin with those of a record
module _ (r : AddedRecord) (more : List ℕ) (fits : length r.key < 2 ^ 16) where
  abbrev os : List ℕ
  os = length_octets (length r.key) ++ (drop 7 r.key ++ (parts_octets r.parts ++ more))

  whole_is : record_octets r ++ more ≡ os
  unfolding record_octets
  whole_is = append_assoc (length_octets (length r.key)) (drop 7 r.key ++ parts_octets r.parts) more ∙ ap (λ rest. length_octets (length r.key) ++ rest) (append_assoc (drop 7 r.key) (parts_octets r.parts) more)

  length_is : first_length os ≡ length r.key
  length_is = length_first (length r.key) (drop 7 r.key ++ (parts_octets r.parts ++ more)) fits

  more_is : after_length os ≡ drop 7 r.key ++ (parts_octets r.parts ++ more)
  more_is = length_after (length r.key) (drop 7 r.key ++ (parts_octets r.parts ++ more)) fits

  rest_is : first_rest os ≡ drop 7 r.key
  rest_is = (λ i. take (length_is i - 7) (more_is i)) ∙ take_at (drop 7 r.key) (parts_octets r.parts ++ more) (length r.key - 7) (length-drop 7 r.key)

  after_is : after_rest os ≡ parts_octets r.parts ++ more
  after_is = (λ i. drop (length_is i - 7) (more_is i)) ∙ drop_at (drop 7 r.key) (parts_octets r.parts ++ more) (length r.key - 7) (length-drop 7 r.key)

module _ (octets : List ℕ) (e : Entry) (r : AddedRecord) (is : IsEntryOf octets e r) where
  abbrev back : List ℕ
  back = is.has.1

  octets_are : octets_of octets e ≡ length_octets (length r.key) ++ (drop 7 r.key ++ (parts_octets r.parts ++ back))
  octets_are = drop_has octets (record_offset e) (record_octets r) is.has ∙ whole_is r back is.key_fits

  pub count_is : first_length (octets_of octets e) ≡ length r.key
  count_is = ap first_length octets_are ∙ length_is r back is.key_fits

  pub rests_are : first_rest (octets_of octets e) ≡ drop 7 r.key
  rests_are = ap first_rest octets_are ∙ rest_is r back is.key_fits

  pub key_is : key_at octets e ≡ r.key
  key_is = (λ i. take (count_is i) (seven_octets (is.prefix i)) ++ rests_are i) ∙ key_read r.key is.key_small

  parts_are : parts_at octets e ≡ r.parts
  parts_are =
      ap parts_or_absent (ap after_rest octets_are ∙ after_is r back is.key_fits)
      ∙ ap (λ b. if b then first_parts (parts_octets r.parts ++ back) else absent_parts) (parts_begin r.parts back)
      ∙ parts_first r.parts back is.parts_fit

  pub record_is : record_of octets e ≡ r
  record_is = λ i. record { key = key_is i; parts = parts_are i }

  -- the prefix of an entry is that of its key
  pub prefix_is : prefix_of e ≡ prefix_number 7 (key_at octets e)
  prefix_is = is.prefix ∙ ap (prefix_number 7) (sym key_is)

  -- a record begins before the end of the octets
  begins_before : record_offset e < length octets
  unfolding record_octets
  begins_before =
      let whole : length octets ≡ length is.has.0 + length (record_octets r ++ back) = ap length is.has.2 ∙ length-append is.has.0 (record_octets r ++ back) in
      let parts : length (record_octets r ++ back) ≡ length (length_octets (length r.key)) + length (drop 7 r.key ++ (parts_octets r.parts ++ back)) =
      ap length (whole_is r back is.key_fits) ∙ length-append (length_octets (length r.key)) (drop 7 r.key ++ (parts_octets r.parts ++ back)) in
      omega (arith, whole, is.has.3, parts, length-append (drop 7 r.key) (parts_octets r.parts ++ back), length-append (parts_octets r.parts) back, parts_long r.parts)

  pub entry_more : (more : List ℕ) → IsEntryOf (octets ++ more) e r
  entry_more more = record {
    key_fits = is.key_fits;
    key_small = is.key_small;
    parts_fit = is.parts_fit;
    has = has_more octets (record_offset e) (record_octets r) more is.has;
    prefix = is.prefix;
    middle_fits = is.middle_fits;
    low_fits = is.low_fits;
  }

pub all_more : (octets more : List ℕ) (entries : List Entry) → All (IsStoreEntry octets) entries → All (IsStoreEntry (octets ++ more)) entries
all_more octets more [] all = All-nil (IsStoreEntry (octets ++ more))
all_more octets more (e ∷ entries) all =
    let first = All-head (IsStoreEntry octets) e entries all in
    All-cons (IsStoreEntry (octets ++ more)) e entries (first.0, entry_more octets e first.0 first.1 more) (all_more octets more entries (All-tail (IsStoreEntry octets) e entries all))

-- the records stay too
pub records_more : (octets more : List ℕ) (entries : List Entry) → All (IsStoreEntry octets) entries → stored_records (octets ++ more) entries ≡ stored_records octets entries
records_more octets more [] all = refl
records_more octets more (e ∷ entries) all =
    let first = All-head (IsStoreEntry octets) e entries all in
    let same = record_is (octets ++ more) e first.0 (entry_more octets e first.0 first.1 more) ∙ sym (record_is octets e first.0 first.1) in
    λ i. same i ∷ records_more octets more entries (All-tail (IsStoreEntry octets) e entries all) i

-- an entry of what was appended
pub entry_is : (old new : List ℕ) (e : Entry) (prefix len : ℕ) (key : List ℕ) (parts : RecordParts) → length key < 2 ^ 16 → All IsOctet key → PartsFit parts → new ≡ old ++ record_octets (added_record key parts)
    → prefix ≡ prefix_number 7 key → len ≡ length old → IsEntryFor prefix len e → IsEntryOf new e (added_record key parts)
entry_is old new e prefix len key parts key_fits key_small parts_fit is prefix_is len_is made = record {
  key_fits = key_fits;
  key_small = key_small;
  parts_fit = parts_fit;
  has =
      subst (λ (os : List ℕ). HasAt os (record_offset e) (record_octets (added_record key parts))) (sym is)
      (subst (λ (n : ℕ). HasAt (old ++ record_octets (added_record key parts)) n (record_octets (added_record key parts))) (sym (made.1 ∙ len_is)) (has_end old (record_octets (added_record key parts))));
  prefix = made.0 ∙ prefix_is;
  middle_fits = made.2;
  low_fits = made.3;
}

-- an entry whose octets are after those of all others
pub stored_more : (octets more : List ℕ) (entries : List Entry) (e : Entry) (r : AddedRecord) → IsStored octets entries → IsEntryOf (octets ++ more) e r → length octets ≤ record_offset e
    → StoresMore octets entries (octets ++ more) (entries ++ e ∷ []) r
stored_more octets more entries e r stored is after =
    let low : (d : Entry) → 0 < length entries → record_offset (get_or entries (length entries - 1) d) ≤ record_offset e = λ d some.
    let last = All-get_or (IsStoreEntry octets) entries (length entries - 1) d (omega (arith, some)) stored.are in
    omega (arith, begins_before octets (get_or entries (length entries - 1) d) last.0 last.1, after) in
    record {
      stored = record {
        are = All-push (IsStoreEntry (octets ++ more)) entries e (all_more octets more entries stored.are) (r, is);
        rise = IsNonDecreasingBy-push record_offset entries e stored.rise low;
      };
      records = map-append (record_of (octets ++ more)) entries (e ∷ []) ∙ (λ i. records_more octets more entries stored.are i ++ record_is (octets ++ more) e r is i ∷ []);
    }
