-- Worked rows of keys, records and entries.
use Rattle.std.specs.Prelude.{◌≡◌, ℕ, true, false, List, [], ◌∷◌, ◌++◌, ◌+◌, ◌*◌, ◌^◌, replicate, codes, refl}
use Rattle.std.specs.declared.cmp.Ordering.TheVariants.{Less, Greater}
use Rattle.zone_store.specs.Counted.{counted_octets, first_counted, after_counted, first_length, after_length}
use Rattle.zone_store.specs.Duplicates.{is_duplicate_at}
use Rattle.zone_store.specs.Entries.{stored_key, record_offset, parts_at, prefix_of, record_octets, record_of}
use Rattle.zone_store.specs.Parts.{RecordParts, parts_octets, numbers_octets, octets16, octets32, octets64, begins_parts}
use Rattle.zone_store.specs.Prefixes.{prefix_number}
use Rattle.zone_store.specs.Stored.{AddedRecord, added_record, absent_parts, has_stored_rrset, is_same_stored, record_at, stored_order}
use Rattle.zone_store.specs.declared.entries.Entry.{Entry}

-- of no octets, of one, of seven, and of eight, the last of which does not count
none_prefix_row : prefix_number 7 [] ≡ 0
none_prefix_row = refl

first_prefix_row : prefix_number 7 (1 ∷ []) ≡ 281474976710656
first_prefix_row = refl

last_prefix_row : prefix_number 7 (replicate 6 0 ++ 1 ∷ []) ≡ 1
last_prefix_row = refl

greatest_prefix_row : prefix_number 7 (replicate 7 255) ≡ 72057594037927935
greatest_prefix_row = refl

long_prefix_row : prefix_number 7 (replicate 7 0 ++ 1 ∷ []) ≡ 0
long_prefix_row = refl

-- lengths of one octet, and of three
empty_row : counted_octets [] ≡ 0 ∷ []
empty_row = refl

short_row : counted_octets (replicate 254 7) ≡ 254 ∷ replicate 254 7
short_row = refl

long_row : counted_octets (replicate 255 7) ≡ 255 ∷ 0 ∷ 255 ∷ replicate 255 7
long_row = refl

longer_row : counted_octets (replicate 256 7) ≡ 255 ∷ 1 ∷ 0 ∷ replicate 256 7
longer_row = refl

length_row : first_length (254 ∷ 1 ∷ []) ≡ 254
length_row = refl

after_length_row : after_length (254 ∷ 1 ∷ []) ≡ 1 ∷ []
after_length_row = refl

long_length_row : first_length (255 ∷ 1 ∷ 2 ∷ 3 ∷ []) ≡ 258
long_length_row = refl

after_long_length_row : after_length (255 ∷ 1 ∷ 2 ∷ 3 ∷ []) ≡ 3 ∷ []
after_long_length_row = refl

cut_off_length_row : first_length (255 ∷ 1 ∷ []) ≡ 256
cut_off_length_row = refl

-- octets between others, and octets of which some are absent
first_row : first_counted (2 ∷ codes "abc") ≡ codes "ab"
first_row = refl

after_row : after_counted (2 ∷ codes "abc") ≡ codes "c"
after_row = refl

long_first_row : first_counted (255 ∷ 0 ∷ 2 ∷ codes "abc") ≡ codes "ab"
long_first_row = refl

long_after_row : after_counted (255 ∷ 0 ∷ 2 ∷ codes "abc") ≡ codes "c"
long_after_row = refl

absent_row : first_counted (4 ∷ codes "abc") ≡ codes "abc"
absent_row = refl

cut_length_row : first_counted (255 ∷ 0 ∷ []) ≡ []
cut_length_row = refl

-- A 192.0.2.1 with a TTL, at an offset of the first file, of class IN
abbrev timed_address : ℕ → ℕ → RecordParts
timed_address ttl offset = record { code = 1; class = 1; ttl = ttl; file = 0; offset = offset; rdata = 192 ∷ 0 ∷ 2 ∷ 1 ∷ [] }

usual_record_row : parts_octets (timed_address 86400 12) ≡ 1 ∷ 13 ∷ 0 ∷ 0 ∷ 0 ∷ 12 ∷ 4 ∷ 192 ∷ 0 ∷ 2 ∷ 1 ∷ []
unfolding parts_octets numbers_octets octets16 octets32 octets64
usual_record_row = refl

far_record_row : parts_octets (timed_address 0 (5 * 2 ^ 32 + 12)) ≡ 1 ∷ 80 ∷ 0 ∷ 0 ∷ 0 ∷ 12 ∷ 4 ∷ 192 ∷ 0 ∷ 2 ∷ 1 ∷ []
unfolding parts_octets numbers_octets octets16 octets32 octets64
far_record_row = refl

-- A 192.0.2.1 with the TTL 3600, at the offset 12 of the second file, of class IN and of class CH
abbrev address : ℕ → RecordParts
address class = record { code = 1; class = class; ttl = 3600; file = 1; offset = 12; rdata = 192 ∷ 0 ∷ 2 ∷ 1 ∷ [] }

short_record_row : parts_octets (address 1) ≡ 253 ∷ 1 ∷ 1 ∷ 0 ∷ 0 ∷ 14 ∷ 16 ∷ 0 ∷ 0 ∷ 0 ∷ 12 ∷ 4 ∷ 192 ∷ 0 ∷ 2 ∷ 1 ∷ []
unfolding parts_octets numbers_octets octets16 octets32 octets64
short_record_row = refl

long_record_row : parts_octets (address 3) ≡ 254 ∷ 0 ∷ 1 ∷ 0 ∷ 3 ∷ 0 ∷ 0 ∷ 14 ∷ 16 ∷ 0 ∷ 0 ∷ 0 ∷ 1 ∷ (replicate 7 0 ++ 12 ∷ 4 ∷ 192 ∷ 0 ∷ 2 ∷ 1 ∷ [])
unfolding parts_octets numbers_octets octets16 octets32 octets64
long_record_row = refl

-- neither the octet 255 nor octets that are cut off begin a record
count_begins_row : begins_parts (255 ∷ replicate 30 0) ≡ false
count_begins_row = refl

cut_usual_row : begins_parts (1 ∷ replicate 4 0) ≡ false
cut_usual_row = refl

cut_begins_row : begins_parts (253 ∷ replicate 9 0) ≡ false
cut_begins_row = refl

-- the first octets of a key are in its entry, and the others are after the length
record_row : record_octets (added_record (codes "abcdefghi") (address 1)) ≡ 9 ∷ (codes "hi" ++ parts_octets (address 1))
unfolding record_octets
record_row = refl

long_key_row : stored_key (prefix_number 7 (codes "abcdefghi")) (9 ∷ codes "hij") ≡ codes "abcdefghi"
long_key_row = refl

short_key_row : stored_key (prefix_number 7 (codes "ab")) (2 ∷ codes "hij") ≡ codes "ab"
short_key_row = refl

zero_key_row : stored_key 0 (3 ∷ codes "hij") ≡ 0 ∷ 0 ∷ 0 ∷ []
zero_key_row = refl

-- two records of the owner `b`: the first at 0, the second at 17
abbrev two_records : List ℕ
two_records = record_octets (added_record (codes "b") (address 1)) ++ record_octets (added_record (codes "b") (address 3))

abbrev entry : ℕ → Entry
entry offset = record { high = 98 * 2 ^ 24; middle = 0; low = offset }

entry_prefix_row : prefix_of (entry 17) ≡ prefix_number 7 (codes "b")
entry_prefix_row = refl

entry_offset_row : record_offset (record { high = 98 * 2 ^ 24; middle = 256 + 2; low = 17 }) ≡ 2 * 2 ^ 32 + 17
entry_offset_row = refl

first_of_two_row : record_of two_records (entry 0) ≡ added_record (codes "b") (address 1)
unfolding record_octets parts_octets numbers_octets octets16 octets32 octets64
first_of_two_row = refl

second_of_two_row : record_of two_records (entry 17) ≡ added_record (codes "b") (address 3)
unfolding record_octets parts_octets numbers_octets octets16 octets32 octets64
second_of_two_row = refl

no_record_row : parts_at two_records (entry 44) ≡ absent_parts
unfolding record_octets parts_octets numbers_octets octets16 octets32 octets64
no_record_row = refl

-- by key, class, type and RDATA, but neither by TTL nor by file
abbrev stored : List ℕ → ℕ → ℕ → List ℕ → AddedRecord
stored key class code rdata = added_record key (record { code = code; class = class; ttl = 0; file = 0; offset = 0; rdata = rdata })

keys_row : stored_order (stored (codes "a") 3 1 []) (stored (codes "b") 1 1 []) ≡ Less
keys_row = refl

classes_row : stored_order (stored (codes "a") 3 1 []) (stored (codes "a") 1 2 []) ≡ Greater
classes_row = refl

types_row : stored_order (stored (codes "a") 1 1 (9 ∷ [])) (stored (codes "a") 1 16 []) ≡ Less
types_row = refl

rdata_row : stored_order (stored (codes "a") 1 1 (128 ∷ [])) (stored (codes "a") 1 1 (127 ∷ 0 ∷ [])) ≡ Greater
rdata_row = refl

same_row : is_same_stored (stored (codes "a") 1 1 []) (added_record (codes "a") (record { code = 1; class = 1; ttl = 60; file = 2; offset = 7; rdata = [] })) ≡ true
same_row = refl

-- the record at an index, and an RRset among records
abbrev some_records : List AddedRecord
some_records = stored (codes "a") 1 1 [] ∷ stored (codes "b") 1 16 [] ∷ []

at_row : record_at some_records 1 ≡ stored (codes "b") 1 16 []
at_row = refl

rrset_row : has_stored_rrset (codes "b") 1 16 some_records ≡ true
rrset_row = refl

other_key_row : has_stored_rrset (codes "a") 1 16 some_records ≡ false
other_key_row = refl

other_class_row : has_stored_rrset (codes "b") 3 16 some_records ≡ false
other_class_row = refl

-- the second of two records that are equal is a duplicate
abbrev twice : List AddedRecord
twice = stored (codes "a") 1 1 [] ∷ stored (codes "a") 1 1 [] ∷ stored (codes "b") 1 1 [] ∷ []

first_once_row : is_duplicate_at twice 0 ≡ false
first_once_row = refl

second_row : is_duplicate_at twice 1 ≡ true
second_row = refl

other_row : is_duplicate_at twice 2 ≡ false
other_row = refl
