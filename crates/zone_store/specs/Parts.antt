-- A record of a group as octets: its type, class, TTL, file and offset, then its RDATA.
use Rattle.std.specs.Prelude.{◌<◌, ◌+◌, ◌*◌, ◌/◌, ◌%◌, ◌^◌, ℕ, ◌==◌, ◌&&◌, ◌||◌, nat_lt, Bool, if◌then◌else◌, zero, suc, List, [], ◌∷◌, ◌++◌, length, take, drop, get_or}
use Rattle.std.specs.Int.{from_be_bytes, to_be_bytes, w16, w32, w64}
use Rattle.rdata_values.specs.Classes.{internet}
use Rattle.zone_store.specs.Counted.{counted_octets, first_counted, after_counted}
use Rattle.zone_store.specs.declared.records.GroupEntry.{GroupEntry}

-- what a record has besides its owner: its type, class and TTL, the number of its file, its offset there, and its RDATA
pub record RecordParts : Type 0 where
  pub code : ℕ
  pub class : ℕ
  pub ttl : ℕ
  pub file : ℕ
  pub offset : ℕ
  pub rdata : List ℕ

abbrev pub record_parts : GroupEntry → RecordParts
record_parts r =
    record { code = r.header.rtype; class = r.header.class; ttl = r.header.ttl; file = r.header.file; offset = r.header.offset; rdata = r.rdata.now }

-- each number fits its octets, and so does the length of the RDATA
pub record PartsFit (r : RecordParts) : Type 0 where
  pub code : r.code < 2 ^ 16
  pub class : r.class < 2 ^ 16
  pub ttl : r.ttl < 2 ^ 32
  pub file : r.file < 2 ^ 32
  pub offset : r.offset < 2 ^ 64
  pub rdata : length r.rdata < 2 ^ 16

-- a number as two, four or eight octets, the most significant first
unfoldable pub octets16 : ℕ → List ℕ
octets16 n = to_be_bytes w16 n

unfoldable pub octets32 : ℕ → List ℕ
octets32 n = to_be_bytes w32 n

unfoldable pub octets64 : ℕ → List ℕ
octets64 n = to_be_bytes w64 n

-- the TTLs that records mostly have, in seconds
abbrev pub usual_ttls : List ℕ
usual_ttls = 0 ∷ 60 ∷ 300 ∷ 600 ∷ 900 ∷ 1800 ∷ 3600 ∷ 7200 ∷ 10800 ∷ 14400 ∷ 21600 ∷ 28800 ∷ 43200 ∷ 86400 ∷ 172800 ∷ 604800 ∷ []

-- the number of elements before a number, or of all if it is not among them
abbrev pub index_of : ℕ → List ℕ → ℕ
index_of n [] = 0
index_of n (x ∷ xs) = if n == x then 0 else suc (index_of n xs)

-- a record of the first file and of class IN, with a usual TTL, a type below 253 and an offset below 2^36
abbrev pub is_usual : RecordParts → Bool
is_usual r = (nat_lt r.code 253 && nat_lt (index_of r.ttl usual_ttls) 16) && (nat_lt r.offset 68719476736 && (r.file == 0 && (r.class == internet)))

-- the type; the index of the TTL, plus 16 times the first of five octets of the offset; then the other four
abbrev pub usual_octets : RecordParts → List ℕ
usual_octets r = r.code ∷ (index_of r.ttl usual_ttls + 16 * (r.offset / 2 ^ 32)) ∷ octets32 (r.offset % 2 ^ 32)

-- the class is IN, and the type, the file and the offset are small
abbrev pub is_short : RecordParts → Bool
is_short r = (nat_lt r.code 256 && nat_lt r.file 256) && (nat_lt r.offset 4294967296 && (r.class == internet))

-- the octet 253, the type and the file as an octet each, then the TTL and the offset
abbrev pub short_octets : RecordParts → List ℕ
short_octets r = 253 ∷ r.code ∷ r.file ∷ (octets32 r.ttl ++ octets32 r.offset)

-- the octet 254, then the type, class and TTL
abbrev pub header_octets : RecordParts → List ℕ
header_octets r = 254 ∷ (octets16 r.code ++ (octets16 r.class ++ octets32 r.ttl))

-- the file and the offset in it
abbrev pub position_octets : RecordParts → List ℕ
position_octets r = octets32 r.file ++ octets64 r.offset

abbrev pub long_octets : RecordParts → List ℕ
long_octets r = header_octets r ++ position_octets r

-- the numbers of a record that is not usual, in the fewer octets if they fit
abbrev pub other_octets : RecordParts → List ℕ
other_octets r = if is_short r then short_octets r else long_octets r

-- the numbers in the fewest octets
unfoldable pub numbers_octets : RecordParts → List ℕ
numbers_octets r = if is_usual r then usual_octets r else other_octets r

-- the numbers of a record as it is added: if it is usual, and if it is not
abbrev pub usual_numbers : GroupEntry → List ℕ
usual_numbers added = usual_octets (record_parts added)

abbrev pub other_numbers : GroupEntry → List ℕ
other_numbers added = other_octets (record_parts added)

-- the numbers, and the RDATA after their length
unfoldable pub parts_octets : RecordParts → List ℕ
parts_octets r = numbers_octets r ++ counted_octets r.rdata

-- octets begin with a record whose numbers take 6 octets, 11, or 21
abbrev pub begins_usual : List ℕ → Bool
begins_usual octets = nat_lt 5 (length octets) && nat_lt (get_or octets 0 0) 253

abbrev pub begins_short : List ℕ → Bool
begins_short octets = nat_lt 10 (length octets) && (get_or octets 0 0 == 253)

abbrev pub begins_long : List ℕ → Bool
begins_long octets = nat_lt 20 (length octets) && (get_or octets 0 0 == 254)

abbrev pub begins_other : List ℕ → Bool
begins_other octets = begins_short octets || begins_long octets

abbrev pub begins_parts : List ℕ → Bool
begins_parts octets = begins_usual octets || begins_other octets

-- the record that octets begin with
abbrev pub usual_at : List ℕ → ℕ → ℕ
usual_at octets i = get_or (take 6 octets) i 0

abbrev pub first_usual : List ℕ → RecordParts
first_usual octets = record {
  code = usual_at octets 0;
  class = internet;
  ttl = get_or usual_ttls (usual_at octets 1 % 16) 0;
  file = 0;
  offset = usual_at octets 1 / 16 * 2 ^ 32 + from_be_bytes w32 (usual_at octets 2 ∷ usual_at octets 3 ∷ usual_at octets 4 ∷ usual_at octets 5 ∷ []);
  rdata = first_counted (drop 6 octets);
}

abbrev pub short_at : List ℕ → ℕ → ℕ
short_at octets i = get_or (take 11 octets) i 0

abbrev pub first_short : List ℕ → RecordParts
first_short octets = record {
  code = short_at octets 1;
  class = internet;
  ttl = from_be_bytes w32 (short_at octets 3 ∷ short_at octets 4 ∷ short_at octets 5 ∷ short_at octets 6 ∷ []);
  file = short_at octets 2;
  offset = from_be_bytes w32 (short_at octets 7 ∷ short_at octets 8 ∷ short_at octets 9 ∷ short_at octets 10 ∷ []);
  rdata = first_counted (drop 11 octets);
}

abbrev pub long_at : List ℕ → ℕ → ℕ
long_at octets i = get_or (take 21 octets) i 0

abbrev pub first_whole : List ℕ → RecordParts
first_whole octets = record {
  code = from_be_bytes w16 (long_at octets 1 ∷ long_at octets 2 ∷ []);
  class = from_be_bytes w16 (long_at octets 3 ∷ long_at octets 4 ∷ []);
  ttl = from_be_bytes w32 (long_at octets 5 ∷ long_at octets 6 ∷ long_at octets 7 ∷ long_at octets 8 ∷ []);
  file = from_be_bytes w32 (long_at octets 9 ∷ long_at octets 10 ∷ long_at octets 11 ∷ long_at octets 12 ∷ []);
  offset = from_be_bytes w64 (long_at octets 13 ∷ long_at octets 14 ∷ long_at octets 15 ∷ long_at octets 16 ∷ long_at octets 17 ∷ long_at octets 18 ∷ long_at octets 19 ∷ long_at octets 20 ∷ []);
  rdata = first_counted (drop 21 octets);
}

abbrev pub first_other : List ℕ → RecordParts
first_other octets = if begins_short octets then first_short octets else first_whole octets

abbrev pub first_parts : List ℕ → RecordParts
first_parts octets = if begins_usual octets then first_usual octets else first_other octets

-- the octets after that record
abbrev pub after_other : List ℕ → List ℕ
after_other octets = if begins_short octets then after_counted (drop 11 octets) else after_counted (drop 21 octets)

abbrev pub after_parts : List ℕ → List ℕ
after_parts octets = if begins_usual octets then after_counted (drop 6 octets) else after_other octets

-- the records that octets begin with, at most `n`
unfoldable pub all_parts : ℕ → List ℕ → List RecordParts
all_parts zero octets = []
all_parts (suc n) octets = if begins_parts octets then first_parts octets ∷ all_parts n (after_parts octets) else []

-- the records that octets begin with
abbrev pub parts_in : List ℕ → List RecordParts
parts_in octets = all_parts (length octets) octets
