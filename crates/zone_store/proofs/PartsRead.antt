-- Octets of records are read back as the records.
use Rattle.std.proofs.Common.{ℕ, zero, suc, ◌≡◌, ◌^◌, ◌<◌, ◌≤◌, List, [], ◌∷◌, ◌++◌, length, take, drop, refl, sym, ap, ◌∙◌, arith, append_assoc, length-drop, subst, get_or, ◌+◌, ◌*◌, ◌/◌, ◌%◌}
use Rattle.std.specs.Prelude.{All, Bool, true, false, if◌then◌else◌, nat_lt, ◌==◌, ◌||◌}
use Rattle.std.specs.Int.{from_be_bytes, to_be_bytes, w16, w32}
use Rattle.std.specs.List.{flat_map}
use Rattle.std.proofs.lemmas.Bool.Decides.{nat_tests}
use Rattle.std.proofs.lemmas.List.{take_at, drop_at}
use Rattle.std.proofs.lemmas.List.Elements.{All-head, All-tail}
use Rattle.std.proofs.lemmas.Nat.{from_be_bytes-to_be_bytes_2, from_be_bytes-to_be_bytes_4, from_be_bytes-to_be_bytes_8}
use Rattle.zone_store.specs.Counted.{counted_octets, first_counted, after_counted}
use Rattle.zone_store.specs.Parts.{RecordParts, PartsFit, parts_octets, numbers_octets, is_short, short_octets, long_octets, octets16, octets32, octets64, usual_ttls, index_of, is_usual, usual_octets, other_octets, begins_usual, first_usual, begins_other, first_other, after_other, begins_short, begins_long, first_short, first_whole, begins_parts, first_parts, after_parts, all_parts, parts_in}

-- octets after their length are read back
counted_by : (part more : List ℕ) → length part < 2 ^ 16 → (b : Bool) → nat_lt (length part) 255 ≡ b
    → (first_counted (((if b then length part ∷ [] else 255 ∷ to_be_bytes w16 (length part)) ++ part) ++ more) ≡ part)
    × (after_counted (((if b then length part ∷ [] else 255 ∷ to_be_bytes w16 (length part)) ++ part) ++ more) ≡ more)
counted_by part more h true e = (rw e (take_at part more (length part) refl), rw e (drop_at part more (length part) refl))
counted_by part more h false e =
    let long : from_be_bytes w16 (to_be_bytes w16 (length part)) ≡ length part = from_be_bytes-to_be_bytes_2 (length part) h in
    (ap (λ n. take n (part ++ more)) long ∙ take_at part more (length part) refl, ap (λ n. drop n (part ++ more)) long ∙ drop_at part more (length part) refl)

pub counted_first : (part more : List ℕ) → length part < 2 ^ 16 → first_counted (counted_octets part ++ more) ≡ part
counted_first part more h = (counted_by part more h (nat_lt (length part) 255) refl).0

pub counted_after : (part more : List ℕ) → length part < 2 ^ 16 → after_counted (counted_octets part ++ more) ≡ more
counted_after part more h = (counted_by part more h (nat_lt (length part) 255) refl).1

-- a record among octets is read back
short_facts : (r : RecordParts) → is_short r ≡ true → (1 ≡ r.class) × (r.offset < 2 ^ 32)
short_facts r e = (Prim.grind (arith, nat_tests), Prim.grind (arith, nat_tests))

abbrev octets_by : Bool → RecordParts → List ℕ
octets_by short r = (if short then short_octets r else long_octets r) ++ counted_octets r.rdata

short_begins : (r : RecordParts) (more : List ℕ) → begins_short (octets_by true r ++ more) ≡ true
unfolding octets32
short_begins r more = Prim.grind (arith, nat_tests)

long_begins : (r : RecordParts) (more : List ℕ) → begins_long (octets_by false r ++ more) ≡ true
unfolding octets16 octets32 octets64
long_begins r more = Prim.grind (arith, nat_tests)

not_short : (r : RecordParts) (more : List ℕ) → begins_short (octets_by false r ++ more) ≡ false
unfolding octets16 octets32 octets64
not_short r more = Prim.grind (arith, nat_tests)

short_first : (r : RecordParts) (more : List ℕ) → PartsFit r → is_short r ≡ true → first_short (octets_by true r ++ more) ≡ r
unfolding octets32
short_first r more h e = λ i. record {
  code = r.code;
  class = (short_facts r e).0 i;
  ttl = from_be_bytes-to_be_bytes_4 r.ttl h.ttl i;
  file = r.file;
  offset = from_be_bytes-to_be_bytes_4 r.offset (short_facts r e).1 i;
  rdata = counted_first r.rdata more h.rdata i;
}

long_first : (r : RecordParts) (more : List ℕ) → PartsFit r → first_whole (octets_by false r ++ more) ≡ r
unfolding octets16 octets32 octets64
long_first r more h = λ i. record {
  code = from_be_bytes-to_be_bytes_2 r.code h.code i;
  class = from_be_bytes-to_be_bytes_2 r.class h.class i;
  ttl = from_be_bytes-to_be_bytes_4 r.ttl h.ttl i;
  file = from_be_bytes-to_be_bytes_4 r.file h.file i;
  offset = from_be_bytes-to_be_bytes_8 r.offset h.offset i;
  rdata = counted_first r.rdata more h.rdata i;
}

short_after : (r : RecordParts) (more : List ℕ) → PartsFit r → after_counted (drop 11 (octets_by true r ++ more)) ≡ more
unfolding octets32
short_after r more h = counted_after r.rdata more h.rdata

long_after : (r : RecordParts) (more : List ℕ) → PartsFit r → after_counted (drop 21 (octets_by false r ++ more)) ≡ more
unfolding octets16 octets32 octets64
long_after r more h = counted_after r.rdata more h.rdata

begin_by : (b : Bool) (r : RecordParts) (more : List ℕ) → begins_other (octets_by b r ++ more) ≡ true
begin_by true r more = ap (λ a. a || begins_long (octets_by true r ++ more)) (short_begins r more)
begin_by false r more = (λ i. not_short r more i || long_begins r more i)

first_by : (b : Bool) (r : RecordParts) (more : List ℕ) → PartsFit r → is_short r ≡ b → first_other (octets_by b r ++ more) ≡ r
first_by true r more h e =
    ap (λ a. if a then first_short (octets_by true r ++ more) else first_whole (octets_by true r ++ more)) (short_begins r more) ∙ short_first r more h e
first_by false r more h e =
    ap (λ a. if a then first_short (octets_by false r ++ more) else first_whole (octets_by false r ++ more)) (not_short r more) ∙ long_first r more h

after_by : (b : Bool) (r : RecordParts) (more : List ℕ) → PartsFit r → after_other (octets_by b r ++ more) ≡ more
after_by true r more h =
    ap (λ a. if a then after_counted (drop 11 (octets_by true r ++ more)) else after_counted (drop 21 (octets_by true r ++ more))) (short_begins r more) ∙ short_after r more h
after_by false r more h =
    ap (λ a. if a then after_counted (drop 11 (octets_by false r ++ more)) else after_counted (drop 21 (octets_by false r ++ more))) (not_short r more) ∙ long_after r more h

long_by : (b : Bool) (r : RecordParts) → 1 ≤ length (octets_by b r)
unfolding octets16 octets32 octets64
long_by true r = omega arith
long_by false r = omega arith

-- a usual record
abbrev usual_by : RecordParts → List ℕ
usual_by r = usual_octets r ++ counted_octets r.rdata

-- a TTL whose index is that of one of the list is the one at that index
indexed : (n : ℕ) (xs : List ℕ) → index_of n xs < length xs → get_or xs (index_of n xs) 0 ≡ n
indexed n [] h = absurd (omega (arith, h))
indexed n (x ∷ xs) h = by (n == x) refl (indexed n xs)
  where
    by : (b : Bool) → (n == x) ≡ b → (index_of n xs < length xs → get_or xs (index_of n xs) 0 ≡ n) → get_or (x ∷ xs) (if n == x then 0 else suc (index_of n xs)) 0 ≡ n
    by true e more = rw e (Prim.grind (arith, nat_tests))
    by false e more = rw e (more (omega (arith, subst (λ (c : Bool). (if c then 0 else suc (index_of n xs)) < suc (length xs)) e h)))

usual_facts : (r : RecordParts) → is_usual r ≡ true → (r.code < 253) × (index_of r.ttl usual_ttls < 16) × (r.offset < 2 ^ 36) × (0 ≡ r.file) × (1 ≡ r.class)
usual_facts r e = (Prim.grind (arith, nat_tests), Prim.grind (arith, nat_tests), Prim.grind (arith, nat_tests), Prim.grind (arith, nat_tests), Prim.grind (arith, nat_tests))

usual_begins : (r : RecordParts) (more : List ℕ) → r.code < 253 → begins_usual (usual_by r ++ more) ≡ true
unfolding octets32
usual_begins r more h = Prim.grind (arith, nat_tests)

other_not_usual : (b : Bool) (r : RecordParts) (more : List ℕ) → begins_usual (octets_by b r ++ more) ≡ false
unfolding octets16 octets32 octets64
other_not_usual true r more = Prim.grind (arith, nat_tests)
other_not_usual false r more = Prim.grind (arith, nat_tests)

usual_first : (r : RecordParts) (more : List ℕ) → PartsFit r → is_usual r ≡ true → first_usual (usual_by r ++ more) ≡ r
unfolding octets32
usual_first r more h e =
    let facts : (r.code < 253) × (index_of r.ttl usual_ttls < 16) × (r.offset < 2 ^ 36) × (0 ≡ r.file) × (1 ≡ r.class) = usual_facts r e in
    let index : ℕ = index_of r.ttl usual_ttls in
    let low : (index + 16 * (r.offset / 2 ^ 32)) % 16 ≡ index = omega (arith, facts.1) in
    let high : (index + 16 * (r.offset / 2 ^ 32)) / 16 ≡ r.offset / 2 ^ 32 = omega (arith, facts.1) in
    let less : r.offset % 2 ^ 32 < 2 ^ 32 = omega arith in
    let whole : r.offset / 2 ^ 32 * 2 ^ 32 + r.offset % 2 ^ 32 ≡ r.offset = omega arith in
    let lower : from_be_bytes w32 (to_be_bytes w32 (r.offset % 2 ^ 32)) ≡ r.offset % 2 ^ 32 = from_be_bytes-to_be_bytes_4 (r.offset % 2 ^ 32) less in
    λ i. record {
      code = r.code;
      class = facts.4 i;
      ttl = (ap (λ n. get_or usual_ttls n 0) low ∙ indexed r.ttl usual_ttls facts.1) i;
      file = facts.3 i;
      offset = ((λ j. high j * 2 ^ 32 + lower j) ∙ whole) i;
      rdata = counted_first r.rdata more h.rdata i;
    }

usual_after : (r : RecordParts) (more : List ℕ) → PartsFit r → after_counted (drop 6 (usual_by r ++ more)) ≡ more
unfolding octets32
usual_after r more h = counted_after r.rdata more h.rdata

usual_long : (r : RecordParts) → 1 ≤ length (usual_by r)
unfolding octets32
usual_long r = omega arith

-- any record
abbrev any_by : Bool → RecordParts → List ℕ
any_by b r = (if b then usual_octets r else other_octets r) ++ counted_octets r.rdata

any_begins : (b : Bool) (r : RecordParts) (more : List ℕ) → is_usual r ≡ b → begins_parts (any_by b r ++ more) ≡ true
any_begins true r more e = ap (λ a. a || begins_other (usual_by r ++ more)) (usual_begins r more (usual_facts r e).0)
any_begins false r more e = (λ i. other_not_usual (is_short r) r more i || begin_by (is_short r) r more i)

any_first : (b : Bool) (r : RecordParts) (more : List ℕ) → PartsFit r → is_usual r ≡ b → first_parts (any_by b r ++ more) ≡ r
any_first true r more h e =
    ap (λ a. if a then first_usual (usual_by r ++ more) else first_other (usual_by r ++ more)) (usual_begins r more (usual_facts r e).0) ∙ usual_first r more h e
any_first false r more h e =
    ap (λ a. if a then first_usual (any_by false r ++ more) else first_other (any_by false r ++ more)) (other_not_usual (is_short r) r more) ∙ first_by (is_short r) r more h refl

any_after : (b : Bool) (r : RecordParts) (more : List ℕ) → PartsFit r → is_usual r ≡ b → after_parts (any_by b r ++ more) ≡ more
any_after true r more h e =
    ap (λ a. if a then after_counted (drop 6 (usual_by r ++ more)) else after_other (usual_by r ++ more)) (usual_begins r more (usual_facts r e).0) ∙ usual_after r more h
any_after false r more h e =
    ap (λ a. if a then after_counted (drop 6 (any_by false r ++ more)) else after_other (any_by false r ++ more)) (other_not_usual (is_short r) r more) ∙ after_by (is_short r) r more h

any_long : (b : Bool) (r : RecordParts) → 1 ≤ length (any_by b r)
any_long true r = usual_long r
any_long false r = long_by (is_short r) r

pub parts_begin : (r : RecordParts) (more : List ℕ) → begins_parts (parts_octets r ++ more) ≡ true
unfolding parts_octets numbers_octets
parts_begin r more = any_begins (is_usual r) r more refl

pub parts_first : (r : RecordParts) (more : List ℕ) → PartsFit r → first_parts (parts_octets r ++ more) ≡ r
unfolding parts_octets numbers_octets
parts_first r more h = any_first (is_usual r) r more h refl

pub parts_after : (r : RecordParts) (more : List ℕ) → PartsFit r → after_parts (parts_octets r ++ more) ≡ more
unfolding parts_octets numbers_octets
parts_after r more h = any_after (is_usual r) r more h refl

pub parts_long : (r : RecordParts) → 1 ≤ length (parts_octets r)
unfolding parts_octets numbers_octets
parts_long r = any_long (is_usual r) r

-- records one after another, up to what begins with none
pub parts_all : (n : ℕ) (rs : List RecordParts) (rest : List ℕ) → All PartsFit rs → begins_parts rest ≡ false → length rs ≤ n → all_parts n (flat_map parts_octets rs ++ rest) ≡ rs
unfolding all_parts
parts_all zero [] rest h stop long = refl
parts_all zero (r ∷ rs) rest h stop long = absurd (omega (arith, long))
parts_all (suc n) [] rest h stop long = rw stop refl
parts_all (suc n) (r ∷ rs) rest h stop long =
    let more = flat_map parts_octets rs ++ rest in
    ap (all_parts (suc n)) (append_assoc (parts_octets r) (flat_map parts_octets rs) rest)
    ∙ rw (parts_begin r more) (λ i. parts_first r more (All-head PartsFit r rs h) i ∷ (ap (all_parts n) (parts_after r more (All-head PartsFit r rs h)) ∙ parts_all n rs rest (All-tail PartsFit r rs h) stop (omega (arith, long))) i)

after_short : (xs : List ℕ) → length (after_counted xs) ≤ length xs
after_short [] = omega arith
after_short (count ∷ rest) = by (nat_lt count 255)
  where
    by : (b : Bool) → length (if b then drop count rest else drop (from_be_bytes w16 (take 2 rest)) (drop 2 rest)) ≤ length (count ∷ rest)
    by true = omega (arith, length-drop count rest)
    by false = omega (arith, length-drop (from_be_bytes w16 (take 2 rest)) (drop 2 rest), length-drop 2 rest)

whole_less : (octets : List ℕ) → begins_short octets ≡ false → begins_other octets ≡ true → 20 < length octets
whole_less octets e h = Prim.grind (arith, nat_tests)

short_less : (octets : List ℕ) → begins_short octets ≡ true → 10 < length octets
short_less octets e = Prim.grind (arith, nat_tests)

usual_less : (octets : List ℕ) → begins_usual octets ≡ true → 5 < length octets
usual_less octets e = Prim.grind (arith, nat_tests)

other_less : (octets : List ℕ) → begins_other octets ≡ true → length (after_other octets) < length octets
other_less octets h = by (begins_short octets) refl
  where
    by : (b : Bool) → begins_short octets ≡ b → length (if b then after_counted (drop 11 octets) else after_counted (drop 21 octets)) < length octets
    by true e = omega (arith, short_less octets e, after_short (drop 11 octets), length-drop 11 octets)
    by false e = omega (arith, whole_less octets e h, after_short (drop 21 octets), length-drop 21 octets)

after_less : (octets : List ℕ) → begins_parts octets ≡ true → length (after_parts octets) < length octets
after_less octets h = by (begins_usual octets) refl
  where
    by : (b : Bool) → begins_usual octets ≡ b → length (if b then after_counted (drop 6 octets) else after_other octets) < length octets
    by true e = omega (arith, usual_less octets e, after_short (drop 6 octets), length-drop 6 octets)
    by false e = other_less octets (sym (ap (λ a. a || begins_other octets) e) ∙ h)

no_octets : begins_parts [] ≡ false
no_octets = refl

-- more steps than octets find no more
enough : (n m : ℕ) (octets : List ℕ) → length octets ≤ n → length octets ≤ m → all_parts n octets ≡ all_parts m octets
unfolding all_parts
enough zero zero octets h k = refl
enough zero (suc m) octets h k = by (begins_parts octets) refl
  where
    by : (b : Bool) → begins_parts octets ≡ b → [] ≡ (if begins_parts octets then first_parts octets ∷ all_parts m (after_parts octets) else [])
    by true e = absurd (omega (arith, after_less octets e, h))
    by false e = rw e refl
enough (suc n) zero octets h k = by (begins_parts octets) refl
  where
    by : (b : Bool) → begins_parts octets ≡ b → (if begins_parts octets then first_parts octets ∷ all_parts n (after_parts octets) else []) ≡ []
    by true e = absurd (omega (arith, after_less octets e, k))
    by false e = rw e refl
enough (suc n) (suc m) octets h k = by (λ less. enough n m (after_parts octets) (omega (arith, less, h)) (omega (arith, less, k))) (begins_parts octets) refl
  where
    by : (length (after_parts octets) < length octets → all_parts n (after_parts octets) ≡ all_parts m (after_parts octets)) → (b : Bool) → begins_parts octets ≡ b
        → (if begins_parts octets then first_parts octets ∷ all_parts n (after_parts octets) else []) ≡ (if begins_parts octets then first_parts octets ∷ all_parts m (after_parts octets) else [])
    by more true e = rw e (ap (λ rs. first_parts octets ∷ rs) (more (after_less octets e)))
    by more false e = rw e refl

one_more : (octets : List ℕ) → begins_parts octets ≡ true → all_parts (suc (length octets)) octets ≡ first_parts octets ∷ parts_in (after_parts octets)
unfolding all_parts
one_more octets h =
    rw h (ap (λ rs. first_parts octets ∷ rs) (enough (length octets) (length (after_parts octets)) (after_parts octets) (omega (arith, after_less octets h)) (omega arith)))

no_more : (octets : List ℕ) → begins_parts octets ≡ false → all_parts (suc (length octets)) octets ≡ []
unfolding all_parts
no_more octets h = rw h refl

pub parts_more : (octets : List ℕ) → begins_parts octets ≡ true → parts_in octets ≡ first_parts octets ∷ parts_in (after_parts octets)
parts_more octets h = enough (length octets) (suc (length octets)) octets (omega arith) (omega arith) ∙ one_more octets h

pub parts_none : (octets : List ℕ) → begins_parts octets ≡ false → parts_in octets ≡ []
parts_none octets h = enough (length octets) (suc (length octets)) octets (omega arith) (omega arith) ∙ no_more octets h
