-- Worked examples: entries, and what they mean.
use Rattle.std.proofs.Common.{ℕ, false, List, [], ◌∷◌, inl, inr, Some, None, Ok, Err, refl, arith}
use Rattle.std.specs.Prelude.{codes}
use Rattle.std.proofs.lemmas.List.Elements.{All-nil, All-cons}
use Rattle.rdata_fields.specs.RecordErrors.{error_at}
use Rattle.rdata_values.specs.Rtype as Rtype
use Rattle.rdata_values.specs.Ttl.{Period, IsPeriod}
use Rattle.rdata_values.specs.Types.{type_rows}
use Rattle.rdata_values.specs.declared.error.ErrorKind.TheVariants.{UnknownType}
use Rattle.dns_lexer.specs.EntryTokens.{TokenSeen}
use Rattle.zone_reader.specs.EntryMeanings.{EntryMeans, says_default_ttl, says_record}
use Rattle.zone_reader.specs.HeaderWords.{TokenIsTtl, TokenIsClass, TokenIsType}
use Rattle.zone_reader.specs.Headers.{ParsesTtlAndClass}
use Rattle.zone_reader.proofs.WordLemmas.{apart}

-- a word at an offset
abbrev word_at : List ℕ → ℕ → TokenSeen
word_at text at = record { text = text; is_quoted = false; is_adjacent = false; at = at }

abbrev hour : Period
hour = record { digits = codes "1"; letter = 104; unit = 3600 }

abbrev thirty_minutes : Period
thirty_minutes = record { digits = codes "30"; letter = 109; unit = 60 }

hour_is : IsPeriod hour
hour_is = ((omega arith, (omega arith, tt)), refl)

thirty_minutes_are : IsPeriod thirty_minutes
thirty_minutes_are = ((omega arith, (omega arith, (omega arith, tt))), refl)

one_hour : (at : ℕ) → TokenIsTtl (word_at (codes "1h") at) 3600
one_hour at = (refl, (3600, ((omega arith, inr (record { periods = hour ∷ []; each = All-cons IsPeriod hour [] hour_is (All-nil IsPeriod); written = refl; value = refl })), omega arith), refl))

hour_and_half : (at : ℕ) → TokenIsTtl (word_at (codes "1h30m") at) 5400
hour_and_half at = (
  refl,
  (
    5400,
    (
      (
        omega arith,
        inr (record {
          periods = hour ∷ thirty_minutes ∷ [];
          each = All-cons IsPeriod hour (thirty_minutes ∷ []) hour_is (All-cons IsPeriod thirty_minutes [] thirty_minutes_are (All-nil IsPeriod));
          written = refl;
          value = refl;
        }),
      ),
      omega arith,
    ),
    refl,
  ),
)

five : (at : ℕ) → TokenIsTtl (word_at (codes "5") at) 5
five at = (refl, (5, ((omega arith, inl ((omega arith, (omega arith, tt)), refl)), omega arith), refl))

six : (at : ℕ) → TokenIsTtl (word_at (codes "6") at) 6
six at = (refl, (6, ((omega arith, inl ((omega arith, (omega arith, tt)), refl)), omega arith), refl))

internet : (at : ℕ) → TokenIsClass (word_at (codes "IN") at) 1
internet at = (refl, refl)

address : (at : ℕ) → TokenIsType (word_at (codes "A") at) Rtype.a
unfolding type_rows
address at = (refl, refl)

-- w 1h30m A
units_row : let w = word_at (codes "w") 0 in EntryMeans false 9 (w ∷ word_at (codes "1h30m") 2 ∷ word_at (codes "A") 8 ∷ []) (says_record (Some w) (Ok (record { ttl = Some 5400; class = None; rtype = Rtype.a })) [])
units_row =
    let t = word_at (codes "1h30m") 2 in
    let a = word_at (codes "A") 8 in
    let head : ParsesTtlAndClass TokenIsTtl TokenIsClass (t ∷ a ∷ []) (Some 5400) None (a ∷ []) = record {
      head = t ∷ [];
      whole = refl;
      is = record { front = t ∷ []; back = []; whole = refl; order = inl (hour_and_half 2, refl) };
      ends = (λ e. cc, λ e n h. apart.class_and_type a n Rtype.a h (address 8));
    } in
    (Ok (record { ttl = Some 5400; class = None; rtype = Rtype.a }), [], (a, head, address 8), refl)

-- 60 IN A: the owner is 60
owner_row : let owner = word_at (codes "60") 0 in EntryMeans false 7 (owner ∷ word_at (codes "IN") 3 ∷ word_at (codes "A") 6 ∷ []) (says_record (Some owner) (Ok (record { ttl = None; class = Some 1; rtype = Rtype.a })) [])
owner_row =
    let c = word_at (codes "IN") 3 in
    let a = word_at (codes "A") 6 in
    let head : ParsesTtlAndClass TokenIsTtl TokenIsClass (c ∷ a ∷ []) None (Some 1) (a ∷ []) = record {
      head = c ∷ [];
      whole = refl;
      is = record { front = []; back = c ∷ []; whole = refl; order = inl (refl, internet 3) };
      ends = (λ e n h. apart.ttl_and_type a n Rtype.a h (address 6), λ e. cc);
    } in
    (Ok (record { ttl = None; class = Some 1; rtype = Rtype.a }), [], (a, head, address 6), refl)

-- w IN 5 A
class_first_row : let w = word_at (codes "w") 0 in EntryMeans false 8 (w ∷ word_at (codes "IN") 2 ∷ word_at (codes "5") 5 ∷ word_at (codes "A") 7 ∷ []) (says_record (Some w) (Ok (record { ttl = Some 5; class = Some 1; rtype = Rtype.a })) [])
class_first_row =
    let c = word_at (codes "IN") 2 in
    let t = word_at (codes "5") 5 in
    let a = word_at (codes "A") 7 in
    let head : ParsesTtlAndClass TokenIsTtl TokenIsClass (c ∷ t ∷ a ∷ []) (Some 5) (Some 1) (a ∷ []) = record {
      head = c ∷ t ∷ [];
      whole = refl;
      is = record { front = c ∷ []; back = t ∷ []; whole = refl; order = inr (internet 2, five 5) };
      ends = (λ e. cc, λ e. cc);
    } in
    (Ok (record { ttl = Some 5; class = Some 1; rtype = Rtype.a }), [], (a, head, address 7), refl)

-- w 5 IN 6 A: the second TTL is an unknown type
second_ttl_row : let w = word_at (codes "w") 0 in let six = word_at (codes "6") 7 in let a = word_at (codes "A") 9 in
    EntryMeans false 10 (w ∷ word_at (codes "5") 2 ∷ word_at (codes "IN") 4 ∷ six ∷ a ∷ []) (says_record (Some w) (Err (record { error = error_at 7 UnknownType; ttl = Some 5; class = Some 1 })) (six ∷ a ∷ []))
second_ttl_row =
    let t = word_at (codes "5") 2 in
    let c = word_at (codes "IN") 4 in
    let u = word_at (codes "6") 7 in
    let a = word_at (codes "A") 9 in
    let head : ParsesTtlAndClass TokenIsTtl TokenIsClass (t ∷ c ∷ u ∷ a ∷ []) (Some 5) (Some 1) (u ∷ a ∷ []) = record {
      head = t ∷ c ∷ [];
      whole = refl;
      is = record { front = t ∷ []; back = c ∷ []; whole = refl; order = inl (five 2, internet 4) };
      ends = (λ e. cc, λ e. cc);
    } in
    (Err (record { error = error_at 7 UnknownType; ttl = Some 5; class = Some 1 }), u ∷ a ∷ [], (head, refl, (refl, λ rtype h. apart.ttl_and_type u 6 rtype (six 7) h)), refl)

-- $ttl 1h
default_ttl_row : EntryMeans false 7 (word_at (codes "$ttl") 0 ∷ word_at (codes "1h") 5 ∷ []) (says_default_ttl (Ok 3600))
default_ttl_row = (Ok 3600, [], ((word_at (codes "1h") 5, refl, one_hour 5), refl), refl)
