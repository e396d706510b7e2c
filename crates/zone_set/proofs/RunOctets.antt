-- The octets of a run are those of exactly one record and one rest.
use Rattle.std.proofs.Common.{ℕ, zero, suc, ◌≡◌, ◌<◌, ◌≤◌, ◌^◌, List, [], ◌∷◌, ◌++◌, length, take, drop, get_or, refl, sym, ap, ◌∙◌, arith, append_assoc}
use Rattle.std.specs.Int.{from_be_bytes, to_be_bytes, w16, w32}
use Rattle.std.proofs.lemmas.Nat.{be_bytes_2, be_bytes_4, from_be_bytes-to_be_bytes_2, from_be_bytes-to_be_bytes_4}
use Rattle.zone_record.specs.Records.{data_of}
use Rattle.zone_record.specs.RecordLaws.{AreRecordValues}
use Rattle.zone_record.specs.declared.record.Record.{Record}
use Rattle.dns_wire.specs.Labelled.{append_same, wire_same}
use Rattle.dns_wire.specs.Wire.{wire}
use Rattle.dns_wire.proofs.Wires.{length_wire}
use Rattle.zone_set.specs.Runs.{IsSameRecord, length_prefixed, run_octets}

small2 : (a b : ℕ) (more : List ℕ) → ((k : ℕ) → get_or (a ∷ b ∷ more) k 0 < 256) → (k : ℕ) → get_or (a ∷ b ∷ []) k 0 < 256
small2 a b more small zero = small 0
small2 a b more small (suc zero) = small 1
small2 a b more small (suc (suc k)) = omega arith

-- the number with which octets begin, as octets
pub number16_front : (octets front rest : List ℕ) (n : ℕ) → ((k : ℕ) → get_or octets k 0 < 256) → 2 ≤ length octets → front ≡ take 2 octets → rest ≡ drop 2 octets → n ≡ from_be_bytes w16 front
    → octets ≡ to_be_bytes w16 n ++ rest
number16_front [] front rest n small long f r e = absurd (omega (arith, long))
number16_front (a ∷ []) front rest n small long f r e = absurd (omega (arith, long))
number16_front (a ∷ b ∷ more) front rest n small long f r e =
    let same = be_bytes_2 (a ∷ b ∷ []) n refl (small2 a b more small) (e ∙ ap (from_be_bytes w16) f) in
    λ i. sym same i ++ sym r i

small4 : (a b c d : ℕ) (more : List ℕ) → ((k : ℕ) → get_or (a ∷ b ∷ c ∷ d ∷ more) k 0 < 256) → (k : ℕ) → get_or (a ∷ b ∷ c ∷ d ∷ []) k 0 < 256
small4 a b c d more small zero = small 0
small4 a b c d more small (suc zero) = small 1
small4 a b c d more small (suc (suc zero)) = small 2
small4 a b c d more small (suc (suc (suc zero))) = small 3
small4 a b c d more small (suc (suc (suc (suc k)))) = omega arith

pub number32_front : (octets front rest : List ℕ) (n : ℕ) → ((k : ℕ) → get_or octets k 0 < 256) → 4 ≤ length octets → front ≡ take 4 octets → rest ≡ drop 4 octets → n ≡ from_be_bytes w32 front
    → octets ≡ to_be_bytes w32 n ++ rest
number32_front [] front rest n small long f r e = absurd (omega (arith, long))
number32_front (a ∷ []) front rest n small long f r e = absurd (omega (arith, long))
number32_front (a ∷ b ∷ []) front rest n small long f r e = absurd (omega (arith, long))
number32_front (a ∷ b ∷ c ∷ []) front rest n small long f r e = absurd (omega (arith, long))
number32_front (a ∷ b ∷ c ∷ d ∷ more) front rest n small long f r e =
    let same = be_bytes_4 (a ∷ b ∷ c ∷ d ∷ []) n refl (small4 a b c d more small) (e ∙ ap (from_be_bytes w32) f) in
    λ i. sym same i ++ sym r i

number16_same : (m n : ℕ) (xs ys : List ℕ) → m < 2 ^ 16 → n < 2 ^ 16 → to_be_bytes w16 m ++ xs ≡ to_be_bytes w16 n ++ ys → (m ≡ n) × (xs ≡ ys)
number16_same m n xs ys p q h =
    let parts = append_same (to_be_bytes w16 m) (to_be_bytes w16 n) xs ys refl h in
    (sym (from_be_bytes-to_be_bytes_2 m p) ∙ ap (from_be_bytes w16) parts.0 ∙ from_be_bytes-to_be_bytes_2 n q, parts.1)

number32_same : (m n : ℕ) (xs ys : List ℕ) → m < 2 ^ 32 → n < 2 ^ 32 → to_be_bytes w32 m ++ xs ≡ to_be_bytes w32 n ++ ys → (m ≡ n) × (xs ≡ ys)
number32_same m n xs ys p q h =
    let parts = append_same (to_be_bytes w32 m) (to_be_bytes w32 n) xs ys refl h in
    (sym (from_be_bytes-to_be_bytes_4 m p) ∙ ap (from_be_bytes w32) parts.0 ∙ from_be_bytes-to_be_bytes_4 n q, parts.1)

counted_same : (a b xs ys : List ℕ) → length a < 2 ^ 16 → length b < 2 ^ 16 → length_prefixed a ++ xs ≡ length_prefixed b ++ ys → (a ≡ b) × (xs ≡ ys)
counted_same a b xs ys p q h =
    let numbers =
    number16_same (length a) (length b) (a ++ xs) (b ++ ys) p q
    (sym (append_assoc (to_be_bytes w16 (length a)) a xs) ∙ h ∙ append_assoc (to_be_bytes w16 (length b)) b ys) in
    append_same a b xs ys numbers.0 numbers.1

five : (a b c d e xs : List ℕ) → (a ++ b ++ c ++ d ++ e) ++ xs ≡ a ++ (b ++ (c ++ (d ++ (e ++ xs))))
five a b c d e xs =
    append_assoc (a ++ b ++ c ++ d) e xs ∙ append_assoc (a ++ b ++ c) d (e ++ xs) ∙ append_assoc (a ++ b) c (d ++ (e ++ xs)) ∙ append_assoc a b (c ++ (d ++ (e ++ xs)))

module _ {N O M P : Type 0} where
  -- only one record has these octets, whatever follows them
  pub run_octets_same : (a : Record N O) (b : Record M P) (xs ys : List ℕ) → AreRecordValues a → AreRecordValues b → a.ttl < 2 ^ 32 → b.ttl < 2 ^ 32
      → run_octets a ++ xs ≡ run_octets b ++ ys → IsSameRecord a b × (xs ≡ ys)
  run_octets_same a b xs ys p q few few' h =
      let ttls =
      number32_same a.ttl b.ttl
      (to_be_bytes w16 a.class ++ (to_be_bytes w16 (data_of a).rtype ++ (length_prefixed (wire a.owner) ++ (length_prefixed (data_of a).octets ++ xs))))
      (to_be_bytes w16 b.class ++ (to_be_bytes w16 (data_of b).rtype ++ (length_prefixed (wire b.owner) ++ (length_prefixed (data_of b).octets ++ ys)))) few few'
      (sym (five (to_be_bytes w32 a.ttl) (to_be_bytes w16 a.class) (to_be_bytes w16 (data_of a).rtype) (length_prefixed (wire a.owner)) (length_prefixed (data_of a).octets) xs) ∙ h
      ∙ five (to_be_bytes w32 b.ttl) (to_be_bytes w16 b.class) (to_be_bytes w16 (data_of b).rtype) (length_prefixed (wire b.owner)) (length_prefixed (data_of b).octets) ys) in
      let classes =
      number16_same a.class b.class (to_be_bytes w16 (data_of a).rtype ++ (length_prefixed (wire a.owner) ++ (length_prefixed (data_of a).octets ++ xs)))
      (to_be_bytes w16 (data_of b).rtype ++ (length_prefixed (wire b.owner) ++ (length_prefixed (data_of b).octets ++ ys))) p.class q.class ttls.1 in
      let codes =
      number16_same (data_of a).rtype (data_of b).rtype (length_prefixed (wire a.owner) ++ (length_prefixed (data_of a).octets ++ xs))
      (length_prefixed (wire b.owner) ++ (length_prefixed (data_of b).octets ++ ys)) p.type q.type classes.1 in
      let owners =
      counted_same (wire a.owner) (wire b.owner) (length_prefixed (data_of a).octets ++ xs) (length_prefixed (data_of b).octets ++ ys)
      (short_owner a p) (short_owner b q) codes.1 in
      let octets = counted_same (data_of a).octets (data_of b).octets xs ys (short_data a p) (short_data b q) owners.1 in (
        record {
          owner = wire_same a.owner b.owner owners.0;
          ttl = ttls.0;
          class = classes.0;
          rtype = codes.0;
          octets = octets.0;
        },
        octets.1,
      ) where
        short_owner : {N O : Type 0} (r : Record N O) → AreRecordValues r → length (wire r.owner) < 2 ^ 16
        short_owner r h = omega (arith, length_wire r.owner, h.owner_is.fits)

        short_data : {N O : Type 0} (r : Record N O) → AreRecordValues r → length (data_of r).octets < 2 ^ 16
        short_data r h = omega (arith, h.typed.short)
