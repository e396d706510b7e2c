-- Items in octets.
use Rattle.std.proofs.Common.{ℕ, suc, ◌≡◌, ◌<◌, ◌≤◌, ◌+◌, ◌*◌, ◌/◌, ◌%◌, Bool, true, false, List, [], ◌∷◌, ◌++◌, length, get_or, take, drop, refl, sym, subst, arith, ap, ◌∙◌, inl, inr, take-append-drop, take_at, length-append}
use Rattle.std.proofs.lemmas.Bool.{cases_lt}
use Rattle.std.proofs.lemmas.List.{take_all}
use Rattle.std.specs.Net.Addr.{ipv6_segments, octets_of}
use Rattle.std.specs.declared.net.ip_addr.IpAddr.{IpAddr}
use Rattle.std.specs.declared.net.ip_addr.IpAddr.TheVariants.{V4, V6}
use Rattle.rdata_tails.specs.declared.apl.Prefix.{Prefix}
use Rattle.rdata_tails.specs.Prefixes.{IsAddress, family_of, address_octets, address_bits, IsAddressPart, exclusion_bit, BeginsWithItem, HasAddressPart, HasPart, IsItemOf}

pub part_length : (part octets : List ℕ) → IsAddressPart part octets → length part ≤ length octets
part_length part octets h = elim (cases_lt (length octets) (length part)) [
  | inl less ↦ let all : length octets ≡ length part = ap length (sym (take_all (length part) octets (omega (arith, less))) ∙ h.begins) in absurd (omega (arith, less, all))
  | inr within ↦ within
]

pub length_octets_of : (segments : List ℕ) → length (octets_of segments) ≡ 2 * length segments
length_octets_of [] = refl
length_octets_of (s ∷ segments) = let more = length_octets_of segments in omega (arith, more)

pub address_length : (a : IpAddr) → IsAddress a → length (address_octets a) ≡ address_bits a / 8
address_length (V4 a) h = h.0
address_length (V6 a) h = let two = length_octets_of (ipv6_segments a) in omega (arith, two, h.0)

pub not_sixteen : (part : List ℕ) (a : IpAddr) → 16 < length part → HasAddressPart 2 part a → ⊥
not_sixteen part (V4 a) long h = absurd (omega (arith, h.1))
not_sixteen part (V6 a) long h = let whole = address_length (V6 a) h.0 in let least = part_length part (address_octets (V6 a)) h.2 in omega (arith, long, whole, least)

-- how an item that octets begin with splits them
pub record SplitsItem (octets : List ℕ) (p : Prefix) : Type 0 where
  pub part : List ℕ
  pub has_part : HasPart octets part
  pub address_is : HasAddressPart (get_or octets 1 0) part p.address
  pub bits_are : p.bits ≡ get_or octets 2 0
  pub flag : exclusion_bit p.negated + length part ≡ get_or octets 3 0

most_octets : (a : IpAddr) → address_bits a / 8 ≤ 16
most_octets (V4 a) = omega arith
most_octets (V6 a) = omega arith

counted : (negated : Bool) (n : ℕ) → n ≤ 16 → n ≡ (exclusion_bit negated + n) % 128
counted true n few = omega (arith, few)
counted false n few = omega (arith, few)

pub few_octets : (a : IpAddr) (part : List ℕ) → IsAddress a → IsAddressPart part (address_octets a) → length part ≤ 16
few_octets a part valid h =
    let whole = address_length a valid in
    let most = most_octets a in
    let least = part_length part (address_octets a) h in
    omega (arith, whole, most, least)

pub splits_item : (octets : List ℕ) (p : Prefix) → BeginsWithItem octets p → SplitsItem octets p
splits_item octets p h = subst (λ t. SplitsItem t p) (sym whole) own
  where
    n : ℕ
    n = length h.wire.part

    whole : octets ≡ 0 ∷ family_of p.address ∷ p.bits ∷ (exclusion_bit p.negated + length h.wire.part) ∷ (h.wire.part ++ h.rest)
    whole = h.split ∙ ap (λ t. t ++ h.rest) h.wire.written

    own : SplitsItem (0 ∷ family_of p.address ∷ p.bits ∷ (exclusion_bit p.negated + length h.wire.part) ∷ (h.wire.part ++ h.rest)) p
    own =
        let few = few_octets p.address h.wire.part h.valid.0 h.wire.is_part in
        let long = length-append h.wire.part h.rest in
        record {
          part = h.wire.part;
          has_part = record {
            front = refl;
            within = omega (arith, long);
            counted = counted p.negated (length h.wire.part) few;
            part_is = take_at h.wire.part h.rest (length h.wire.part) refl;
            end = h.wire.is_part.end;
          };
          address_is = (h.valid.0, refl, h.wire.is_part);
          bits_are = refl;
          flag = refl;
        }

pub one_part : (octets part other : List ℕ) → HasPart octets part → HasPart octets other → part ≡ other
one_part octets part other h k =
    let same : length part ≡ length other = h.counted ∙ sym k.counted in
    sym h.part_is ∙ ap (λ n. take n (drop 4 octets)) same ∙ k.part_is

pub no_part : (octets : List ℕ) → ((part : List ℕ) → HasPart octets part → ⊥) → (p : Prefix) → BeginsWithItem octets p → ⊥
no_part octets none p h = let s = splits_item octets p h in none s.part s.has_part

pub no_address : (octets part : List ℕ) → HasPart octets part → ((a : IpAddr) → HasAddressPart (get_or octets 1 0) part a → ⊥) → (p : Prefix) → BeginsWithItem octets p → ⊥
no_address octets part own none p h =
    let s = splits_item octets p h in
    none p.address (subst (λ t. HasAddressPart (get_or octets 1 0) t p.address) (one_part octets s.part part s.has_part own) s.address_is)

same_bits : (a b : IpAddr) → family_of a ≡ family_of b → address_bits a ≡ address_bits b
same_bits (V4 a) (V4 b) is = refl
same_bits (V4 a) (V6 b) is = absurd (omega (arith, is))
same_bits (V6 a) (V4 b) is = absurd (omega (arith, is))
same_bits (V6 a) (V6 b) is = refl

pub bits_above : (octets part : List ℕ) (a : IpAddr) → HasAddressPart (get_or octets 1 0) part a → address_bits a < get_or octets 2 0 → (p : Prefix) → BeginsWithItem octets p → ⊥
bits_above octets part a own more p h =
    let s = splits_item octets p h in
    let same = same_bits p.address a (s.address_is.1 ∙ sym own.1) in
    omega (arith, same, h.valid.1, s.bits_are, more)

pub begins_with : (octets : List ℕ) (p : Prefix) (width : ℕ) → IsItemOf octets p width → BeginsWithItem octets p
begins_with octets p width h = record { valid = h.0; item = take width octets; rest = drop width octets; wire = h.2; split = sym (take-append-drop width octets) }

four_front : (octets : List ℕ) (n : ℕ) → 4 + n ≤ length octets → take (4 + n) octets ≡ get_or octets 0 0 ∷ get_or octets 1 0 ∷ get_or octets 2 0 ∷ get_or octets 3 0 ∷ take n (drop 4 octets)
four_front (a ∷ b ∷ c ∷ d ∷ octets) n within = let e : 4 + n ≡ suc (suc (suc (suc n))) = omega arith in ap (λ k. take k (a ∷ b ∷ c ∷ d ∷ octets)) e
four_front [] n within = absurd (omega (arith, within))
four_front (a ∷ []) n within = absurd (omega (arith, within))
four_front (a ∷ b ∷ []) n within = absurd (omega (arith, within))
four_front (a ∷ b ∷ c ∷ []) n within = absurd (omega (arith, within))

-- what is read is an item
pub is_item : (octets part : List ℕ) (p : Prefix) → HasPart octets part → HasAddressPart (get_or octets 1 0) part p.address → p.bits ≡ get_or octets 2 0 → p.bits ≤ address_bits p.address
    → exclusion_bit p.negated + length part ≡ get_or octets 3 0 → IsItemOf octets p (4 + length part)
is_item octets part p own address bits within flag = (
  (address.0, within),
  own.within,
  record {
    part = part;
    is_part = address.2;
    written = four_front octets (length part) own.within ∙ (λ i. own.front i ∷ sym address.1 i ∷ sym bits i ∷ sym flag i ∷ own.part_is i);
  },
)
