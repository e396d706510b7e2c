-- Items parse as they print, and decode as they are appended.
use Rattle.std.proofs.Common.{ℕ, zero, suc, lit≤, ◌≡◌, ◌≢◌, ◌<◌, ◌≤◌, ◌+◌, ◌-◌, ◌*◌, ◌/◌, ◌%◌, ◌⊎◌, Bool, true, false, List, [], ◌∷◌, ◌++◌, length, get_or, take, refl, sym, subst, arith, ap, ◌∙◌, inl, inr, ext_get_or, decimal}
use Rattle.std.proofs.lemmas.Bool.{cases_lt, cases_eq}
use Rattle.std.proofs.lemmas.Fmt.{decimal_is_IsNumeral}
use Rattle.std.proofs.lemmas.List.{get_or-take}
use Rattle.std.specs.Net.Addr.{ipv4_octets, ipv6_segments, octets_of, segments_of}
use Rattle.std.specs.Net.Grammar.{IsIpText}
use Rattle.std.specs.declared.net.ip_addr.IpAddr.{IpAddr}
use Rattle.std.specs.declared.net.ip_addr.IpAddr.TheVariants.{V4, V6}
use Rattle.rdata_values.specs.Numbers.{SpellsNumber}
use Rattle.rdata_values.proofs.AddressLaws.{ipv4_is_kind, ipv6_is_kind}
use Rattle.rdata_tails.specs.declared.apl.Prefix.{Prefix}
use Rattle.rdata_tails.specs.Prefixes.{IsAddress, family_of, address_octets, address_text, IsPrefix, IsAddressPart, exclusion_bit, IsPrefixWire, SpellsPrefix, prefix_text, BeginsWithItem, PrefixesAreRead}
use Rattle.rdata_tails.proofs.PrefixLemmas.{one_prefix, address_bits_le}
use Rattle.rdata_tails.proofs.ItemLemmas.{splits_item, one_part, address_length}

-- ---- as a text

family_written : (a : IpAddr) → SpellsNumber ((48 + family_of a) ∷ []) (family_of a)
family_written (V4 a) = ((lit≤ tt, (lit≤ tt, tt)), refl)
family_written (V6 a) = ((lit≤ tt, (lit≤ tt, tt)), refl)

address_written : (a : IpAddr) → IsAddress a → IsIpText (address_text a) a
address_written (V4 a) h = ipv4_is_kind.spelled a h
address_written (V6 a) h = ipv6_is_kind.spelled a h

spelled : (p : Prefix) → IsPrefix p → SpellsPrefix (prefix_text p) p
spelled p h =
    let most = address_bits_le p.address in
    let bits = decimal_is_IsNumeral p.bits (omega (arith, h.1, most)) in (
      (48 + family_of p.address) ∷ 58 ∷ (address_text p.address ++ 47 ∷ decimal p.bits),
      refl,
      record {
        family = (48 + family_of p.address) ∷ [];
        address = address_text p.address;
        bits = decimal p.bits;
        written = refl;
        address_is = (h.0, family_written p.address, address_written p.address h.0);
        bits_are = (bits.0, sym bits.1);
        within = h.1;
      },
    )

-- ---- as octets

join : (o : ℕ) (os part : List ℕ) → IsAddressPart part os → (whole : List ℕ) × IsAddressPart whole (o ∷ os)
join o os [] h = elim (cases_eq o 0) [
  | inl none ↦ ([], record { begins = refl; zeros = zeros none; end = inl refl })
  | inr some ↦ (o ∷ [], record { begins = refl; zeros = later; end = inr some })
]
  where
    zeros : o ≡ 0 → (k : ℕ) → 0 ≤ k → get_or (o ∷ os) k 0 ≡ 0
    zeros none zero from = none
    zeros none (suc k) from = h.zeros k (omega arith)

    later : (k : ℕ) → 1 ≤ k → get_or (o ∷ os) k 0 ≡ 0
    later zero from = absurd (omega (arith, from))
    later (suc k) from = h.zeros k (omega arith)
join o os (x ∷ xs) h = (o ∷ x ∷ xs, record { begins = λ i. o ∷ h.begins i; zeros = later; end = inr (last h.end) })
  where
    later : (k : ℕ) → length (o ∷ x ∷ xs) ≤ k → get_or (o ∷ os) k 0 ≡ 0
    later zero from = absurd (omega (arith, from))
    later (suc k) from = h.zeros k (omega (arith, from))

    last : (length (x ∷ xs) ≡ 0) ⊎ (get_or (x ∷ xs) (length (x ∷ xs) - 1) 0 ≢ 0) → get_or (o ∷ x ∷ xs) (length (o ∷ x ∷ xs) - 1) 0 ≢ 0
    last (inl none) = absurd (omega (arith, none))
    last (inr some) = let e : length (o ∷ x ∷ xs) - 1 ≡ suc (length (x ∷ xs) - 1) = omega arith in λ is. some (ap (λ k. get_or (o ∷ x ∷ xs) k 0) (sym e) ∙ is)

pub part_of : (octets : List ℕ) → (part : List ℕ) × IsAddressPart part octets
part_of [] = ([], record { begins = refl; zeros = λ k from. refl; end = inl refl })
part_of (o ∷ os) = let rest = part_of os in join o os rest.0 rest.1

no_longer : (part other octets : List ℕ) → IsAddressPart part octets → IsAddressPart other octets → length part < length other → ⊥
no_longer part other octets h k less = by k.end
  where
    by : (length other ≡ 0) ⊎ (get_or other (length other - 1) 0 ≢ 0) → ⊥
    by (inl none) = omega (arith, less, none)
    by (inr some) =
        let same : get_or other (length other - 1) 0 ≡ get_or octets (length other - 1) 0 = ap (λ t. get_or t (length other - 1) 0) (sym k.begins) ∙ get_or-take (length other) octets (length other - 1) 0 (omega (arith, less)) in
        some (same ∙ h.zeros (length other - 1) (omega (arith, less)))

pub same_part : (part other octets : List ℕ) → IsAddressPart part octets → IsAddressPart other octets → part ≡ other
same_part part other octets h k =
    let up : length part < length other → ⊥ = no_longer part other octets h k in
    let down : length other < length part → ⊥ = no_longer other part octets k h in
    let same : length part ≡ length other = omega (arith, up, down) in
    sym h.begins ∙ ap (λ n. take n octets) same ∙ k.begins

one_form : (p : Prefix) (a b : List ℕ) → IsPrefixWire p a → IsPrefixWire p b → a ≡ b
one_form p a b h k =
    let same = same_part h.part k.part (address_octets p.address) h.is_part k.is_part in
    h.written ∙ ap (λ part. 0 ∷ family_of p.address ∷ p.bits ∷ (exclusion_bit p.negated + length part) ∷ part) same ∙ sym k.written

same_octets : (part a b : List ℕ) → length a ≡ length b → IsAddressPart part a → IsAddressPart part b → a ≡ b
same_octets part a b same h k = ext_get_or 0 a b same at
  where
    at : (i : ℕ) → i < length a → get_or a i 0 ≡ get_or b i 0
    at i here = elim (cases_lt i (length part)) [
      | inl less ↦ sym (get_or-take (length part) a i 0 less) ∙ ap (λ t. get_or t i 0) (h.begins ∙ sym k.begins) ∙ get_or-take (length part) b i 0 less
      | inr more ↦ h.zeros i more ∙ sym (k.zeros i more)
    ]

pub segments_back : (segments : List ℕ) → segments_of (octets_of segments) ≡ segments
segments_back [] = refl
segments_back (s ∷ segments) =
    let one : s / 256 * 256 + s % 256 ≡ s = omega arith in
    let later = segments_back segments in
    λ i. one i ∷ later i

one_address : (part : List ℕ) (a b : IpAddr) → family_of a ≡ family_of b → IsAddress a → IsAddress b → IsAddressPart part (address_octets a) → IsAddressPart part (address_octets b) → a ≡ b
one_address part (V4 a) (V4 b) same h k own other = let e : ipv4_octets a ≡ ipv4_octets b = same_octets part (ipv4_octets a) (ipv4_octets b) (h.0 ∙ sym k.0) own other in λ i. V4 (record { octets = e i })
one_address part (V4 a) (V6 b) same h k own other = absurd (omega (arith, same))
one_address part (V6 a) (V4 b) same h k own other = absurd (omega (arith, same))
one_address part (V6 a) (V6 b) same h k own other =
    let lengths : length (address_octets (V6 a)) ≡ length (address_octets (V6 b)) = address_length (V6 a) h ∙ sym (address_length (V6 b) k) in
    let e = same_octets part (address_octets (V6 a)) (address_octets (V6 b)) lengths own other in
    let segments : ipv6_segments a ≡ ipv6_segments b = sym (segments_back (ipv6_segments a)) ∙ ap segments_of e ∙ segments_back (ipv6_segments b) in
    λ i. V6 (record { segments = segments i })

same_flag : (b c : Bool) (n m : ℕ) → n ≡ m → exclusion_bit b + n ≡ exclusion_bit c + m → b ≡ c
same_flag true true n m same is = refl
same_flag true false n m same is = absurd (omega (arith, same, is))
same_flag false true n m same is = absurd (omega (arith, same, is))
same_flag false false n m same is = refl

one_item : (octets : List ℕ) (p q : Prefix) → BeginsWithItem octets p → BeginsWithItem octets q → p ≡ q
one_item octets p q h k =
    let s = splits_item octets p h in
    let t = splits_item octets q k in
    let part = one_part octets s.part t.part s.has_part t.has_part in
    let address = one_address t.part p.address q.address (s.address_is.1 ∙ sym t.address_is.1) s.address_is.0 t.address_is.0 (subst (λ r. IsAddressPart r (address_octets p.address)) part s.address_is.2) t.address_is.2 in
    let bits = s.bits_are ∙ sym t.bits_are in
    let negated = same_flag p.negated q.negated (length s.part) (length t.part) (ap length part) (s.flag ∙ sym t.flag) in
    λ i. record { negated = negated i; address = address i; bits = bits i }

pub prefixes_are_read : PrefixesAreRead
prefixes_are_read = record {
  spelled = spelled;
  once = one_prefix;
  valid = λ text p h. (h.2.address_is.0, h.2.within);
  written = λ p h. let part = part_of (address_octets p.address) in (0 ∷ family_of p.address ∷ p.bits ∷ (exclusion_bit p.negated + length part.0) ∷ part.0, record { part = part.0; is_part = part.1; written = refl });
  one_form = one_form;
  one_item = one_item;
}
