-- Addresses parse as they print.
use Rattle.std.proofs.Common.{ℕ, zero, suc, ◌≡◌, ◌<◌, ◌+◌, ◌*◌, ◌/◌, ◌%◌, ◌^◌, Bool, true, false, List, [], ◌∷◌, ◌++◌, length, get_or, take, drop, refl, sym, arith, ap, inr}
use Rattle.std.specs.Prelude.{nat_lt, cond, codes, replicate}
use Rattle.std.specs.Str.{bytes_eq}
use Rattle.std.proofs.lemmas.Slice.Eq.{bytes_eq-Decides}
use Rattle.std.specs.Net.Addr.{ipv4_octets, ipv6_segments, octets_of, IsIpv4Addr, IsIpv6Addr}
use Rattle.std.specs.Net.Grammar.{IsIpv4Text, IsIpv6Text, IsColonHex}
use Rattle.std.specs.Net.Text.{ipv4_text, ipv6_text}
use Rattle.std.proofs.lemmas.Bool.{and_parts}
use Rattle.std.proofs.NetLemmas.Texts.{IsDotted-ipv4_text, IsColonHex-ipv6_text}
use Rattle.std.proofs.NetLemmas.Theorems.{IsIpv4Text_unique, IsIpv6Text_unique}
use Rattle.rdata_values.specs.Addresses.{has_ipv4_end, shown_ipv6, Ipv4IsKind, Ipv6IsKind}
use Rattle.rdata_values.proofs.ReadBack.{is_kind}

pub ipv4_is_kind : Ipv4IsKind
ipv4_is_kind = is_kind IsIpv4Addr IsIpv4Text (λ a. ipv4_text (ipv4_octets a)) (λ a h. IsDotted-ipv4_text (ipv4_octets a) h.0 h.1) IsIpv4Text_unique

last_octets : (g h : ℕ) → g < 2 ^ 16 → h < 2 ^ 16 → (k : ℕ) → get_or (octets_of (g ∷ h ∷ [])) k 0 < 2 ^ 8
last_octets g h small few zero = omega arith
last_octets g h small few (suc zero) = omega arith
last_octets g h small few (suc (suc zero)) = omega arith
last_octets g h small few (suc (suc (suc zero))) = omega arith
last_octets g h small few (suc (suc (suc (suc k)))) = omega arith

whole : (s : ℕ) → s / 256 * 256 + s % 256 ≡ s
whole s = omega arith

-- an address whose first six segments are zero
ends : (segments : List ℕ) → length segments ≡ 8 → ((k : ℕ) → get_or segments k 0 < 2 ^ 16) → bytes_eq (take 6 segments) (replicate 6 0) ≡ true
    → IsColonHex (codes "::" ++ ipv4_text (octets_of (drop 6 segments))) segments
ends (a ∷ b ∷ c ∷ d ∷ e ∷ f ∷ g ∷ h ∷ []) eight small zero_front = inr record {
  head_text = [];
  tail_text = ipv4_text (octets_of (g ∷ h ∷ []));
  head = [];
  tail = g ∷ h ∷ [];
  spelled = refl;
  head_groups = refl;
  tail_groups = inr (ipv4_text (octets_of (g ∷ h ∷ [])), octets_of (g ∷ h ∷ []), refl, refl, IsDotted-ipv4_text (octets_of (g ∷ h ∷ [])) refl (last_octets g h (small 6) (small 7)), (λ i. sym (whole g) i ∷ sym (whole h) i ∷ []));
  room = omega arith;
  value = ap (λ front. front ++ g ∷ h ∷ []) ((bytes_eq-Decides (a ∷ b ∷ c ∷ d ∷ e ∷ f ∷ []) (replicate 6 0)).0 zero_front);
}
ends segments eight small zero_front = absurd (omega (arith, eight))

shown : (segments : List ℕ) → length segments ≡ 8 → ((k : ℕ) → get_or segments k 0 < 2 ^ 16) → IsColonHex (shown_ipv6 segments) segments
shown segments eight small = by (has_ipv4_end segments) refl
  where
    by : (b : Bool) → has_ipv4_end segments ≡ b → IsColonHex (cond b (codes "::" ++ ipv4_text (octets_of (drop 6 segments))) (ipv6_text segments)) segments
    by true e = ends segments eight small (and_parts (bytes_eq (take 6 segments) (replicate 6 0)) (nat_lt 0 (get_or segments 6 0)) e).0
    by false e = IsColonHex-ipv6_text segments eight small

pub ipv6_is_kind : Ipv6IsKind
ipv6_is_kind = is_kind IsIpv6Addr IsIpv6Text (λ a. shown_ipv6 (ipv6_segments a)) (λ a h. shown (ipv6_segments a) h.0 h.1) IsIpv6Text_unique
