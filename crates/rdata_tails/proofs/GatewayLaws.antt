-- Gateways parse as they print, and decode as they are appended.
use Rattle.std.proofs.Common.{ℕ, ◌≡◌, ◌<◌, ◌*◌, ◌++◌, List, length, take, drop, ◌≤◌, ◌+◌, refl, sym, arith, ap, ◌∙◌, take_at, take-append-drop, length-take-le, length-append}
use Rattle.std.proofs.lemmas.List.{take_all}
use Rattle.std.specs.Net.Addr.{ipv4_octets, ipv6_octets, ipv6_segments, segments_of}
use Rattle.std.proofs.NetLemmas.Theorems.{IsIpv4Text_unique, IsIpv6Text_unique}
use Rattle.rdata_values.proofs.AddressLaws.{ipv4_is_kind, ipv6_is_kind}
use Rattle.rdata_tails.specs.declared.gateway.Gateway.{Gateway}
use Rattle.rdata_tails.specs.declared.gateway.Gateway.TheVariants.{Nothing, Ipv4, Ipv6}
use Rattle.rdata_tails.specs.Gateways.{IsGateway, gateway_type, gateway_text, SpellsGateway, BeginsWithGateway, GatewaysAreRead}
use Rattle.rdata_tails.proofs.ItemLemmas.{length_octets_of}
use Rattle.rdata_tails.proofs.PrefixLaws.{segments_back}

spelled : (g : Gateway) → IsGateway g → SpellsGateway (gateway_type g) (gateway_text g) g
spelled Nothing h = (tt, refl, refl)
spelled (Ipv4 a) h = (h, refl, ipv4_is_kind.spelled a h)
spelled (Ipv6 a) h = (h, refl, ipv6_is_kind.spelled a h)

once : (number : ℕ) (text : List ℕ) (g h : Gateway) → SpellsGateway number text g → SpellsGateway number text h → g ≡ h
once number text Nothing Nothing g h = refl
once number text (Ipv4 a) (Ipv4 b) g h = ap Ipv4 (IsIpv4Text_unique text a b g.2 h.2)
once number text (Ipv6 a) (Ipv6 b) g h = ap Ipv6 (IsIpv6Text_unique text a b g.2 h.2)
once number text Nothing (Ipv4 b) g h = absurd (omega (arith, g.1, h.1))
once number text Nothing (Ipv6 b) g h = absurd (omega (arith, g.1, h.1))
once number text (Ipv4 a) Nothing g h = absurd (omega (arith, g.1, h.1))
once number text (Ipv4 a) (Ipv6 b) g h = absurd (omega (arith, g.1, h.1))
once number text (Ipv6 a) Nothing g h = absurd (omega (arith, g.1, h.1))
once number text (Ipv6 a) (Ipv4 b) g h = absurd (omega (arith, g.1, h.1))

front : (octets a b r s : List ℕ) (n : ℕ) → length a ≡ n → length b ≡ n → octets ≡ a ++ r → octets ≡ b ++ s → a ≡ b
front octets a b r s n h k e f = sym (take_at a r n h) ∙ ap (take n) (sym e ∙ f) ∙ take_at b s n k

one_front : (number : ℕ) (octets : List ℕ) (g h : Gateway) → BeginsWithGateway number octets g → BeginsWithGateway number octets h → g ≡ h
one_front number octets Nothing Nothing g h = refl
one_front number octets (Ipv4 a) (Ipv4 b) g h = let same : ipv4_octets a ≡ ipv4_octets b = front octets (ipv4_octets a) (ipv4_octets b) g.2 h.2 4 g.0.0 h.0.0 g.3 h.3 in λ i. Ipv4 (record { octets = same i })
one_front number octets (Ipv6 a) (Ipv6 b) g h =
    let long : length (ipv6_octets a) ≡ 16 = length_octets_of (ipv6_segments a) ∙ ap (λ n. 2 * n) g.0.0 in
    let wide : length (ipv6_octets b) ≡ 16 = length_octets_of (ipv6_segments b) ∙ ap (λ n. 2 * n) h.0.0 in
    let same = front octets (ipv6_octets a) (ipv6_octets b) g.2 h.2 16 long wide g.3 h.3 in
    let segments : ipv6_segments a ≡ ipv6_segments b = sym (segments_back (ipv6_segments a)) ∙ ap segments_of same ∙ segments_back (ipv6_segments b) in
    λ i. Ipv6 (record { segments = segments i })
one_front number octets Nothing (Ipv4 b) g h = absurd (omega (arith, g.1, h.1))
one_front number octets Nothing (Ipv6 b) g h = absurd (omega (arith, g.1, h.1))
one_front number octets (Ipv4 a) Nothing g h = absurd (omega (arith, g.1, h.1))
one_front number octets (Ipv4 a) (Ipv6 b) g h = absurd (omega (arith, g.1, h.1))
one_front number octets (Ipv6 a) Nothing g h = absurd (omega (arith, g.1, h.1))
one_front number octets (Ipv6 a) (Ipv4 b) g h = absurd (omega (arith, g.1, h.1))

pub gateways_are_read : GatewaysAreRead
gateways_are_read = record { spelled = spelled; once = once; one_front = one_front }

-- octets that are too few don't begin with a gateway
pub too_few4 : (octets : List ℕ) → length octets < 4 → (g : Gateway) → BeginsWithGateway 1 octets g → ⊥
too_few4 octets few Nothing h = omega (arith, h.1)
too_few4 octets few (Ipv4 a) h = let long : length octets ≡ length (ipv4_octets a) + length h.2 = ap length h.3 ∙ length-append (ipv4_octets a) h.2 in omega (arith, few, long, h.0.0)
too_few4 octets few (Ipv6 a) h = omega (arith, h.1)

pub too_few16 : (octets : List ℕ) → length octets < 16 → (g : Gateway) → BeginsWithGateway 2 octets g → ⊥
too_few16 octets few Nothing h = omega (arith, h.1)
too_few16 octets few (Ipv4 a) h = omega (arith, h.1)
too_few16 octets few (Ipv6 a) h =
    let two = length_octets_of (ipv6_segments a) in
    let long : length octets ≡ length (ipv6_octets a) + length h.2 = ap length h.3 ∙ length-append (ipv6_octets a) h.2 in
    omega (arith, few, long, two, h.0.0)

pub no_type : (number : ℕ) (octets : List ℕ) → 2 < number → (g : Gateway) → BeginsWithGateway number octets g → ⊥
no_type number octets more Nothing h = omega (arith, more, h.1)
no_type number octets more (Ipv4 a) h = omega (arith, more, h.1)
no_type number octets more (Ipv6 a) h = omega (arith, more, h.1)

pub in_front : (octets front whole : List ℕ) (n : ℕ) → n ≤ length octets → front ≡ take n octets → length whole ≡ n → take (length front) whole ≡ front → octets ≡ whole ++ drop n octets
in_front octets front whole n within is long begins =
    let count : length front ≡ n = ap length is ∙ length-take-le n octets within in
    let same : whole ≡ front = sym (take_all (length front) whole (omega (arith, count, long))) ∙ begins in
    sym (take-append-drop n octets) ∙ ap (λ t. t ++ drop n octets) (sym is ∙ sym same)
