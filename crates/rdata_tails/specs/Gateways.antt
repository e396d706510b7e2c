-- Gateways of IPSECKEY that are not names (RFC 4025 section 2.5).
use Rattle.std.specs.Prelude.{ℕ, ◌≡◌, ◌≤◌, ◌-◌, ◌++◌, List, [], codes, length, Option, MatchOption}
use Rattle.std.specs.Net.Addr.{ipv4_octets, ipv6_octets, ipv6_segments, IsIpv4Addr, IsIpv6Addr}
use Rattle.std.specs.Net.Grammar.{IsIpv4Text, IsIpv6Text}
use Rattle.std.specs.Net.Text.{ipv4_text}
use Rattle.dns_octets.specs.Room.{Room}
use Rattle.rdata_values.specs.Addresses.{shown_ipv6}
use Rattle.rdata_tails.specs.declared.gateway.Gateway.{Gateway}
use Rattle.rdata_tails.specs.declared.gateway.Gateway.TheVariants.{Nothing, Ipv4, Ipv6}

abbrev pub IsGateway : Gateway → Type 0
IsGateway Nothing = Unit {0}
IsGateway (Ipv4 a) = IsIpv4Addr a
IsGateway (Ipv6 a) = IsIpv6Addr a

abbrev pub gateway_type : Gateway → ℕ
gateway_type Nothing = 0
gateway_type (Ipv4 a) = 1
gateway_type (Ipv6 a) = 2

-- a dot for no gateway, or an address
abbrev pub IsGatewayText : List ℕ → Gateway → Type 0
IsGatewayText text Nothing = text ≡ codes "."
IsGatewayText text (Ipv4 a) = IsIpv4Text text a
IsGatewayText text (Ipv6 a) = IsIpv6Text text a

-- a text spells a gateway of this type
abbrev pub SpellsGateway : ℕ → List ℕ → Gateway → Type 0
SpellsGateway number text g = IsGateway g × (gateway_type g ≡ number) × IsGatewayText text g

abbrev pub gateway_text : Gateway → List ℕ
gateway_text Nothing = codes "."
gateway_text (Ipv4 a) = ipv4_text (ipv4_octets a)
gateway_text (Ipv6 a) = shown_ipv6 (ipv6_segments a)

abbrev pub gateway_octets : Gateway → List ℕ
gateway_octets Nothing = []
gateway_octets (Ipv4 a) = ipv4_octets a
gateway_octets (Ipv6 a) = ipv6_octets a

-- its octets follow old ones; and they surely fit there
abbrev pub Composes : Gateway → List ℕ → List ℕ → Type 0
Composes g old new = new ≡ old ++ gateway_octets g

abbrev pub GatewayFits : Room → Gateway → List ℕ → Type 0
GatewayFits room g old = length (gateway_octets g) ≤ room.fits - length old

-- octets begin with a gateway of this type
abbrev pub BeginsWithGateway : ℕ → List ℕ → Gateway → Type 0
BeginsWithGateway number octets g = IsGateway g × (gateway_type g ≡ number) × (rest : List ℕ) × (octets ≡ gateway_octets g ++ rest)

abbrev pub FindsGateway : ℕ → List ℕ → Option Gateway → Type 0
FindsGateway number octets r = MatchOption r ((g : Gateway) → BeginsWithGateway number octets g → ⊥) (BeginsWithGateway number octets)

-- What a gateway prints as spells it, and a text spells one of a type. Octets begin with one of a
-- type at most.
pub record GatewaysAreRead : Type 0 where
  pub spelled : (g : Gateway) → IsGateway g → SpellsGateway (gateway_type g) (gateway_text g) g
  pub once : (number : ℕ) (text : List ℕ) (g h : Gateway) → SpellsGateway number text g → SpellsGateway number text h → g ≡ h
  pub one_front : (number : ℕ) (octets : List ℕ) (g h : Gateway) → BeginsWithGateway number octets g → BeginsWithGateway number octets h → g ≡ h
