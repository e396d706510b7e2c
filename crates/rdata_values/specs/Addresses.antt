-- IPv6 addresses, as name servers print them.
use Rattle.std.specs.Prelude.{ℕ, ◌&&◌, Bool, List, ◌++◌, take, drop, replicate, slice_index, nat_lt, codes, if◌then◌else◌}
use Rattle.std.specs.Str.{bytes_eq}
use Rattle.std.specs.Net.Addr.{ipv4_octets, ipv6_segments, octets_of, IsIpv4Addr, IsIpv6Addr}
use Rattle.std.specs.Net.Grammar.{IsIpv4Text, IsIpv6Text}
use Rattle.std.specs.Net.Text.{ipv4_text, ipv6_text}
use Rattle.rdata_values.specs.Kind.{IsKind}

-- the first six segments are zero, and the next is not
abbrev pub has_ipv4_end : List ℕ → Bool
has_ipv4_end segments = bytes_eq (take 6 segments) (replicate 6 0) && nat_lt 0 (slice_index segments 6)

-- then the last two print as an IPv4 address
abbrev pub shown_ipv6 : List ℕ → List ℕ
shown_ipv6 segments = if has_ipv4_end segments then codes "::" ++ ipv4_text (octets_of (drop 6 segments)) else ipv6_text segments

abbrev pub Ipv4IsKind : Type 0
Ipv4IsKind = IsKind IsIpv4Addr IsIpv4Text (λ a. ipv4_text (ipv4_octets a))

abbrev pub Ipv6IsKind : Type 0
Ipv6IsKind = IsKind IsIpv6Addr IsIpv6Text (λ a. shown_ipv6 (ipv6_segments a))
