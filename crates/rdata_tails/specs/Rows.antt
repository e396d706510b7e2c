-- Worked rows of the definitions, each computed.
use Rattle.std.specs.Prelude.{◌≡◌, ◌+◌, ◌-◌, ◌*◌, ◌^◌, true, [], ◌∷◌, codes, map, refl}
use Rattle.std.proofs.Common.{lit<, lit≤, inr}
use Rattle.std.proofs.Math.Nat.{suc-ne-zero}
use Rattle.std.specs.Fmt.{digits}
use Rattle.std.specs.declared.net.ip_addr.IpAddr.TheVariants.{V4}
use Rattle.rdata_tails.specs.declared.apl.Prefix.{Prefix}
use Rattle.rdata_tails.specs.declared.location.Location.{Location}
use Rattle.rdata_tails.specs.Decimals.{SpellsDecimal}
use Rattle.rdata_tails.specs.Locations.{usual_horizontal, usual_vertical, location_octets, HasFirstDigit}
use Rattle.rdata_tails.specs.LocationWords.{location_words, size_word, altitude_word}
use Rattle.rdata_tails.specs.Prefixes.{prefix_text}

-- an example of RFC 3123 section 7
excluded : Prefix
excluded = record { negated = true; address = V4 (record { octets = 192 ∷ 168 ∷ 38 ∷ 0 ∷ [] }); bits = 28 }

printed : prefix_text excluded ≡ codes "!1:192.168.38.0/28"
unfolding excluded digits
printed = refl

-- ---- locations

-- 42 21 54 N 71 06 18 W -24m 30m
boston : Location
boston = record {
  sizes = record { size = 0x33; horizontal = usual_horizontal; vertical = usual_vertical };
  latitude = 2 ^ 31 + ((42 * 60 + 21) * 60 + 54) * 1000;
  longitude = 2 ^ 31 - ((71 * 60 + 6) * 60 + 18) * 1000;
  altitude = (100000 - 24) * 100;
}

boston_octets : location_octets boston ≡ 0x00 ∷ 0x33 ∷ 0x16 ∷ 0x13 ∷ 0x89 ∷ 0x17 ∷ 0x2d ∷ 0xd0 ∷ 0x70 ∷ 0xbe ∷ 0x15 ∷ 0xf0 ∷ 0x00 ∷ 0x98 ∷ 0x8d ∷ 0x20 ∷ []
unfolding boston
boston_octets = refl

boston_words : location_words boston ≡ codes "42" ∷ codes "21" ∷ codes "54.000" ∷ codes "N" ∷ codes "71" ∷ codes "6" ∷ codes "18.000" ∷ codes "W" ∷ codes "-24.00m" ∷ codes "30m" ∷ codes "10000m" ∷ codes "10m" ∷ []
unfolding boston digits
boston_words = refl

-- centimetres alone, and the greatest
sizes_printed : map size_word (0x00 ∷ 0x50 ∷ 0x91 ∷ 0x12 ∷ 0x99 ∷ []) ≡ codes "0.00m" ∷ codes "0.05m" ∷ codes "0.90m" ∷ codes "1m" ∷ codes "90000000m" ∷ []
unfolding digits
sizes_printed = refl

altitudes_printed : map altitude_word (0 ∷ 9999999 ∷ 10000000 ∷ 4294967295 ∷ []) ≡ codes "-100000.00m" ∷ codes "-0.01m" ∷ codes "0.00m" ∷ codes "42849672.95m" ∷ []
unfolding digits
altitudes_printed = refl

-- 51.617 is 51617 thousandths
decimal_spelled : SpellsDecimal 3 (codes "51.617") 51617
decimal_spelled = inr (record {
  before = codes "51";
  after = codes "617";
  whole = 51;
  part = 617;
  written = refl;
  few = lit≤ tt;
  whole_is = ((lit< tt, (lit< tt, (lit< tt, tt))), refl);
  part_is = ((lit< tt, (lit< tt, (lit< tt, (lit< tt, tt)))), refl);
  value = refl;
})

-- 99 m are the digit 9 and three zeros in centimetres
first_digit : HasFirstDigit 9900 9 3
first_digit = record { is_digit = lit≤ tt; least = lit≤ tt; most = lit< tt; zero = λ none. absurd (suc-ne-zero 8 none) }
