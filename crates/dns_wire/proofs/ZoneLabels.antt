-- Labels as in zone files.
use Rattle.std.proofs.Common.{ℕ, ◌≡◌, ◌<◌, Bool, true, false, List, [], ◌∷◌, ◌++◌, refl, arith, append_assoc}
use Rattle.std.specs.Prelude.{All, if◌then◌else◌, ◌&&◌, nat_lt, nat_le}
use Rattle.std.specs.Str.{IsAscii}
use Rattle.std.proofs.lemmas.Bool.Decides.{nat_tests}
use Rattle.std.proofs.lemmas.List.Elements.{All-head, All-tail}
use Rattle.std.proofs.lemmas.Grind.{flat_map-append}
use Rattle.std.proofs.lemmas.Str.{IsAscii-append}
use Rattle.std.proofs.lemmas.Str.Ascii.{IsAscii-from_all, IsAscii-nil}
use Rattle.dns_symbol.specs.Symbol.{spell}
use Rattle.dns_symbol.specs.declared.symbol.Symbol.TheVariants.{Char, SimpleEscape, DecimalEscape}
use Rattle.dns_wire.specs.ZoneText.{is_zone_escape, zone_symbol, zone_label}
use Rattle.dns_wire.proofs.Wires.{Bytes}

pub zone_octet_ascii : (o : ℕ) → o < 256 → IsAscii (spell (zone_symbol o))
zone_octet_ascii o h = IsAscii-from_all _ (by_tests (is_zone_escape o) (nat_lt 32 o && nat_le o 126) refl refl)
  where
    by_tests : (e p : Bool) → is_zone_escape o ≡ e → (nat_lt 32 o && nat_le o 126) ≡ p → All (λ b. b < 128) (spell (if e then SimpleEscape o else (if p then Char o else DecimalEscape o)))
    by_tests true p is shown = grind (arith, nat_tests)
    by_tests false true is shown = grind (arith, nat_tests)
    by_tests false false is shown = grind (arith, nat_tests)

pub zone_ascii : (octets : List ℕ) → Bytes octets → IsAscii (zone_label octets)
zone_ascii [] h = IsAscii-nil
zone_ascii (o ∷ os) h =
    IsAscii-append _ _ (zone_octet_ascii o (All-head (λ o. o < 256) o os h)) (zone_ascii os (All-tail (λ o. o < 256) o os h))

-- one block more of a label
pub label_block : (all block rest text done : List ℕ) → all ≡ block ++ rest → text ≡ zone_label block → (done ++ text) ++ zone_label rest ≡ done ++ zone_label all
label_block all block rest text done parts is = rw (parts, is, append_assoc, flat_map-append) refl
