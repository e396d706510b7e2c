use Rattle.std.proofs.Common.{◌≡◌, drop}
use Rattle.std.specs.Prelude.{find}
use Rattle.std.specs.Option.{option_map}
use Rattle.zone_dnssec.specs.ZoneKeys.{is_named}
use Rattle.zone_dnssec.proofs.lengths.fitting_modulus.Given as goal

abbrev pub invariant-loop-key : goal.invariant-loop-key
invariant-loop-key l =
    option_map (λ key. key.modulus_len) (find (is_named l.record) l.keys) ≡ option_map (λ key. key.modulus_len) (find (is_named l.record) (drop l.key-index l.keys))
