use Rattle.std.proofs.Common.{ℕ, Bool, rules, tests}
use Rattle.std.specs.Prelude.{◌==◌, ◌&&◌, slice_index}
use Rattle.std.proofs.lemmas.Iterator.{YieldsList-from_slice}
use Rattle.std.proofs.lemmas.Iterator.Search.{any_from_yields_List}
use Rattle.zone_rules.specs.Zones.{field_octets}
use Rattle.zone_dnssec.specs.Nsec3Chain.{short_number}
use Rattle.zone_dnssec.specs.declared.keys.Key.{Key}
use Rattle.zone_dnssec.proofs.keys.fits.Goals as goal

abbrev is_match : ℕ → ℕ → Key → Bool
is_match algorithm tag k = k.algorithm == algorithm && k.tag == tag

pub returns : goal.returns
returns c =
    let test = is_match (slice_index (field_octets 1 c.args.record.now) 0) (short_number (field_octets 6 c.args.record.now)) in
    any_from_yields_List test _ _ c.any.result c.any.ensures.ran (YieldsList-from_slice c.args.keys.now cc) (λ x b q k. search (rules, tests))
