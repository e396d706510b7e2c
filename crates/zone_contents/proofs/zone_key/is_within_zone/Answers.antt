use Rattle.std.proofs.Common.{ap, [], ◌∷◌, length, length-append, sym, ◌∙◌, arith}
use Rattle.dns_wire.specs.Labelled.{wire_same}
use Rattle.zone_rules.specs.Above.{is_within}
use Rattle.zone_contents.proofs.zone_key.is_within_zone.Goals as goal

pub returns-clause-value : goal.returns-clause-value
returns-clause-value c = c.is_name_within.ensures ∙ ap (is_within c.args.name.now) (wire_same _ _ (sym c.name_of-top.ensures ∙ c.octets.ensures.value))

pub returns-clause-some : goal.returns-clause-some
returns-clause-some c =
    let absolute = c.octets_of-octets.ensures.absolute in
    omega (arith, ap length absolute.1, length-append absolute.0 ([] ∷ []), ap length (wire_same _ _ (sym c.name_of-top.ensures ∙ c.octets.ensures.value)))
