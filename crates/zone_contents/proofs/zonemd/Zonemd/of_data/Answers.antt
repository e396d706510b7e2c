use Rattle.std.proofs.Common.{length, sym, ap, arith, ◌∙◌}
use Rattle.std.specs.Prelude.{◌==◌}
use Rattle.std.proofs.lemmas.Bool.{eqb-true, not-false}
use Rattle.rdata_values.specs.Rtype as Rtype
use Rattle.zone_contents.proofs.ZonemdParts.{zonemd_long}
use Rattle.zone_contents.proofs.zonemd.Zonemd.of_data.Goals as goal

pub split_at-requires : goal.split_at-requires
split_at-requires g c =
    let same = eqb-true c.args.data.now.rtype Rtype.zonemd (ap (λ n. n == Rtype.zonemd) (sym c.rtype.ensures) ∙ not-false _ (sym c.ne.ensures ∙ c.if-ne.false)) in
    omega (arith, zonemd_long c.args.data.now same c.as_slice-octets.ensures.is_data, ap length c.as_slice-octets.ensures.value)
