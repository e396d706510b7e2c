use Rattle.std.proofs.Common.{ap, ◌∙◌, arith}
use Rattle.zone_rules.specs.Subjects.{relates_at}
use Rattle.zone_rules.specs.declared.beside.Relation.TheVariants.{Sha1}
use Rattle.zone_rules.proofs.beside.past_sha1.Goals as goal

pub returns : goal.returns
returns g c =
    let i = c.halve.invariant in
    record {
      low = omega (arith, i.0, i.1);
      high = i.2;
      last = ap (relates_at Sha1 c.args.one.now (g.Z.ZoneRecords.contents c.args.records.now)) (omega (arith, i.1, c.halve-test.false)) ∙ i.3;
      after = i.4;
    }
