use Rattle.std.proofs.Common.{ap, ◌∙◌}
use Rattle.zone_dnssec.specs.ZoneViews.{zone_with}
use Rattle.zone_dnssec.specs.declared.hashed.LinkFault.TheVariants.{Missing, DifferentTypes}
use Rattle.zone_dnssec.proofs.ChainTests.{fails_is, flag_is, other_is, unmatched_is}
use Rattle.zone_dnssec.proofs.check.add_broken.Goals as goal

pub add_each-requires-clause-subject : goal.add_each-requires-clause-subject
add_each-requires-clause-subject g c =
    let zone = zone_with c.args.origin.now (g.Z.ZoneRecords.contents c.args.records.now) in
    let before = c.record_before.result in
    let found = c.record-one.result in
    record {
      found = c.record-one.ensures;
      before = c.record_before.ensures;
      facts = c.owner_facts_once-facts_of_owner.ensures.facts;
      set = c.covers_some_set-covers_set.ensures;
      missing = ap (λ f. f.is_missing) c.requires.faults ∙ fails_is zone c.args.place before found c.record_before.ensures c.record-one.ensures Missing;
      types = ap (λ f. f.has_other_types) c.requires.faults ∙ fails_is zone c.args.place before found c.record_before.ensures c.record-one.ensures DifferentTypes;
      next = ap (λ f. f.has_other_next) c.requires.faults ∙ other_is zone c.args.place before found c.record_before.ensures c.record-one.ensures;
      unmatched = ap (λ f. f.is_unmatched) c.requires.faults ∙ unmatched_is zone c.args.place before found c.record_before.ensures c.record-one.ensures;
      flag = ap (λ f. f.has_lone_flag) c.requires.faults ∙ flag_is zone c.args.place before found c.record_before.ensures c.record-one.ensures;
    }
