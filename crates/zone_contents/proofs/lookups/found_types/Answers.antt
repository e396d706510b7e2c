use Rattle.std.proofs.Common.{◌∙◌}
use Rattle.rdata_values.specs.Rtype as Rtype
use Rattle.zone_contents.proofs.FewTypes.{few_types}
use Rattle.zone_contents.proofs.lookups.found_types.Goals as goal

pub returns-in-Some-clause-a : goal.returns-in-Some-clause-a
returns-in-Some-clause-a g c =
    c.types_within.ensures.a
    ∙ few_types c.args.apex.now c.args.name.now c.args.store.now c.write.new.self c.as_slice.result.now c.as_slice-2.result.now c.count_before_key-first.result c.in-Some.past Rtype.a c.requires.records.are c.requires.records.sorted
    c.write.ensures c.as_slice.ensures.value c.as_slice-2.ensures.value c.count_before_key-first.ensures.point c.in-Some.ensures

pub returns-in-Some-clause-aaaa : goal.returns-in-Some-clause-aaaa
returns-in-Some-clause-aaaa g c =
    c.types_within.ensures.aaaa
    ∙ few_types c.args.apex.now c.args.name.now c.args.store.now c.write.new.self c.as_slice.result.now c.as_slice-2.result.now c.count_before_key-first.result c.in-Some.past Rtype.aaaa c.requires.records.are c.requires.records.sorted
    c.write.ensures c.as_slice.ensures.value c.as_slice-2.ensures.value c.count_before_key-first.ensures.point c.in-Some.ensures

pub returns-in-Some-clause-cname : goal.returns-in-Some-clause-cname
returns-in-Some-clause-cname g c =
    c.types_within.ensures.cname
    ∙ few_types c.args.apex.now c.args.name.now c.args.store.now c.write.new.self c.as_slice.result.now c.as_slice-2.result.now c.count_before_key-first.result c.in-Some.past Rtype.cname c.requires.records.are c.requires.records.sorted
    c.write.ensures c.as_slice.ensures.value c.as_slice-2.ensures.value c.count_before_key-first.ensures.point c.in-Some.ensures
