use Rattle.std.proofs.Common.{refl}
use Rattle.dns_zone.proofs.EntryDocuments.{first_found, line_more, printable_stable}
use Rattle.dns_zone.proofs.entry.first_empty.Goals as goal

pub loop-place-preserved : goal.loop-place-preserved
loop-place-preserved g c =
    line_more c.args.fields.now c.loop-place.place c.index-fields-place.result c.loop-place-test.true c.index-fields-place.is c.loop-place.invariant
    (printable_stable _ (λ none. let so = c.if-is_empty_encoding.ensures.1 none in cc))

pub returns-then-is_empty_encoding-clause-some : goal.returns-then-is_empty_encoding-clause-some
returns-then-is_empty_encoding-clause-some g c =
    first_found c.args.fields.now c.loop-place.place c.index-fields-place.result c.loop-place-test.true c.index-fields-place.is c.loop-place.invariant (c.if-is_empty_encoding.ensures.0 refl)
