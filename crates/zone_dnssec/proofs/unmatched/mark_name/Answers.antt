use Rattle.std.proofs.Common.{ap, sym, ◌∙◌}
use Rattle.std.specs.Prelude.{◌&&◌}
use Rattle.zone_dnssec.specs.UnmatchedLinks.{is_hash_in_zone, is_matching}
use Rattle.zone_dnssec.specs.ZoneViews.{zone_with}
use Rattle.zone_dnssec.proofs.Marks.{same_marks}
use Rattle.zone_dnssec.proofs.unmatched.mark_name.Goals as goal

pub returns-then-is_name_within : goal.returns-then-is_name_within
returns-then-is_name_within g c =
    let records = g.Z.ZoneRecords.contents c.args.records.now in
    let zone = zone_with c.args.origin.now records in
    let matching = is_matching c.args.origin.now c.args.chain.now c.args.name.now in
    same_marks records matching (λ owner. is_hash_in_zone zone c.args.chain.now owner c.args.name.now) _ _ (λ owner. ap (λ b. b && matching owner) (sym c.is_name_within.ensures ∙ c.if-is_name_within.true)) c.mark_matching.ensures
