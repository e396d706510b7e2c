use Rattle.std.proofs.Common.{sym, ◌∙◌}
use Rattle.zone_rules.proofs.NameParts.{above_some}
use Rattle.zone_dnssec.specs.UnmatchedLinks.{is_hash_above, is_hash_in_zone}
use Rattle.zone_dnssec.specs.ZoneViews.{zone_with}
use Rattle.zone_dnssec.proofs.Marks.{both_marks}
use Rattle.zone_dnssec.proofs.unmatched.+mark_above.Goals as goal

pub returns-in-Some : goal.returns-in-Some
returns-in-Some g t c =
    let records = g.Z.ZoneRecords.contents c.args.records.now in
    let zone = zone_with c.args.origin.now records in
    let chain = c.args.chain.now in
    both_marks records (λ owner. is_hash_in_zone zone chain owner c.in-Some.above) (λ owner. is_hash_above zone chain owner c.in-Some.above) (λ owner. is_hash_above zone chain owner c.args.name.now) _ _ _
    (λ owner. above_some (is_hash_in_zone zone chain owner) c.args.name.now c.in-Some.above (sym c.parent.ensures ∙ c.in-Some.is)) c.mark_name.ensures c.mark_above.ensures
