use Rattle.std.proofs.Common.{◌≡◌, true, ap, sym, ◌∙◌}
use Rattle.std.specs.Prelude.{◌&&◌, ◌||◌}
use Rattle.zone_dnssec.specs.UnmatchedLinks.{is_hash_above, is_hash_in_zone, shows_hashed, shows_name}
use Rattle.zone_dnssec.specs.ZoneViews.{zone_with}
use Rattle.zone_dnssec.proofs.Marks.{both_marks}
use Rattle.zone_dnssec.proofs.unmatched.mark_record.Goals as goal

pub returns-then-shows_name : goal.returns-then-shows_name
returns-then-shows_name g c =
    let records = g.Z.ZoneRecords.contents c.args.records.now in
    let zone = zone_with c.args.origin.now records in
    let chain = c.args.chain.now in
    let name = c.args.record.now.owner in
    let shown : shows_name zone c.args.record.now ≡ true = sym c.shows_name.ensures ∙ c.if-shows_name.true in
    both_marks records (λ owner. is_hash_in_zone zone chain owner name) (λ owner. is_hash_above zone chain owner name) (λ owner. shows_hashed zone chain owner c.args.record.now) _ _ _
    (λ owner. ap (λ b. b && (is_hash_in_zone zone chain owner name || is_hash_above zone chain owner name)) shown) c.mark_name.ensures c.mark_above.ensures
