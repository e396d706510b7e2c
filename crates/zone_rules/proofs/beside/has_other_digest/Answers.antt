use Rattle.std.proofs.Common.{◌≡◌, Bool, true, false, refl, sym, ◌∙◌, arith}
use Rattle.std.specs.List.{list_any}
use Rattle.zone_rules.specs.Rules.{is_digest_beside}
use Rattle.zone_rules.specs.Subjects.{relates}
use Rattle.zone_rules.specs.declared.beside.Relation.TheVariants.{Digest}
use Rattle.zone_rules.proofs.OwnDigests.{none_beside, place_within, sha1_here}
use Rattle.zone_rules.proofs.OwnRecords.{listed_within, owned_by_it}
use Rattle.zone_rules.proofs.Subjects.{any_found}
use Rattle.zone_rules.proofs.beside.has_other_digest.Goals as goal

pub places_at-first-requires : goal.places_at-first-requires
places_at-first-requires g c = listed_within (g.Z.ZoneRecords.contents c.args.records.now) c.args.place c.args.one.now c.requires.at

pub first_sha1-from-requires-clause-order : goal.first_sha1-from-requires-clause-order
first_sha1-from-requires-clause-order g c =
    let records = g.Z.ZoneRecords.contents c.args.records.now in
    let first = c.places_at-first.result.0 in
    let past = c.places_at-first.result.1 in
    (place_within records c.args.place c.args.one.now c.requires.at c.requires.rtype c.requires.sha1 first past
    (owned_by_it records c.args.place c.args.one.now c.requires.at first past c.places_at-first.ensures)).0

pub first_sha1-from-requires-clause-bound : goal.first_sha1-from-requires-clause-bound
first_sha1-from-requires-clause-bound g c = listed_within (g.Z.ZoneRecords.contents c.args.records.now) c.args.place c.args.one.now c.requires.at

pub first_sha1-from-requires-clause-is : goal.first_sha1-from-requires-clause-is
first_sha1-from-requires-clause-is g c = sha1_here (g.Z.ZoneRecords.contents c.args.records.now) c.args.place c.args.one.now c.requires.at c.requires.rtype c.requires.sha1

pub is_related_before-requires : goal.is_related_before-requires
is_related_before-requires g c =
    let lt = listed_within (g.Z.ZoneRecords.contents c.args.records.now) c.args.place c.args.one.now c.requires.at in
    omega (arith, lt, c.first_sha1-from.ensures.high)

pub returns-then-is_related_before : goal.returns-then-is_related_before
returns-then-is_related_before g c =
    sym (any_found (relates Digest c.args.one.now) (g.Z.ZoneRecords.contents c.args.records.now) _ (c.is_related_before.ensures.found c.if-is_related_before.true))

pub past_sha1-next-requires-clause-order : goal.past_sha1-next-requires-clause-order
past_sha1-next-requires-clause-order g c =
    let records = g.Z.ZoneRecords.contents c.args.records.now in
    let first = c.places_at-first.result.0 in
    let past = c.places_at-first.result.1 in
    (place_within records c.args.place c.args.one.now c.requires.at c.requires.rtype c.requires.sha1 first past
    (owned_by_it records c.args.place c.args.one.now c.requires.at first past c.places_at-first.ensures)).1

pub past_sha1-next-requires-clause-bound : goal.past_sha1-next-requires-clause-bound
past_sha1-next-requires-clause-bound g c =
    let owned = owned_by_it (g.Z.ZoneRecords.contents c.args.records.now) c.args.place c.args.one.now c.requires.at c.places_at-first.result.0 c.places_at-first.result.1 c.places_at-first.ensures in
    owned.bound

pub past_sha1-next-requires-clause-is : goal.past_sha1-next-requires-clause-is
past_sha1-next-requires-clause-is g c = sha1_here (g.Z.ZoneRecords.contents c.args.records.now) c.args.place c.args.one.now c.requires.at c.requires.rtype c.requires.sha1

pub is_related_after-requires : goal.is_related_after-requires
is_related_after-requires g c =
    let owned = owned_by_it (g.Z.ZoneRecords.contents c.args.records.now) c.args.place c.args.one.now c.requires.at c.places_at-first.result.0 c.places_at-first.result.1 c.places_at-first.ensures in
    owned.bound

pub returns : goal.returns
returns g c = by c.is_related_after.result refl
  where
    by : (b : Bool) → c.is_related_after.result ≡ b → c.is_related_after.result ≡ list_any (is_digest_beside c.args.one.now) (g.Z.ZoneRecords.contents c.args.records.now)
    by true e = e ∙ sym (any_found (relates Digest c.args.one.now) (g.Z.ZoneRecords.contents c.args.records.now) _ (c.is_related_after.ensures.found e))
    by false e =
        let records = g.Z.ZoneRecords.contents c.args.records.now in
        let first = c.places_at-first.result.0 in
        let past = c.places_at-first.result.1 in
        e ∙ sym (none_beside records c.args.place c.args.one.now c.requires.at c.requires.rtype c.requires.sha1 first past
        (owned_by_it records c.args.place c.args.one.now c.requires.at first past c.places_at-first.ensures) c.are_in_order.ensures c.first_sha1-from.result c.past_sha1-next.result
        c.first_sha1-from.ensures c.past_sha1-next.ensures (c.is_related_before.ensures.none c.if-is_related_before.false) (c.is_related_after.ensures.none e))
