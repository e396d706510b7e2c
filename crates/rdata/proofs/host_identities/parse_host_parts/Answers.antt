use Rattle.std.proofs.Common.{[], ◌∷◌, ap, arith, subst, sym}
use Rattle.std.specs.Prelude.{Ok, Err, slice_index}
use Rattle.std.specs.Option.{option_copied}
use Rattle.rdata.specs.GatewayKeys.{octet_form}
use Rattle.rdata.specs.HostIdentities.{hit_form, public_key_form, servers_form}
use Rattle.rdata.proofs.ErrorPlaces.{part_error}
use Rattle.rdata.proofs.HeldRests.{held_refused}
use Rattle.rdata.proofs.HostLaws.{after_algorithm, after_hit, shown_algorithm, shown_hit, algorithm_first, hit_first, key_first, hit_part, public_key_part, server_part}
use Rattle.rdata.proofs.TokenRests.{first_refused}
use Rattle.rdata.proofs.host_identities.parse_host_parts.Goals as goal

pub returns-in-Err-clause-takes : goal.returns-in-Err-clause-takes
returns-in-Err-clause-takes g c =
    let origin = option_copied c.args.origin in
    let why = c.in-Err.error in
    let refused = c.in-Err.ensures.takes in (
      why,
      0,
      part_error _ why _ c.args.before 0 c.in_field.ensures (omega arith),
      held_refused shown_algorithm octet_form (λ algorithm. after_algorithm origin (slice_index algorithm 0)) g.B.OctetsBuilder.room _ _ _ (λ n. n ∷ []) why _ refused,
      refused.0,
    )

pub returns-in-Err-parse_hit-clause-takes : goal.returns-in-Err-parse_hit-clause-takes
returns-in-Err-parse_hit-clause-takes g c =
    let origin = option_copied c.args.origin in
    let room = g.B.OctetsBuilder.room in
    let algorithm = c.in-Ok.number in
    let why = c.in-Err-parse_hit.error in
    let named = c.in-Ok.ensures.takes in
    let refused = c.in-Err-parse_hit.ensures.takes in (
      why,
      1,
      part_error _ why _ c.args.before 1 c.in_field-in-Err-parse_hit.ensures (omega arith),
      algorithm_first origin algorithm room _ _ _ _ _ (Err why) _ _ (ap (λ e. e.at) c.parse_octet.ensures.end) named (held_refused shown_hit hit_form (λ hit. after_hit origin algorithm hit) room _ _ _ (λ s. s) why _ refused),
      hit_part origin _ _ named.0 _ named.1 algorithm named.2 refused.0,
    )

pub returns-in-Err-parse_public_key-clause-takes : goal.returns-in-Err-parse_public_key-clause-takes
returns-in-Err-parse_public_key-clause-takes g c =
    let origin = option_copied c.args.origin in
    let room = g.B.OctetsBuilder.room in
    let algorithm = c.in-Ok.number in
    let hit = c.as_slice.result.now in
    let why = c.in-Err-parse_public_key.error in
    let named = c.in-Ok.ensures.takes in
    let tag = c.in-Ok-parse_hit.ensures.takes in
    let spelled = subst (hit_form.spells tag.0) (sym c.as_slice.ensures) tag.2 in
    let refused = c.in-Err-parse_public_key.ensures.takes in
    let last = first_refused (public_key_form algorithm hit) (λ key. servers_form origin) room _ _ _ why _ _ refused in
    let later = hit_first origin algorithm room _ _ _ _ _ (Err why) _ _ hit (ap (λ e. e.at) c.parse_hit.ensures.end) (tag.0, tag.1, spelled) last in (
      why,
      2,
      part_error _ why _ c.args.before 2 c.in_field-in-Err-parse_public_key.ensures (omega arith),
      algorithm_first origin algorithm room _ _ _ _ _ (Err why) _ _ (ap (λ e. e.at) c.parse_octet.ensures.end) named later,
      public_key_part origin _ _ named.0 _ named.1 algorithm named.2 tag.0 _ tag.1 hit spelled refused.0,
    )

pub returns-in-Err-parse_servers-clause-takes : goal.returns-in-Err-parse_servers-clause-takes
returns-in-Err-parse_servers-clause-takes g c =
    let origin = option_copied c.args.origin in
    let room = g.B.OctetsBuilder.room in
    let algorithm = c.in-Ok.number in
    let hit = c.as_slice.result.now in
    let why = c.in-Err-parse_servers.error in
    let named = c.in-Ok.ensures.takes in
    let tag = c.in-Ok-parse_hit.ensures.takes in
    let spelled = subst (hit_form.spells tag.0) (sym c.as_slice.ensures) tag.2 in
    let key = c.in_default.ensures.takes in
    let last = key_first origin algorithm room _ _ _ _ _ (Err why) _ _ hit _ (ap (λ e. e.at) c.parse_public_key.ensures.end) key c.in-Err-parse_servers.ensures.takes in
    let later = hit_first origin algorithm room _ _ _ _ _ (Err why) _ _ hit (ap (λ e. e.at) c.parse_hit.ensures.end) (tag.0, tag.1, spelled) last in (
      why,
      3,
      part_error _ why _ c.args.before 3 c.in_field-in-Err-parse_servers.ensures (omega arith),
      algorithm_first origin algorithm room _ _ _ _ _ (Err why) _ _ (ap (λ e. e.at) c.parse_octet.ensures.end) named later,
      server_part origin _ _ named.0 _ named.1 algorithm named.2 tag.0 _ tag.1 hit spelled key.0 _ key.2.0 key.1 key.2.1,
    )

pub returns-clause-takes : goal.returns-clause-takes
returns-clause-takes g c =
    let origin = option_copied c.args.origin in
    let room = g.B.OctetsBuilder.room in
    let algorithm = c.in-Ok.number in
    let hit = c.as_slice.result.now in
    let tag = c.in-Ok-parse_hit.ensures.takes in
    let spelled = subst (hit_form.spells tag.0) (sym c.as_slice.ensures) tag.2 in
    let last = key_first origin algorithm room _ _ _ _ _ (Ok tt) _ _ hit _ (ap (λ e. e.at) c.parse_public_key.ensures.end) c.in_default.ensures.takes c.in_default-parse_servers.ensures.takes in
    let later = hit_first origin algorithm room _ _ _ _ _ (Ok tt) _ _ hit (ap (λ e. e.at) c.parse_hit.ensures.end) (tag.0, tag.1, spelled) last in
    algorithm_first origin algorithm room _ _ _ _ _ (Ok tt) _ _ (ap (λ e. e.at) c.parse_octet.ensures.end) c.in-Ok.ensures.takes later
