use Rattle.std.proofs.Common.{◌∙◌, subst, ap}
use Rattle.zone_reader.specs.Headers.{ParsesHeader}
use Rattle.zone_reader.specs.EntryReading.{ReadsAfterHeader}
use Rattle.zone_reader.specs.EntrySteps.{tokens_after_owner}
use Rattle.zone_reader.proofs.EntryJoins.{record_joined}
use Rattle.zone_reader.proofs.entry.read_record.Goals as goal

pub returns-clause-reads : goal.returns-clause-reads
returns-clause-reads g c =
    let ends = g.S.TokenSource.end in
    let left = g.S.TokenSource.left in
    let octets = g.B.AsOctets.octets in
    let room = g.B.OctetsBuilder.room in
    let end = (ends c.args.source.now).at in
    let rest = left c.parse_header-header.new.source in
    let words = c.parse_header-header.result in
    let first = c.update_owner-owner.result in
    let same = ap (λ e. e.at) (c.parse_header-header.ensures.end ∙ c.update_owner-owner.ensures.end) in
    λ some. record_joined c.args.state.now c.update_owner-owner.new.state c.set_last_ttl.new.state c.read_after_header.new.state room c.args.begins_blank c.place-at.result end (left c.args.source.now) rest first words c.explicit_ttl.result
    (octets c.args.target.now) (octets c.read_after_header.new.target) c.read_after_header.result c.place-at.ensures (c.update_owner-owner.ensures.reads some) c.update_owner-owner.ensures.state (c.update_owner-owner.ensures.learns some)
    (subst (λ n. ParsesHeader n (tokens_after_owner c.args.begins_blank (left c.args.source.now)) words rest) (ap (λ e. e.at) c.update_owner-owner.ensures.end)
    (subst (λ l. ParsesHeader (ends c.update_owner-owner.new.source).at l words rest) c.update_owner-owner.ensures.left c.parse_header-header.ensures.takes))
    c.explicit_ttl.ensures c.set_last_ttl.ensures.state c.set_last_ttl.ensures.learns
    (subst (λ n. ReadsAfterHeader c.set_last_ttl.new.state room c.place-at.result n first words rest (octets c.args.target.now) c.read_after_header.result (octets c.read_after_header.new.target)) same c.read_after_header.ensures.reads)
    c.read_after_header.ensures.extends c.read_after_header.ensures.owner c.read_after_header.ensures.learns
