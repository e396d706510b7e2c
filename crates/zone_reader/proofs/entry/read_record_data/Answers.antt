use Rattle.std.proofs.Common.{Ok, Err, ℕ, length, ap, refl, subst, ◌∙◌}
use Rattle.std.specs.Option.{option_copied}
use Rattle.rdata.specs.ByType.{ReadsType}
use Rattle.rdata_fields.specs.Source.{next_place}
use Rattle.zone_reader.specs.EntryReading.{record_with}
use Rattle.zone_reader.specs.Learning.{chosen_ttl}
use Rattle.zone_reader.proofs.EntryJoins.{data_extends, minimum_gained}
use Rattle.zone_reader.proofs.Learned.{nothing_learned}
use Rattle.zone_reader.proofs.entry.read_record_data.Goals as goal

pub returns-in-Ok-clause-reads : goal.returns-in-Ok-clause-reads
returns-in-Ok-clause-reads g c =
    let ends = g.S.TokenSource.end in
    let left = g.S.TokenSource.left in
    let octets = g.B.AsOctets.octets in
    let old = octets c.args.target.now in
    let new = octets c.read_rdata.new.target in
    let w = c.args.header in
    let room = g.B.OctetsBuilder.room in
    let gains = c.in-Ok.ensures.reads.1 in
    let begun : ℕ = length c.as_slice-old_len.result.now in (
      Ok tt,
      left c.read_rdata.new.source,
      subst (λ o. ReadsType o room w.rtype (ends c.args.source.now).at (left c.args.source.now) old (Ok tt) (left c.read_rdata.new.source) new) c.name.ensures c.in-Ok.ensures.reads,
      minimum_gained c.args.state.now c.args.state.now.owner room c.args.at (ends c.args.source.now).at old new c.finish_record.result (next_place (left c.args.source.now) (ends c.args.source.now).at) w begun gains.0 c.as_slice.result.now c.minimum_of-minimum.result gains.2
          (ap length c.as_slice-old_len.ensures.value) c.as_slice.ensures.value c.minimum_of-minimum.ensures
          (c.finish_record.ensures.record
          ∙ (λ i. record_with c.args.state.now c.args.at (c.place-data_at.ensures i) ((c.place-end.ensures ∙ (λ j. next_place (c.in-Ok.ensures.reads.0 j) (c.in-Ok.ensures.end j).at)) i) w
          (chosen_ttl w.ttl c.args.state.now.default_ttl c.args.state.now.last_ttl c.minimum_of-minimum.result))),
    )

pub returns-in-Ok-clause-extends : goal.returns-in-Ok-clause-extends
returns-in-Ok-clause-extends g c = let gains = c.in-Ok.ensures.reads.1 in (gains.0, gains.2)

pub returns-in-Err-clause-reads : goal.returns-in-Err-clause-reads
returns-in-Err-clause-reads g c =
    let ends = g.S.TokenSource.end in
    let left = g.S.TokenSource.left in
    let octets = g.B.AsOctets.octets in
    let old = octets c.args.target.now in
    let new = octets c.read_rdata.new.target in (
      Err c.in-Err.error,
      left c.read_rdata.new.source,
      subst (λ o. ReadsType o g.B.OctetsBuilder.room c.args.header.rtype (ends c.args.source.now).at (left c.args.source.now) old (Err c.in-Err.error) (left c.read_rdata.new.source) new) c.name.ensures c.in-Err.ensures.reads,
      refl,
    )

pub returns-in-Err-clause-extends : goal.returns-in-Err-clause-extends
returns-in-Err-clause-extends g c =
    data_extends (option_copied c.name.result) g.B.OctetsBuilder.room c.args.header.rtype (g.S.TokenSource.end c.args.source.now).at (g.S.TokenSource.left c.args.source.now) (g.S.TokenSource.left c.read_rdata.new.source)
    (g.B.AsOctets.octets c.args.target.now) (g.B.AsOctets.octets c.read_rdata.new.target) (Err c.in-Err.error) c.in-Err.ensures.reads

pub returns-in-Err-clause-learns : goal.returns-in-Err-clause-learns
returns-in-Err-clause-learns g c = nothing_learned c.args.state.now
