use Rattle.std.proofs.Common.{Ok, [], ◌≢◌, ◌∙◌, ap, subst}
use Rattle.std.specs.Prelude.{not}
use Rattle.rdata_fields.proofs.Tokens.{none_left}
use Rattle.zone_reader.specs.Directives.{ParsesDirective}
use Rattle.zone_reader.specs.EntrySteps.{ReadsDirective, ReadsRecordTokens}
use Rattle.zone_reader.proofs.EntryJoins.{directive_read, head_refused, nothing_read, record_read}
use Rattle.zone_reader.proofs.EntrySteps.{some_left}
use Rattle.zone_reader.proofs.entry.read_entry.Goals as goal

pub returns-then-is_none-clause-reads : goal.returns-then-is_none-clause-reads
returns-then-is_none-clause-reads g c =
    let tokens = g.S.TokenSource.left c.args.source.now in
    nothing_read g.B.OctetsBuilder.room c.args.begins_blank (g.S.TokenSource.end c.args.source.now).at tokens c.args.state.now (g.B.AsOctets.octets c.args.target.now)
    (none_left c.current.result tokens c.current.ensures (c.is_none.ensures ∙ ap not c.if-is_none.true))

pub returns-in-Ok-Some-clause-reads : goal.returns-in-Ok-Some-clause-reads
returns-in-Ok-Some-clause-reads g c =
    let left = g.S.TokenSource.left in
    let octets = g.B.AsOctets.octets in
    let room = g.B.OctetsBuilder.room in
    let d = c.in-Ok-Some.directive in
    let behind = left c.parse_directive.new.source in
    let state = c.args.state.now in
    let old = octets c.args.target.now in
    let r = c.read_directive.result in
    let after = c.read_directive.new.state in
    let new = octets c.read_directive.new.target in
    let end = (g.S.TokenSource.end c.args.source.now).at in
    let tokens = left c.args.source.now in
    let reads = subst (λ n. ReadsDirective d room c.place-at.result n behind state old r after new) (ap (λ e. e.at) c.parse_directive.ensures.end) c.read_directive.ensures.reads in
    directive_read room c.args.begins_blank (g.S.TokenSource.end c.args.source.now).at (left c.args.source.now) state old r after new d behind
    (subst (λ o. ParsesDirective c.args.begins_blank (g.S.TokenSource.end c.args.source.now).at (left c.args.source.now) (Ok o) behind) c.in-Ok-Some.field-0-is c.in-Ok-Some.ensures.takes)
    (subst (λ n. ReadsDirective d room n end behind state old r after new) c.place-at.ensures reads)

pub returns-in-Ok-None-clause-reads : goal.returns-in-Ok-None-clause-reads
returns-in-Ok-None-clause-reads g c =
    let ends = g.S.TokenSource.end in
    let left = g.S.TokenSource.left in
    let octets = g.B.AsOctets.octets in
    let room = g.B.OctetsBuilder.room in
    let blank = c.args.begins_blank in
    let tokens = left c.args.source.now in
    let behind = left c.parse_directive.new.source in
    let state = c.args.state.now in
    let old = octets c.args.target.now in
    let r = c.read_record.result in
    let after = c.read_record.new.state in
    let new = octets c.read_record.new.target in
    let takes = subst (λ o. ParsesDirective blank (ends c.args.source.now).at tokens (Ok o) behind) c.in-Ok-None.field-0-is c.in-Ok-None.ensures.takes in
    let some = some_left c.current.result tokens c.current.ensures (c.is_none.ensures ∙ ap not c.if-is_none.false) in
    let reads = subst (λ l. l ≢ [] → ReadsRecordTokens room blank (ends c.parse_directive.new.source).at l state old r after new) takes.0 c.read_record.ensures.reads some in
    record_read room blank (ends c.args.source.now).at tokens state old r after new behind some takes
    (subst (λ n. ReadsRecordTokens room blank n tokens state old r after new) (ap (λ e. e.at) c.parse_directive.ensures.end) reads)

pub returns-in-Err-clause-reads : goal.returns-in-Err-clause-reads
returns-in-Err-clause-reads g c =
    let left = g.S.TokenSource.left in
    let room = g.B.OctetsBuilder.room in
    let end = (g.S.TokenSource.end c.args.source.now).at in
    let tokens = left c.args.source.now in
    let state = c.args.state.now in
    let old = g.B.AsOctets.octets c.args.target.now in
    head_refused room c.args.begins_blank end tokens state old (left c.parse_directive.new.source) c.in-Err.error c.in-Err.ensures.takes
