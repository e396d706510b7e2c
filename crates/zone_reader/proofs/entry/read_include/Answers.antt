use Rattle.std.proofs.Common.{Err, subst, ap}
use Rattle.std.specs.Option.{option_copied}
use Rattle.zone_reader.specs.EntrySteps.{ReadsLastInclude, ParsesIncludedOrigin}
use Rattle.zone_reader.proofs.EntrySteps.{include_refused}
use Rattle.zone_reader.proofs.entry.read_include.Goals as goal

pub returns-in-Err-clause-reads : goal.returns-in-Err-clause-reads
returns-in-Err-clause-reads g c =
    let ends = g.S.TokenSource.end in
    let left = g.S.TokenSource.left in
    let octets = g.B.AsOctets.octets in
    let origin = option_copied c.name.result in
    let end = (ends c.args.source.now).at in
    let tokens = left c.args.source.now in
    let behind = left c.append_file_name-file_name_len.new.source in
    let old = octets c.args.target.now in
    let new = octets c.append_file_name-file_name_len.new.target in
    let room = g.B.OctetsBuilder.room in
    let r = c.in-Err.error in
    subst (λ o. ReadsLastInclude o room c.args.begin end tokens old (Err r) new) c.name.ensures
    (include_refused origin end room old c.args.begin tokens behind c.append_file_name-file_name_len.result r new c.append_file_name-file_name_len.ensures.passes
    (subst (λ n. ParsesIncludedOrigin origin n behind (Err r)) (ap (λ e. e.at) c.append_file_name-file_name_len.ensures.end) c.in-Err.ensures.takes))
