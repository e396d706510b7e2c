use Rattle.std.proofs.Common.{◌≡◌, true, sym, ap, ◌∙◌}
use Rattle.std.specs.Prelude.{◌&&◌}
use Rattle.zone_dnssec.specs.HashedLinks.{is_bounded}
use Rattle.zone_dnssec.specs.Nsec3Chain.{is_link, opts_out}
use Rattle.zone_dnssec.specs.OptOutFlags.{is_flag_lone}
use Rattle.zone_dnssec.proofs.flags.has_lone_flag.Goals as goal

pub returns : goal.returns
returns g c =
    let records = g.Z.ZoneRecords.contents c.args.records.now in
    let chain = c.args.chain.now in
    let link : is_link chain c.args.record.now ≡ true = sym c.is_of_chain.ensures ∙ c.if-not-is_of_chain.false in
    let short : is_bounded chain ≡ true = sym c.is_short.ensures ∙ c.if-not-is_short.false in
    c.is_flag_lone.ensures ∙ ap (λ b. is_flag_lone chain b records) c.has_opt_out.ensures
    ∙ (λ j. sym link j && (sym short j && is_flag_lone chain (opts_out c.args.record.now) records))
