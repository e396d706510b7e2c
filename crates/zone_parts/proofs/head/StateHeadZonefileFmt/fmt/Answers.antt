use Rattle.std.proofs.Common.{◌++◌, List, subst, sym}
use Rattle.std.proofs.lemmas.Result.{on_ok_weaker}
use Rattle.dns_zone.specs.Layout.{Step}
use Rattle.dns_zone.specs.Nesting.{Fits, lines_of}
use Rattle.dns_zone.proofs.Runs.{runs_append}
use Rattle.zone_record.specs.RdataPrinting.{token_steps}
use Rattle.zone_stream.specs.Heads.{default_ttl_lines, origin_lines, repeated_document}
use Rattle.zone_parts.specs.declared.head.StateHead.{StateHead}
use Rattle.zone_parts.proofs.HeadSteps.{fits_first, fits_last}
use Rattle.zone_parts.proofs.head.StateHeadZonefileFmt.fmt.Goals as goal

abbrev default : StateHead → List Step
default h = lines_of token_steps (default_ttl_lines h.state.now.default_ttl)

abbrev last : StateHead → List Step
last h = repeated_document h.last_record

abbrev origin : StateHead → List Step
origin h = lines_of token_steps (origin_lines h.state.now.origin)

pub write_default-requires : goal.write_default-requires
write_default-requires g c = let h = c.args.self.now in fits_first (default h) (last h ++ origin h) _ c.requires

pub write_last-requires : goal.write_last-requires
write_last-requires g c =
    let h = c.args.self.now in
    subst (Fits (last h)) (sym c.in_ok-write_default.ensures.level) (fits_first (last h) (origin h) _ (fits_last (default h) (last h ++ origin h) _ c.requires))

pub write_name-requires : goal.write_name-requires
write_name-requires g c =
    let h = c.args.self.now in
    subst (Fits (origin h)) (sym c.in_ok-write_last.ensures.level) (subst (Fits (origin h)) (sym c.in_ok-write_default.ensures.level) (fits_last (last h) (origin h) _ (fits_last (default h) (last h ++ origin h) _ c.requires)))

pub returns : goal.returns
returns g c = on_ok_weaker c.write_name.result (λ end. runs_append _ _ _ _ _ _ _ c.in_ok-write_default.ensures (runs_append _ _ _ _ _ _ _ c.in_ok-write_last.ensures end)) c.write_name.ensures
