use Rattle.std.proofs.Common.{◌∙◌}
use Rattle.std.proofs.lemmas.Result.{on_ok_weaker}
use Rattle.dns_zone.proofs.Runs.{runs_append}
use Rattle.zone_stream.proofs.HeadSteps.{head_has_line}
use Rattle.zone_stream.proofs.head.PartHeadZonefileFmt.fmt.Goals as goal

pub write_origin-requires : goal.write_origin-requires
write_origin-requires g c = c.requires (head_has_line c.args.self.now)

pub write_default_ttl-requires : goal.write_default_ttl-requires
write_default_ttl-requires g c = c.in_ok-write_origin.ensures.level ∙ c.requires (head_has_line c.args.self.now)

pub write_repeated-requires : goal.write_repeated-requires
write_repeated-requires g c = c.in_ok-write_default_ttl.ensures.level ∙ (c.in_ok-write_origin.ensures.level ∙ c.requires (head_has_line c.args.self.now))

pub write_record-requires : goal.write_record-requires
write_record-requires g c = c.in_ok-write_repeated.ensures.level ∙ (c.in_ok-write_default_ttl.ensures.level ∙ (c.in_ok-write_origin.ensures.level ∙ c.requires (head_has_line c.args.self.now)))

pub returns : goal.returns
returns g c =
    on_ok_weaker c.write_record.result
    (λ last. runs_append _ _ _ _ _ _ _ c.in_ok-write_origin.ensures (runs_append _ _ _ _ _ _ _ c.in_ok-write_default_ttl.ensures (runs_append _ _ _ _ _ _ _ c.in_ok-write_repeated.ensures last)))
    c.write_record.ensures
