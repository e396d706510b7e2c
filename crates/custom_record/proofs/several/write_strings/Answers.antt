use Rattle.std.proofs.Common.{length, ◌<◌, arith, sym, encode_utf8_all}
use Rattle.std.proofs.lemmas.List.{map_more}
use Rattle.dns_charstr.specs.Printed.{quoted_text}
use Rattle.dns_zone.specs.Layout.{token}
use Rattle.dns_zone.proofs.Runs.{runs_none, runs_append, runs_step}
use Rattle.custom_record.proofs.several.write_strings.Goals as goal

pub loop-string-init : goal.loop-string-init
loop-string-init g c = runs_none _ _ _

pub loop-string-preserved : goal.loop-string-preserved
loop-string-preserved g c =
    let h : c.loop-string.string-index < length c.args.strings.now = omega arith in
    rw (map_more (λ s. token (encode_utf8_all (quoted_text s))) c.args.strings.now c.loop-string.string-index c.string-item.result h)
    (rw (sym c.string-item.is)
    (runs_append _ _ _ _ _ _ _ c.loop-string.invariant (runs_step _ _ _ _ _ c.in_ok-write_quoted.ensures.blocks c.in_ok-write_quoted.ensures.gives)))
