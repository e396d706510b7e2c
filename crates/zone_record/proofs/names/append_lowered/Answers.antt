use Rattle.std.proofs.Common.{refl}
use Rattle.zone_record.proofs.LoweredNames.{lowering_none, lowering_more}
use Rattle.zone_record.proofs.names.append_lowered.Goals as goal

pub loop-rest-init : goal.loop-rest-init
loop-rest-init g c = lowering_none c.args.octets.now (g.B.AsOctets.octets c.args.target.now)

pub loop-rest-preserved : goal.loop-rest-preserved
loop-rest-preserved g c =
    lowering_more c.args.octets.now (g.B.AsOctets.octets c.args.target.now) c.loop-rest.rest.now _ _ c.min-count.result _ c.loop-rest.invariant c.in_ok-append_block.ensures.ok refl
