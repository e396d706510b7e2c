use Rattle.zone_check.proofs.UnportableSteps.{named, numbered, unnamed}
use Rattle.zone_check.proofs.unportable.is_rare_type.Goals as goal

pub returns-then-begins_type : goal.returns-then-begins_type
returns-then-begins_type c = numbered c.args.text.now c.begins_type.result c.begins_type.ensures c.if-begins_type.true

pub returns-in-Ok : goal.returns-in-Ok
returns-in-Ok c = named c.args.text.now c.begins_type.result _ c.is_portable.result c.begins_type.ensures c.if-begins_type.false c.in-Ok.ensures c.is_portable.ensures

pub returns-in-Err : goal.returns-in-Err
returns-in-Err c = unnamed c.args.text.now c.begins_type.result c.begins_type.ensures c.if-begins_type.false c.in-Err.ensures.1
