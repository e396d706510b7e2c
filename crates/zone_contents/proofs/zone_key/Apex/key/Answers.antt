use Rattle.std.proofs.Common.{ap, ◌∙◌}
use Rattle.zone_record.specs.Keys.{order_key}
use Rattle.zone_contents.proofs.zone_key.Apex.key.Goals as goal

pub returns : goal.returns
returns c = c.as_slice.ensures.value ∙ c.self.invariant.key_is ∙ ap order_key c.self.view_is
