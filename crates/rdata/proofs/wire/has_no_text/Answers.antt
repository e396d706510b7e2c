use Rattle.std.proofs.Common.{subst, sym}
use Rattle.rdata.proofs.ItemLaws.{AreItems}
use Rattle.rdata.proofs.Textless.{items_behind_fields}
use Rattle.rdata.proofs.wire.has_no_text.Goals as goal

pub has_other_family-requires : goal.has_other_family-requires
has_other_family-requires c = subst AreItems (sym c.after_fields-in-Prefixes.ensures) (items_behind_fields c.args.shape.now c.args.octets.now c.requires c.in-Prefixes.is)
