use Rattle.rdata_fields.proofs.Refusals.{name_read}
use Rattle.rdata_fields.proofs.texts.append_name_field.Goals as goal

pub returns : goal.returns
returns g c = name_read g.B.OctetsBuilder.room _ c.args.token.now.is_quoted c.args.token.now.text.now _ _ c.append_name.result c.if-token.false c.append_name.ensures.ok c.append_name.ensures.err c.append_name.ensures.extends
