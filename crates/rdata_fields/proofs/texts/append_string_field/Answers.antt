use Rattle.rdata_fields.proofs.Refusals.{string_read}
use Rattle.rdata_fields.proofs.texts.append_string_field.Goals as goal

pub returns : goal.returns
returns g c = string_read g.B.OctetsBuilder.room c.args.token.now.is_quoted c.args.token.now.text.now _ _ c.append_string.result c.append_string.ensures.ok c.append_string.ensures.err c.append_string.ensures.extends
