use Rattle.rdata_fields.proofs.Refusals.{hash_read}
use Rattle.rdata_fields.proofs.texts.append_hash_field.Goals as goal

pub returns : goal.returns
returns g c =
    hash_read g.B.OctetsBuilder.room c.args.token.now.is_quoted c.args.token.now.text.now _ _ c.append_base32hex.result c.if-token.false c.append_base32hex.ensures.ok c.append_base32hex.ensures.err c.append_base32hex.ensures.kept
