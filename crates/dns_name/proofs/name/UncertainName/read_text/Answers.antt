use Rattle.dns_name.proofs.TextRead.{text_read}
use Rattle.dns_name.proofs.name.UncertainName.read_text.Goals as goal

pub returns : goal.returns
returns g c =
    text_read g.row.Octets.Denot c.args.text.now c.chars.result g.Octets.Builder.OctetsBuilder.room c.from_chars.result
    c.utf8.text c.chars.ensures.rest c.from_chars.ensures
