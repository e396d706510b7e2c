use Rattle.dns_name.proofs.WholeName.{whole_reads}
use Rattle.dns_name.proofs.name.UncertainName.from_str.Goals as goal

pub returns-clause-succeeds : goal.returns-clause-succeeds
returns-clause-succeeds g c = λ name is fits.
    whole_reads c.args.text.now g.Octets.Builder.OctetsBuilder.room name c.read_text.result c.read_text.ensures is fits
