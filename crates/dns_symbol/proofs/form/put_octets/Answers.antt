use Rattle.std.proofs.lemmas.List.{get_or_default}
use Rattle.dns_symbol.proofs.PrintedForms.{printed_ascii}
use Rattle.dns_symbol.proofs.form.put_octets.Goals as goal

pub returns-clause-ascii : goal.returns-clause-ascii
returns-clause-ascii g c =
    printed_ascii g.F.Form.is_escape c.args.octets.now (λ k d h. rw (get_or_default c.args.octets.now k d 0 h) (c.type_inv.octets k).fits)
