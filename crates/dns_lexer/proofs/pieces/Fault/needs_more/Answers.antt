use Rattle.std.proofs.lemmas.Bool.{leb-true, le-leb}
use Rattle.dns_lexer.proofs.Early.{viable_at_end, viable_octets_at_end}
use Rattle.dns_lexer.proofs.pieces.Fault.needs_more.Goals as goal

pub returns-clause-text : goal.returns-clause-text
returns-clause-text c f =
    let e = viable_at_end c.args.octets.now c.args.self.at f.bad in
    (λ h. e.0 (leb-true _ _ h), λ v. le-leb _ _ (e.1 v))

pub returns-clause-octets : goal.returns-clause-octets
returns-clause-octets c f =
    let e = viable_octets_at_end c.args.octets.now c.args.self.at f.bad in
    (λ h. e.0 (leb-true _ _ h), λ v. le-leb _ _ (e.1 v))
