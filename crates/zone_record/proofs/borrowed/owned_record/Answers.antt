use Rattle.std.proofs.Common.{subst, Err}
use Rattle.dns_wire.specs.FromOctets.{MakesName}
use Rattle.zone_record.proofs.WireNames.{never_refused}
use Rattle.zone_record.proofs.borrowed.owned_record.Goals as goal

pub returns-in_default-clause-none : goal.returns-in_default-clause-none
returns-in_default-clause-none g c = λ is typed.
    let why = c.in_default.field-0 in
    never_refused c.args.octets.now.owner.now why is (subst (λ o. MakesName o (Err why)) c.in_ok-copied.ensures c.in_default.ensures)
