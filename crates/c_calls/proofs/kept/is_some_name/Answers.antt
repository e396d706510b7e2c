use Rattle.std.proofs.Common.{arith}
use Rattle.zone_reader.specs.declared.known.NameState.TheVariants.{Name}
use Rattle.c_calls.proofs.kept.is_some_name.Goals as goal

pub returns-in-Ok : goal.returns-in-Ok
returns-in-Ok c = λ _. (
  Name c.in-Ok.field-0,
  (omega (arith, c.if-kept-ne0.false), (λ none. omega (arith, none, c.if-kept-eq0.false)), (omega (arith, c.if-kept-gt255.false), rw c.in-Ok.is at c.from_octets.ensures)),
)
