use Rattle.std.proofs.Common.{refl, [], ap}
use Rattle.dns_wire.proofs.Builders.{as_naming, opened_is, built_none}
use Rattle.dns_wire.proofs.name_builder.NameBuilder.new.Goals as goal

pub invariant_of-result : goal.invariant_of-result
invariant_of-result g c = ((([], []), (c.empty.ensures, refl)), tt)

pub invariant_of-result-2 : goal.invariant_of-result-2
invariant_of-result-2 g c = rw (opened_is _ _ c.result-1.given.0 [] [] c.empty.ensures refl) built_none

pub returns : goal.returns
returns g c = ap as_naming (opened_is _ _ c.result-1.given.0 [] [] c.empty.ensures refl)
