use Rattle.std.proofs.Common.{◌≡◌, ◌++◌}
use Rattle.std.specs.Prelude.{replicate}
use Rattle.finding_formats.proofs.excerpt.push_repeated.Given as goal

abbrev pub invariant-loop : goal.invariant-loop
invariant-loop g l = l.out.items ≡ l.initial.out.items ++ replicate l.counter l.octet
