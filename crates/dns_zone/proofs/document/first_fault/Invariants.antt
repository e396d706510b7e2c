use Rattle.std.proofs.Common.{drop}
use Rattle.dns_zone.specs.Documents.{item_steps}
use Rattle.dns_zone.proofs.Scanned.{Scanned}
use Rattle.dns_zone.proofs.document.first_fault.Given as goal

abbrev pub invariant-loop-place : goal.invariant-loop-place
invariant-loop-place g l = Scanned (item_steps l.items) l.blocks l.place (item_steps (drop l.place l.items))
