use Rattle.std.proofs.Common.{rules, refl, ap, inl, inr, Err}
use Rattle.std.specs.Prelude.{codes}
use Rattle.dns_zone.specs.Documents.{item_steps, fault_text, IsWellFormed}
use Rattle.dnstext_lib.proofs.print.run_print.Goals as goal

pub returns-in-Err-NoMemory-clause-refused : goal.returns-in-Err-NoMemory-clause-refused
returns-in-Err-NoMemory-clause-refused g c = λ is. (
  codes "short buffer",
  inr (inr (c.in-Err-NoMemory.ensures.memory (ap (λ e. Err e) c.in-Err-NoMemory.field-0-is), refl, refl)),
  c.refuse.ensures.wrote is,
)

pub returns-in-Err-NoMemory-clause-silent : goal.returns-in-Err-NoMemory-clause-silent
returns-in-Err-NoMemory-clause-silent g c = λ is. inr (codes "short buffer", inr (inr (c.in-Err-NoMemory.ensures.memory (ap (λ e. Err e) c.in-Err-NoMemory.field-0-is), refl, refl)))

pub returns-in-Ok-from_items-clause-refused : goal.returns-in-Ok-from_items-clause-refused
returns-in-Ok-from_items-clause-refused g c = λ is.
    let formed : IsWellFormed (item_steps c.in-Ok.items.items) = search rules in
    (codes "write failed", inr (inl (item_steps c.in-Ok.items.items, c.in-Ok.ensures.items, formed, refl)), c.refuse-in-Err-write.ensures.wrote is)

pub returns-in-Ok-from_items-clause-silent : goal.returns-in-Ok-from_items-clause-silent
returns-in-Ok-from_items-clause-silent g c = λ is.
    let formed : IsWellFormed (item_steps c.in-Ok.items.items) = search rules in
    inr (codes "write failed", inr (inl (item_steps c.in-Ok.items.items, c.in-Ok.ensures.items, formed, refl)))

pub returns-clause-silent : goal.returns-clause-silent
returns-clause-silent g c = λ is.
    inr (fault_text c.in-Err.refusal.0, inl (item_steps c.in-Ok.items.items, c.in-Err.refusal.0, c.in-Ok.ensures.items, c.in-Err.ensures.err.0, refl, refl))
