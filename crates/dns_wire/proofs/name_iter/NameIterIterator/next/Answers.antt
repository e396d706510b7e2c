use Rattle.std.proofs.Common.{arith, sym, ◌∙◌}
use Rattle.dns_wire.specs.Label.{label_octets}
use Rattle.std.proofs.Common.{ap, length}
use Rattle.std.proofs.lemmas.List.Elements.{All-tail}
use Rattle.dns_wire.proofs.Wires.{IsShort}
use Rattle.dns_wire.proofs.Splitting.{refused_none}
use Rattle.dns_wire.proofs.Iterating.{labels_first, labelled_rest}
use Rattle.dns_wire.proofs.name_iter.NameIterIterator.next.Goals as goal

pub invariant_of-self-inside : goal.invariant_of-self-inside
invariant_of-self-inside c = (labelled_rest c.self.inside.labelled.0 (label_octets c.in-Ok.label) _ (sym c.self.inside.labelled.1 ∙ c.in-Ok.ensures), tt)

pub returns-in-Ok-clause-steps : goal.returns-in-Ok-clause-steps
returns-in-Ok-clause-steps c = sym c.self.view_is ∙ labels_first _ _ (label_octets c.in-Ok.label) c.self.inside.labelled c.rest-in-Ok-2.given.0 c.in-Ok.ensures

pub returns-in-Ok-clause-goes : goal.returns-in-Ok-clause-goes
returns-in-Ok-clause-goes c =
    let e = sym c.self.view_is ∙ labels_first _ _ (label_octets c.in-Ok.label) c.self.inside.labelled c.rest-in-Ok-2.given.0 c.in-Ok.ensures in
    record {
      on = λ _. let n = ap length e in (tt, tt, rw e (omega arith));
      keeps = tt;
      rests = λ _. tt;
    }

pub invariant_of-self : goal.invariant_of-self
invariant_of-self c =
    let e = labels_first _ _ (label_octets c.in-Ok.label) c.self.inside.labelled c.rest-in-Ok-2.given.0 c.in-Ok.ensures in
    All-tail IsShort (label_octets c.in-Ok.label) c.rest-in-Ok-2.given.0.0 (rw e at c.self.invariant)

pub returns-in-Err-clause-steps : goal.returns-in-Err-clause-steps
returns-in-Err-clause-steps c =
    let e = sym c.self.view_is ∙ refused_none c.self.inside.labelled.0 _ c.in-Err.field-0 c.self.invariant c.self.inside.labelled.1 c.in-Err.ensures in
    (e, e)
