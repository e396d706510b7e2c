use Rattle.std.specs.Iterator.{IsFinite, size}
use Rattle.dns_name.proofs.Taking.{Taken}
use Rattle.dns_name.proofs.name.UncertainName.from_chars.Given as goal

abbrev pub invariant-loop-builder : goal.invariant-loop-builder
invariant-loop-builder g l = record {
  read : Taken g.C.Iterator.next_gives g.Octets.Builder.OctetsBuilder.room l.fn.chars l.chars l.builder;
  can : g.C.Iterator.can_next l.chars;
  finite : IsFinite (g.C.Iterator.remaining l.chars);
}

abbrev pub decreases-loop-builder : goal.decreases-loop-builder
decreases-loop-builder g l = size (g.C.Iterator.remaining l.chars)
