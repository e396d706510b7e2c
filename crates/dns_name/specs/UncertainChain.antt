-- The two names of an uncertain chain.
use Rattle.std.specs.Prelude.{◌≡◌}
use Rattle.dns_octets.specs.declared.octets.AsOctets.{Ghosts as OctetsGhosts}
use Rattle.dns_wire.specs.declared.to_label_iter.ToLabelIter.{Ghosts}
use Rattle.dns_name.specs.declared.name.UncertainName.{UncertainName}
use Rattle.dns_name.specs.declared.chain.uncertain.UncertainChain.{UncertainChain}

module _ {O R : Type 0} {o : OctetsGhosts O} {r : Ghosts R} where
  abbrev pub first_in_chain : UncertainChain O R o r → UncertainName O
  first_in_chain c = c.left

  abbrev pub second_in_chain : UncertainChain O R o r → R
  second_in_chain c = c.right

  -- they are these
  abbrev pub HasNames : UncertainName O → R → UncertainChain O R o r → Type 0
  HasNames first second c = (first_in_chain c ≡ first) × (second_in_chain c ≡ second)
