use Rattle.std.proofs.Common.{◌≡◌, ℕ, ◌-◌, ◌%◌, ◌<◌, ◌++◌, false, List, length, take}
use Rattle.rdata_tokens.specs.Spelled.{SpellsDigits, opens_group, base_of}
use Rattle.rdata_tokens.proofs.reader.append_blocks.Given as goal

abbrev pub invariant-loop-at : goal.invariant-loop-at
invariant-loop-at g l =
    (l.at < length l.digits) × (l.at % (base_of l.kind).group ≡ 0)
    × ((gained : List ℕ) × SpellsDigits (base_of l.kind) (take l.at l.digits) gained × (opens_group (base_of l.kind) gained ≡ false)
    × (g.B.AsOctets.octets l.target ≡ g.B.AsOctets.octets l.initial.target ++ gained))

abbrev pub decreases-loop-at : goal.decreases-loop-at
decreases-loop-at g l = length l.digits - l.at
