use Rattle.std.proofs.Common.{◌≡◌, ◌++◌, ℕ, List, length}
use Rattle.rdata_tokens.specs.Spelling.{SpellsBeginning}
use Rattle.rdata_tokens.proofs.spelled.append_spelled.Given as goal

abbrev pub invariant-loop-rest : goal.invariant-loop-rest
invariant-loop-rest g l = (front : List ℕ) × SpellsBeginning l.text front l.rest × (g.B.AsOctets.octets l.target ≡ g.B.AsOctets.octets l.fn.target ++ front)

abbrev pub decreases-loop-rest : goal.decreases-loop-rest
decreases-loop-rest g l = length l.rest
