use Rattle.std.proofs.Common.{◌≡◌, ◌++◌, List, ℕ, take}
use Rattle.rdata_tokens.specs.Reading.{AcceptsPiece}
use Rattle.rdata_tokens.proofs.reader.DigitsReader.read_digits.Given as goal

abbrev pub invariant-loop-digit : goal.invariant-loop-digit
invariant-loop-digit g l =
    (gained : List ℕ) × AcceptsPiece l.initial.self (take l.digit-index l.digits) gained l.self
    × (g.B.AsOctets.octets l.target ≡ g.B.AsOctets.octets l.initial.target ++ gained)
