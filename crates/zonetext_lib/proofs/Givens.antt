-- The error of the iterator's items.
use Rattle.std.proofs.Common.{◌≡◌, ℕ, List, length}
use Rattle.std.specs.Prelude.{Some, Result}
use Rattle.dns_lexer.specs.declared.pieces.Piece.{Piece}
use Rattle.dns_lexer.specs.declared.pieces.Fault.{Fault}
use Rattle.dns_lexer.specs.Pieces.{EachWithin, ReadsOctets}
use Rattle.zonetext_lib.specs.Found.{IsOctetFault}
use Rattle.zone_format.proofs.Givens.{first_fault, fault_of as located_fault}

pub fault_of : (octets : List ℕ) (given : List (Result Piece Fault)) (f : Fault) → ReadsOctets octets given → EachWithin (length octets) given → first_fault given ≡ Some f → IsOctetFault octets f
fault_of octets given f r w h = let found = located_fault octets given f r w h in record { within = found.0; is = found.1 }
