use Rattle.std.proofs.Common.{◌≡◌, ◌<◌, ◌≤◌, take}
use Rattle.std.specs.Prelude.{Some}
use Rattle.dns_lexer.specs.declared.reader.Mode.TheVariants.{Outside}
use Rattle.dns_lexer.specs.Pieces.{place_of}
use Rattle.dns_lexer.proofs.Viable.{walk}
use Rattle.dns_lexer.proofs.Openers.{Opened}
use Rattle.dns_lexer.proofs.unclosed.outermost_open_of_octets.Given as goal

abbrev pub invariant-loop-octet : goal.invariant-loop-octet
invariant-loop-octet l = record {
  place : l.at ≡ l.octet-index;
  deep : l.depth ≤ l.at;
  walked : walk Outside 0 (take l.octet-index l.octets) ≡ Some (l.mode, l.depth);
  before : 0 < l.depth → l.opened < l.at;
  opens : 0 < l.depth → Opened (take l.octet-index l.octets) (place_of l.octets l.opened);
}
