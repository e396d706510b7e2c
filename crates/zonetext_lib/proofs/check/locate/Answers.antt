use Rattle.std.proofs.Common.{[], sym, subst}
use Rattle.dns_lexer.specs.declared.pieces.Fault.{Fault}
use Rattle.zonetext_lib.specs.Found.{IsOctetFault, IsOpenedAfter}
use Rattle.std.specs.Prelude.{take}
use Rattle.zone_format.specs.Place.{IsAt}
use Rattle.zonetext_lib.proofs.check.locate.Goals as goal

pub returns : goal.returns
returns c =
    let octets = c.args.octets.now in
    let lines = c.args.lines_before in
    let found = c.locate_from in
    let same = sym found.ensures.fault in
    record {
      fault = subst (IsOctetFault octets) same c.requires.fault;
      position = subst (λ (f : Fault). IsAt lines (take f.at octets) found.result.position) same (found.ensures.position lines [] c.line_start.ensures.at);
      opened = subst (λ (f : Fault). IsOpenedAfter lines [] octets f.wrong found.result.opened) same (found.ensures.opened lines [] c.line_start.ensures.at);
    }
