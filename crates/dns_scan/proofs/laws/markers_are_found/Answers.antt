use Rattle.dns_scan.proofs.Markers.{marker_found, marker_left, marker_taken}
use Rattle.dns_scan.proofs.laws.markers_are_found.Goals as goal

pub returns-clause-found : goal.returns-clause-found
returns-clause-found g c = marker_found g.S.Scanner.next_token _ _ _ c.scan_opt_unknown_marker.ensures.scans

pub returns-clause-taken : goal.returns-clause-taken
returns-clause-taken g c = marker_taken g.S.Scanner.next_token _ _ _ c.scan_opt_unknown_marker.ensures.scans

pub returns-clause-left : goal.returns-clause-left
returns-clause-left g c = λ tokens stands other.
    let left = marker_left g.S.Scanner.next_token _ _ _ c.scan_opt_unknown_marker.ensures.scans tokens stands other in
    (left.0, c.scan_opt_unknown_marker.ensures.space left.1)
