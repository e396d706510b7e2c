use Rattle.dns_name.specs.declared.name.UncertainName.TheVariants.{Absolute, Relative}
use Rattle.dns_name.proofs.Printing.{printed_reads, zone_reads}
use Rattle.dns_scan.proofs.Whole.{of_first}
use Rattle.dns_laws.proofs.NameBack.{name_back, relative_back}
use Rattle.dns_laws.proofs.names.names_are_scanned_back.Goals as goal

pub returns-clause-takes : goal.returns-clause-takes
returns-clause-takes g c = λ token others stands.
    let first = of_first _ g.E.ScannerError.cause _ _ _ _ token others stands c.scan_name.ensures.scans in (
      record {
        whole = λ name is. name_back _ g.E.ScannerError.cause _ token name is c.scan_name.result first.0;
        dotted = λ name is ends all at. name_back _ g.E.ScannerError.cause _ token name
            (rw at (printed_reads {O = g.row.Octets.Denot} (Absolute name) (is, ends) all)) c.scan_name.result first.0;
        zone = λ name is ends all at. name_back _ g.E.ScannerError.cause _ token name
            (rw at (zone_reads {O = g.row.Octets.Denot} (Absolute name) (is, ends) all)) c.scan_name.result first.0;
        relative = λ name is some. relative_back _ g.E.ScannerError.cause _ token name is some c.scan_name.result first.0;
        relative_zone = λ name is some all at. relative_back _ g.E.ScannerError.cause _ token name
            (rw at (zone_reads {O = g.row.Octets.Denot} (Relative name) is all)) some c.scan_name.result first.0;
      },
      first.1,
    )
