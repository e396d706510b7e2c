use Rattle.dns_zone.proofs.Prints.{writes_on_plain, at_ok}
use Rattle.dns_zone.proofs.zonefile_fmt.display.ZoneFileDisplayDisplay.fmt.Goals as goal

pub returns-in-Simple-clause-writes : goal.returns-in-Simple-clause-writes
returns-in-Simple-clause-writes g c plain ok =
    rw c.in-Simple.is (writes_on_plain g.W.Write.write_str_gives _ _ _ plain (at_ok c.print_simple.result c.print_simple.ensures ok))

pub returns-in-Tabbed-clause-writes : goal.returns-in-Tabbed-clause-writes
returns-in-Tabbed-clause-writes g c plain ok =
    rw c.in-Tabbed.is (writes_on_plain g.W.Write.write_str_gives _ _ _ plain (at_ok c.print_tabbed.result c.print_tabbed.ensures ok))

pub returns-in-Multiline-clause-writes : goal.returns-in-Multiline-clause-writes
returns-in-Multiline-clause-writes g c plain ok =
    rw c.in-Multiline.is (writes_on_plain g.W.Write.write_str_gives _ _ _ plain (at_ok c.print_multiline.result c.print_multiline.ensures ok))
