use Rattle.std.proofs.Common.{rules, []}
use Rattle.std.proofs.Output.{LentTook}
use Rattle.std.proofs.lemmas.Result.{on_ok_weaker}
use Rattle.dns_zone.specs.Layout.{tabbed_piece}
use Rattle.dns_zone.specs.Tabbed.{TabbedFollows, tabbed_sink}
use Rattle.dns_zone.proofs.Prints.{prints_run, lent_run}
use Rattle.dns_zone.proofs.zonefile_fmt.display.print_tabbed.Goals as goal

pub returns : goal.returns
returns g c =
    let took = g.W.Write.write_str_gives in
    on_ok_weaker c.print_in-result.result (λ p.
    lent_run took _ _ _ _ _ _ c.new-writer.ensures.sink c.into_inner.ensures (λ same. search rules)
    (prints_run TabbedFollows tabbed_sink (LentTook took) tabbed_piece c.new-writer.result _ c.print_in-result.new.writer [] c.new-writer.ensures.stands p.steps)) c.print_in-result.ensures
