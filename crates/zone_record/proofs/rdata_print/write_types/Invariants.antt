use Rattle.std.proofs.Common.{map, false}
use Rattle.rdata_values.specs.Types.{portable_text}
use Rattle.rdata.specs.TypeLists.{types_form}
use Rattle.zone_record.proofs.PrintedTokens.{HasPrinted}
use Rattle.zone_record.proofs.rdata_print.write_types.Given as goal

abbrev pub invariant-loop-rtype : goal.invariant-loop-rtype
invariant-loop-rtype g l =
    (goal.iterator-loop-rtype g).can_next l.rtype-iterator
    × (goal.iterator-loop-rtype g).is_finite l.rtype-iterator
    × HasPrinted g.F.FormatWriter.blocks g.F.FormatWriter.step_gives l.initial.p (types_form.printed l.octets) (map (λ rtype. record { is_quoted = false; text = portable_text rtype }) l.rtype-iterator) l.p
