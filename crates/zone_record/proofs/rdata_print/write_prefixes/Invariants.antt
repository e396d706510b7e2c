use Rattle.std.proofs.Common.{ℕ, ◌≤◌, length}
use Rattle.rdata.specs.PrefixLists.{IsPrefixItem, prefix_form, prefixes_form}
use Rattle.rdata.specs.TokenForms.{AreParts, printed_each}
use Rattle.zone_record.proofs.PrintedTokens.{HasPrinted}
use Rattle.zone_record.proofs.rdata_print.write_prefixes.Given as goal

-- the items so far are printed, and items are left
abbrev pub invariant-loop-rest : goal.invariant-loop-rest
invariant-loop-rest g l =
    (count : ℕ) × (length l.rest ≤ count) × AreParts IsPrefixItem l.rest × HasPrinted g.F.FormatWriter.blocks g.F.FormatWriter.step_gives l.fn.p (prefixes_form.printed l.octets) (printed_each prefix_form count l.rest) l.p

abbrev pub decreases-loop-rest : goal.decreases-loop-rest
decreases-loop-rest g l = length l.rest
