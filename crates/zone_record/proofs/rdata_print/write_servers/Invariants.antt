use Rattle.std.proofs.Common.{ℕ, None, ◌≤◌, length}
use Rattle.rdata_tokens.specs.NameSpelling.{IsWireName}
use Rattle.rdata.specs.HostIdentities.{server_form}
use Rattle.rdata.specs.TokenForms.{AreParts, each_form, printed_each}
use Rattle.zone_record.proofs.PrintedTokens.{HasPrinted}
use Rattle.zone_record.proofs.rdata_print.write_servers.Given as goal

-- the names so far are printed, and names are left
abbrev pub invariant-loop-rest : goal.invariant-loop-rest
invariant-loop-rest g l =
    (count : ℕ) × (length l.rest ≤ count) × AreParts IsWireName l.rest × HasPrinted g.F.FormatWriter.blocks g.F.FormatWriter.step_gives l.fn.p ((each_form (server_form None)).printed l.octets) (printed_each (server_form None) count l.rest) l.p

abbrev pub decreases-loop-rest : goal.decreases-loop-rest
decreases-loop-rest g l = length l.rest
