-- Which findings about the octets of an entry are reported.
use Rattle.std.specs.Prelude.{ℕ, ◌≡◌, ◌&&◌, not, if◌then◌else◌, Bool, true, false, List, [], ◌∷◌, ◌++◌, filter, map, Option, Some, None}
use Rattle.zone_check.specs.Lint.{ShowsBlock}
use Rattle.finding_codes.specs.declared.code.Code.{Code}
use Rattle.finding_codes.specs.declared.code.Code.TheVariants.{Nul, HighOctet, ControlOctet, ControlZ, NestedParentheses, LeadingParenthesis, AdjacentTokens, Crlf, NoFinalNewline}
use Rattle.zone_check.specs.declared.lint.Block.{Block}
use Rattle.zone_check.specs.declared.lint.Remark.{Remark}
use Rattle.zone_check.specs.declared.finding.About.TheVariants.{Octets}
use Rattle.zone_check.specs.declared.finding.EntryFinding.{EntryFinding}
use Rattle.zone_check.specs.declared.octet_findings.ReportedOctets.{ReportedOctets}
use Rattle.zone_check.specs.FindingSpans.{finding_at}

abbrev pub is_control_z : Code → Bool
is_control_z ControlZ = true
is_control_z _ = false

abbrev pub is_control_octet : Code → Bool
is_control_octet ControlOctet = true
is_control_octet _ = false

-- each code is reported or not
abbrev pub reports : ReportedOctets → Code → Bool
reports o Nul = o.nul
reports o ControlZ = o.control_z
reports o LeadingParenthesis = o.leading_parenthesis
reports o HighOctet = o.high_octet
reports o ControlOctet = o.control_octet
reports o NestedParentheses = o.nested_parentheses
reports o AdjacentTokens = o.adjacent_tokens
reports o Crlf = o.crlf
reports o NoFinalNewline = o.no_final_newline
reports o _ = false

abbrev pub other_remarks : List Remark → List Remark
other_remarks remarks = filter (λ r. not (is_control_octet r.code)) remarks

-- without the control octets after Ctrl-Z, which is one itself
abbrev pub until_control_z : List Remark → List Remark
until_control_z [] = []
until_control_z (r ∷ remarks) = if is_control_z r.code then r ∷ other_remarks remarks else r ∷ until_control_z remarks

abbrev pub octet_finding : Remark → EntryFinding
octet_finding r = finding_at r.code r.at 1 Octets

-- those that are reported, in their order
abbrev pub octet_findings : ReportedOctets → List Remark → List EntryFinding
octet_findings o remarks = map octet_finding (until_control_z (filter (λ r. reports o r.code) remarks))

-- the findings of an entry's octets are those of `lint` that are reported
abbrev pub AreOctetFindings : List ℕ → Block → ReportedOctets → (before after : List EntryFinding) → Type 0
AreOctetFindings octets block o before after = (remarks : List Remark) × ShowsBlock octets block [] remarks × (after ≡ before ++ octet_findings o remarks)

-- ---- one finding after another

abbrev pub is_reported : ReportedOctets → (after_control_z : Bool) → Code → Bool
is_reported o after_control_z code = reports o code && not (after_control_z && is_control_octet code)

abbrev pub finding_if : (is_reported : Bool) → Remark → Option EntryFinding
finding_if is_reported r = if is_reported then Some (octet_finding r) else None
