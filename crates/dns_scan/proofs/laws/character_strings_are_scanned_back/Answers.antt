use Rattle.std.proofs.Common.{Ok, Err, Result, List, ℕ, ◌≡◌, ◌≤◌, map, length, arith, None, Option, min, ⊎_elim}
use Rattle.std.specs.Prelude.{IfOk}
use Rattle.dns_octets.specs.Room.{Room}
use Rattle.dns_symbol.specs.declared.symbol.Symbol.{Symbol}
use Rattle.dns_symbol.specs.declared.error.SymbolCharsError.{SymbolCharsError}
use Rattle.dns_symbol.specs.Symbol.{octet_of}
use Rattle.dns_symbol.specs.Printed.{is_unquoted_escape, is_quoted_escape}
use Rattle.dns_symbol.proofs.PrintedForms.{unquoted_form, quoted_form}
use Rattle.dns_scan.specs.Steps.{step_octet}
use Rattle.dns_scan.proofs.Answered.{builds_answer}
use Rattle.dns_scan.proofs.Whole.{of_first, scans_whole, scans_printed, scans_only, scans_rest, same_count}
use Rattle.dns_scan.proofs.laws.character_strings_are_scanned_back.Goals as goal

-- at most 255 octets, so at most 255 symbols
few : {E : Type 0} (r : Result (List ℕ) E) (room : Room) (symbols : List Symbol) (error : Option SymbolCharsError)
    → IfOk r (λ s. (error ≡ None) × (map octet_of symbols ≡ map Ok s) × (length s ≤ min room.capacity 255))
    → IfOk r (λ s. (error ≡ None) × (map octet_of symbols ≡ map Ok s) × (length symbols ≤ 255))
few (Ok s) room symbols error h = (h.0, h.1, omega (arith, h.2, same_count symbols s h.1))
few (Err e) room symbols error h = tt

pub returns-clause-takes : goal.returns-clause-takes
returns-clause-takes g c = λ token others stands. (
  record {
    whole = λ octets has. scans_whole g.S.Scanner.next_token g.S.Error.ScannerError.cause _
        (λ s. s) _ _ _ c.scan_charstr.ensures.scans token others octets stands has;
    printed = λ octets bytes is. ⊎_elim
        (λ at. scans_printed g.S.Scanner.next_token g.S.Error.ScannerError.cause _
        (λ s. s) _ _ _ c.scan_charstr.ensures.scans is_unquoted_escape unquoted_form octets others bytes (rw (← at) stands))
        (λ at. scans_printed g.S.Scanner.next_token g.S.Error.ScannerError.cause _
        (λ s. s) _ _ _ c.scan_charstr.ensures.scans is_quoted_escape quoted_form octets others bytes (rw (← at) stands))
        is;
    answer = λ symbols error read. builds_answer g.S.Error.ScannerError.cause step_octet _ (λ s. s) token c.scan_charstr.result
        (of_first g.S.Scanner.next_token g.S.Error.ScannerError.cause _ _ _ _ token others stands c.scan_charstr.ensures.scans).0 symbols error read;
    only = λ symbols error read. few c.scan_charstr.result g.S.OctetsBuilder.OctetsBuilder.room symbols error
        (scans_only g.S.Scanner.next_token g.S.Error.ScannerError.cause _ (λ s. s) _ _ _ c.scan_charstr.ensures.scans token others symbols error stands read);
  },
  scans_rest g.S.Scanner.next_token g.S.Error.ScannerError.cause _ (λ s. s) _ _ _ c.scan_charstr.ensures.scans token others stands,
)
