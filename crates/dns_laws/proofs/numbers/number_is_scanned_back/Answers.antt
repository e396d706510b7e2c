use Rattle.std.proofs.Common.{ℕ, ◌∷◌, subst, Result, Ok, Err}
use Rattle.dns_symbol.specs.Cause.{Cause}
use Rattle.dns_scan.specs.Numbers.{by_cause}
use Rattle.dns_scan.specs.Unread.{HasTokens}
use Rattle.dns_scan.specs.Tokens.{Token}
use Rattle.dns_laws.specs.Numbers.{NumberBack}
use Rattle.dns_laws.proofs.numbers.number_is_scanned_back.Goals as goal

-- what a token is parsed as is what a scanner returns
number_scanned : (limit : ℕ) (token : Token) {N E : Type 0} (number : N → ℕ) (cause : E → Cause) (r : Result N E) → NumberBack limit number (λ why. why) token (by_cause cause r) → NumberBack limit number cause token r
number_scanned limit token number cause (Ok n) h = record { printed = h.printed; whole = h.whole; only = h.only; refused = h.refused }
number_scanned limit token number cause (Err e) h = record { printed = h.printed; whole = h.whole; only = h.only; refused = h.refused }

pub returns-clause-takes : goal.returns-clause-takes
returns-clause-takes g c = λ token others stands.
    let read = c.scan.ensures.reads (token ∷ others) stands in
    let back = g.met.N.Number.reads_number token others read.0 _ read.1 in (
      number_scanned g.N.Number.limit token g.N.Number.number g.S.Error.ScannerError.cause c.scan.result back.0,
      subst (HasTokens g.S.Scanner.next_token _) back.1 read.2,
    )
