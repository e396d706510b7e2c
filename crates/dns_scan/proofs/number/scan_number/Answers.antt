use Rattle.std.proofs.Common.{rules, ◌≡◌, refl, Ok}
use Rattle.std.proofs.lemmas.Result.{err_from_is_err_and}
use Rattle.dns_scan.proofs.Numbers.{number_after_ok, number_after_err, scanned_small}
use Rattle.dns_scan.proofs.number.scan_number.Goals as goal

-- The closure keeps the limit that it reads and the name of the reference to the value that it adds to.
pub returns-clause-scans : goal.returns-clause-scans
returns-clause-scans g c =
    let ran = number_after_ok c.args.limit (λ f. f.1.now) (λ p q. (q.0.now ≡ c.args.limit) × (q.1.ghost_name ≡ p.1.ghost_name))
    c.in_ok-scan_symbols.ensures.scans (refl, refl) refl (λ f x r k i s. search rules) in search rules

pub returns-clause-small : goal.returns-clause-small
returns-clause-small g c =
    let ran = number_after_ok c.args.limit (λ f. f.1.now) (λ p q. (q.0.now ≡ c.args.limit) × (q.1.ghost_name ≡ p.1.ghost_name))
    c.in_ok-scan_symbols.ensures.scans (refl, refl) refl (λ f x r k i s. search rules) in
    let least = scanned_small g.S.Scanner.next_token g.S.Error.ScannerError.cause c.args.limit _ (Ok c.scan_symbols.new.op.1.now) _ ran.1 in search rules

pub returns-in_err-scan_symbols-clause-scans : goal.returns-in_err-scan_symbols-clause-scans
returns-in_err-scan_symbols-clause-scans g c =
    let p = err_from_is_err_and c.from_residual.result c.from_residual.ensures.1 in
    let ran = number_after_err c.args.limit (λ f. f.1.now) (λ p q. q.0.now ≡ c.args.limit) c.in_err-scan_symbols.field-0.0
    c.in_err-scan_symbols.ensures.scans refl refl (λ f x r k i s. search rules) in rw (p.1, p.2) ran
