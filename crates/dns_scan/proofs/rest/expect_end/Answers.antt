use Rattle.std.proofs.Common.{refl}
use Rattle.dns_scan.proofs.TokensLeft.{peeked, when_some, when_none}
use Rattle.dns_scan.proofs.rest.expect_end.Goals as goal

pub returns-then-continues-clause-stands : goal.returns-then-continues-clause-stands
returns-then-continues-clause-stands g c = λ tokens stands.
    let peek = c.if-continues.ensures.peeks in
    let left = peeked g.S.Scanner.next_token _ _ peek.0 tokens stands peek.1 in
    (left.1, when_some _ _ tokens peek.0 left.0 peek.2 (λ _. c.trailing_tokens.ensures))

pub returns-clause-stands : goal.returns-clause-stands
returns-clause-stands g c = λ tokens stands.
    let peek = c.if-continues.ensures.peeks in
    let left = peeked g.S.Scanner.next_token _ _ peek.0 tokens stands peek.1 in
    (left.1, when_none _ _ tokens peek.0 left.0 peek.2 refl)
