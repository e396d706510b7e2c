use Rattle.std.proofs.Common.{◌≡◌, ◌<◌, ℕ, List, length, arith, sym, subst, IsUtf8}
use Rattle.std.proofs.lemmas.Bool.{eqb-true}
use Rattle.dns_lexer.specs.declared.reader.Mode.TheVariants.{Outside}
use Rattle.dns_lexer.specs.Run.{SameRun}
use Rattle.dns_lexer.specs.Token.{IsToken}
use Rattle.dns_lexer.proofs.Whole.{word_reaches, quote_reaches}
use Rattle.dns_lexer.proofs.token.reaches_end.Goals as goal

pub returns-then-octets-ne34 : goal.returns-then-octets-ne34
returns-then-octets-ne34 c = λ h.
    let octets : List ℕ = c.as_bytes-octets.result.now in
    let all : c.token_end.result ≡ length octets = eqb-true _ _ h in
    let some : 0 < length octets = omega (arith, c.if-end-eq0.false) in
    subst IsToken c.as_bytes-octets.ensures.value
    (word_reaches octets (subst IsUtf8 (sym c.as_bytes-octets.ensures.value) c.utf8.text) some (subst (λ n. SameRun Outside octets 0 n) all c.token_end.ensures.same))

pub returns-then-last-end : goal.returns-then-last-end
returns-then-last-end c = λ h.
    let octets : List ℕ = c.as_bytes-octets.result.now in
    let e = c.token_end-last.ensures in
    subst IsToken c.as_bytes-octets.ensures.value
    (quote_reaches octets (subst IsUtf8 (sym c.as_bytes-octets.ensures.value) c.utf8.text) c.token_end-last.result c.if-last-end.true e.on c.if-octets-ne34.false e.same (eqb-true _ _ h))
