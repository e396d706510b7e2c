use Rattle.std.proofs.Common.{◌-◌, arith, ap, sym, ◌∙◌, ◌≡◌, get_or, length, refl}
use Rattle.std.specs.List.{slice_range}
use Rattle.std.proofs.lemmas.Str.{IsCharBoundary-after_ascii}
use Rattle.dns_lexer.proofs.Content.{between_quotes, word_first, word_symbols, quote_symbols}
use Rattle.dns_lexer.proofs.token.content.Goals as goal

pub range-requires-clause-start_boundary : goal.range-requires-clause-start_boundary
range-requires-clause-start_boundary c =
    let first : get_or c.args.token.now 0 0 ≡ 34 = ap (λ l. get_or l 0 0) (sym c.as_bytes-octets.ensures.value) ∙ c.if-octets-eq34.true in
    λ _. IsCharBoundary-after_ascii c.args.token.now 0 c.utf8.token (omega (arith, c.if-end-ge2.true, ap length c.as_bytes-octets.ensures.value)) (omega (arith, first))

pub returns-then-octets-end-eq34-clause-word : goal.returns-then-octets-end-eq34-clause-word
returns-then-octets-end-eq34-clause-word c =
    let first : get_or c.args.token.now 0 0 ≡ 34 = ap (λ l. get_or l 0 0) (sym c.as_bytes-octets.ensures.value) ∙ c.if-octets-eq34.true in
    λ w. absurd (word_first c.args.token.now w first)

pub returns-then-octets-end-eq34-clause-quote : goal.returns-then-octets-end-eq34-clause-quote
returns-then-octets-end-eq34-clause-quote c = λ q.
    let e = c.range.ensures.value ∙ ap (λ n. slice_range c.args.token.now 1 (n - 1)) (ap length c.as_bytes-octets.ensures.value) ∙ between_quotes c.args.token.now q in
    (e, quote_symbols c.args.token.now c.range.result.now q e)

pub returns-else-end-ge2-clause-word : goal.returns-else-end-ge2-clause-word
returns-else-end-ge2-clause-word c = λ w. (refl, word_symbols c.args.token.now w)
