use Rattle.std.proofs.Common.{◌∙◌, ◌≡◌, true, true≢false, sym, ap}
use Rattle.dns_lexer.specs.EntryTokens.{token_seen}
use Rattle.rdata_fields.proofs.Tokens.{first_taken}
use Rattle.rdata.proofs.TextLaws.{unquoted_refused, escape_refused, text_taken}
use Rattle.rdata.proofs.texts.parse_text.Goals.{else-wants_quotes-via-then-wants_quotes+else-not-token, else-wants_quotes-via-else-wants_quotes}
use Rattle.rdata.proofs.texts.parse_text.Goals as goal

pub returns-in-Err-clause-takes : goal.returns-in-Err-clause-takes
returns-in-Err-clause-takes g c =
    let t = token_seen c.in-Some.token in
    let quotes : c.args.wants_quotes ≡ true → c.in-Some.token.is_quoted ≡ true = λ wants. elim c.else-wants_quotes.branch [
      | else-wants_quotes-via-then-wants_quotes+else-not-token w ↦ w.if-not-token.false
      | else-wants_quotes-via-else-wants_quotes w ↦ absurd (true≢false (sym wants ∙ w.if-wants_quotes.false))
    ] in
    rw c.at-in-Err.ensures (escape_refused c.args.wants_quotes g.B.OctetsBuilder.room _ t _ _ _ (first_taken t (g.S.TokenSource.left c.args.source.now) c.in-Some.ensures) c.place-at.result c.in-Err.why _ quotes c.in-Err.ensures.err c.place-at.ensures c.in-Err.ensures.extends)

pub returns-then-not-token-clause-takes : goal.returns-then-not-token-clause-takes
returns-then-not-token-clause-takes g c =
    let t = token_seen c.in-Some.token in
    rw c.at-then-not-token.ensures (unquoted_refused c.args.wants_quotes g.B.OctetsBuilder.room _ t _ _ _ (first_taken t (g.S.TokenSource.left c.args.source.now) c.in-Some.ensures) c.place-at.result c.if-wants_quotes.true c.if-not-token.true c.place-at.ensures)

pub returns-clause-takes : goal.returns-clause-takes
returns-clause-takes g c =
    let t = token_seen c.in-Some.token in
    let quotes : c.args.wants_quotes ≡ true → c.in-Some.token.is_quoted ≡ true = λ wants. elim c.else-wants_quotes.branch [
      | else-wants_quotes-via-then-wants_quotes+else-not-token w ↦ w.if-not-token.false
      | else-wants_quotes-via-else-wants_quotes w ↦ absurd (true≢false (sym wants ∙ w.if-wants_quotes.false))
    ] in
    text_taken c.args.wants_quotes g.B.OctetsBuilder.room _ t _ _ _ (first_taken t (g.S.TokenSource.left c.args.source.now) c.in-Some.ensures) c.parse_nothing.result _ _ _ _ (ap (λ e. e.at) c.advance.ensures.end) c.advance.ensures.left quotes
    c.in_default-append_spelled.ensures.ok c.parse_nothing.ensures.takes
