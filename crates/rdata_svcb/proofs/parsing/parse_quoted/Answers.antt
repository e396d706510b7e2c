use Rattle.std.proofs.Common.{◌≡◌, [], ◌∷◌, ◌∙◌, ap, drop, inr, refl, sym, true≢false}
use Rattle.std.specs.Prelude.{is_some}
use Rattle.std.proofs.lemmas.Result.{err_from_is_err_and}
use Rattle.dns_lexer.specs.EntryTokens.{token_seen, TokenSeen}
use Rattle.rdata_fields.proofs.Tokens.{first_taken, none_left}
use Rattle.rdata_svcb.specs.ParamTokens.{BeginsUnglued}
use Rattle.rdata_svcb.proofs.Fronts.{heads}
use Rattle.rdata_svcb.proofs.ListFaults.{if_err}
use Rattle.rdata_svcb.proofs.ParamRefusals.{behind_refused, unglued_refused}
use Rattle.rdata_svcb.proofs.parsing.parse_quoted.Goals.{in_default-via-in-Some+then-token+else-token-2, in_default-via-in-Some+else-token, in_default-via-in_default}
use Rattle.rdata_svcb.proofs.parsing.parse_quoted.Goals as goal

pub returns-in_err-parse_value-in-Some-clause-err : goal.returns-in_err-parse_value-in-Some-clause-err
returns-in_err-parse_value-in-Some-clause-err g c =
    let p = err_from_is_err_and c.from_residual.result c.from_residual.ensures.1 in
    let t = token_seen c.in-Some.token in let tokens = g.S.TokenSource.left c.args.source.now in
    rw (p.1, p.2) (behind_refused g.B.OctetsBuilder.room c.args.start c.args.at c.args.kind tokens (drop 1 tokens) t.text (g.B.AsOctets.octets c.args.target.now) _
    (inr (t, (c.if-token-2.true, c.if-token.true), first_taken t tokens c.in-Some.ensures, refl)) c.in_err-parse_value-in-Some.ensures.err)

pub returns-in_default-clause-err : goal.returns-in_default-clause-err
returns-in_default-clause-err g c =
    let tokens = g.S.TokenSource.left c.args.source.now in
    let apart : BeginsUnglued tokens = λ q more e glued. elim c.in_default.branch [
      | in_default-via-in-Some+then-token+else-token-2 w ↦
          (let t = token_seen w.in-Some.token in
          let same = (heads q t more (drop 1 tokens) (sym e ∙ first_taken t tokens w.in-Some.ensures)).0 in true≢false (sym glued.0 ∙ ap (λ (x : TokenSeen). x.is_quoted) same ∙ w.if-token-2.false))
      | in_default-via-in-Some+else-token w ↦
          (let t = token_seen w.in-Some.token in
          let same = (heads q t more (drop 1 tokens) (sym e ∙ first_taken t tokens w.in-Some.ensures)).0 in true≢false (sym glued.1 ∙ ap (λ (x : TokenSeen). x.is_adjacent) same ∙ w.if-token.false))
      | in_default-via-in_default w ↦ (let j : q ∷ more ≡ [] = sym e ∙ none_left c.current.result tokens c.current.ensures (ap is_some w.in_default.is) in absurd cc)
    ] in
    if_err c.parse_value-in_default.result _ _ (λ e h. unglued_refused g.B.OctetsBuilder.room c.args.start c.args.at c.args.kind tokens (g.B.AsOctets.octets c.args.target.now) e apart h) c.parse_value-in_default.ensures.err
