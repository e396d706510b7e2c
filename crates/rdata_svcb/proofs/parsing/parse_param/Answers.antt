use Rattle.std.proofs.Common.{◌∷◌, ◌∙◌, ap, drop, length, refl, sym}
use Rattle.std.specs.Prelude.{is_some}
use Rattle.std.proofs.lemmas.Result.{err_from_is_err_and}
use Rattle.dns_lexer.specs.EntryTokens.{token_seen}
use Rattle.rdata_fields.proofs.Tokens.{none_left, first_taken}
use Rattle.rdata_svcb.proofs.ParamRefusals.{first_refused, quoted_refused, quoted_taken, word_taken}
use Rattle.rdata_svcb.proofs.parsing.parse_param.Goals as goal

pub returns-in_default-clause-ok : goal.returns-in_default-clause-ok
returns-in_default-clause-ok g c =
    absurd (c.requires.some (none_left c.current.result (g.S.TokenSource.left c.args.source.now) c.current.ensures (ap is_some c.in_default.is)))

pub returns-in_err-open-clause-err : goal.returns-in_err-open-clause-err
returns-in_err-open-clause-err g c =
    let p = err_from_is_err_and c.from_residual.result c.from_residual.ensures.1 in
    let t = token_seen c.in-Some.token in let tokens = g.S.TokenSource.left c.args.source.now in
    rw (p.1, p.2) (first_refused c.args.start t tokens (drop 1 tokens) (g.B.AsOctets.octets c.args.target.now) (first_taken t tokens c.in-Some.ensures) g.B.OctetsBuilder.room tokens _ refl c.in_err-open.ensures.err)

pub returns-in_err-parse_quoted-clause-err : goal.returns-in_err-parse_quoted-clause-err
returns-in_err-parse_quoted-clause-err g c =
    let p = err_from_is_err_and c.from_residual-in_err-parse_quoted.result c.from_residual-in_err-parse_quoted.ensures.1 in
    let t = token_seen c.in-Some.token in let left = g.S.TokenSource.left in let octets = g.B.AsOctets.octets in
    let tokens = left c.args.source.now in let rest = left c.advance.new.self in
    let first = first_taken t tokens c.in-Some.ensures ∙ ap (λ ts. t ∷ ts) (sym c.advance.ensures.left) in
    rw (p.1, p.2) (quoted_refused c.args.start t tokens rest (octets c.args.target.now) first g.B.OctetsBuilder.room (length c.as_slice-at.result.now) c.in-Some-open.kind (left c.parse_quoted.new.source)
    (octets c.parse_word.new.target) _ (ap length c.as_slice-at.ensures.value) c.in_err-parse_quoted.ensures.left (rw c.in-Some-open.is at c.in_ok-open.ensures.ok) c.in_err-parse_quoted.ensures.err)

pub returns-in_ok-parse_quoted-clause-ok : goal.returns-in_ok-parse_quoted-clause-ok
returns-in_ok-parse_quoted-clause-ok g c =
    let t = token_seen c.in-Some.token in let left = g.S.TokenSource.left in let octets = g.B.AsOctets.octets in
    let tokens = left c.args.source.now in let rest = left c.advance.new.self in
    let first = first_taken t tokens c.in-Some.ensures ∙ ap (λ ts. t ∷ ts) (sym c.advance.ensures.left) in
    quoted_taken c.args.start t tokens rest (octets c.args.target.now) first (length c.as_slice-at.result.now) c.in-Some-open.kind (left c.parse_quoted.new.source) (octets c.parse_word.new.target)
    (octets c.parse_quoted.new.target) (ap length c.as_slice-at.ensures.value) (rw c.in-Some-open.is at c.in_ok-open.ensures.ok) c.in_ok-parse_quoted.ensures.ok

pub returns-in_default-open-clause-ok : goal.returns-in_default-open-clause-ok
returns-in_default-open-clause-ok g c =
    let t = token_seen c.in-Some.token in let left = g.S.TokenSource.left in let octets = g.B.AsOctets.octets in
    let tokens = left c.args.source.now in let rest = left c.advance.new.self in
    let first = first_taken t tokens c.in-Some.ensures ∙ ap (λ ts. t ∷ ts) (sym c.advance.ensures.left) in
    word_taken c.args.start t tokens rest (octets c.args.target.now) first (octets c.parse_word.new.target) (rw c.in_default-open.is at c.in_ok-open.ensures.ok)
