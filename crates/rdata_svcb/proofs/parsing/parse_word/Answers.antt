use Rattle.std.proofs.Common.{ap, length}
use Rattle.std.proofs.lemmas.Result.{err_from_is_err_and}
use Rattle.dns_lexer.specs.EntryTokens.{token_seen}
use Rattle.rdata_svcb.proofs.ParamRefusals.{begins_with_key, gains_param, head_refused, value_refused, word_refused}
use Rattle.rdata_svcb.proofs.parsing.parse_word.Goals as goal

pub returns-in_err-word-clause-err : goal.returns-in_err-word-clause-err
returns-in_err-word-clause-err g c =
    let p = err_from_is_err_and c.from_residual.result c.from_residual.ensures.1 in
    rw (p.1, p.2) (word_refused g.B.OctetsBuilder.room c.args.start (token_seen c.args.token.now) (g.B.AsOctets.octets c.args.target.now) _ c.in_err-word.ensures.err)

pub returns-in-Err-clause-err : goal.returns-in-Err-clause-err
returns-in-Err-clause-err g c =
    let word = c.in_ok-word.word in let read = c.in_ok-word.ensures.ok in
    rw c.from.ensures (head_refused g.B.OctetsBuilder.room c.args.start (token_seen c.args.token.now) (g.B.AsOctets.octets c.args.target.now) word.key.code read.0 (begins_with_key c.args.token.now.text.now read.1.0 word.key.code word.key.kind word.value (λ v. v.now) read.1.1 read.1.3) c.in-Err.ensures.lacks)

pub returns-in_err-parse_value-clause-err : goal.returns-in_err-parse_value-clause-err
returns-in_err-parse_value-clause-err g c =
    let p = err_from_is_err_and c.from_residual-in_err-parse_value.result c.from_residual-in_err-parse_value.ensures.1 in
    let word = c.in_ok-word.word in let read = c.in_ok-word.ensures.ok in
    let split = rw c.in-Some.is at read.1.3 in
    rw (p.1, p.2) (value_refused g.B.OctetsBuilder.room c.args.start (token_seen c.args.token.now) (g.B.AsOctets.octets c.args.target.now) (length c.as_slice-at.result.now) word.key.code word.key.kind read.1.0
    c.in-Some.value.now (g.B.AsOctets.octets c.append_head.new.target) _ read.0 split.0 split.1 read.1.1 read.1.2 (ap length c.as_slice-at.ensures.value) c.in_default.ensures.ok c.in_err-parse_value.ensures.err)

pub returns-clause-ok : goal.returns-clause-ok
returns-clause-ok g c =
    let word = c.in_ok-word.word in let read = c.in_ok-word.ensures.ok in let value = c.in_ok-parse_value.ensures.ok in
    let split = rw c.in-Some.is at read.1.3 in
    let octets = g.B.AsOctets.octets in (
      read.0,
      (
        read.1.0,
        c.in-Some.value.now,
        (word.key.code, value.0),
        split.0,
        split.1,
        (word.key.kind, read.1.1, value.1),
        read.1.2,
        gains_param c.args.start (length c.as_slice-at.result.now) word.key.code value.0 (octets c.args.target.now) (octets c.append_head.new.target) (octets c.parse_value.new.target)
            (ap length c.as_slice-at.ensures.value) read.1.2 c.in_default.ensures.ok value.2,
      ),
    )
