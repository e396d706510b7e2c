use Rattle.std.proofs.Common.{◌≡◌, ◌∙◌, Some, ap, false, subst, sym, true}
use Rattle.std.specs.Prelude.{is_some}
use Rattle.dns_lexer.specs.CursorStates.{blank_at}
use Rattle.dns_lexer.specs.declared.cursor_state.CursorState.{CursorState}
use Rattle.zone_reader.specs.Directives.{directive_of}
use Rattle.zone_parts.specs.Inherited.{IsRecordLine}
use Rattle.zone_parts.proofs.Keeps.{line_blank, line_named}
use Rattle.zone_parts.proofs.record.line_record.Goals as goal

pub returns-then-begins_blank : goal.returns-then-begins_blank
returns-then-begins_blank c =
    let octets = c.args.octets.now in
    let began = ap (λ (s : CursorState). s.began) c.at_entry.ensures in
    let blank = subst (λ n. blank_at octets n ≡ true) began (sym c.begins_blank.ensures.place ∙ c.if-begins_blank.true) in
    line_blank octets c.in_ok-ttl.ttl c.in_ok-end.end c.of_octets-pieces.result c.line_ttl.new.pieces c.pass_line.new.self (c.of_octets-pieces.ensures.reads, c.of_octets-pieces.ensures.within) c.in_ok-ttl.ensures c.in_ok-end.ensures.passes blank

pub returns : goal.returns
returns c =
    let octets = c.args.octets.now in
    let began = ap (λ (s : CursorState). s.began) c.at_entry.ensures in
    let blank = subst (λ n. blank_at octets n ≡ false) began (sym c.begins_blank.ensures.place ∙ c.if-begins_blank.false) in
    let owner = c.word_token-owner.result in
    let none : is_some c.directive_word.result ≡ false = cc in
    let plain = subst (λ t. is_some (directive_of t) ≡ false) c.word_token-owner.ensures (subst (λ r. is_some r ≡ false) c.directive_word.ensures none) in
    subst (λ t. IsRecordLine octets (Some t) c.in_ok-ttl-2.ttl c.in_ok-end-2.end) (sym c.word_token-owner.ensures)
    (line_named octets c.in_ok-ttl-2.ttl c.in_ok-end-2.end c.in_ok-span.span c.of_octets-pieces.result c.next_word.new.pieces c.line_ttl-2.new.pieces c.pass_line-2.new.self
    (c.of_octets-pieces.ensures.reads, c.of_octets-pieces.ensures.within) c.in_ok-span.ensures c.in_ok-ttl-2.ensures c.in_ok-end-2.ensures.passes blank plain)
