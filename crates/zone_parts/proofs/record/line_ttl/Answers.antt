use Rattle.std.proofs.Common.{subst, Some, None}
use Rattle.zone_reader.specs.HeaderWords.{FindsWord, TokenIsClass, TokenIsTtl}
use Rattle.zone_parts.proofs.Keeps.{takes_first, takes_neither, takes_second}
use Rattle.zone_parts.proofs.record.line_ttl.Goals as goal

pub returns-in-Some : goal.returns-in-Some
returns-in-Some c =
    takes_first c.args.octets.now c.args.ended c.in_ok-first.first c.args.pieces.now c.next_word.new.pieces c.in_ok-first.ensures c.in-Some.ttl
    (subst (λ t. FindsWord TokenIsTtl t (Some c.in-Some.ttl)) c.word_token-token.ensures c.in-Some.ensures)

pub returns-then-is_none : goal.returns-then-is_none
returns-then-is_none c =
    takes_neither c.args.octets.now c.args.ended c.in_ok-first.first c.args.pieces.now c.next_word.new.pieces c.in_ok-first.ensures c.class_word.result
    (subst (λ t. FindsWord TokenIsTtl t None) c.word_token-token.ensures c.in_default.ensures)
    (subst (λ t. FindsWord TokenIsClass t c.class_word.result) c.word_token-token.ensures c.class_word.ensures) c.if-is_none.ensures

pub returns : goal.returns
returns c =
    takes_second c.args.octets.now c.args.ended c.in_ok-first.first c.args.pieces.now c.next_word.new.pieces c.in_ok-first.ensures c.in_ok-second.second c.next_word-2.new.pieces c.class_word.result c.ttl_word-2.result
    c.in_ok-second.ensures
    (subst (λ t. FindsWord TokenIsTtl t None) c.word_token-token.ensures c.in_default.ensures)
    (subst (λ t. FindsWord TokenIsClass t c.class_word.result) c.word_token-token.ensures c.class_word.ensures) c.if-is_none.ensures
    (subst (λ t. FindsWord TokenIsTtl t c.ttl_word-2.result) c.word_token-token-2.ensures c.ttl_word-2.ensures)
