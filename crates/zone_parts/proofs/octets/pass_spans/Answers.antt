use Rattle.std.proofs.Common.{◌≡◌, ◌∙◌, ◌+◌, ap, arith, false, map, refl, subst, sym, Ok}
use Rattle.std.specs.Prelude.{option_map}
use Rattle.dns_lexer.specs.CursorStates.{blank_at}
use Rattle.dns_lexer.specs.EntryTokens.{token_seen}
use Rattle.dns_lexer.specs.declared.cursor_state.CursorState.{CursorState}
use Rattle.zone_reader.specs.EntrySteps.{tokens_after_owner}
use Rattle.zone_reader.specs.Tape.{span_token}
use Rattle.zone_reader.specs.TapeSource.{UnreadSeen}
use Rattle.zone_parts.specs.Inherited.{IsInherited, LeavesMeant, PassesTokens, was_kept, was_parsed}
use Rattle.zone_parts.specs.Passing.{FindsTtl, begins_directive}
use Rattle.zone_parts.proofs.Keeps.{empty_keeps, no_spans, passes_as, some_spans, tape_tokens}
use Rattle.zone_parts.proofs.octets.pass_spans.Goals as goal

pub returns-then-is_empty : goal.returns-then-is_empty
returns-then-is_empty g c =
    let octets = c.args.octets.now in
    let blank = blank_at octets 0 in
    let state = c.args.state.now in
    let owner = option_map token_seen c.args.owner.now in
    let old = g.B.AsOctets.octets c.args.target.now in
    subst (λ l. PassesTokens g.B.OctetsBuilder.room blank c.args.end l state owner old (Ok tt) state owner old) (sym (no_spans octets c.args.spans.now c.if-is_empty.ensures)) (was_kept (empty_keeps blank c.args.end state owner) refl refl)

pub returns-then-not-is_directive : goal.returns-then-not-is_directive
returns-then-not-is_directive g c =
    let octets = c.args.octets.now in
    let spans = c.args.spans.now in
    let tokens = map (span_token octets) spans in
    let b = c.begins_blank-begins_blank.result in
    let began = ap (λ (s : CursorState). s.began) c.at_entry.ensures in
    let blank = subst (λ n. b ≡ blank_at octets n) began c.begins_blank-begins_blank.ensures.place in
    let are = ap (λ (u : UnreadSeen). u.tokens) c.new-tokens.ensures ∙ tape_tokens octets spans in
    let own = option_map token_seen c.tape_owner.result in
    let ttl = c.record_ttl.result in
    let none : c.is_directive.result ≡ false = first_of (cc, grind arith) in
    let inherited : IsInherited b tokens own ttl = record {
      some = some_spans octets spans c.if-is_empty.ensures;
      plain = subst (λ l. begins_directive b l ≡ false) are (sym c.is_directive.ensures ∙ none);
      owner_is = c.tape_owner.ensures;
      finds = subst (λ l. FindsTtl (tokens_after_owner b l) ttl) are c.record_ttl.ensures;
    } in
    was_kept (subst (λ x. LeavesMeant x c.args.end tokens c.args.state.now (option_map token_seen c.args.owner.now) c.store_inherited.new.state (option_map token_seen c.store_inherited.new.owner)) blank
    (c.store_inherited.ensures b c.args.end tokens (sym c.knows_ttl.ensures ∙ c.if-knows_ttl.true) inherited)) refl refl

pub returns : goal.returns
returns g c =
    let octets = c.args.octets.now in
    let spans = c.args.spans.now in
    let b = c.begins_blank-begins_blank.result in
    let began = ap (λ (s : CursorState). s.began) c.at_entry.ensures in
    let blank = subst (λ n. b ≡ blank_at octets n) began c.begins_blank-begins_blank.ensures.place in
    let are = ap (λ (u : UnreadSeen). u.tokens) c.new-tokens.ensures ∙ tape_tokens octets spans in
    let zero : 0 + c.args.end ≡ c.args.end = omega arith in
    let at = ap (λ (u : UnreadSeen). u.end.at) c.new-tokens.ensures ∙ zero in
    was_parsed c.parse_last_owner.new.state c.parse_last_owner.ensures.means
    (passes_as g.B.OctetsBuilder.room b (blank_at octets 0) c.new-tokens.result.end.at c.args.end c.new-tokens.result.tokens (map (span_token octets) spans) c.parse_last_owner.new.state (g.B.AsOctets.octets c.args.target.now) c.pass_entry.result c.pass_entry.new.state (g.B.AsOctets.octets c.pass_entry.new.target) blank at are c.pass_entry.ensures.passes)
    (ap (option_map token_seen) c.parse_last_owner.ensures.parsed)
