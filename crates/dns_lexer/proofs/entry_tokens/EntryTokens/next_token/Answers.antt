use Rattle.std.proofs.Common.{sym, ap, ◌∙◌, subst}
use Rattle.dns_lexer.specs.EntryTokens.{IsInEntries, seen_from}
use Rattle.dns_lexer.specs.CursorStates.{ahead}
use Rattle.dns_lexer.proofs.EntryParts.{fewer, in_entries, passed_part, seen_more, taken_part, takes_wide}
use Rattle.dns_lexer.proofs.entry_tokens.EntryTokens.next_token.Goals as goal

pub part_of-part-requires-clause-wide : goal.part_of-part-requires-clause-wide
part_of-part-requires-clause-wide c =
    let me = c.pieces.self-inside in
    takes_wide me.octets.now me.standing c.next_of_octets.new.standing c.pieces.invariant.stands.are_octets c.in_ok-given.given c.in_ok-given.ensures.takes

pub returns-then-is_some-clause-takes : goal.returns-then-is_some-clause-takes
returns-then-is_some-clause-takes c =
    let me = c.pieces.self-inside in
    let t = c.next_of_octets.new.standing in
    let e = seen_more me.octets.now me.standing t me.ended c.in_ok-given.given c.part_of-part.result c.pieces.invariant.stands.are_octets c.in_ok-given.ensures.takes
    c.in_ok-given.ensures.began (rw (← c.begins_blank-begins_blank.ensures.place) c.part_of-part.ensures) in
    taken_part c.part_of-part.result c.args.self.now _ (sym c.is_some.ensures ∙ c.if-is_some.true)
    (rw c.ended_after-self-inside.ensures (sym c.self.view_is ∙ sym c.pieces.invariant.seen ∙ e))

pub pieces-smaller : goal.pieces-smaller
pieces-smaller c =
    let me = c.pieces.self-inside in
    fewer me.octets.now me.standing c.next_of_octets.new.standing c.in_ok-given.given c.pieces.invariant.stands.are_octets c.in_ok-given.ensures.takes

pub pieces-preserved : goal.pieces-preserved
pieces-preserved c =
    let me = c.pieces.self-inside in
    let t = c.next_of_octets.new.standing in
    let e = seen_more me.octets.now me.standing t me.ended c.in_ok-given.given c.part_of-part.result c.pieces.invariant.stands.are_octets c.in_ok-given.ensures.takes
    c.in_ok-given.ensures.began (rw (← c.begins_blank-begins_blank.ensures.place) c.part_of-part.ensures) in
    record {
      same = c.pieces.invariant.same;
      stands = record { are_octets = c.pieces.invariant.stands.are_octets; deep = c.next_of_octets.ensures.deep; within = c.next_of_octets.ensures.within };
      seen = ap (λ o. seen_from me.octets.now t.began o (ahead me.octets.now t)) c.ended_after-self-inside.ensures
          ∙ sym (passed_part c.part_of-part.result _ _ (sym c.is_some.ensures ∙ c.if-is_some.false) e) ∙ c.pieces.invariant.seen;
    }

pub returns-then-is_some-clause-entries : goal.returns-then-is_some-clause-entries
returns-then-is_some-clause-entries c =
    subst IsInEntries c.self.view_is (in_entries c.self.inside.octets.now c.self.inside.standing c.self.inside.ended c.self.invariant)
